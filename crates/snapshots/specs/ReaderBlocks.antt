-- The objects' blocks of a record area, lent to be pruned. Assumes nothing.
use Rattle.std.specs.Prelude.{◌≡◌, refl, List, [], ◌∷◌, ◌++◌, map, ℕ, suc, ◌*◌, ◌^◌, ◌<◌, ◌-◌, length, take, drop, get_or}
use Rattle.std.proofs.Common.{sym, ap, ap₂, ◌∙◌, append-nil, arith, drop_of_length-le, take_all}
use Rattle.std.proofs.lemmas.List.{length-map}
use borrow.Rule.Slice.PartMut.{mid_of, put_mid}
use Rattle.cells.specs.Cells.{cells, uncells}
use Rattle.cells.specs.Uncells.{length-uncells, uncells-append}
use Rattle.execution.specs.Bounds.{Bounds, no_bounds}
use Rattle.model.specs.declared.Limits.{Limits}
use Rattle.model.specs.Serial.{Version}
use Rattle.model.specs.Replica.{Replica, opens, held, prune}
use Rattle.model.specs.Shape.{VersionsShape}
use Rattle.model.specs.ListLaws.{All}
use Rattle.model.proofs.ListLaws.{all_keep, all-implies, all-mapped, length-keep}
use Rattle.layout.specs.Rows.{flat}
use Rattle.layout.specs.Codec.{bytewise}
use Rattle.layout.specs.Layout.{of_reader, Stored, object, stored_from, stored_of}
use Rattle.layout.specs.Offsets.{Sane, reader_at, object_width, object_at, size_at}
use Rattle.layout.specs.Printable.{VersionFits, ObjectFits, StoredFits}
use Rattle.layout.proofs.PrintableLaws.{length-stored, stored-fit, fits-small}
use Rattle.layout.proofs.RoundTrips.{versions-back}
use Rattle.layout.specs.Holds.{Holds}
use Rattle.layout.proofs.Reading.{objects-part, readers-part}
use Rattle.layout.proofs.Writing.{write-objects}
use Rattle.layout.proofs.ObjectBlock.{readers-stamps}
use Rattle.versions.specs.Block.{stamps}
use Rattle.versions_close.specs.Closing as closing
use Rattle.versions_close.specs.Closing.{AllChecked}
use Rattle.versions_close.specs.Laid.{laid, pruned_object, Fitting, laid-checked, laid-pruned}
use Rattle.snapshots.specs.ClosePruning.{pruned}

-- ---- objects one after another

-- as the crate `versions_close` lays them
objects_laid : (l : Limits) (os : List Stored) → flat (map (bytewise (object l)).enc os) ≡ uncells (laid l.readers os)
unfolding flat laid
objects_laid l [] = refl
objects_laid l (x ∷ os) =
    ap (uncells ((object l).enc x) ++◌) (objects_laid l os) ∙ sym (uncells-append ((object l).enc x) (laid l.readers os))

-- pruning leaves the bounds
pruned-stored : (rc : List ℕ) (objs : List (List Version)) (bs : List Bounds) → map (pruned_object rc) (stored_from objs bs) ≡ stored_from (map (prune (stamps rc)) objs) bs
pruned-stored rc [] bs = refl
pruned-stored rc (vs ∷ objs) bs = ap ((prune (stamps rc) vs, get_or bs 0 no_bounds) ∷◌) (pruned-stored rc objs (drop 1 bs))

prune-fits : (n : ℕ) (rs : List ℕ) (vs : List Version) → ObjectFits n vs → ObjectFits n (prune rs vs)
unfolding prune
prune-fits n rs vs g = (omega (arith, length-keep (held rs vs) vs, g.0), all_keep VersionFits (held rs vs) vs g.1)

-- ---- in the area

module _ (l : Limits) (s : Sane l) (b : List ℕ) (u : Replica) (h : Holds l b u) where
  -- the readers' cells, from cell f up to cell t, copied over all of old
  pub copied-readers : (f t : ℕ) → f ≡ reader_at 0 → t ≡ size_at l → (old rs : List ℕ) → length old ≡ l.readers * 8
      → (let src = mid_of (f * 8) (t * 8 - f * 8) b in rs ≡ take (length src) src ++ drop (length src) old) → stamps (cells rs) ≡ opens u.readers
  copied-readers f t ef et old rs n e =
      let src = mid_of (f * 8) (t * 8 - f * 8) b in
      let w : t * 8 - f * 8 ≡ l.readers * 8 = omega arith in
      let part : src ≡ uncells (map of_reader u.readers) = ap₂ (λ (x k : ℕ). mid_of (x * 8) k b) ef w ∙ readers-part l s b u h in
      let len : length src ≡ l.readers * 8 = ap length part ∙ length-uncells (map of_reader u.readers) ∙ ap (λ (k : ℕ). k * 8) (length-map u.readers of_reader ∙ h.fits.readers.0) in
      let same : rs ≡ src = e ∙ ap₂ (λ (x y : List ℕ). x ++ y) (take_all (length src) src (omega arith)) (drop_of_length-le old {i = length src} (omega arith)) ∙ append-nil src in
      readers-stamps l b u h rs (same ∙ part)

  -- the cells of all objects, lent, and given back pruned
  fitting : All (Fitting l.readers) (stored_of u)
  fitting =
      all-implies (StoredFits l.readers) (Fitting l.readers) (λ x g. record { small = fits-small x.0 g.0.1; count = g.0.0; lower = g.1.0; upper = g.1.1 }) (stored_of u) (stored-fit l u h.fits).1

  few_readers : l.readers < 2 ^ 32
  few_readers = omega (arith, s.readers)

  module _ (n a k : ℕ) (en : n ≡ length u.objects) (ea : a ≡ object_at l 0) (ek : k ≡ n * (object_width l * 8)) where
    lent-objects : mid_of (a * 8) k b ≡ uncells (laid l.readers (stored_of u))
    lent-objects = rw (ek, ea, en) (objects-part l s b u h ∙ objects_laid l (stored_of u))

    count : n ≡ length (stored_of u)
    count = en ∙ sym (length-stored u.objects u.bounds)

    pub lent-checked : (t c r : ℕ) (rc : List ℕ) → c ≡ suc r → t < 2 ^ 63 → stamps rc ≡ opens u.readers → All (VersionsShape t (r ∷ opens u.readers)) u.objects
        → AllChecked l.readers c rc n (cells (mid_of (a * 8) k b))
    lent-checked t c r rc ec small e f =
        rw (lent-objects, count) (laid-checked l.readers few_readers t c r rc ec small (stored_of u) fitting (rw (e, versions-back u.objects u.bounds) f))

    pub pruned-back : (rc bs ys : List ℕ) → stamps rc ≡ opens u.readers → bs ≡ closing.pruned l.readers rc n (mid_of (a * 8) k b) → ys ≡ put_mid (a * 8) k b bs → Holds l ys (pruned u)
    pruned-back rc bs ys er eb ey =
        let less = prune (opens u.readers) in
        let xs = map less u.objects in
        let m : length xs ≡ length u.objects = length-map u.objects less in
        let e : bs ≡ flat (map (bytewise (object l)).enc (stored_from xs u.bounds)) =
        eb
        ∙ ap₂ (closing.pruned l.readers rc) count lent-objects
        ∙ laid-pruned l.readers few_readers rc (stored_of u) fitting
        ∙ ap (λ (os : List Stored). uncells (laid l.readers os)) (pruned-stored rc u.objects u.bounds ∙ ap (λ (r : List ℕ). stored_from (map (prune r) u.objects) u.bounds) er)
        ∙ sym (objects_laid l (stored_from xs u.bounds)) in
        let fit = all-implies (ObjectFits l.readers) (λ vs. ObjectFits l.readers (less vs)) (prune-fits l.readers (opens u.readers)) u.objects h.fits.objects.1 in
        write-objects l s b u h xs m (all-mapped (ObjectFits l.readers) less u.objects fit) ys (ey ∙ rw (e, ek, ea, en, m))
