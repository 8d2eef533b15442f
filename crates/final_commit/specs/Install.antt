-- What `install` asks and leaves, and the laws of its turns. Assumes nothing.
use Rattle.std.specs.Prelude.{◌≡◌, true, List, [], map, ℕ, suc, ◌+◌, ◌*◌, ◌-◌, ◌^◌, ◌≤◌, ◌<◌, ℤ, length, get_or, take}
use Rattle.std.proofs.Common.{sym, ap, ap₂, ◌∙◌, subst, arith, mul-le-mul_right, add-one, take_all, to_z, of_z, to_z-of_z}
use Rattle.std.proofs.Math.Option.{none, some}
use Rattle.std.proofs.lemmas.List.{length-map}
use Rattle.std.specs.Int.Signed.{mag}
use Rattle.std.specs.Int.{w64}
use borrow.Author.Tests.{ltb-true}
use borrow.Rule.Slice.PartMut.{mid_of, put_mid}
use Rattle.cells.specs.Cells.{cells, uncells}
use Rattle.cells.specs.Uncells.{length-uncells}
use Rattle.arith.specs.Integer.{fits}
use Rattle.execution.specs.Entries.{Entry, lookup}
use Rattle.execution.proofs.ReadAgreement.{both}
use Rattle.execution.specs.RunShape.{Entries, sound}
use Rattle.model.specs.declared.Limits.{Limits}
use Rattle.model.specs.ListLaws.{All}
use Rattle.model.proofs.ListLaws.{all_in}
use Rattle.model.specs.Serial.{Version}
use Rattle.model.specs.Replica as model
use Rattle.model.specs.Replica.{Replica, opens, prune, pushed}
use Rattle.model.proofs.VersionLaws.{length-install}
use Rattle.model.specs.Shape.{VersionsShape}
use Rattle.layout.specs.Layout.{of_reader}
use Rattle.layout.specs.Lawful.{Word}
use Rattle.layout.specs.Offsets.{Sane, object_width, versions_width, object_at}
use Rattle.layout.specs.Printable.{ValueFits, ObjectFits}
use Rattle.layout.specs.Holds.{Holds, with_objects}
use Rattle.layout.proofs.HoldsLaws.{holds-long}
use Rattle.layout.proofs.Reading.{object-part}
use Rattle.layout.proofs.Writing.{write-object}
use Rattle.layout.proofs.ObjectBlock.{readers-stamps}
use Rattle.versions.specs.Block.{stamps, block_versions, block, block_ok, Lent}
use Rattle.versions.proofs.Round.{length-block}
use Rattle.final_commit.specs.InstalledVersions.{nth_entry, install-none, install-one, install-before, entries_none, entries-end, entry_new, entry-sound}
use Rattle.final_commit.specs.CommittedBlock.{pushed-fits, lent-versions, lent_ok}

-- The record area b holds a replica whose versions are in shape, rs are its readers' cells, t is its next timestamp, and ws names different
-- objects of it.
pub record Ready (l : Limits) (b rs : List ℕ) (t : ℕ) (ws : List Entry) : Type 0 where
  pub replica : Replica
  pub holds : Holds l b replica
  pub versions : All (VersionsShape replica.timestamp (opens replica.readers)) replica.objects
  pub readers : rs ≡ uncells (map of_reader replica.readers)
  pub next : t ≡ suc replica.timestamp
  pub writes : Entries (length replica.objects) ws

-- the replica after these writes
abbrev pub installed : ℕ → List Entry → Replica → Replica
installed t ws u = with_objects (model.install t (opens u.readers) ws u.objects) u

-- the record area, b before, is d after these writes
pub record Installs (l : Limits) (t : ℕ) (ws : List Entry) (rs b d : List ℕ) : Type 0 where
  pub holds : (p : Ready l b rs t ws) → Holds l d (installed t ws p.replica)

-- The loop over the entries: in front of entry i the area holds the replica after the writes passed.
pub record Installing (l : Limits) (b rs : List ℕ) (t : ℕ) (ws : List Entry) (c : List ℕ) (i : ℕ) : Type 0 where
  pub holds : (p : Ready l b rs t ws) → Holds l c (installed t (take i ws) p.replica)

pub install-start : (l : Limits) (b rs : List ℕ) (t : ℕ) (ws : List Entry) → Installing l b rs t ws b 0
install-start l b rs t ws =
    record {
      holds = λ p. let u = p.replica in
          subst (λ (x : List (List Version)). Holds l b (with_objects x u))
          (sym (ap (λ (w : List Entry). model.install t (opens u.readers) w u.objects) (entries_none ws) ∙ install-none t (opens u.readers) u.timestamp u.objects p.versions))
          p.holds;
    }

-- a turn, that of entry i
pub record Turn (l : Limits) (b rs : List ℕ) (t : ℕ) (ws : List Entry) (c : List ℕ) (i : ℕ) : Type 0 where
  pub sane : Sane l
  pub word : Word t
  pub low : i < length ws
  pub before : Installing l b rs t ws c i

module _ {l : Limits} {b rs : List ℕ} {t : ℕ} {ws : List Entry} {c : List ℕ} {i : ℕ} (k : Turn l b rs t ws c i) (p : Ready l b rs t ws) where
  abbrev u : Replica
  u = p.replica

  abbrev now : Replica
  now = installed t (take i ws) u

  h : Holds l c now
  h = k.before.holds p

  abbrev o : ℕ
  o = (nth_entry ws i).object

  abbrev v : ℤ
  v = (nth_entry ws i).value

  abbrev old : List Version
  old = get_or u.objects o []

  is-sound : (o < length u.objects) × ValueFits v
  unfolding fits
  is-sound =
      let e = both _ (fits v) (entry-sound ws i k.low (sound (length u.objects)) p.writes.values) in
      (ltb-true o (length u.objects) e.0, record { sfits = ltb-true (mag v) (2 ^ 63) e.1 })

  pub object-there : o < l.objects
  object-there = omega (arith, is-sound.0, p.holds.fits.objects.0)

  there : o < length (model.install t (opens u.readers) (take i ws) u.objects)
  there = omega (arith, is-sound.0, length-install t (opens u.readers) (take i ws) u.objects)

  shape : VersionsShape u.timestamp (opens u.readers) old
  shape = all_in (VersionsShape u.timestamp (opens u.readers)) u.objects o [] p.versions is-sound.0

  old-fits : ObjectFits l.readers old
  old-fits = all_in (ObjectFits l.readers) u.objects o [] p.holds.fits.objects.1 is-sound.0

  new : lookup (take i ws) o ≡ none
  new = entry_new ws i k.low p.writes.names

  -- the part lent, in the code's numbers: r is the block's first cell, w its width
  module _ {r w : ℕ} (er : r ≡ object_at l o) (ew : w ≡ versions_width l) where
    abbrev a : ℕ
    a = r * 8

    abbrev m : ℕ
    m = r * 8 + w * 8 - r * 8

    ea : a ≡ object_at l o * 8
    ea = ap (λ (x : ℕ). x * 8) er

    em : m ≡ versions_width l * 8
    em = omega (arith, ew)

    pub block_inside : r * 8 + w * 8 ≤ length c
    block_inside = omega (arith, mul-le-mul_right (object_width l) object-there, holds-long l k.sane c now h)

    lent : mid_of a m c ≡ uncells (block l.readers old)
    lent =
        ap₂ (λ (a m : ℕ). mid_of a m c) ea em
        ∙ object-part l k.sane c now h o there
        ∙ ap (λ (x : List Version). uncells (block l.readers x)) (install-before t (opens u.readers) (take i ws) o u.objects new u.timestamp is-sound.0 shape)

    opened : stamps (cells rs) ≡ opens u.readers
    opened = readers-stamps l b u p.holds rs p.readers

    small : l.readers < 2 ^ 63
    small = omega (arith, k.sane.readers)

    earlier : t - 1 ≡ u.timestamp
    earlier = omega (arith, p.next)

    -- what `push_version` asks
    pub push_lent : Lent l.readers rs (mid_of a m c)
    push_lent = record {
      reader_cells = ap length p.readers ∙ length-uncells (map of_reader u.readers) ∙ omega (arith, length-map u.readers of_reader, p.holds.fits.readers.0);
      block_cells = ap length lent ∙ length-uncells (block l.readers old) ∙ omega (arith, length-block l.readers old old-fits.0);
    }

    pub push_ok : block_ok l.readers (t - 1) (cells rs) (cells (mid_of a m c)) ≡ true
    push_ok = lent_ok l.readers old (mid_of a m c) old-fits small lent (t - 1) (cells rs) (rw (earlier, opened) shape)

    -- the block came back as ys; the code's value went through its bits
    written : (ys : List ℕ) → ys ≡ uncells (block l.readers (prune (stamps (cells rs)) (pushed t (block_versions (cells (mid_of a m c))) (some (to_z w64 (of_z w64 v))))))
        → ys ≡ uncells (block l.readers (prune (opens u.readers) (pushed t old (some v))))
    written ys ey =
        ey ∙ ap (λ (z : ℤ). uncells (block l.readers (prune (stamps (cells rs)) (pushed t (block_versions (cells (mid_of a m c))) (some z))))) (to_z-of_z is-sound.1)
        ∙ ap₂ (λ (q : List ℕ) (z : List Version). uncells (block l.readers (prune q (pushed t z (some v))))) opened (lent-versions l.readers old (mid_of a m c) old-fits small lent)

    pub install-step : (ys : List ℕ) → ys ≡ uncells (block l.readers (prune (stamps (cells rs)) (pushed t (block_versions (cells (mid_of a m c))) (some (to_z w64 (of_z w64 v))))))
        → Holds l (put_mid a m c ys) (installed t (take (i + 1) ws) u)
    install-step ys ey =
        let x : List Version = prune (opens u.readers) (pushed t old (some v)) in
        let fit = pushed-fits l.readers u.timestamp t u.readers old v p.holds.fits.readers.0 p.next k.word is-sound.1 shape old-fits in
        subst (λ (z : List (List Version)). Holds l (put_mid a m c ys) (with_objects z u))
        (install-one t (opens u.readers) (take i ws) o u.objects new v
        ∙ ap (λ (e : List Entry). model.install t (opens u.readers) e u.objects) (sym (ap (λ (j : ℕ). take j ws) (add-one i) ∙ entries-end ws i k.low)))
        (write-object l k.sane c now h o there x fit (put_mid a m c ys) (ap (put_mid a m c) (written ys ey) ∙ ap₂ (λ (a m : ℕ). put_mid a m c (uncells (block l.readers x))) ea em))

-- past the last entry
pub install-end : (l : Limits) (b rs : List ℕ) (t : ℕ) (ws : List Entry) (c : List ℕ) (i : ℕ) → length ws ≤ i → Installing l b rs t ws c i → Installs l t ws rs b c
install-end l b rs t ws c i h k =
    record { holds = λ p. subst (λ (w : List Entry). Holds l c (installed t w p.replica)) (take_all i ws h) (k.holds p) }
