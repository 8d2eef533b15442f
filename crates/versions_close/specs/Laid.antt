-- Objects laid in cells, given by their versions and bounds: that they passed the check, and what pruning leaves of them. Assumes nothing.
-- n is the number of readers, rc the cells of all readers without the one that closes.
use Rattle.std.specs.Prelude.{◌≡◌, ℕ, zero, suc, ◌+◌, ◌*◌, ◌^◌, ◌≤◌, ◌<◌, take, drop}
use Rattle.std.proofs.Math.Path.{refl, ap, ap₂}
use Rattle.std.proofs.Common.{sym, ◌∙◌, take_at, drop_at, SFits, of_z}
use mathlib.Core.List.{List, [], ◌∷◌, ◌++◌, map, append_assoc}
use native.Mathlib.Omega.{arith}
use Rattle.std.proofs.Math.ListN.{length, length-append}
use Rattle.std.specs.Int.{w64}
use Rattle.std.proofs.Math.Facts.{Fits-of_z}
use Rattle.execution.specs.Bounds.{Bounds}
use Rattle.cells.specs.Cells.{cells, uncells, Below}
use Rattle.cells.specs.CellLaws.{below-append, cells-uncells}
use Rattle.cells.specs.Uncells.{length-uncells, uncells-append}
use Rattle.model.specs.ListLaws.{All}
use Rattle.model.specs.Replica.{prune}
use Rattle.model.specs.Serial.{Version}
use Rattle.model.specs.Shape.{VersionsShape}
use Rattle.model.proofs.ShapeCheckLaws.{versions-say}
use Rattle.versions.specs.Block.{width, object_cells, block_versions, stamps, block_of, chunks, block, Small}
use Rattle.versions.proofs.Round.{length-block, below-block, ok-block, parsed}
use Rattle.versions_close.specs.Closing.{Checked, AllChecked, pruned}

-- ---- definitions

-- an object: its versions and its bounds
abbrev pub Object : Type 0
Object = List Version × Bounds

abbrev pub bounds_cells : Bounds → List ℕ
bounds_cells b = of_z w64 b.lower ∷ of_z w64 b.upper ∷ []

-- an object's cells
abbrev pub object : ℕ → Object → List ℕ
object n o = block n o.0 ++ bounds_cells o.1

-- objects one after another
unfoldable pub laid : ℕ → List Object → List ℕ
laid n [] = []
laid n (o ∷ objs) = object n o ++ laid n objs

-- an object without the versions that no reader of rc holds
abbrev pub pruned_object : List ℕ → Object → Object
pruned_object rc o = (prune (stamps rc) o.0, o.1)

-- an object that cells can hold
pub record Fitting (n : ℕ) (o : Object) : Type 0 where
  pub small : Small o.0
  pub count : length o.0 ≤ suc n
  pub lower : SFits w64 o.1.lower
  pub upper : SFits w64 o.1.upper

-- ---- one object, and cells behind it

split : (bb bc cs : List ℕ) → uncells ((bb ++ bc) ++ cs) ≡ uncells bb ++ (uncells bc ++ uncells cs)
split bb bc cs = simp (uncells-append, append_assoc)

-- its block bb, of versions vs, and its bounds' cells bc; the cells behind it, cs, are ds when pruned
pruned-first : (n : ℕ) (rc bb bc cs ds : List ℕ) (vs : List Version) (m : ℕ) → length bb ≡ width n → length bc ≡ 2 → block_versions (cells (uncells bb)) ≡ vs
    → pruned n rc m (uncells cs) ≡ uncells ds → pruned n rc (suc m) (uncells ((bb ++ bc) ++ cs)) ≡ uncells ((block n (prune (stamps rc) vs) ++ bc) ++ ds)
unfolding pruned
pruned-first n rc bb bc cs ds vs m lb lc ev ed =
    let w : ℕ = width n * 8 in
    let ub : length (uncells bb) ≡ w = omega (arith, length-uncells bb) in
    let front : take w (uncells ((bb ++ bc) ++ cs)) ≡ uncells bb = rw split (take_at (uncells bb) (uncells bc ++ uncells cs) w ub) in
    let behind : drop w (uncells ((bb ++ bc) ++ cs)) ≡ uncells bc ++ uncells cs = rw split (drop_at (uncells bb) (uncells bc ++ uncells cs) w ub) in
    let bounds : take 16 (uncells bc ++ uncells cs) ≡ uncells bc = take_at (uncells bc) (uncells cs) 16 (omega (arith, length-uncells bc)) in
    let rest : drop (object_cells n * 8) (uncells ((bb ++ bc) ++ cs)) ≡ uncells cs =
    rw uncells-append (drop_at (uncells (bb ++ bc)) (uncells cs) (object_cells n * 8) (omega (arith, length-uncells (bb ++ bc), length-append bb bc))) in
    rw (front, behind, bounds, rest, ev, ed) (sym (split (block n (prune (stamps rc) vs)) bc ds))

below-bounds : (b : Bounds) → SFits w64 b.lower → SFits w64 b.upper → Below (2 ^ 64) (bounds_cells b)
below-bounds b f g zero = (Fits-of_z f).fits
below-bounds b f g (suc zero) = (Fits-of_z g).fits
below-bounds b f g (suc (suc i)) = omega arith

module _ (n : ℕ) (few : n < 2 ^ 32) where
  -- ---- the cells of laid objects

  below-laid : (objs : List Object) → All (Fitting n) objs → Below (2 ^ 64) (laid n objs)
  unfolding laid
  below-laid [] g = λ i. omega arith
  below-laid (o ∷ objs) g =
      let f = g.0 in
      below-append (2 ^ 64) (object n o) (laid n objs)
      (below-append (2 ^ 64) (block n o.0) (bounds_cells o.1) (below-block n o.0 f.small (omega arith)) (below-bounds o.1 f.lower f.upper)) (below-laid objs g.1)

  chunks-laid : (objs : List Object) → All (Fitting n) objs → chunks (object_cells n) (length objs) (laid n objs) ≡ map (object n) objs
  unfolding laid chunks
  chunks-laid [] g = refl
  chunks-laid (o ∷ objs) g =
      let l : length (object n o) ≡ object_cells n = length-append (block n o.0) (bounds_cells o.1) ∙ ap (◌+ 2) (length-block n o.0 g.0.count) in
      ap₂ ◌∷◌ (take_at (object n o) (laid n objs) (object_cells n) l)
      (ap (chunks (object_cells n) (length objs)) (drop_at (object n o) (laid n objs) (object_cells n) l) ∙ chunks-laid objs g.1)

  pub laid-chunks : (objs : List Object) → All (Fitting n) objs → chunks (object_cells n) (length objs) (cells (uncells (laid n objs))) ≡ map (object n) objs
  laid-chunks objs g = rw (cells-uncells (laid n objs) (below-laid objs g)) (chunks-laid objs g)

  -- ---- the check

  -- what was in shape while the reader r was open passed the check with its cell c before the others
  module _ (t c r : ℕ) (rc : List ℕ) (ec : c ≡ suc r) (small : t < 2 ^ 63) where
    one-checked : (o : Object) → Fitting n o → VersionsShape t (r ∷ stamps rc) o.0 → Checked n c rc (block_of n (object n o))
    unfolding stamps
    one-checked o g f =
        rw (take_at (block n o.0) (bounds_cells o.1) (width n) (length-block n o.0 g.count))
        (record { timestamp = t; few = small; ok = rw ec (ok-block n t (suc r ∷ rc) o.0 g.small g.count ∙ (versions-say t (r ∷ stamps rc) o.0).1 f) })

    pub laid-checked : (objs : List Object) → All (Fitting n) objs → All (VersionsShape t (r ∷ stamps rc)) (map (λ o. o.0) objs) → AllChecked n c rc (length objs) (cells (uncells (laid n objs)))
    laid-checked objs g f = rw (laid-chunks objs g) (each objs g f)
      where
        each : (objs : List Object) → All (Fitting n) objs → All (VersionsShape t (r ∷ stamps rc)) (map (λ o. o.0) objs) → All (λ oc. Checked n c rc (block_of n oc)) (map (object n) objs)
        each [] g f = tt
        each (o ∷ objs) g f = (one-checked o g.0 f.0, each objs g.1 f.1)

  -- ---- pruning

  -- each object's versions pruned, and its bounds as they are
  pub laid-pruned : (rc : List ℕ) (objs : List Object) → All (Fitting n) objs → pruned n rc (length objs) (uncells (laid n objs)) ≡ uncells (laid n (map (pruned_object rc) objs))
  unfolding laid pruned
  laid-pruned rc [] g = refl
  laid-pruned rc (o ∷ objs) g =
      let f = g.0 in
      pruned-first n rc (block n o.0) (bounds_cells o.1) (laid n objs) (laid n (map (pruned_object rc) objs)) o.0 (length objs) (length-block n o.0 f.count) refl
      (parsed n o.0 (uncells (block n o.0)) f.small (omega arith) refl) (laid-pruned rc objs g.1)
