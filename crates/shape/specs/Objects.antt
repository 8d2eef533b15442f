-- The header and the objects in the scan: what the layout's check and the model's shape say of them. Assumes nothing.
use Rattle.std.specs.Prelude.{◌≡◌, refl, Bool, ◌&&◌, List, [], ◌∷◌, map, ℕ, zero, suc, ◌+◌, leb, ltb}
use Rattle.std.proofs.Common.{sym, ap, ap₂, ◌∙◌, arith, leb-true, le-leb, ltb-true, lt-ltb}
use Rattle.execution.specs.Bounds.{Bounds, ordered}
use Rattle.model.specs.declared.Limits.{Limits}
use Rattle.model.specs.Lists.{all, all₂}
use Rattle.model.specs.Serial.{Version}
use Rattle.model.specs.Replica.{opens}
use Rattle.model.specs.Shape.{versions_inside}
use Rattle.model.specs.ShapeCheck.{versions_shaped}
use Rattle.versions.specs.Block.{block_versions, stamps, block_of, bounds_at, objects_in, bounds_in, blocks_ok}
use Rattle.versions.proofs.AllBlocks.{blocks-check}
use Rattle.layout.specs.Rows.{chunks}
use Rattle.layout.specs.Layout.{reader_of, object}
use Rattle.layout.specs.Offsets.{object_width}
use Rattle.layout.proofs.ObjectBlock.{objects-framed}
use Rattle.shape_objects.specs.ObjectScan.{below}
use Rattle.shape.specs.Leaves.{same}

-- ---- readers

-- an open reader's timestamp is not above t exactly where its cell is below t + 2
pub readers-are : (t : ℕ) (rc : List ℕ) → below (t + 2) rc ≡ all (λ r. leb r t) (opens (map reader_of rc))
readers-are t [] = refl
readers-are t (zero ∷ rc) = rw (lt-ltb 0 (t + 2) (omega arith)) (readers-are t rc)
readers-are t (suc s ∷ rc) =
    ap₂ ◌&&◌ (same (ltb (suc s) (t + 2)) (leb s t) (λ e. let h = ltb-true (suc s) (t + 2) e in le-leb s t (omega arith)) (λ e. let h = leb-true s t e in lt-ltb (suc s) (t + 2) (omega arith))) (readers-are t rc)

-- ---- objects

-- the versions and the bounds that the objects' cells say
abbrev pub all_versions : Limits → List (List ℕ) → List (List Version)
all_versions l os = map (λ oc. block_versions (block_of l.readers oc)) os

abbrev pub all_bounds : Limits → List (List ℕ) → List Bounds
all_bounds l os = map (bounds_at l.readers) os

-- what is asked of them, beside the timestamp t and the open readers' stamps rs: the frames, the versions, and the bounds
abbrev pub objects_asked : Limits → ℕ → List ℕ → List (List ℕ) → Bool
objects_asked l t rs os =
    (all (object l).ok os && all (versions_shaped t rs) (all_versions l os)) && (all ordered (all_bounds l os) && all₂ versions_inside (all_bounds l os) (all_versions l os))

pub blocks-are : (l : Limits) (t : ℕ) (rc : List ℕ) (m : ℕ) (cs : List ℕ) → blocks_ok l.readers t rc m cs ≡ objects_asked l t (opens (map reader_of rc)) (chunks (object_width l) m cs)
unfolding stamps objects_in bounds_in
blocks-are l t rc m cs =
    let os = chunks (object_width l) m cs in
    let bounds = all ordered (all_bounds l os) && all₂ versions_inside (all_bounds l os) (all_versions l os) in
    blocks-check l.readers t rc m cs
    ∙ ap (λ (b : Bool). (b && all (versions_shaped t (opens (map reader_of rc))) (all_versions l os)) && bounds) (sym (objects-framed l os))
