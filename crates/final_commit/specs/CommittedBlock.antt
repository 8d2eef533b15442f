-- An object's block that a commit rewrites. Assumes nothing.
use Rattle.std.specs.Prelude.{◌≡◌, true, List, ℕ, suc, ◌^◌, ◌≤◌, ◌<◌, ℤ, length}
use Rattle.std.proofs.Common.{sym, ap, ◌∙◌, subst, arith}
use Rattle.std.proofs.Math.Option.{Option, some}
use Rattle.cells.specs.Cells.{cells, uncells}
use Rattle.cells.specs.CellLaws.{cells-uncells}
use Rattle.model.proofs.ListLaws.{all_keep}
use Rattle.model.specs.Serial.{Version}
use Rattle.model.specs.Replica.{opens, held, prune, pushed}
use Rattle.model.specs.Shape.{VersionsShape}
use Rattle.model.proofs.ShapeCheckLaws.{versions-say}
use Rattle.model.proofs.Held.{commit-shape, few}
use Rattle.model.proofs.ShapeParts.{opens-few}
use Rattle.layout.specs.Printable.{ValueFits, VersionFits, ObjectFits}
use Rattle.layout.proofs.PrintableLaws.{fits-small}
use Rattle.layout.specs.Lawful.{Word}
use Rattle.versions.specs.Block.{stamps, block_versions, block, block_ok}
use Rattle.versions.proofs.Round.{below-block, ok-block, parsed}

-- the versions of an object after a commit that stored this value
pub pushed-fits : (n s t : ℕ) (rs : List (Option ℕ)) (vs : List Version) (v : ℤ) → length rs ≡ n → t ≡ suc s → Word t → ValueFits v → VersionsShape s (opens rs) vs → ObjectFits n vs → ObjectFits n (prune (opens rs) (pushed t vs (some v)))
unfolding prune
pushed-fits n s t rs vs v m e w x h g =
    let few_then : length (prune (opens rs) (pushed (suc s) vs (some v))) ≤ suc (length (opens rs)) = few (suc s) (opens rs) (prune (opens rs) (pushed (suc s) vs (some v))) (commit-shape s (opens rs) vs (some v) h) in
    let k : length (prune (opens rs) (pushed t vs (some v))) ≤ suc (length (opens rs)) = subst (λ (x : ℕ). length (prune (opens rs) (pushed x vs (some v))) ≤ suc (length (opens rs))) (sym e) few_then in
    (omega (arith, k, opens-few rs), all_keep VersionFits (held (opens rs) (pushed t vs (some v))) (pushed t vs (some v)) ((w, x), g.1))

-- a lent block that holds these versions
module _ (n : ℕ) (vs : List Version) (ys : List ℕ) (g : ObjectFits n vs) (small : n < 2 ^ 63) (e : ys ≡ uncells (block n vs)) where
  pub lent-versions : block_versions (cells ys) ≡ vs
  lent-versions = parsed n vs ys (fits-small vs g.1) (omega (arith, g.0)) e

  pub lent_ok : (t : ℕ) (rc : List ℕ) → VersionsShape t (stamps rc) vs → block_ok n t rc (cells ys) ≡ true
  lent_ok t rc h =
      ap (λ (x : List ℕ). block_ok n t rc (cells x)) e
      ∙ ap (block_ok n t rc) (cells-uncells (block n vs) (below-block n vs (fits-small vs g.1) (omega (arith, g.0))))
      ∙ ok-block n t rc vs (fits-small vs g.1) g.0 ∙ (versions-say t (stamps rc) vs).1 h
