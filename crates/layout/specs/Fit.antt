-- The shape check on areas: lengths, layout, and the model's shape on what is parsed. A shaped replica prints to fit areas and is read back.
-- Assumes nothing.
use Rattle.std.specs.Prelude.{◌≡◌, Bool, true}
use Rattle.std.proofs.Math.Bool.{◌&&◌}
use Rattle.model.specs.declared.Limits.{Limits}
use Rattle.model.specs.ShapeCheck.{shaped}
use Rattle.layout.specs.Layout.{Areas, parse, lengths, laid}

-- "an area of wrong length, or (except at opening) whose contents fail the shape check" is refused with 1
unfoldable pub fit : Limits → Areas → Bool
fit l a = lengths l a && (laid l a && shaped l (parse l a))

pub record Fit (l : Limits) (a : Areas) : Type 0 where
  pub lengths : lengths l a ≡ true
  pub laid : laid l a ≡ true
  pub shaped : shaped l (parse l a) ≡ true
