-- The answer is that of the versions from the i-th on.
use Rattle.std.proofs.Common.{◌≡◌}
use Rattle.cells.specs.Cells.{cells}
use Rattle.shape_bounds.specs.Difference.{rest_inside}
use Rattle.shape_bounds.proofs.older_inside.Given as goal

abbrev pub invariant-loop-i : goal.invariant-loop-i
invariant-loop-i l = rest_inside l.lower l.upper l.count 1 (cells l.block) ≡ rest_inside l.lower l.upper l.count l.i (cells l.block)
