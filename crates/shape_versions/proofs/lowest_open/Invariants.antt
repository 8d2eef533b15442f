-- The answer is that of the readers from i on, from low.
use Rattle.std.proofs.Common.{◌≡◌, drop}
use Rattle.cells.specs.Cells.{cells}
use Rattle.versions.specs.Block.{lowest}
use Rattle.shape_versions.proofs.lowest_open.Given as goal

abbrev pub invariant-loop-i : goal.invariant-loop-i
invariant-loop-i l = lowest l.top (cells l.snapshots) ≡ lowest l.low (drop l.i (cells l.snapshots))
