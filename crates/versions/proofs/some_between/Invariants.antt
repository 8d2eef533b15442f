-- After i turns the answer is that of the readers from i on.
use Rattle.std.proofs.Common.{◌≡◌, drop}
use Rattle.cells.specs.Cells.{cells}
use Rattle.versions.specs.Block.{between}
use Rattle.versions.proofs.some_between.Given as goal

abbrev pub invariant-loop-i : goal.invariant-loop-i
invariant-loop-i l = between (cells l.snapshots) l.s l.upper ≡ between (drop l.i (cells l.snapshots)) l.s l.upper
