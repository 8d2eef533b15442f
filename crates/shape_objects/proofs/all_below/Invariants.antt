-- The answer is that of the cells from cell i on.
use Rattle.std.proofs.Common.{◌≡◌, drop}
use Rattle.cells.specs.Cells.{cells}
use Rattle.shape_objects.specs.ObjectScan.{below}
use Rattle.shape_objects.proofs.all_below.Given as goal

abbrev pub invariant-loop-i : goal.invariant-loop-i
invariant-loop-i l = below l.bound (cells l.part) ≡ below l.bound (drop l.i (cells l.part))
