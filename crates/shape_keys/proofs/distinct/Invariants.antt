-- What holds before each turn is `Marked`.
use Rattle.cells.specs.Cells.{cells}
use Rattle.shape_keys.specs.Marked.{Marked}
use Rattle.shape_keys.proofs.distinct.Given as goal

abbrev pub invariant-loop-i : goal.invariant-loop-i
invariant-loop-i l = Marked l.width l.count (cells l.rows) l.marks l.i
