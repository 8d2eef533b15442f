-- The entries passed stand in the row.
use Rattle.cells.specs.Cells.{cells}
use Rattle.rows.specs.Storing.{Storing}
use Rattle.rows.proofs.store_entries.Given as goal

abbrev pub invariant-loop-i : goal.invariant-loop-i
invariant-loop-i l = Storing (cells l.initial.row) l.from l.entries l.i (cells l.row)
