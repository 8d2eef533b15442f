-- The entries passed stand in the slice.
use Rattle.cells.specs.Cells.{cells}
use Rattle.rows.specs.Loading.{Filling}
use Rattle.rows.proofs.load_entries.Given as goal

abbrev pub invariant-loop-i : goal.invariant-loop-i
invariant-loop-i l = Filling (cells l.row) l.from l.i l.entries
