-- The registers passed stand in the row.
use Rattle.cells.specs.Cells.{cells}
use Rattle.rows.specs.Storing.{Registers}
use Rattle.rows.proofs.store_registers.Given as goal

abbrev pub invariant-loop-i : goal.invariant-loop-i
invariant-loop-i l = Registers (cells l.initial.row) l.registers l.i (cells l.row)
