-- The registers passed are those of the row.
use Rattle.std.proofs.Common.{◌≡◌, ℕ, ◌<◌, pos, length, get_or}
use Rattle.cells.specs.Cells.{cells}
use Rattle.rows.specs.RowRun.{register_in}
use Rattle.rows.proofs.load_registers.Given as goal

abbrev pub invariant-loop-i : goal.invariant-loop-i
invariant-loop-i l =
    record { size : length l.registers ≡ 4; passed : (k : ℕ) → k < l.i → get_or l.registers k (pos 0) ≡ register_in (cells l.row) k }
