-- The row's entries from i on are laid over the table; those before them are still to be laid.
use Rattle.std.proofs.Common.{◌-◌}
use Rattle.cells.specs.Cells.{cells}
use Rattle.execution.proofs.TableLaws.{Laid}
use Rattle.rows.specs.RowRun.{entries_in, run_in}
use Rattle.rows.proofs.overlay_writes.Given as goal

abbrev pub invariant-loop-i : goal.invariant-loop-i
invariant-loop-i l =
    Laid l.initial.table (run_in (cells l.row)).writes (entries_in (cells l.row) l.reads (l.i - l.reads)) l.table
