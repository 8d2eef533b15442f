-- The answer so far, and that of the entries from entry i on.
use Rattle.std.proofs.Common.{◌≡◌, ◌&&◌, ◌-◌, ◌*◌, drop}
use Rattle.cells.specs.Cells.{cells}
use Rattle.layout.specs.Rows.{chunks}
use Rattle.shape_names.specs.NameScan.{absent}
use Rattle.shape_names.proofs.no_other.Given as goal

abbrev pub invariant-loop-i : goal.invariant-loop-i
invariant-loop-i l =
    absent l.object (chunks 2 (l.to - l.from) (drop (l.from * 2) (cells l.entries))) ≡ (l.none && absent l.object (chunks 2 (l.to - l.i) (drop (l.i * 2) (cells l.entries))))
