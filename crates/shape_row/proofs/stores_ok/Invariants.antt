-- The answer is that of the entries from entry i on, which name objects that are lent.
use Rattle.std.proofs.Common.{◌≡◌, ◌-◌, ◌*◌, drop}
use Rattle.cells.specs.Cells.{cells}
use Rattle.shape_row.specs.RowScan.{stores_in}
use Rattle.shape_row.specs.LentRow.{Named}
use Rattle.shape_row.proofs.stores_ok.Given as goal

abbrev pub invariant-loop-i : goal.invariant-loop-i
invariant-loop-i l = record {
  named : Named l.readers (l.count - l.i) (drop (l.i * 2) (cells l.entries)) l.objects;
  rest : stores_in l.readers (cells l.objects) l.count (cells l.entries)
      ≡ stores_in l.readers (cells l.objects) (l.count - l.i) (drop (l.i * 2) (cells l.entries));
}
