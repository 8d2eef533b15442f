-- What holds before each turn is `Walk`.
use Rattle.std.proofs.Common.{◌-◌, ◌*◌}
use Rattle.cells.specs.Cells.{cells}
use Rattle.shape_row.specs.RowScan.{cells_of, place_of}
use Rattle.shape.specs.RowsWalk.{Walk}
use Rattle.shape.proofs.each_ok.Given as goal

abbrev pub invariant-loop-i : goal.invariant-loop-i
invariant-loop-i l =
    Walk l.b.most l.b.n l.b.readers l.count (cells l.b.objects.now) (cells l.b.lasts.now) l.rows l.places (l.i * (cells_of l.b.most * 8)) (l.i * place_of l.b.most) (l.count - l.i) l.finished
