-- A law for each answer. What is lent of the rows are the cells of the first.
use Rattle.std.proofs.Common.{◌≡◌, ◌∙◌, take}
use Rattle.cells.specs.Cells.{cells}
use Rattle.shape_row.specs.RowScan.{row_in, cells_of}
use Rattle.shape.specs.RowLoop.{row-lent, next_row, next-order}
use Rattle.shape.proofs.next_ok.Goals as goal
use Rattle.shape.proofs.next_ok.Goals.{After-row_ok}

-- what was said of the first row
row : (c : After-row_ok)
    → c.row_ok.result ≡ row_in c.args.b.most c.args.b.n c.args.b.readers (cells c.args.b.objects.now) (cells c.args.b.lasts.now) (take (cells_of c.args.b.most) (cells c.args.rows.now)) c.args.place.now
row c =
    let a = c.args in
    let w = c.row_cells-end in
    row-lent a.b.most a.b.n a.b.readers (cells a.b.objects.now) (cells a.b.lasts.now) a.rows.now a.place.now w.result w.ensures c.row_ok.result c.row_ok.ensures

pub returns-then-row_ok : goal.returns-then-row_ok
returns-then-row_ok c =
    let a = c.args in
    next-order a.b.most a.b.n a.b.readers (cells a.b.objects.now) (cells a.b.lasts.now) a.finished (cells a.rows.now) a.place.now
    c.row_ok.result (row (goal.at.returns-then-row_ok c).After-row_ok) c.if-row_ok.true c.get.result c.get.ensures c.order_ok.result c.order_ok.ensures

pub returns-else-row_ok : goal.returns-else-row_ok
returns-else-row_ok c =
    let a = c.args in
    c.if-row_ok.false
    ∙ next_row a.b.most a.b.n a.b.readers (cells a.b.objects.now) (cells a.b.lasts.now) a.finished (cells a.rows.now) a.place.now
    c.row_ok.result (row (goal.at.returns-else-row_ok c).After-row_ok) c.if-row_ok.false
