-- A law for each answer.
use Rattle.std.proofs.Common.{◌∙◌, arith, rules, mul_assoc}
use Rattle.cells.specs.Cells.{cells}
use Rattle.shape_row.specs.RowScan.{cells_of}
use Rattle.shape.specs.RowLoop.{rows-each, rows-keys}
use Rattle.shape.proofs.rows_ok.Goals as goal

pub distinct-requires : goal.distinct-requires
distinct-requires c =
    let a = c.args in
    rw c.row_cells.ensures (search rules, omega (arith, mul_assoc a.count (cells_of a.b.most) 8, c.requires.0.row_cells))

pub returns-then-each_ok : goal.returns-then-each_ok
returns-then-each_ok c =
    let a = c.args in
    let p = c.each_ok in
    let keys = rw c.row_cells.ensures at c.distinct.ensures in
    rows-keys a.b.most a.b.n a.b.readers (cells a.b.objects.now) (cells a.b.lasts.now) a.count (cells a.rows.now) a.places.now p.result p.ensures c.if-each_ok.true c.distinct.result keys

pub returns-else-each_ok : goal.returns-else-each_ok
returns-else-each_ok c =
    let a = c.args in
    let p = c.each_ok in
    c.if-each_ok.false ∙ rows-each a.b.most a.b.n a.b.readers (cells a.b.objects.now) (cells a.b.lasts.now) a.count (cells a.rows.now) a.places.now p.result p.ensures c.if-each_ok.false
