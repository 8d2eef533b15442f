-- A turn of the loop over the rows, and its ends.
use Rattle.std.proofs.Common.{◌≡◌, ◌+◌, ◌-◌, ◌*◌, ℕ, refl, sym, arith}
use Rattle.cells.specs.Cells.{cells}
use Rattle.shape_row.specs.RowScan.{cells_of, place_of}
use Rattle.shape.specs.RowsWalk.{walk-on, walk_no, walk_end}
use Rattle.shape.proofs.each_ok.Goals as goal

-- where the next row begins
step : (i w : ℕ) → i * w + w ≡ (i + 1) * w
step i w = omega arith

pub loop-i-preserved : goal.loop-i-preserved
loop-i-preserved c =
    let a = c.args in
    let l = c.loop-i in
    let row = cells_of a.b.most * 8 in
    let place = place_of a.b.most in
    let p = rw (c.row_cells-width.ensures, c.body_length-size.ensures) at c.next_ok.ensures in
    let q = rw (c.row_cells-width.ensures, c.body_length-size.ensures) at c.is_finished-finished.ensures in
    let left : a.count - l.i - 1 ≡ a.count - (l.i + 1) = omega arith in
    rw (← step l.i row, ← step l.i place, ← left)
    (walk-on a.b.most a.b.n a.b.readers a.count (cells a.b.objects.now) (cells a.b.lasts.now) a.rows.now a.places.now (l.i * row) (l.i * place) (a.count - l.i) l.finished l.invariant (omega arith)
    place refl c.next_ok.result p c.if-not-next_ok.false row refl c.is_finished-finished.result q _ refl)

pub returns-then-not-next_ok : goal.returns-then-not-next_ok
returns-then-not-next_ok c =
    let a = c.args in
    let l = c.loop-i in
    let row = cells_of a.b.most * 8 in
    let place = place_of a.b.most in
    let p = rw (c.row_cells-width.ensures, c.body_length-size.ensures) at c.next_ok.ensures in
    sym
    (walk_no a.b.most a.b.n a.b.readers a.count (cells a.b.objects.now) (cells a.b.lasts.now) a.rows.now a.places.now (l.i * row) (l.i * place) (a.count - l.i) l.finished l.invariant (omega arith)
    place refl c.next_ok.result p c.if-not-next_ok.true)

pub returns : goal.returns
returns c =
    let a = c.args in
    let l = c.loop-i in
    sym
    (walk_end a.b.most a.b.n a.b.readers a.count (cells a.b.objects.now) (cells a.b.lasts.now) a.rows.now a.places.now (l.i * (cells_of a.b.most * 8)) (l.i * place_of a.b.most)
    (a.count - l.i) l.finished l.invariant (omega arith))
