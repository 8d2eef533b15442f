-- What `rows_ok` says of the parts that are lent to it. The number of objects was read from its cell.
use Rattle.std.proofs.Common.{◌≡◌, ℕ, get_or, ap, ◌∙◌, arith, length-take, length-drop, mul-le-mul_right}
use Rattle.cells.specs.Cells.{cells}
use Rattle.layout.specs.Offsets.{row_width, body_width}
use Rattle.layout.proofs.OffsetLaws.{blocks-span}
use Rattle.layout.specs.Unchecked.{size_in}
use Rattle.shape.specs.PendingParts.{used-here}
use Rattle.shape.proofs.used_ok.Goals as goal
use Rattle.shape.proofs.used_ok.Goals.{After-get-n}

size : (c : After-get-n) → c.get-n.result ≡ size_in c.args.l (cells c.args.records.now)
size c = c.get-n.ensures ∙ ap (λ (i : ℕ). get_or (cells c.args.records.now) i 0) c.size_at.ensures.exact

pub rows_ok-requires : goal.rows_ok-requires
rows_ok-requires c =
    let f = c.row_at-first.ensures in
    let g = c.object_at-end.ensures in
    let o = c.object_at-objects.ensures in
    let r = c.reader_at-readers.ensures in
    let x = c.last_at-lasts.ensures in
    let area = c.requires.lent.0 in
    let l = c.args.l in
    let w = area.whole in
    let rows = mul-le-mul_right (row_width l) c.requires.few.0 in
    let bodies = mul-le-mul_right (body_width l) c.requires.few.0 in
    let span = blocks-span l c.get-n.result c.object_at-objects.result c.object_at-end.result o.exact g.exact in (
      record {
        row_cells = simp (length-take, length-drop) (omega (arith, f.exact));
        last_cells = simp (length-take, length-drop) (omega (arith, x.exact, r.exact, r.inside));
        few = area.few;
        lent = record { object_bytes = simp (length-take, length-drop) (omega (arith, g.inside)); few_readers = area.sane.readers };
      },
      omega (arith, c.requires.lent.1),
    )

pub returns : goal.returns
returns c =
    let a = c.args in
    let f = c.row_at-first in
    let g = c.object_at-end in
    let o = c.object_at-objects in
    let r = c.reader_at-readers in
    let x = c.last_at-lasts in
    used-here a.l a.records.now a.bodies.now a.count c.get-n.result x.result r.result o.result g.result f.result (size (goal.at.returns c).After-get-n)
    x.ensures.exact r.ensures.exact o.ensures.exact g.ensures.exact f.ensures.exact c.rows_ok.result c.rows_ok.ensures
