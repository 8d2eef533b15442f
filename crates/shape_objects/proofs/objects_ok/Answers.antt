-- A law for each answer. The number of objects was read from its cell.
use Rattle.std.proofs.Common.{◌≡◌, ◌≤◌, ℕ, get_or, ap, ◌∙◌, arith, mul-le-mul_right}
use Rattle.cells.specs.Cells.{cells}
use Rattle.model.specs.Calls.{last_timestamp}
use Rattle.layout.specs.Offsets.{object_width}
use Rattle.layout.specs.Unchecked.{size_in}
use Rattle.shape_objects.specs.HeaderParts.{objects-versions, objects-behind}
use Rattle.shape_objects.proofs.objects_ok.Goals as goal
use Rattle.shape_objects.proofs.objects_ok.Goals.{After-get-n}

size : (c : After-get-n) → c.get-n.result ≡ size_in c.args.l (cells c.args.records.now)
size c = c.get-n.ensures ∙ ap (λ (i : ℕ). get_or (cells c.args.records.now) i 0) c.size_at-size.ensures.exact

pub objects_ok-requires-clause-timestamp : goal.objects_ok-requires-clause-timestamp
unfolding last_timestamp
objects_ok-requires-clause-timestamp c = omega (arith, c.get-timestamp.ensures, c.requires.1)

pub all_zero-requires : goal.all_zero-requires
all_zero-requires c =
    let few : c.get-n.result ≤ c.args.l.objects = omega arith in
    let behind = c.pending_at-behind.ensures in (
      omega (arith, c.object_at-end.ensures.exact, behind.exact, mul-le-mul_right (object_width c.args.l) few),
      omega (arith, behind.inside, c.requires.0.whole),
    )

pub returns-then-objects_ok : goal.returns-then-objects_ok
returns-then-objects_ok c =
    let a = c.args in
    let b = c.pending_at-behind in
    let g = c.object_at-end in
    let f = c.object_at-first in
    let r = c.reader_at-readers in
    let s = c.size_at-size in
    let t = c.get-timestamp in
    let p = c.objects_ok in
    objects-behind a.l a.records.now c.get-n.result (size (goal.at.returns-then-objects_ok c).After-get-n) (omega arith) (omega arith)
    t.result r.result s.result f.result g.result t.ensures r.ensures.exact s.ensures.exact f.ensures.exact g.ensures.exact
    p.result p.ensures c.if-objects_ok.true b.result b.ensures.exact (omega (arith, b.ensures.inside, c.requires.0.whole)) c.all_zero.result c.all_zero.ensures

pub returns-else-objects_ok : goal.returns-else-objects_ok
returns-else-objects_ok c =
    let a = c.args in
    let g = c.object_at-end in
    let f = c.object_at-first in
    let r = c.reader_at-readers in
    let s = c.size_at-size in
    let t = c.get-timestamp in
    let p = c.objects_ok in
    c.if-objects_ok.false
    ∙ objects-versions a.l a.records.now c.get-n.result (size (goal.at.returns-else-objects_ok c).After-get-n) (omega arith) (omega arith)
    t.result r.result s.result f.result g.result t.ensures r.ensures.exact s.ensures.exact f.ensures.exact g.ensures.exact
    p.result p.ensures c.if-objects_ok.false
