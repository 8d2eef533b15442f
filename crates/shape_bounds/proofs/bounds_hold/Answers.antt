-- Where the newest version is inside, the bounds are in order; a law for each way out.
use Rattle.std.proofs.Common.{sym, ◌∙◌, arith}
use Rattle.shape_bounds.specs.Difference.{order-by}
use Rattle.shape_bounds.specs.ObjectBounds.{bounds-no, bounds-by}
use Rattle.shape_bounds.proofs.bounds_hold.Goals as goal

pub older_inside-requires-clause-order : goal.older_inside-requires-clause-order
older_inside-requires-clause-order c =
    order-by c.get-lower.result c.get-upper.result c.get.result (omega arith) (omega arith) (omega arith) (sym c.inside.ensures ∙ c.if-inside.true)

pub returns-then-inside : goal.returns-then-inside
returns-then-inside c =
    let a = c.args in
    let w = c.width-w in
    let l = c.get-lower in
    let u = c.get-upper in
    let v = c.get in
    let yes = sym c.inside.ensures ∙ c.if-inside.true in
    let order = order-by l.result u.result v.result (omega arith) (omega arith) (omega arith) yes in
    let by = bounds-by a.readers a.object.now w.result w.ensures l.result u.result l.ensures u.ensures v.result v.ensures a.count (c.requires.versions.0, c.requires.versions.1) in
    c.older_inside.ensures ∙ sym (by order yes)

pub returns : goal.returns
returns c =
    let a = c.args in
    let w = c.width-w in
    let l = c.get-lower in
    let u = c.get-upper in
    let v = c.get in
    let no = bounds-no a.readers a.object.now w.result w.ensures l.result u.result l.ensures u.ensures v.result v.ensures a.count (c.requires.versions.0, c.requires.versions.1) in
    sym (no (sym c.inside.ensures ∙ c.if-inside.false))
