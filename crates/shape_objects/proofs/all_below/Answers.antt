-- A turn of the loop over the cells, and its ends.
use Rattle.std.proofs.Common.{sym, ◌∙◌}
use Rattle.shape_objects.specs.HeaderLoop.{below_on, below-no, below_end}
use Rattle.shape_objects.proofs.all_below.Goals as goal

pub returns-then-bound-get : goal.returns-then-bound-get
returns-then-bound-get c =
    let a = c.args in
    let i = c.loop-i in
    sym (i.invariant ∙ below-no a.part.now a.count c.requires a.bound i.i c.loop-i-test.true c.get.result c.get.ensures c.if-bound-get.true)

pub loop-i-preserved : goal.loop-i-preserved
loop-i-preserved c =
    let a = c.args in
    let i = c.loop-i in
    i.invariant ∙ below_on a.part.now a.count c.requires a.bound i.i c.loop-i-test.true c.get.result c.get.ensures c.if-bound-get.false

pub returns : goal.returns
returns c =
    let a = c.args in
    let i = c.loop-i in
    sym (i.invariant ∙ below_end a.part.now a.count c.requires a.bound i.i c.loop-i-test.false)
