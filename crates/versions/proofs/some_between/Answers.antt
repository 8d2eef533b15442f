-- A turn of the loop over the readers, and its end.
use Rattle.std.proofs.Common.{◌∙◌, sym}
use Rattle.versions.proofs.BlockLoops.{between-hit, between-miss, between-end}
use Rattle.versions.proofs.some_between.Goals as goal

pub returns-then-inside : goal.returns-then-inside
returns-then-inside c =
    let a = c.args in
    let i = c.loop-i in
    sym (i.invariant ∙ between-hit a.readers i.i a.snapshots.now c.requires c.loop-i-test.true a.s a.upper c.inside.result (rw (← c.get.ensures) c.inside.ensures) c.if-inside.true)

pub loop-i-preserved : goal.loop-i-preserved
loop-i-preserved c =
    let a = c.args in
    let i = c.loop-i in
    i.invariant ∙ between-miss a.readers i.i a.snapshots.now c.requires c.loop-i-test.true a.s a.upper c.inside.result (rw (← c.get.ensures) c.inside.ensures) c.if-inside.false

pub returns : goal.returns
returns c =
    let a = c.args in
    let i = c.loop-i in
    sym (i.invariant ∙ between-end a.readers i.i a.snapshots.now a.s a.upper c.requires c.loop-i-test.false)
