use Rattle.std.proofs.Common.{◌≡◌, subst, arith, mul-le-mul_right}
use Rattle.layout.specs.Offsets.{row_width}
use Rattle.final_requeue.specs.Leave.{NextLeaving, passing-there, passing-long, passing-found, passing-next, passing-end}
use Rattle.final_requeue.proofs.next_leaving.Goals as goal

pub get-key-requires : goal.get-key-requires
get-key-requires c =
    let k = c.loop-i.invariant in
    let s = c.requires.sane in
    let low = c.loop-i-test.true in
    let h = passing-there k s low c.requires.queued in
    omega (arith, c.row_at.ensures.exact, passing-long k s low c.requires.queued, mul-le-mul_right (row_width c.args.l) h)

pub returns-then-leaves : goal.returns-then-leaves
returns-then-leaves c =
    (c.loop-i-test.true, passing-found c.loop-i.invariant c.requires.sane c.loop-i-test.true c.row_at.ensures.exact c.get-key.ensures c.leaves.ensures c.if-leaves.true)

pub loop-i-preserved : goal.loop-i-preserved
loop-i-preserved c =
    passing-next c.loop-i.invariant c.requires.sane c.loop-i-test.true c.row_at.ensures.exact c.get-key.ensures c.leaves.ensures c.if-leaves.false

pub returns : goal.returns
returns c =
    let a = c.args in
    let k = c.loop-i.invariant in
    let e : c.loop-i.i ≡ a.count = omega (arith, k.within) in
    subst (NextLeaving a.l a.records.now a.client a.sequence a.count a.from) e (passing-end k c.loop-i-test.false)
