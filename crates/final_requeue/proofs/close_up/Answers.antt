-- A turn moves the run before the next that leaves, and the last run has none behind it.
use Rattle.std.proofs.Common.{arith}
use Rattle.final_requeue.specs.Leave.{run-within, closing_end, closing_queued, closing_moving, closing-next}
use Rattle.final_requeue.proofs.close_up.Goals as goal

pub next_leaving-requires-clause-queued : goal.next_leaving-requires-clause-queued
next_leaving-requires-clause-queued c =
    let i = c.loop-next.invariant in
    closing_queued (i.closing c.requires.counted) i.within

pub overflow_sub-n : goal.overflow_sub-n
overflow_sub-n c =
    let i = c.loop-next.invariant in
    (run-within (i.closing c.requires.counted) i.within c.in-Some.ensures.1).0

pub move_run-requires-clause-moving : goal.move_run-requires-clause-moving
move_run-requires-clause-moving c =
    let i = c.loop-next.invariant in
    closing_moving (i.closing c.requires.counted) i.within c.in-Some.ensures.1

pub overflow_add-staying : goal.overflow_add-staying
overflow_add-staying c =
    let i = c.loop-next.invariant in
    let k = i.closing c.requires.counted in
    omega (arith, run-within k i.within c.in-Some.ensures.1, k.below)

pub loop-next-smaller : goal.loop-next-smaller
loop-next-smaller c =
    let i = c.loop-next.invariant in
    omega (arith, run-within (i.closing c.requires.counted) i.within c.in-Some.ensures.1, c.in-Some.ensures.0)

pub loop-next-preserved : goal.loop-next-preserved
loop-next-preserved c =
    let i = c.loop-next.invariant in
    record { within = omega (arith, c.in-Some.ensures.0); closing = λ p. closing-next (i.closing p) i.within c.in-Some.ensures.1 c.move_run.ensures }

pub move_run-requires-2-clause-moving : goal.move_run-requires-2-clause-moving
move_run-requires-2-clause-moving c =
    let i = c.loop-next.invariant in
    closing_moving (i.closing c.requires.counted) i.within c.in_default.ensures

pub overflow_add-result : goal.overflow_add-result
overflow_add-result c = let k = c.loop-next.invariant.closing c.requires.counted in omega (arith, k.below)

pub returns : goal.returns
returns c =
    let i = c.loop-next.invariant in
    record { closing = λ p. closing_end (closing-next (i.closing p) i.within c.in_default.ensures c.move_run-2.ensures) (omega arith) }
