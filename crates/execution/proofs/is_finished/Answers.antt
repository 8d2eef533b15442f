-- The counter against the body's first byte, or an early stop.
use Rattle.std.proofs.Common.{sym}
use Rattle.execution.proofs.Ended.{ended-early, ended-past}
use Rattle.execution.proofs.is_finished.Goals as goal

pub returns-then-small-counter : goal.returns-then-small-counter
returns-then-small-counter c =
    sym (ended-past c.args.body.now c.args.counter c.args.outcome _ c.small.ensures.0 c.if-small-counter.true)

pub returns : goal.returns
returns c =
    sym (ended-early c.args.body.now c.args.counter c.args.outcome _ c.small.ensures.0 c.if-small-counter.false)
