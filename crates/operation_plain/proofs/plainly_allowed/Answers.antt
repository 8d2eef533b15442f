-- A turn is the one law `plain_turn`.
use Rattle.std.proofs.Common.{refl, arith}
use Rattle.operation.specs.Body.{each}
use Rattle.operation_plain.specs.Plain.{plain_turn}
use Rattle.operation_plain.proofs.plainly_allowed.Goals as goal

pub loop-i-init : goal.loop-i-init
unfolding each
loop-i-init c = λ l e. refl

pub loop-i-preserved : goal.loop-i-preserved
loop-i-preserved c =
    let a = c.args in
    let l = c.loop-i in
    λ low none.
    plain_turn a.body.now a.objects a.m l.i c.requires.0 l.firsts l.seen l.invariant _ _ _ _
    c.small-kind.ensures.0 refl c.small.ensures.0 c.load.ensures (omega arith) c.if-below-kind.false low
    (rw c.forbidden-seen.ensures at none)
