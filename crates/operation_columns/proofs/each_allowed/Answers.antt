-- What a turn tests is the rule of its operation, by the one law `tested_at`.
use Rattle.std.proofs.Common.{◌≤◌, ◌∙◌, refl, sym, arith, add-one}
use Rattle.operation.specs.Body.{kind_byte, allowed_at, each}
use Rattle.operation.specs.Columns.{tested}
use Rattle.operation.proofs.ColumnsLaws.{tested_at, no_kind, stops}
use Rattle.operation_columns.proofs.each_allowed.Goals as goal

pub loop-i-init : goal.loop-i-init
unfolding each
loop-i-init c = refl

pub returns-then-kind-ge8 : goal.returns-then-kind-ge8
returns-then-kind-ge8 c =
    let a = c.args in
    let h : 8 ≤ kind_byte a.body.now c.loop-i.i = omega (arith, c.small-kind.ensures.0) in
    sym (stops (allowed_at a.objects a.body.now) c.loop-i.i a.m (omega arith) (no_kind a.objects _ _ _ _ _ h))

pub returns-then-not-allowed : goal.returns-then-not-allowed
unfolding tested
returns-then-not-allowed c =
    let a = c.args in
    let t =
    tested_at a.body.now a.objects a.m c.loop-i.i _ _ _ _
    c.requires.0 c.small-kind.ensures.0 c.small-first.ensures.0 c.small-second.ensures.0 c.load-constant.ensures
    (omega arith) (omega arith) (omega arith) (omega arith) in
    sym (stops (allowed_at a.objects a.body.now) c.loop-i.i a.m (omega arith) (t ∙ c.if-not-allowed.true))

pub loop-i-preserved : goal.loop-i-preserved
unfolding each tested
loop-i-preserved c =
    let a = c.args in
    let t =
    tested_at a.body.now a.objects a.m c.loop-i.i _ _ _ _
    c.requires.0 c.small-kind.ensures.0 c.small-first.ensures.0 c.small-second.ensures.0 c.load-constant.ensures
    (omega arith) (omega arith) (omega arith) (omega arith) in
    rw (add-one, c.loop-i.invariant) (t ∙ c.if-not-allowed.false)
