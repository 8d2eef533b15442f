-- What a write takes stands behind the bytes that were written before; one that fails leaves those.
use Rattle.std.proofs.Common.{ℕ, ◌+◌, ◌-◌, List, Option, arith, length, take, drop, take-add, take_all, length-drop}
use Rattle.std.specs.Io.KnownBytes.{Appends}
use Rattle.std.proofs.KnownBytes.{Appends-nil, Appends-trans, Appends-kept}
use Rattle.std.proofs.lemmas.List.{take_rest}
use Rattle.console.proofs.output.write_all.Goals as goal

more : (a b c : Option (List ℕ)) (sent n : ℕ) (text : List ℕ) → Appends a b (take sent text) → Appends b c (take n (take (length text - sent) (drop sent text)))
    → Appends a c (take (sent + n) text)
more a b c sent n text p q = rw (take-add sent n text) (Appends-trans a b c _ _ p (rw (take_rest text sent) at q))

pub loop-sent-init : goal.loop-sent-init
loop-sent-init g c = (omega arith, Appends-nil _)

pub returns-in-Ok-eq0-clause-err : goal.returns-in-Ok-eq0-clause-err
returns-in-Ok-eq0-clause-err g c =
    let n = c.in-Ok-eq0.field-0 in
    (c.loop-sent.sent + n, omega arith, more _ _ _ c.loop-sent.sent n c.args.text.now c.loop-sent.invariant.1 c.in-Ok-eq0.ensures.bytes)

pub loop-sent-preserved-in-Ok : goal.loop-sent-preserved-in-Ok
loop-sent-preserved-in-Ok g c =
    let text = c.args.text.now in
    let few = simp (take_rest, length-drop) at c.in-Ok.ensures.bound in
    (omega (arith, few), more _ _ _ c.loop-sent.sent c.in-Ok.n text c.loop-sent.invariant.1 c.in-Ok.ensures.bytes)

pub returns-then-ne-clause-err : goal.returns-then-ne-clause-err
returns-then-ne-clause-err g c = (c.loop-sent.sent, c.loop-sent-test.true, Appends-kept _ _ _ _ c.loop-sent.invariant.1 c.in-Err.ensures.bytes)

pub loop-sent-preserved : goal.loop-sent-preserved
loop-sent-preserved g c = (c.loop-sent.invariant.0, Appends-kept _ _ _ _ c.loop-sent.invariant.1 c.in-Err.ensures.bytes)

pub returns-clause-ok : goal.returns-clause-ok
returns-clause-ok g c =
    rw (take_all c.loop-sent.sent c.args.text.now (omega arith)) at c.loop-sent.invariant.1
