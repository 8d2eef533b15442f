-- Each way out by a law of `Reading`.
use Rattle.std.proofs.Common.{◌≡◌, ◌+◌, ◌*◌, ◌/◌, length, arith, refl}
use Rattle.text.specs.HexadecimalLaws.{high-wrong, low-wrong, full, goes_on, odd, ended}
use Rattle.text.proofs.hexadecimal.parse.Goals as goal

pub returns-in_err-high : goal.returns-in_err-high
returns-in_err-high c =
    rw c.from_residual.ensures (high-wrong _ _ _ _ _ c.loop-i.invariant (omega arith) _ _ refl refl (omega (arith, c.in_err-high.ensures)))

pub returns-in_err-low : goal.returns-in_err-low
returns-in_err-low c =
    rw c.from_residual-in_err-low.ensures
    (low-wrong _ _ _ _ _ c.loop-i.invariant (omega arith) _ _ c.in_ok-high.ensures.0 refl (omega (arith, c.in_err-low.ensures)))

pub returns-then-out-i : goal.returns-then-out-i
returns-then-out-i c =
    full _ _ _ _ _ c.loop-i.invariant (omega arith) _ _ c.in_ok-high.ensures.0 c.in_ok-low.ensures.0 (omega arith)

pub loop-i-preserved : goal.loop-i-preserved
loop-i-preserved c =
    let e : 2 * (c.loop-i.i + 1) ≡ 2 * c.loop-i.i + 2 = omega arith in
    rw e (goes_on _ _ _ _ _ c.loop-i.invariant (omega arith) _ _ c.in_ok-high.ensures.0 c.in_ok-low.ensures.0 (omega arith) (omega arith) (omega arith))

pub returns-then-word-eq0 : goal.returns-then-word-eq0
returns-then-word-eq0 c =
    let e : length c.args.word.now / 2 ≡ c.loop-i.i = omega arith in
    rw e (ended _ _ _ _ _ c.loop-i.invariant (omega arith))

pub returns-else-word-eq0 : goal.returns-else-word-eq0
returns-else-word-eq0 c = odd _ _ _ _ _ c.loop-i.invariant (omega arith) (omega arith)
