-- One number more, a space before it.
use Rattle.std.proofs.Common.{sym, pos, ◌-◌, length, take, drop, get_or, arith, w64, SFits, rules, take_all}
use Rattle.std.proofs.lemmas.Int.{to_z-of_z}
use Rattle.text.specs.Numerals.{spaced, line, Behind}
use Rattle.text.specs.NumeralLaws.{follows-nothing, nothing_put, follows-both, spaced-next, all-numbers}
use Rattle.text.proofs.numerals.put_numbers.Goals as goal

pub returns-in_default : goal.returns-in_default
returns-in_default c = nothing_put _ _ (omega arith)

pub loop-number-init : goal.loop-number-init
unfolding spaced
loop-number-init c = follows-nothing _

pub loop-number-preserved : goal.loop-number-preserved
loop-number-preserved c =
    let l = c.loop-number in
    let others = take (length c.args.numbers.now - 1) (drop 1 c.args.numbers.now) in
    let fits : SFits w64 (get_or others l.number-index (pos 0)) = search rules in
    let number = simp to_z-of_z at c.put_next.ensures in
    rw (spaced-next others l.number-index (pos 0) c.loop-number-test.true) (follows-both l.invariant number)

pub returns : goal.returns
returns c =
    let l = c.loop-number in
    let numbers = c.args.numbers.now in
    let fits : SFits w64 (get_or numbers 0 (pos 0)) = search rules in
    let first = simp to_z-of_z at c.put_signed.ensures in
    let others = rw (take_all l.number-index (take (length numbers - 1) (drop 1 numbers)) (omega arith)) at l.invariant in
    let all = follows-both first others in
    let same = sym all.same_buffer in
    let put : Behind c.args.out.now 0 (line numbers) l.line.out.now l.line.end =
    rw (← all-numbers numbers (length numbers) (pos 0) (omega arith) (omega arith)) all.behind in
    search rules
