use Rattle.std.proofs.Common.{◌≡◌, true, arith, rules, get_or, pos, w64, FitsSigned, to_z-of_z, below_more, eqb-true}
use Rattle.opening.specs.Inside.{none_of, inside_at, each-inside}
use Rattle.opening.proofs.all_widest.Goals as goal

-- where the OR is 0, the one before it is, and nothing is missing to this value's bounds
pub loop-i-preserved : goal.loop-i-preserved
loop-i-preserved c =
    let a = c.args in
    let i = c.loop-i.i in
    let value : FitsSigned w64 (get_or a.values.now i (pos 0)) = search rules in
    let low : FitsSigned w64 (get_or a.lower.now i (pos 0)) = search rules in
    let high : FitsSigned w64 (get_or a.upper.now i (pos 0)) = search rules in
    λ e.
    (let none = none_of c.loop-i.missing c.short_of_widest-missing.result e in
    below_more (λ k. inside_at a.values.now a.lower.now a.upper.now k ≡ true) i (c.loop-i.invariant none.0)
    (rw (to_z-of_z value, to_z-of_z low, to_z-of_z high) at (c.short_of_widest-missing.ensures none.1)))

pub returns : goal.returns
returns c =
    let a = c.args in
    λ t. each-inside a.values.now a.lower.now a.upper.now c.requires.0 c.requires.1
    (λ k h. c.loop-i.invariant (eqb-true c.loop-i.missing 0 t) k (omega arith))
