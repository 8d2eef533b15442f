-- Each value read is one of 64 bits, so it comes back from its bits as it was.
use Rattle.std.proofs.Common.{◌∙◌, sym, rules, get_or, pos, w64, FitsSigned, to_z-of_z}
use Rattle.opening.specs.Inside.{starts_below, starts_above, starts_next}
use Rattle.opening.proofs.each_inside.Goals as goal
use Rattle.opening.proofs.each_inside.Goals.{then-v-lo-via-then-v-lo, then-v-lo-via-else-v-lo+then-hi-v}

-- the value is below its lower bound, or above its upper one
pub returns-then-v-lo : goal.returns-then-v-lo
returns-then-v-lo c =
    let a = c.args in
    let i = c.loop-i.i in
    let p = c.requires in
    let v : FitsSigned w64 (get_or a.values.now i (pos 0)) = search rules in
    let lo : FitsSigned w64 (get_or a.lower.now i (pos 0)) = search rules in
    let hi : FitsSigned w64 (get_or a.upper.now i (pos 0)) = search rules in
    elim c.then-v-lo.branch [
      | then-v-lo-via-then-v-lo w ↦ sym (c.loop-i.invariant p.0 p.1
          ∙ starts_below a.values.now a.lower.now a.upper.now p.0 p.1 i c.loop-i-test.true (rw (to_z-of_z v, to_z-of_z lo) at w.if-v-lo.true))
      | then-v-lo-via-else-v-lo+then-hi-v w ↦ sym (c.loop-i.invariant p.0 p.1
          ∙ starts_above a.values.now a.lower.now a.upper.now p.0 p.1 i c.loop-i-test.true (rw (to_z-of_z v, to_z-of_z lo) at w.if-v-lo.false)
          (rw (to_z-of_z hi, to_z-of_z v) at w.if-hi-v.true))
    ]

-- it is inside
pub loop-i-preserved : goal.loop-i-preserved
loop-i-preserved c =
    let a = c.args in
    let i = c.loop-i.i in
    let v : FitsSigned w64 (get_or a.values.now i (pos 0)) = search rules in
    let lo : FitsSigned w64 (get_or a.lower.now i (pos 0)) = search rules in
    let hi : FitsSigned w64 (get_or a.upper.now i (pos 0)) = search rules in
    λ lows highs. c.loop-i.invariant lows highs
    ∙ starts_next a.values.now a.lower.now a.upper.now lows highs i c.loop-i-test.true (rw (to_z-of_z v, to_z-of_z lo) at c.if-v-lo.false)
    (rw (to_z-of_z hi, to_z-of_z v) at c.if-hi-v.false)
