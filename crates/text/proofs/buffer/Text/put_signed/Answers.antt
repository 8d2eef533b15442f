-- Below 0 the distance from 0 stands behind a minus sign.
use Rattle.std.proofs.Common.{ℕ, ◌∷◌, ap, ◌∙◌, to_z-of_z}
use Rattle.text.specs.Numerals.{unsigned_numeral}
use Rattle.text.specs.NumeralLaws.{puts-follows, follows-both, numeral-below, numeral-above}
use Rattle.text.proofs.buffer.Text.put_signed.Goals as goal
use Rattle.text.proofs.buffer.Text.put_signed.Goals.{then-v-lt0, else-v-lt0}

pub returns : goal.returns
returns c =
    let distance = rw (to_z-of_z c.ranges.v) at c.magnitude-distance.ensures in
    elim c.if-v-lt0.branch [
      | then-v-lt0 w ↦
          let spelt = ap (λ (n : ℕ). 45 ∷ unsigned_numeral n) distance ∙ numeral-below c.args.v (rw (to_z-of_z c.ranges.v) at w.if-v-lt0.true) in
          rw (← spelt) (follows-both (puts-follows w.put.ensures) (puts-follows (rw w.self-is at c.put_unsigned.ensures)))
      | else-v-lt0 w ↦
          let spelt = ap unsigned_numeral distance ∙ numeral-above c.args.v (rw (to_z-of_z c.ranges.v) at w.if-v-lt0.false) in
          rw (← spelt) (puts-follows (rw w.self-is at c.put_unsigned.ensures))
    ]
