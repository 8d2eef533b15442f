-- Where nothing is missing, the bits of both bounds are those of the widest, and these hold every value.
use Rattle.std.proofs.Common.{◌∙◌, ap, arith, of_z, to_z-of_z, w64}
use Rattle.opening.specs.Inside.{none_of, lower-widest, upper-widest, in_widest}
use Rattle.opening.proofs.short_of_widest.Goals as goal

pub returns : goal.returns
returns c =
    let low = c.unsigned in
    let high = c.unsigned-2 in
    let below = c.wrapping_sub_u64-below in
    let above = c.wrapping_sub_u64-above in
    let low_bits = low.ensures ∙ ap (of_z w64) (to_z-of_z c.ranges.lower) in
    let high_bits = high.ensures ∙ ap (of_z w64) (to_z-of_z c.ranges.upper) in
    λ e.
    (let none = none_of below.result above.result e in
    in_widest c.args.value c.args.lower c.args.upper c.ranges.value
    (lower-widest c.args.lower c.ranges.lower low.result below.result low_bits none.0 below.ensures.value)
    (upper-widest c.args.upper c.ranges.upper high.result above.result (omega arith) high_bits none.1 above.ensures.value))
