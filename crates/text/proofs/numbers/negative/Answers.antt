-- 0 less n, which wraps, are the bits of -n.
use Rattle.std.proofs.Common.{pos, neg_ℤ, Some, ap, ◌∙◌, rules}
use Rattle.cells.specs.Signed.{told}
use Rattle.text.specs.Numbers.{integer_of, negative_of}
use Rattle.text.specs.NumberLaws.{at_most, negated}
use Rattle.text.proofs.numbers.negative.Goals as goal

pub returns-in_err-n : goal.returns-in_err-n
unfolding negative_of
returns-in_err-n c = c.from_residual.ensures ∙ ap (integer_of (λ n. neg_ℤ (pos n))) c.in_err-n.ensures

pub returns : goal.returns
unfolding negative_of
returns c =
    let e = c.in_ok-n.ensures in
    ap Some (told c.cast_signed.type_inv (c.cast_signed.ensures ∙ negated _ _ (at_most 9223372036854775808 _ c.args.digits.now e) (search rules) c.wrapping_neg.ensures))
    ∙ ap (integer_of (λ n. neg_ℤ (pos n))) e
