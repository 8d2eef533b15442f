-- The digits that `io::decimal` makes are the numeral.
use Rattle.std.proofs.Common.{◌∙◌, arith}
use Rattle.text.specs.Numerals.{unsigned_numeral}
use Rattle.text.specs.NumeralLaws.{digits-spelt}
use Rattle.text.proofs.buffer.Text.put_unsigned.Goals as goal

pub returns : goal.returns
unfolding unsigned_numeral
returns c =
    let made = c.decimal-k.ensures in
    let e = made.digits ∙ digits-spelt c.decimal-k.result 20 _ (omega arith) (omega arith) made.len in
    rw (← e) c.put.ensures
