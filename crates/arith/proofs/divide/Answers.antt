-- The three steps of `quotient`.
use Rattle.std.proofs.Common.{rules, w64, FitsSigned, to_z-of_z}
use Rattle.arith.specs.Integer.{quotient}
use Rattle.arith.proofs.IntegerLaws.{rounded-le}
use Rattle.arith.proofs.divide.Goals as goal

pub on_side-requires : goal.on_side-requires
on_side-requires c = rw (c.divide_magnitude.ensures, c.unsigned_abs.ensures.value) (rounded-le _ c.args.d c.requires.0)

pub returns : goal.returns
unfolding quotient
returns c =
    let f : FitsSigned w64 c.on_side.result = search rules in
    rw (to_z-of_z f, c.on_side.ensures, c.divide_magnitude.ensures, c.unsigned_abs.ensures.value, to_z-of_z c.ranges.x)
