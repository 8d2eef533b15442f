-- Both tests of `inside`, on the bounds as they are read.
use Rattle.std.proofs.Common.{w64, FitsSigned, to_z-of_z}
use Rattle.std.proofs.Common.{rules}
use Rattle.execution.specs.Bounds.{inside}
use Rattle.execution.proofs.allows.Goals as goal

pub returns : goal.returns
unfolding inside
returns c =
    let low : FitsSigned w64 c.get_signed-low.result = search rules in
    let high : FitsSigned w64 c.get_signed-high.result = search rules in
    rw (to_z-of_z low, to_z-of_z high, to_z-of_z c.ranges.value, c.get_signed-low.ensures, c.get_signed-high.ensures)
