-- One version below every open reader's cell: `single_sound`.
use Rattle.std.proofs.Common.{arith}
use Rattle.shape_block_quick.specs.Quick.{single_sound}
use Rattle.shape_block_quick.proofs.single.Goals as goal

pub returns-then-get-low : goal.returns-then-get-low
returns-then-get-low c =
    let a = c.args in
    let z = rw c.width.ensures at c.cells_zero.ensures in
    single_sound a.readers a.block.now c.requires.0 c.requires.1 c.get.result c.get.ensures a.low (omega arith) c.cells_zero.result z
