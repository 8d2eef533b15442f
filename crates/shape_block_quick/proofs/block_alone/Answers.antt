-- A law for each way out.
use Rattle.std.proofs.Common.{arith}
use Rattle.shape_block_quick.specs.Quick.{alone-one, alone-late, alone-many}
use Rattle.shape_block_quick.proofs.block_alone.Goals as goal

pub returns-then-get-timestamp : goal.returns-then-get-timestamp
returns-then-get-timestamp c =
    let a = c.args in
    let k = c.get in
    let f = c.get-then-get-eq1 in
    let z = rw c.width.ensures at c.cells_zero.ensures in
    alone-one a.readers a.timestamp a.block.now c.requires k.result k.ensures (omega arith) f.result f.ensures (omega arith) c.cells_zero.result z

pub returns-else-get-timestamp : goal.returns-else-get-timestamp
returns-else-get-timestamp c =
    let a = c.args in
    let k = c.get in
    let f = c.get-then-get-eq1 in
    alone-late a.readers a.timestamp a.block.now c.requires k.result k.ensures (omega arith) f.result f.ensures (omega arith)

pub returns-else-get-eq1 : goal.returns-else-get-eq1
returns-else-get-eq1 c = alone-many c.args.readers c.args.timestamp c.args.block.now c.requires c.get.result c.get.ensures c.if-get-eq1.false
