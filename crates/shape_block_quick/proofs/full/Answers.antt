-- A turn asks one reader more, and at the end the oldest serves every open reader: `climbed_next` and `climbed_end`.
use Rattle.std.proofs.Common.{◌-◌, arith}
use Rattle.cells.specs.Cells.{cells}
use Rattle.shape_block_quick.specs.Quick.{climbed_next, climbed_end}
use Rattle.shape_block_quick.proofs.full.Goals as goal

pub loop-k-preserved : goal.loop-k-preserved
loop-k-preserved c =
    let a = c.args in
    let i = c.loop-k in
    climbed_next a.d.now (cells a.block.now) a.low a.count i.k i.held i.invariant (omega arith) (a.count - i.k) c.sees-held.result c.sees-held.ensures

pub returns : goal.returns
returns c =
    let a = c.args in
    let i = c.loop-k in
    let v = c.requires.versions in
    let last = c.get in
    let newest = c.get-2 in
    let z = rw c.width.ensures at c.cells_zero.ensures in
    climbed_end a.readers a.timestamp a.block.now c.requires.size a.count v.0 v.1 v.2 a.d.now a.low i.held i.k (omega arith) i.invariant
    last.result newest.result last.ensures newest.ensures c.cells_zero.result z
