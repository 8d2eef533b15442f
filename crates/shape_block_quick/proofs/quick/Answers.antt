-- A turn finds the next version held, and at the end the last is held by the earliest open reader, or by none: `walked_next` and `walked_end`.
use Rattle.std.proofs.Common.{◌≡◌, ◌+◌, ◌*◌, ◌-◌, arith}
use Rattle.cells.specs.Cells.{cells}
use Rattle.shape_block_quick.specs.Quick.{walked_next, walked_end}
use Rattle.shape_block_quick.proofs.quick.Goals as goal

pub loop-k-preserved : goal.loop-k-preserved
loop-k-preserved c =
    let a = c.args in
    let i = c.loop-k in
    let s = c.get-s in
    let t = c.down-i in
    record {
      reader = omega arith;
      older = omega arith;
      walked = walked_next a.d.now.places (cells a.block.now) a.low a.count i.upper i.k s.result t.result i.invariant.walked (omega arith) s.ensures (omega arith) (omega arith);
    }

pub returns : goal.returns
returns c =
    let a = c.args in
    let i = c.loop-k in
    let v = c.requires.versions in
    let f = c.get-newest in
    let s = c.get in
    let z = rw c.width.ensures at c.cells_zero.ensures in
    let last : 2 * a.count - 1 ≡ 1 + 2 * i.k = omega arith in
    walked_end a.readers a.timestamp a.block.now c.requires.size a.count v.0 v.1 v.2 f.result f.ensures c.cells_zero.result z a.d.now.places a.low
    i.upper i.k s.result i.invariant.walked (omega arith) i.invariant.older (rw last at s.ensures)
