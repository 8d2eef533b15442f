-- A turn of the loop over the places, and its end.
use Rattle.std.proofs.Common.{◌-◌, ◌+◌, ◌*◌, leb, drop, arith}
use Rattle.cells.specs.Cells.{cells}
use Rattle.versions_close.specs.Closing.{seen}
use Rattle.versions_close.specs.Seen.{seen_next, seen_end, byte_le}
use Rattle.versions_close.proofs.not_seen.Goals as goal

pub loop-i-preserved : goal.loop-i-preserved
loop-i-preserved c =
    let a = c.args in
    let i = c.loop-i in
    let bc = cells a.block.now in
    record {
      counted = omega (arith, c.from-j.ensures, byte_le (leb a.c c.get.result));
      whole = rw c.from-j.ensures (seen_next a.c a.readers i.i i.j bc (seen a.c a.readers (drop 1 bc)) i.invariant.whole c.loop-i-test.true c.get.result c.get.ensures);
    }

pub returns : goal.returns
returns c =
    let a = c.args in
    let i = c.loop-i in
    (omega (arith, i.invariant.whole, seen_end a.c (a.readers - i.i) (drop (1 + 2 * i.i) (cells a.block.now)) (omega arith)), omega arith)
