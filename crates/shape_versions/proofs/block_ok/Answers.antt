-- With one version a law for each branch.
use Rattle.std.proofs.Common.{sym, arith}
use Rattle.cells.specs.Cells.{cells}
use Rattle.versions.proofs.BlockLoops.{ok-single, ok_single-no}
use Rattle.shape_versions.proofs.block_ok.Goals as goal

pub returns-then-get-b : goal.returns-then-get-b
returns-then-get-b c =
    let a = c.args in
    let k = c.get in
    let f = c.get-then-get-eq1 in
    let z = rw c.width.ensures at c.cells_zero.ensures in
    let single =
    ok-single a.b.readers a.b.timestamp (cells a.b.snapshots.now) a.block.now c.requires k.result k.ensures (omega arith) (omega arith) f.result f.ensures
    c.if-get-eq1.true a.b.low a.b.least (omega arith) c.cells_zero.result z in
    sym single

pub returns-then-get-eq1 : goal.returns-then-get-eq1
returns-then-get-eq1 c =
    let a = c.args in
    let k = c.get in
    let f = c.get-then-get-eq1 in
    let no =
    ok_single-no a.b.readers a.b.timestamp (cells a.b.snapshots.now) a.block.now c.requires k.result k.ensures (omega arith) (omega arith) f.result f.ensures
    c.if-get-eq1.true a.b.low a.b.least (omega arith) in
    sym no
