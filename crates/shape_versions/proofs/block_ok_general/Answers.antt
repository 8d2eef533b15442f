-- A law for each branch.
use Rattle.std.proofs.Common.{sym, ◌∙◌, arith}
use Rattle.cells.specs.Cells.{cells}
use Rattle.versions.proofs.BlockLoops.{ok-none, ok-many, ok-late, ok-used, ok-chain}
use Rattle.shape_versions.proofs.block_ok_general.Goals as goal

pub returns-then-count-eq0 : goal.returns-then-count-eq0
returns-then-count-eq0 c =
    let a = c.args in
    let k = c.get-count in
    sym (ok-none a.b.readers a.b.timestamp (cells a.b.snapshots.now) a.block.now c.requires k.result k.ensures (omega arith))

pub returns-then-b-count : goal.returns-then-b-count
returns-then-b-count c =
    let a = c.args in
    let k = c.get-count in
    sym (ok-many a.b.readers a.b.timestamp (cells a.b.snapshots.now) a.block.now c.requires k.result k.ensures (omega arith))

pub returns-then-b-get : goal.returns-then-b-get
returns-then-b-get c =
    let a = c.args in
    let k = c.get-count in
    let f = c.get in
    sym (ok-late a.b.readers a.b.timestamp (cells a.b.snapshots.now) a.block.now c.requires k.result k.ensures (omega arith) (omega arith) f.result f.ensures (omega arith))

pub returns-then-cells_zero : goal.returns-then-cells_zero
returns-then-cells_zero c =
    let a = c.args in
    let k = c.get-count in
    let f = c.get in
    let z = c.cells_zero in
    let behind = rw c.width.ensures at z.ensures in
    let chain =
    ok-chain a.b.readers a.b.timestamp (cells a.b.snapshots.now) a.block.now c.requires k.result k.ensures (omega arith) (omega arith) f.result f.ensures
    z.result behind c.if-cells_zero.true (omega arith) a.b.low a.b.least in
    c.chain_ok.ensures ∙ sym chain

pub returns-else-cells_zero : goal.returns-else-cells_zero
returns-else-cells_zero c =
    let a = c.args in
    let k = c.get-count in
    let f = c.get in
    let z = c.cells_zero in
    let behind = rw c.width.ensures at z.ensures in
    let used =
    ok-used a.b.readers a.b.timestamp (cells a.b.snapshots.now) a.block.now c.requires k.result k.ensures (omega arith) (omega arith) f.result f.ensures
    z.result behind c.if-cells_zero.false in
    sym used
