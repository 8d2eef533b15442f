-- From what the three stores ensure.
use Rattle.std.proofs.Common.{arith}
use Rattle.versions_close.specs.Dropped.{dropped_stores}
use Rattle.versions_close.proofs.drop_version.Goals as goal

pub returns : goal.returns
returns c =
    let a = c.args in
    dropped_stores a.readers a.j a.block.now c.move_down.new.area c.fill_zero.new.area c.put.new.area c.requires.0 c.requires.1 c.move_down.ensures c.fill_zero.ensures c.get-count.result c.get-count.ensures
    c.put.ensures.cell (omega arith) (λ i. (c.type_inv.block i).fits)
