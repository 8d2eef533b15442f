-- The front from `keep_held`, zeros behind it, and the count in front.
use Rattle.std.proofs.Common.{◌∷◌, drop, arith}
use Rattle.cells.specs.Cells.{cells}
use Rattle.versions_push.specs.Push.{rebuilt}
use Rattle.versions_push.specs.Trimmed.{trim_cells}
use Rattle.versions_push.proofs.rebuild.Goals as goal

pub returns : goal.returns
returns c =
    let a = c.args in
    let k = c.keep_held-end in
    let f = c.fill_zero in
    let p = c.put in
    rebuilt a.readers k.result a.block.now k.new.block f.new.area p.new.area (a.stamp ∷ a.value ∷ trim_cells (cells a.snapshots.now) a.stamp a.count (drop a.start (cells a.block.now)))
    c.requires.lent.block_cells k.ensures.size (omega arith) (omega arith) k.ensures.front (rw c.width-to.ensures at f.ensures) (λ i. (c.type_inv.block i).fits) (omega arith) p.ensures.cell
