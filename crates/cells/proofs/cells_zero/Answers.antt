-- One turn of the scan: `scan_step` at the cells.
use Rattle.std.proofs.Common.{◌∙◌, arith}
use Rattle.cells.specs.Cells.{cells}
use Rattle.cells.specs.CellLaws.{length-cells}
use Rattle.cells.specs.Zeros.{scan_step}
use Rattle.cells.proofs.cells_zero.Goals as goal

pub loop-cell-preserved : goal.loop-cell-preserved
loop-cell-preserved c =
    let a = c.args in
    let l = c.loop-cell in
    rw c.get-seen.ensures (l.invariant ∙ scan_step (cells a.area.now) l.seen l.cell a.to (omega arith) (omega (arith, length-cells a.area.now)))
