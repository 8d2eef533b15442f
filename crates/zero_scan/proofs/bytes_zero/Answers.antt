-- One turn of the scan: `scan_step` at the bytes.
use Rattle.std.proofs.Common.{◌∙◌, arith}
use Rattle.cells.specs.Zeros.{scan_step}
use Rattle.zero_scan.proofs.bytes_zero.Goals as goal

pub loop-i-preserved : goal.loop-i-preserved
loop-i-preserved c =
    let i = c.loop-i in
    let a = c.args in
    i.invariant ∙ scan_step a.area.now i.seen i.i a.to (omega arith) (omega arith)
