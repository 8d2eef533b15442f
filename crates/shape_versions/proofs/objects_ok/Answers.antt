-- Closed readers are as none: `blocks-closed`.
use Rattle.std.proofs.Common.{◌≡◌, true, sym, ap, ◌∙◌}
use Rattle.cells.specs.Cells.{cells}
use Rattle.cells.specs.CellLaws.{cells_rest}
use Rattle.cells.specs.Zeros.{zeros}
use Rattle.shape_versions.specs.ClosedReaders.{blocks-closed}
use Rattle.shape_versions.proofs.objects_ok.Goals as goal

pub returns-then-cells_zero : goal.returns-then-cells_zero
returns-then-cells_zero c =
    let a = c.args in
    let rc = cells a.snapshots.now in
    let closed : zeros rc ≡ true = sym (ap zeros (cells_rest a.readers a.snapshots.now c.requires.lent.reader_cells 0)) ∙ sym c.cells_zero.ensures ∙ c.if-cells_zero.true in
    c.objects_alone.ensures ∙ sym (blocks-closed a.readers a.timestamp rc a.n (cells a.blocks.now) closed)
