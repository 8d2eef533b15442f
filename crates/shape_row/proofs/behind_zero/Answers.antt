-- A row ends with its last entry.
use Rattle.std.proofs.Common.{◌∙◌}
use Rattle.layout.specs.Offsets.{entry_at}
use Rattle.shape_row.specs.RowScan.{cells_of}
use Rattle.shape_row.specs.RowTests.{zeros-rest}
use Rattle.shape_row.proofs.behind_zero.Goals as goal

pub returns : goal.returns
returns c =
    let a = c.args in
    rw c.row_cells.ensures at c.cells_zero.ensures ∙ zeros-rest a.row.now (cells_of a.most) (entry_at a.count) c.requires.0
