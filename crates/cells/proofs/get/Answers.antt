-- The eight bytes from cell * 8 on are the cell.
use Rattle.std.proofs.Common.{◌∙◌, sym, arith}
use Rattle.cells.specs.CellLaws.{get_or-cells}
use Rattle.cells.proofs.get.Goals as goal

pub returns : goal.returns
returns c = c.load.ensures ∙ sym (get_or-cells c.args.area.now c.args.cell (omega arith))
