-- Each part is stored right behind the one before.
use Rattle.std.proofs.Common.{arith}
use Rattle.cells.specs.Cells.{cells}
use Rattle.cells.specs.CellLaws.{length-cells}
use Rattle.operation.specs.Body.{register_count}
use Rattle.rows.specs.Storing.{front-stored}
use Rattle.rows.proofs.store_front.Goals as goal

pub returns : goal.returns
unfolding register_count
returns c =
    let a = c.args in
    front-stored a.t a.registers.now (omega arith) (cells a.row.now) (omega (arith, length-cells a.row.now, c.requires.0))
    (cells c.put.new.area) (cells c.put-2.new.area) (cells c.store_registers.new.row) (cells c.put-3.new.area) (cells c.put-4.new.area)
    c.put.ensures.cell c.put-2.ensures.cell c.store_registers.ensures c.put-3.ensures.cell c.put-4.ensures.cell
