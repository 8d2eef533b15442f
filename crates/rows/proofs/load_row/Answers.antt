use Rattle.std.proofs.Common.{ap₂, ◌-◌, arith}
use Rattle.cells.specs.Cells.{cells}
use Rattle.rows.specs.Loading.{loaded, loaded_front, loaded_room}
use Rattle.rows.proofs.load_row.Goals as goal

pub returns : goal.returns
returns c =
    let cs = cells c.args.row.now in
    let a = c.args in
    let r = c.get-first.result in
    let w = c.get-total.result - r in
    let rs = c.load_entries in
    let ws = c.load_entries-2 in
    loaded cs _ c.load_registers.new.registers _ _ c.get-counter.ensures c.get-outcome.ensures c.get-first.ensures
    (ap₂ ◌-◌ c.get-total.ensures c.get-first.ensures) c.load_registers.ensures
    (loaded_front cs 0 r rs.new.entries a.reads.now (omega arith) rs.ensures) (loaded_front cs r w ws.new.entries a.writes.now (omega arith) ws.ensures)
    (record { reads = omega arith; writes = omega arith })
    (loaded_room cs 0 r rs.new.entries a.reads.now (omega arith) rs.ensures (omega arith)) (loaded_room cs r w ws.new.entries a.writes.now (omega arith) ws.ensures (omega arith))
