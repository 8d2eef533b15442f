use Rattle.std.proofs.Common.{length, arith}
use Rattle.cells.specs.Cells.{cells}
use Rattle.rows.specs.Loading.{filling-all}
use Rattle.rows.proofs.load_entries.Goals as goal

pub returns : goal.returns
returns c =
    let l = c.loop-i in
    filling-all (cells c.args.row.now) c.args.from l.i (length c.args.entries.now) l.entries (omega arith) (omega arith) l.invariant
