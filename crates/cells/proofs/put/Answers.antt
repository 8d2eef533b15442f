-- The part that `put_word` was lent came back as the bytes of v.
use Rattle.std.proofs.Common.{◌*◌, ◌+◌, ◌-◌, arith}
use Rattle.cells.specs.Splice.{splice-back}
use Rattle.cells.specs.CellLaws.{put_whole}
use Rattle.cells.proofs.put.Goals as goal

pub returns : goal.returns
returns c =
    let a = c.args in
    put_whole a.area.now a.cell a.v (omega arith) (omega arith) _
    (splice-back a.area.now _ _ (a.cell * 8) (a.cell * 8 + 8 - a.cell * 8) c.put_word.ensures (omega arith))
