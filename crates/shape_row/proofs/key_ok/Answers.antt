-- A law for each answer.
use Rattle.std.proofs.Common.{sym}
use Rattle.cells.specs.Cells.{cells}
use Rattle.shape_row.specs.RowTests.{key-high, key-low}
use Rattle.shape_row.proofs.key_ok.Goals as goal

pub returns-then-client : goal.returns-then-client
returns-then-client c =
    let a = c.args in
    sym (key-high (cells a.lasts.now) a.key c.if-client.true)

pub returns : goal.returns
returns c =
    let a = c.args in
    key-low (cells a.lasts.now) a.key c.if-client.false c.get.result c.get.ensures
