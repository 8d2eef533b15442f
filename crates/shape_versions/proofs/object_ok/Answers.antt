-- Where the block passes the bounds decide, else the block does.
use Rattle.std.proofs.Common.{sym, ◌∙◌}
use Rattle.cells.specs.Cells.{cells}
use Rattle.shape_versions_quick.specs.ObjectTests.{object-no, object-by, object-room, object-some}
use Rattle.shape_versions.proofs.object_ok.Goals as goal

pub bounds_ok-requires-clause-versions : goal.bounds_ok-requires-clause-versions
bounds_ok-requires-clause-versions c =
    let a = c.args in
    let rc = cells a.b.snapshots.now in
    let w = c.width-end in
    let ok = sym c.block_ok.ensures ∙ c.if-block_ok.true in
    (object-some a.b.readers a.object.now w.result w.ensures a.b.timestamp rc ok, object-room a.b.readers a.object.now w.result w.ensures a.b.timestamp rc ok)

pub returns-then-block_ok : goal.returns-then-block_ok
returns-then-block_ok c =
    let a = c.args in
    let w = c.width-end in
    let ok = sym c.block_ok.ensures ∙ c.if-block_ok.true in
    c.bounds_ok.ensures ∙ sym (object-by a.b.readers a.object.now w.result w.ensures a.b.timestamp (cells a.b.snapshots.now) ok)

pub returns : goal.returns
returns c =
    let a = c.args in
    let w = c.width-end in
    sym (object-no a.b.readers a.object.now w.result w.ensures a.b.timestamp (cells a.b.snapshots.now) (sym c.block_ok.ensures ∙ c.if-block_ok.false))
