-- A turn of the loop over the keys, and its ends.
use Rattle.std.proofs.Common.{refl, arith}
use Rattle.cells.specs.Cells.{cells}
use Rattle.operation.specs.Body.{each}
use Rattle.shape_keys.specs.Marked.{marked_on, marked_no, marked_end}
use Rattle.shape_keys.proofs.distinct.Goals as goal

pub loop-i-init : goal.loop-i-init
unfolding each
loop-i-init c = record { few = omega arith; room = refl; different = refl; each_set = λ j h. absurd (omega arith) }

pub loop-i-preserved : goal.loop-i-preserved
loop-i-preserved c =
    let a = c.args in
    let i = c.loop-i in
    let m = c.mark_of-m in
    marked_on a.width a.count (cells a.rows.now) c.requires.0 i.marks i.i i.invariant c.loop-i-test.true c.get-key.result m.result c.get-key.ensures
    m.ensures.0 m.ensures.1 c.is_new.result c.is_new.ensures c.if-not-is_new.false

pub returns-then-not-is_new : goal.returns-then-not-is_new
returns-then-not-is_new c =
    let a = c.args in
    let i = c.loop-i in
    let m = c.mark_of-m in
    marked_no a.width a.count (cells a.rows.now) c.requires.0 i.marks i.i i.invariant c.loop-i-test.true c.get-key.result m.result c.get-key.ensures
    m.ensures.0 m.ensures.1 c.is_new.result c.is_new.ensures c.if-not-is_new.true

pub returns : goal.returns
returns c =
    let a = c.args in
    let i = c.loop-i in
    marked_end a.width a.count (cells a.rows.now) c.requires.0 i.marks i.i i.invariant c.loop-i-test.false
