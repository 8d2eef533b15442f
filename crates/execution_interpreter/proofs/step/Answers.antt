-- Each way out is a law of execution_effects/specs/OneOperation or what a callee ensures; a value read back from its bits is itself.
use Rattle.std.proofs.Common.{◌≡◌, true, false, List, ℕ, ℤ, rules, w64, pos, get_or, FitsSigned, to_z-of_z}
use Rattle.std.specs.Int.Signed.{lt_z}
use Rattle.cells.specs.Cells.{cells}
use Rattle.operation.specs.Body.{register_count}
use Rattle.operation.specs.declared.Operation.TheVariants.{Skip}
use Rattle.execution.specs.Run.{object_count, go, failed, register, move}
use Rattle.execution.specs.LentTable.{lent_table, lent_beside}
use Rattle.execution_effects.specs.OneOperation.{settled-sum, went, halted}
use Rattle.execution_interpreter.proofs.step.Goals as goal

-- ---- a skip, by the sign of its register

skip_below : (g : List ℤ) (r k : ℕ) → lt_z (register g r) (pos 0) ≡ true → move (Skip r k) g ≡ go g k
unfolding move
skip_below g r k e = rw e

skip-not-below : (g : List ℤ) (r k : ℕ) → lt_z (register g r) (pos 0) ≡ false → move (Skip r k) g ≡ go g 0
unfolding move
skip-not-below g r k e = rw e

-- ---- the ways out

pub returns-in-Load-clause-run : goal.returns-in-Load-clause-run
unfolding move
returns-in-Load-clause-run c =
    let a = c.args in
    rw c.in-Load.is (c.load.ensures.run (lent_beside (object_count a.table.now) a.objects (cells a.area.now)))

pub returns-in-Store-clause-run : goal.returns-in-Store-clause-run
unfolding move register_count
returns-in-Store-clause-run c =
    let a = c.args in
    let limits = rw c.in-Store.is at c.requires.counter_lt_capacity.1 in
    rw c.in-Store.is (c.store.ensures.run (object_count a.table.now) a.table.now a.reads.now limits.1)

pub returns-in-Set-clause-run : goal.returns-in-Set-clause-run
unfolding move
returns-in-Set-clause-run c =
    let a = c.args in
    let f : FitsSigned w64 c.in-Set.v = search rules in
    rw (c.in-Set.is, rw (to_z-of_z f) at c.assign.ensures.registers)
    (went (lent_table a.table.now a.objects (cells a.area.now)) a.c a.registers.now a.reads.now a.writes.now 0 c.assign.result _ c.assign.ensures.counts)

pub returns-in-Add-clause-run : goal.returns-in-Add-clause-run
unfolding move
returns-in-Add-clause-run c =
    let a = c.args in
    let f : FitsSigned w64 (get_or a.registers.now c.in-Add.r (pos 0)) = search rules in
    let h : FitsSigned w64 (get_or a.registers.now c.in-Add.s (pos 0)) = search rules in
    rw c.in-Add.is
    (rw (c.add-x.ensures, to_z-of_z f, to_z-of_z h, settled-sum) at (c.settle.ensures.run (lent_table a.table.now a.objects (cells a.area.now)) a.reads.now a.writes.now))

pub returns-in-Subtract-clause-run : goal.returns-in-Subtract-clause-run
unfolding move
returns-in-Subtract-clause-run c =
    let a = c.args in
    let f : FitsSigned w64 (get_or a.registers.now c.in-Subtract.r (pos 0)) = search rules in
    let h : FitsSigned w64 (get_or a.registers.now c.in-Subtract.s (pos 0)) = search rules in
    rw c.in-Subtract.is
    (rw (c.subtract-x.ensures, to_z-of_z f, to_z-of_z h, settled-sum) at (c.settle-in-Subtract.ensures.run (lent_table a.table.now a.objects (cells a.area.now)) a.reads.now a.writes.now))

pub returns-then-registers-r-lt0-clause-run : goal.returns-then-registers-r-lt0-clause-run
returns-then-registers-r-lt0-clause-run c =
    let a = c.args in
    let f : FitsSigned w64 (get_or a.registers.now c.in-Skip.r (pos 0)) = search rules in
    rw (c.in-Skip.is, skip_below a.registers.now c.in-Skip.r c.in-Skip.k (rw (to_z-of_z f) at c.if-registers-r-lt0.true))
    (went (lent_table a.table.now a.objects (cells a.area.now)) a.c a.registers.now a.reads.now a.writes.now _ c.advance.result a.registers.now c.advance.ensures)

pub returns-else-registers-r-lt0-clause-run : goal.returns-else-registers-r-lt0-clause-run
returns-else-registers-r-lt0-clause-run c =
    let a = c.args in
    let s = c.advance-else-registers-r-lt0 in
    let f : FitsSigned w64 (get_or a.registers.now c.in-Skip.r (pos 0)) = search rules in
    rw (c.in-Skip.is, skip-not-below a.registers.now c.in-Skip.r c.in-Skip.k (rw (to_z-of_z f) at c.if-registers-r-lt0.false))
    (went (lent_table a.table.now a.objects (cells a.area.now)) a.c a.registers.now a.reads.now a.writes.now 0 s.result a.registers.now s.ensures)

pub returns-in-Fail-clause-run : goal.returns-in-Fail-clause-run
unfolding move
returns-in-Fail-clause-run c =
    let a = c.args in
    rw c.in-Fail.is (halted (lent_table a.table.now a.objects (cells a.area.now)) a.c a.registers.now a.reads.now a.writes.now failed c.stop.result c.stop.ensures)

pub returns-in-Divide-clause-run : goal.returns-in-Divide-clause-run
unfolding move
returns-in-Divide-clause-run c =
    let a = c.args in
    let f : FitsSigned w64 (get_or a.registers.now c.in-Divide.r (pos 0)) = search rules in
    let h : FitsSigned w64 c.divide-x.result = search rules in
    rw (c.in-Divide.is, rw (to_z-of_z h, c.divide-x.ensures, to_z-of_z f) at c.assign-in-Divide.ensures.registers)
    (went (lent_table a.table.now a.objects (cells a.area.now)) a.c a.registers.now a.reads.now a.writes.now 0 c.assign-in-Divide.result _ c.assign-in-Divide.ensures.counts)
