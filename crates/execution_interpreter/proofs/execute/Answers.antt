-- Before and after each operation the laws of specs/Budget hold; the body's operations are valid since it is well formed.
use Rattle.std.proofs.Common.{◌≡◌, true, List, ℕ, ◌+◌, ◌-◌, ◌≤◌, ◌<◌, ap, arith}
use Rattle.cells.specs.Cells.{cells}
use Rattle.operation.specs.Body.{size, operation_at, operations, is_well_formed}
use Rattle.operation.proofs.BodyLaws.{formed, valid_at}
use Rattle.operation.specs.declared.Operation.{Operation}
use Rattle.execution.specs.declared.Counts.{Counts}
use Rattle.execution.specs.Run.{Table, object_count, apply, move, Run}
use Rattle.execution.specs.LentTable.{lent_table}
use Rattle.execution.specs.Arrays.{capacity, run_of_arrays}
use Rattle.execution_interpreter.specs.Executes.{Executes}
use Rattle.execution_interpreter.specs.Budget.{Going, at-end, spent, next, rewritten, apply-outcome, ended-stopped, ended-size, due-here, valid_more}
use Rattle.execution_interpreter.proofs.execute.Goals as goal

-- after operation x of the body b the invariant holds but for the outcome, which is one of four
after : (T : Table) (b : List ℕ) (budget : ℕ) (first p q : Run) (used : ℕ) (x : Operation) → Going T (operations b) budget first used p → p.outcome ≡ 0
    → used < budget → p.counter < size b → x ≡ operation_at b p.counter → q ≡ apply T (move x p.registers) p
    → Going T (operations b) budget first (used + 1) q × (q.outcome ≤ 3)
after T b budget first p q used x g z h l e f =
    let d = rw e at f in (
      next T (operations b) budget first used p g (operation_at b p.counter) q h (due-here b p z l) d,
      apply-outcome T (move (operation_at b p.counter) p.registers) p q d,
    )

-- the end of a run that stopped early with outcome k
ended-early : (T : Table) (b : List ℕ) (budget : ℕ) (first q : Run) (used k : ℕ) → Going T (operations b) budget first used q → q.outcome ≡ k → 0 < k
    → Executes T (operations b) budget first (record { counter = q.counter; outcome = k; registers = q.registers; reads = q.reads; writes = q.writes }) used
ended-early T b budget first q used k g e h =
    rewritten T (operations b) budget first used q k e (at-end T (operations b) budget first used q g (ended-stopped (operations b) q (omega arith)))

-- a run past every place of a body has no operation left
none_past : {A : Type 0} (n : ℕ) (b : List ℕ) (from t : Counts) → is_well_formed capacity n b ≡ true → (capacity ≤ from.counter → t ≡ from) → t.counter < size b
    → capacity ≤ from.counter → A
none_past n b from t f stays l h =
    let m = (formed capacity n b f).most in
    let e = ap (λ (c : Counts). c.counter) (stays h) in
    absurd (omega arith)

pub bounds-body-0 : goal.bounds-body-0
bounds-body-0 c =
    let k = (formed capacity (object_count c.args.table.now) c.args.body.now c.requires.body_value.0).whole in omega arith

pub operation_at-op-requires : goal.operation_at-op-requires
operation_at-op-requires c =
    (c.if-size-t.false, (formed capacity (object_count c.args.table.now) c.args.body.now c.requires.body_value.0).whole)

pub step-t-requires-clause-counter_lt_capacity : goal.step-t-requires-clause-counter_lt_capacity
step-t-requires-clause-counter_lt_capacity c =
    let b = c.args.body.now in
    let i = c.loop-t.t.counter in
    let h = c.if-size-t.false in
    let n = object_count c.args.table.now in
    let m = (formed capacity n b c.requires.body_value.0).most in
    (omega arith, rw c.operation_at-op.ensures (valid_more n (size b - (i + 1)) capacity (operation_at b i) (omega arith) (valid_at capacity n b c.requires.body_value.0 i h)), c.requires.lent_2.1)

pub loop-t-preserved : goal.loop-t-preserved
loop-t-preserved c =
    let a = c.args in
    let l = c.loop-t in
    let T = lent_table a.table.now a.objects (cells a.area.now) in
    let first = run_of_arrays a.from a.registers.now a.reads.now a.writes.now in
    let here = run_of_arrays l.t l.registers l.reads l.writes in
    let s = c.step-t in
    let q = run_of_arrays s.result s.new.registers s.new.reads s.new.writes in
    let x = after T a.body.now a.budget first here q l.used c.operation_at-op.result l.invariant.going l.invariant.outcome c.if-budget-used.false c.if-size-t.false c.operation_at-op.ensures s.ensures.run in
    record { going = x.0; outcome = omega (arith, x.1); lent = s.ensures.lent; within = λ h. s.ensures.within; past = λ h. none_past (object_count a.table.now) a.body.now a.from l.t c.requires.body_value.0 l.invariant.past c.if-size-t.false h }

pub returns-then-size-t-clause-run : goal.returns-then-size-t-clause-run
returns-then-size-t-clause-run c =
    let a = c.args in
    let l = c.loop-t in
    let T = lent_table a.table.now a.objects (cells a.area.now) in
    let first = run_of_arrays a.from a.registers.now a.reads.now a.writes.now in
    let here = run_of_arrays l.t l.registers l.reads l.writes in
    let v = l.invariant in
    rewritten T (operations a.body.now) a.budget first l.used here 0 v.outcome
    (at-end T (operations a.body.now) a.budget first l.used here v.going (ended-size a.body.now here c.if-size-t.true))

pub returns-then-budget-used-clause-run : goal.returns-then-budget-used-clause-run
returns-then-budget-used-clause-run c =
    let a = c.args in
    let l = c.loop-t in
    let T = lent_table a.table.now a.objects (cells a.area.now) in
    let first = run_of_arrays a.from a.registers.now a.reads.now a.writes.now in
    let here = run_of_arrays l.t l.registers l.reads l.writes in
    let v = l.invariant in
    rewritten T (operations a.body.now) a.budget first l.used here 0 v.outcome
    (spent T (operations a.body.now) a.budget first l.used here v.going c.if-budget-used.true)

pub returns-then-t-eq1-clause-run : goal.returns-then-t-eq1-clause-run
returns-then-t-eq1-clause-run c =
    let a = c.args in
    let l = c.loop-t in
    let T = lent_table a.table.now a.objects (cells a.area.now) in
    let first = run_of_arrays a.from a.registers.now a.reads.now a.writes.now in
    let here = run_of_arrays l.t l.registers l.reads l.writes in
    let s = c.step-t in
    let q = run_of_arrays s.result s.new.registers s.new.reads s.new.writes in
    let x = after T a.body.now a.budget first here q l.used c.operation_at-op.result l.invariant.going l.invariant.outcome c.if-budget-used.false c.if-size-t.false c.operation_at-op.ensures s.ensures.run in
    ended-early T a.body.now a.budget first q (l.used + 1) 1 x.0 c.if-t-eq1.true (omega arith)

pub returns-then-t-eq2-clause-run : goal.returns-then-t-eq2-clause-run
returns-then-t-eq2-clause-run c =
    let a = c.args in
    let l = c.loop-t in
    let T = lent_table a.table.now a.objects (cells a.area.now) in
    let first = run_of_arrays a.from a.registers.now a.reads.now a.writes.now in
    let here = run_of_arrays l.t l.registers l.reads l.writes in
    let s = c.step-t in
    let q = run_of_arrays s.result s.new.registers s.new.reads s.new.writes in
    let x = after T a.body.now a.budget first here q l.used c.operation_at-op.result l.invariant.going l.invariant.outcome c.if-budget-used.false c.if-size-t.false c.operation_at-op.ensures s.ensures.run in
    ended-early T a.body.now a.budget first q (l.used + 1) 2 x.0 c.if-t-eq2.true (omega arith)

pub returns-then-t-eq3-clause-run : goal.returns-then-t-eq3-clause-run
returns-then-t-eq3-clause-run c =
    let a = c.args in
    let l = c.loop-t in
    let T = lent_table a.table.now a.objects (cells a.area.now) in
    let first = run_of_arrays a.from a.registers.now a.reads.now a.writes.now in
    let here = run_of_arrays l.t l.registers l.reads l.writes in
    let s = c.step-t in
    let q = run_of_arrays s.result s.new.registers s.new.reads s.new.writes in
    let x = after T a.body.now a.budget first here q l.used c.operation_at-op.result l.invariant.going l.invariant.outcome c.if-budget-used.false c.if-size-t.false c.operation_at-op.ensures s.ensures.run in
    ended-early T a.body.now a.budget first q (l.used + 1) 3 x.0 c.if-t-eq3.true (omega arith)

pub returns-then-t-eq1-clause-past : goal.returns-then-t-eq1-clause-past
returns-then-t-eq1-clause-past c =
    λ h. none_past (object_count c.args.table.now) c.args.body.now c.args.from c.loop-t.t c.requires.body_value.0 c.loop-t.invariant.past c.if-size-t.false h

pub returns-then-t-eq2-clause-past : goal.returns-then-t-eq2-clause-past
returns-then-t-eq2-clause-past c =
    λ h. none_past (object_count c.args.table.now) c.args.body.now c.args.from c.loop-t.t c.requires.body_value.0 c.loop-t.invariant.past c.if-size-t.false h

pub returns-then-t-eq3-clause-past : goal.returns-then-t-eq3-clause-past
returns-then-t-eq3-clause-past c =
    λ h. none_past (object_count c.args.table.now) c.args.body.now c.args.from c.loop-t.t c.requires.body_value.0 c.loop-t.invariant.past c.if-size-t.false h
