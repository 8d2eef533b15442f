-- The budgeted run, as the loop of `execute` goes: what holds before and after each operation. Assumes nothing.
use Prim.Native.Nat.{ℕ, zero, suc, ◌+◌, ◌-◌, ◌≤◌, ◌<◌}
use Rattle.std.specs.Prelude.{◌≡◌, refl, Bool, true, false, cond, ◌⊎◌, List, ℤ, length}
use Rattle.std.proofs.Math.Path.{sym, ap}
use Rattle.std.proofs.Common.{◌∙◌, inl, inr, zero-add, length-take-le}
use Rattle.std.proofs.lemmas.Bool.{cases_lt}
use Rattle.std.proofs.Math.Option.{some}
use native.Mathlib.Omega.{arith}
use Rattle.std.proofs.Math.Nat.{sub-zero}
use Rattle.operation.specs.Body.{size, operation_at, operations}
use Rattle.operation.specs.BodyLaws.{Valid}
use Rattle.operation.proofs.BodyLaws.{length-operations, head_operations}
use Rattle.operation.specs.declared.Operation.{Operation}
use Rattle.operation.specs.declared.Operation.TheVariants.{Load, Store, Set, Add, Subtract, Skip, Fail, Divide}
use Rattle.execution.specs.declared.Counts.{Counts}
use Rattle.execution.specs.Entries.{Entry}
use Rattle.execution.specs.Run.{Table, outside, Move, get, put, go, halt, move, Run, start, put_in, stopped, apply, due, is_none, ended, obey, step, steps, whole, counted}
use Rattle.execution.proofs.ReadAgreement.{stay, steps-step, ended-past, enough}
use Rattle.execution.proofs.Counting.{counted-ended}
use Rattle.execution.proofs.RunShapeLaws.{stop-least}
use Rattle.execution.specs.Arrays.{capacity, run_of_arrays, Bounded, Within, Lent}
use Rattle.execution_interpreter.specs.Executes.{Executes, InArrays}

module _ (T : Table) (b : List Operation) (budget : ℕ) (s : Run) where
  -- `used` operations lead from s to p, and the rest of the budget leads where all of it leads
  pub record Going (used : ℕ) (p : Run) : Type 0 where
    pub within : used ≤ budget
    pub same : steps T b (budget - used) p ≡ steps T b budget s
    pub count : used + counted T b (budget - used) p ≡ counted T b budget s

  pub going : Going 0 s
  going = record { within = omega arith; same = rw sub-zero; count = rw (sub-zero, zero-add) }

  module _ (used : ℕ) (p : Run) (g : Going used p) where
    pub at-end : ended b p ≡ true → Executes T b budget s p used
    at-end e =
        let z = counted-ended T b (budget - used) p e in
        let n = g.count in
        record { run = sym (stay T b (budget - used) p e) ∙ g.same; count = omega arith }

    pub spent : budget ≤ used → Executes T b budget s p used
    unfolding steps counted
    spent h =
        let e : budget - used ≡ 0 = omega arith in
        let n = rw e at g.count in
        record { run = rw e at g.same; count = omega arith }

    pub next : (x : Operation) (q : Run) → used < budget → due b p ≡ some x → q ≡ apply T (move x p.registers) p → Going (used + 1) q
    unfolding step obey counted steps
    next x q h d e =
        let k : ℕ = budget - (used + 1) in
        let f : budget - used ≡ suc k = omega arith in
        let one : step T b p ≡ q = ap (obey T p) d ∙ sym e in
        let more : counted T b (suc k) p ≡ suc (counted T b k q) = rw (ap is_none d, one) in
        let n = rw f at g.count in
        record {
          within = omega arith;
          same = ap (steps T b k) (sym one) ∙ steps-step T b k p ∙ rw f at g.same;
          count = omega arith;
        }

  -- the outcome, which the run has already, written again
  pub rewritten : (used : ℕ) (p : Run) (k : ℕ) → p.outcome ≡ k → Executes T b budget s p used
      → Executes T b budget s (record { counter = p.counter; outcome = k; registers = p.registers; reads = p.reads; writes = p.writes }) used
  rewritten used p k e d = rw (← e) d

pub lent-rewritten : {t : Counts} {reads writes : List Entry} (k : ℕ) → Lent t reads writes
    → Lent (record { counter = t.counter; outcome = k; reads = t.reads; writes = t.writes }) reads writes
lent-rewritten k h =
    record { bounded = record { reads = h.bounded.reads; writes = h.bounded.writes }; read_room = h.read_room; write_room = h.write_room }

-- the counts that a budgeted run leaves: the lengths of its sets where it began before the last place of a body, else those with which it began
pub counts_left : (T : Table) (b : List Operation) (budget : ℕ) (from t : Counts) (g g' : List ℤ) (reads writes reads' writes' : List Entry) (used : ℕ)
    → Executes T b budget (run_of_arrays from g reads writes) (run_of_arrays t g' reads' writes') used
    → Bounded from → Lent t reads' writes' → (Within from → Within t) → (capacity ≤ from.counter → t ≡ from)
    → (let q = steps T b budget (run_of_arrays from g reads writes) in (t.reads ≡ length q.reads) × (t.writes ≡ length q.writes)) ⊎ (t ≡ from)
counts_left T b budget from t g g' reads writes reads' writes' used x f l w past = by (cases_lt from.counter capacity)
  where
    q : Run
    q = steps T b budget (run_of_arrays from g reads writes)

    by : (from.counter < capacity) ⊎ (capacity ≤ from.counter) → ((t.reads ≡ length q.reads) × (t.writes ≡ length q.writes)) ⊎ (t ≡ from)
    by (inl h) =
        let k = w (record { reads = omega (arith, f.reads); writes = omega (arith, f.writes) }) in
        inl (
          sym (length-take-le t.reads reads' (omega (arith, k.reads, l.read_room))) ∙ ap (λ (p : Run). length p.reads) x.run,
          sym (length-take-le t.writes writes' (omega (arith, k.writes, l.write_room))) ∙ ap (λ (p : Run). length p.writes) x.run,
        )
    by (inr h) = inr (past h)

-- a run from its start with the most operations is the whole run
pub run-whole : (T : Table) (b : List Operation) (t : Counts) (g : List ℤ) (reads writes : List Entry) → length b ≤ capacity
    → run_of_arrays t g reads writes ≡ steps T b capacity start → InArrays (whole T b) t reads writes
run-whole T b t g reads writes h e =
    let f = e ∙ enough T b capacity h in
    ap (λ (p : Run). run_of_arrays t p.registers reads writes) (sym f) ∙ f

pub apply-outcome : (T : Table) (m : Move) (p q : Run) → q ≡ apply T m p → q.outcome ≤ 3
apply-outcome T m p q e = rw e (by m)
  where
    put-by : (o : ℕ) (v : ℤ) (t : Bool) → (cond t (put_in o v p) (stopped outside p)).outcome ≤ 3
    put-by o v true = omega arith
    put-by o v false = omega arith

    by : (m : Move) → (apply T m p).outcome ≤ 3
    by (get r o) = omega arith
    by (put o v) = put-by o v (T.allow o v)
    by (go g k) = omega arith
    by (halt s) = stop-least s

-- a run that stopped early has ended
pub ended-stopped : (b : List Operation) (p : Run) → 0 < p.outcome → ended b p ≡ true
ended-stopped b p h = by p.outcome refl h
  where
    by : (c : ℕ) → p.outcome ≡ c → 0 < c → ended b p ≡ true
    by zero e l = absurd (omega arith)
    by (suc c) e l = rw e

-- a run whose bytes are b: past the last operation, or before one
pub ended-size : (b : List ℕ) (p : Run) → size b ≤ p.counter → ended (operations b) p ≡ true
ended-size b p h = ended-past (operations b) p (rw length-operations h)

pub due-here : (b : List ℕ) (p : Run) → p.outcome ≡ 0 → p.counter < size b → due (operations b) p ≡ some (operation_at b p.counter)
due-here b p z h = rw z (head_operations b p.counter h)

-- an operation that may pass over fewer is valid where more are left
pub valid_more : (n left more : ℕ) (x : Operation) → left ≤ more → Valid n left x → Valid n more x
valid_more n left more (Load r o) h v = v
valid_more n left more (Store r o) h v = v
valid_more n left more (Set r z) h v = v
valid_more n left more (Add r s) h v = v
valid_more n left more (Subtract r s) h v = v
valid_more n left more (Skip r k) h v = (v.0, v.1, (let l = v.2 in omega arith), v.3)
valid_more n left more Fail h v = v
valid_more n left more (Divide r d) h v = v
