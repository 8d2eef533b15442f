-- The last part of demand 3: the early results on record are those of running the pending transactions in optimistic order on the committed state, as one
-- equation whose right side can be computed. Assumes nothing.
use Rattle.std.specs.Prelude.{◌≡◌, Bool, true, cond, List, [], ◌∷◌, map, leb}
use Rattle.std.proofs.Math.Path.{refl}
use Rattle.std.proofs.Common.{sym, ap, ◌∙◌, true≢false, le-leb}
use Rattle.std.proofs.Math.Bool.{false}
use Rattle.std.proofs.Math.Option.{Option, none, some}
use Prim.Native.Nat.{ℕ, zero, suc, ◌+◌, ◌≤◌, ◌<◌}
use native.Mathlib.Omega.{arith}
use Rattle.std.proofs.lemmas.Bool.{lt-leb}
use Rattle.operation.specs.declared.Operation.{Operation}
use Rattle.execution.specs.Run.{Table, Run, start, due, is_none, ended, move, obey, step, steps, whole, over}
use Rattle.execution.proofs.ReadAgreement.{stay, steps-step, apply-counter, ended-whole}
use Rattle.model.specs.declared.Limits.{Limits}
use Rattle.model.specs.Calls.{Call}
use Rattle.model.specs.Start.{Start}
use Rattle.model.specs.Replica.{Pending, Replica, committed_table, program, finished, opened, calls}
use Rattle.model.specs.VersionLaws.{Dated}
use Rattle.model.specs.EarlyResults.{Reached, Chain, Ordered}
use Rattle.model.proofs.Invariant.{Invariant, opened-invariant, calls-invariant}

-- ---- running the pending transactions in optimistic order

module _ (S : Table) (b : List Operation) where
  -- until the program counter is c, by at most k operations
  unfoldable pub run_until : ℕ → ℕ → Run → Run
  run_until c zero p = p
  run_until c (suc k) p = cond (leb c p.counter) p (run_until c k (step S b p))

  -- "a partly run one up to its place": each operation moves the counter on, so c of them are enough
  unfoldable pub run_to : ℕ → Run
  run_to c = run_until c c start

-- a finished transaction is run whole (none), a partly run one up to its program counter
abbrev pub Extent : Type 0
Extent = Option ℕ

unfoldable pub run_as_far : Table → List Operation → Extent → Run
run_as_far S b none = whole S b
run_as_far S b (some c) = run_to S b c

-- bodies and how far each was run, in optimistic order: "each on the committed table with the stores of those before it"
unfoldable pub early_run : Table → List (List Operation × Extent) → List Run
early_run S [] = []
early_run S (x ∷ l) =
    let p : Run = run_as_far S x.0 x.1 in p ∷ early_run (over p.writes S) l

abbrev pub extent : Pending → Extent
extent j = cond (finished j) none (some j.run.counter)

-- what a replica's pending transactions give to that run: no reads, writes, registers or outcomes
abbrev pub asked : Pending → List Operation × Extent
asked j = (program j, extent j)

-- what holds of a replica's early results
pub record EarlyResults (u : Replica) : Type 0 where
  pub runs : map (λ (j : Pending). j.run) u.pending ≡ early_run (committed_table u) (map asked u.pending)
  pub ordered : Ordered u.pending  -- finished ones first, then at most one partly run, then those not begun

-- ---- the proof

module _ (S : Table) (b : List Operation) where
  step-on : (p : Run) → ended b p ≡ false → p.counter < (step S b p).counter
  unfolding step obey
  step-on p e = go' (due b p) e
    where
      go' : (d : Option Operation) → is_none d ≡ false → p.counter < (obey S p d).counter
      go' none e = absurd (true≢false e)
      go' (some x) e = apply-counter S b (move x p.registers) p

  steps_on : (k : ℕ) (p : Run) → p.counter ≤ (steps S b k p).counter
  unfolding steps
  steps_on zero p = omega arith
  steps_on (suc k) p = go' (ended b q) refl (steps_on k p)
    where
      q : Run
      q = steps S b k p

      go' : (e : Bool) → ended b q ≡ e → p.counter ≤ q.counter → p.counter ≤ (step S b q).counter
      go' true e h = rw (stay S b 1 q e) h
      go' false e h = let k = step-on q e in omega arith

  until_here : (k : ℕ) (p : Run) → run_until S b p.counter k p ≡ p
  unfolding run_until
  until_here zero p = refl
  until_here (suc k) p = rw (le-leb p.counter p.counter (omega arith))

  until_steps : (k f : ℕ) (p : Run) → (steps S b k p).counter ≤ f + p.counter → run_until S b (steps S b k p).counter f p ≡ steps S b k p
  unfolding steps run_until
  until_steps zero f p h = until_here f p
  until_steps (suc k) f p h = go' (ended b p) refl f h (λ f. until_steps k f (step S b p))
    where
      q : Run
      q = steps S b (suc k) p

      r : Run
      r = steps S b k (step S b p)

      same : r ≡ q
      same = steps-step S b k p

      go' : (e : Bool) → ended b p ≡ e → (f : ℕ) → q.counter ≤ f + p.counter → ((f : ℕ) → r.counter ≤ f + (step S b p).counter → run_until S b r.counter f (step S b p) ≡ r) → run_until S b q.counter f p ≡ q
      go' true e f h i = rw (stay S b (suc k) p e) (until_here f p)
      go' false e zero h i =
          absurd (let on = step-on p e in let further = steps_on k (step S b p) in let n = ap (λ (x : Run). x.counter) same in omega arith)
      go' false e (suc f) h i =
          let on = step-on p e in
          let further = steps_on k (step S b p) in
          let n = ap (λ (x : Run). x.counter) same in
          rw (lt-leb q.counter p.counter (omega arith)) (rw same at (i f (omega arith)))

  run_to-steps : (k : ℕ) → run_to S b (steps S b k start).counter ≡ steps S b k start
  unfolding run_to start
  run_to-steps k = until_steps k (steps S b k start).counter start (omega arith)

-- how far the run on record has come tells the run
extent-run : (S : Table) (j : Pending) → Reached S j → run_as_far S (program j) (extent j) ≡ j.run
unfolding run_as_far
extent-run S j (k, e) = go' (finished j) refl
  where
    go' : (f : Bool) → finished j ≡ f → run_as_far S (program j) (cond f none (some j.run.counter)) ≡ j.run
    go' true q = sym (e ∙ ended-whole S (program j) k (rw (← e) q))
    go' false q = rw e (run_to-steps S (program j) k)

chain_run : (S : Table) (js : List Pending) → Chain S js → map (λ (j : Pending). j.run) js ≡ early_run S (map asked js)
unfolding early_run
chain_run S [] h = refl
chain_run S (j ∷ js) h = rw (extent-run S j h.0) (ap (j.run ∷◌) (chain_run (over j.run.writes S) js h.1))

pub early-results : (l : Limits) (u : Replica) → Invariant l u → EarlyResults u
early-results l u v = record { runs = chain_run (committed_table u) u.pending v.early; ordered = v.ordered }

-- "Early results on record .. equal those of running the pending jobs in early order, each on the committed table with the stores of those before it, a
-- partly run one up to its place": after every call, since every list of calls may end there
pub demand_3-record : (l : Limits) (s : Start) → Dated s → (cs : List Call) → EarlyResults (calls l (opened l s) cs).1
demand_3-record l s d cs =
    early-results l (calls l (opened l s) cs).1 (calls-invariant l cs (opened l s) (opened-invariant l s d))
