-- Early results are used: the first pending transaction, once finished, commits with them, and a walk sends no transaction back whose reads still match.
-- Assumes nothing.
use Rattle.std.specs.Prelude.{◌≡◌, List, [], ◌∷◌, ℤ, length}
use Rattle.std.proofs.Math.Path.{refl}
use Rattle.std.proofs.Common.{ap, eq-eqb}
use Rattle.std.proofs.Math.Bool.{true}
use Rattle.std.proofs.Math.Option.{Option, none, some}
use Prim.Native.Nat.{ℕ, zero, suc}
use Rattle.operation.specs.declared.Operation.{Operation}
use Rattle.execution.proofs.ReadAgreement.{put-either}
use Rattle.execution.specs.Run.{Table, Move, get, put, go, halt, move, Run, start, known, got, apply, due, obey, step, steps, matches, over}
use Rattle.model.specs.declared.Limits.{Limits}
use Rattle.model.specs.Calls.{final, committed, refusal}
use Rattle.model.specs.Replica.{Pending, Replica, committed_table, finished, walk, validated, result, rework, facts, commit, perform, call}
use Rattle.model.specs.EarlyResults.{Reached, Chain}
use Rattle.model.proofs.Simulation.{matches-append}
use Rattle.model.proofs.Invariant.{Invariant}

-- ---- what a run has read matches the table that it ran on

module _ (S : Table) (b : List Operation) where
  apply-matches : (m : Move) (p : Run) → matches S p.reads ≡ true → matches S (apply S m p).reads ≡ true
  apply-matches (get r o) p h = go' (known p o)
    where
      go' : (k : Option ℤ) → matches S (got S r o p k).reads ≡ true
      go' none = matches-append S p.reads o h
      go' (some v) = h
  apply-matches (put o v) p h = put-either (λ (q : Run). matches S q.reads ≡ true) S o v p h h
  apply-matches (go g k) p h = h
  apply-matches (halt s) p h = h

  pub steps-match : (k : ℕ) → matches S (steps S b k start).reads ≡ true
  unfolding steps step obey start
  steps-match zero = refl
  steps-match (suc k) = go' (due b (steps S b k start)) (steps-match k)
    where
      go' : (d : Option Operation) → matches S (steps S b k start).reads ≡ true → matches S (obey S (steps S b k start) d).reads ≡ true
      go' none h = h
      go' (some x) h = apply-matches (move x (steps S b k start).registers) (steps S b k start) h

reached_matches : (S : Table) (j : Pending) → Reached S j → matches S j.run.reads ≡ true
reached_matches S j (k, e) = rw e (steps-match S _ k)

-- a walk on the very table that the transactions ran on sends none back
pub walk-matching : (S : Table) (js : List Pending) → Chain S js → walk S js ≡ js
unfolding walk
walk-matching S [] h = refl
walk-matching S (j ∷ js) h =
    rw (reached_matches S j h.0) (ap (j ∷◌) (walk-matching (over j.run.writes S) js h.1))

-- "its early outcome and stores are kept": a final delivery that follows the optimistic order is never run again
pub first-validated : (l : Limits) (u : Replica) → Invariant l u → (j : Pending) (js : List Pending) → u.pending ≡ j ∷ js → finished j ≡ true
    → refusal l (facts u) (final j.sent.client j.sent.sequence) ≡ 0
    → (call l u (final j.sent.client j.sent.sequence)).0 ≡ committed j.run.outcome true (suc u.timestamp) (length j.run.writes) 0
unfolding call perform commit validated result rework
first-validated l u v j js p f e =
    let h = rw p at v.early in
    rw
    (e, p, eq-eqb j.sent.client j.sent.client refl, eq-eqb j.sent.sequence j.sent.sequence refl, f, reached_matches (committed_table u) j h.0)
