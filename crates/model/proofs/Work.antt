-- Work: c times, or until all pending transactions are finished, one operation of the first unfinished one; its count is the number of these operations.
-- Assumes nothing.
use Rattle.std.specs.Prelude.{◌≡◌, refl, ◌⊎◌, Bool, true, false, cond, ◌&&◌, List, [], ◌∷◌, ℕ, zero, suc, ◌+◌}
use Rattle.std.proofs.Common.{sym, ◌∙◌, inl, inr, arith}
use Rattle.std.proofs.Math.Path.{ap}
use Rattle.std.proofs.Math.Nat.{sub-zero, suc-sub-suc}
use Rattle.execution.specs.Run.{Table, steps, counted, over}
use Rattle.execution.proofs.ReadAgreement.{both, stay, steps-step}
use Rattle.execution.proofs.Counting.{counted-ended}
use Rattle.model.specs.declared.Limits.{Limits}
use Rattle.model.specs.Lists.{all, count}
use Rattle.model.specs.Calls.{execute, Answer, executed, refusal}
use Rattle.model.specs.Replica.{Pending, Replica, committed_table, program, finished, advance, used, worked, work_count, facts, perform, call}

-- ---- one operation at a time

-- "carries out operations of the first unfinished pending job": one of them
unfoldable pub operate : Table → List Pending → List Pending
operate S [] = []
operate S (j ∷ js) = cond (finished j) (j ∷ operate (over j.run.writes S) js) (advance S 1 j ∷ js)

unfoldable pub times : ℕ → Table → List Pending → List Pending
times zero S js = js
times (suc c) S js = times c S (operate S js)

-- how many of c operations are carried out before all are finished
unfoldable pub operation_count : ℕ → Table → List Pending → ℕ
operation_count zero S js = 0
operation_count (suc c) S js = cond (all finished js) 0 (suc (operation_count c S (operate S js)))

-- ---- work is that

module _ (S : Table) where
  -- a finished transaction takes nothing of the budget
  advance-finished : (c : ℕ) (j : Pending) → finished j ≡ true → advance S c j ≡ j
  unfolding advance
  advance-finished c j e i = record { sent = j.sent; run = stay S (program j) c j.run e i }

  used-finished : (c : ℕ) (j : Pending) → finished j ≡ true → used S c j ≡ 0
  used-finished c j e = counted-ended S (program j) c j.run e

  -- an unfinished one takes one operation, and then what it takes after it
  advance-one : (c : ℕ) (j : Pending) → advance S (suc c) j ≡ advance S c (advance S 1 j)
  unfolding advance steps
  advance-one c j = ap (λ p. record { sent = j.sent; run = p }) (sym (steps-step S (program j) c j.run))

  used-one : (c : ℕ) (j : Pending) → finished j ≡ false → used S (suc c) j ≡ suc (used S c (advance S 1 j))
  unfolding counted advance steps
  used-one c j e = rw e

  module _ (c : ℕ) (j : Pending) (js : List Pending) where
    pub worked-finished : finished j ≡ true → worked S c (j ∷ js) ≡ j ∷ worked (over j.run.writes S) c js
    unfolding worked
    worked-finished e = rw (advance-finished c j e, used-finished c j e, e, sub-zero)

    pub count-finished : finished j ≡ true → work_count S c (j ∷ js) ≡ work_count (over j.run.writes S) c js
    unfolding work_count
    count-finished e = rw (advance-finished c j e, used-finished c j e, e, sub-zero) (omega arith)

    worked-unfinished : finished j ≡ false → worked S (suc c) (j ∷ js) ≡ worked S c (advance S 1 j ∷ js)
    unfolding worked
    worked-unfinished e = rw (advance-one c j, used-one c j e, suc-sub-suc c (used S c (advance S 1 j)))

    count-unfinished : finished j ≡ false → work_count S (suc c) (j ∷ js) ≡ suc (work_count S c (advance S 1 j ∷ js))
    unfolding work_count
    count-unfinished e = rw (advance-one c j, used-one c j e, suc-sub-suc c (used S c (advance S 1 j))) (omega arith)

worked-none : (S : Table) (js : List Pending) → worked S 0 js ≡ js
unfolding worked advance steps counted
worked-none S [] = refl
worked-none S (j ∷ js) = go' (finished j) (worked-none (over j.run.writes S) js)
  where
    go' : (b : Bool) → worked (over j.run.writes S) 0 js ≡ js → j ∷ cond b (worked (over j.run.writes S) 0 js) js ≡ j ∷ js
    go' true h = ap (j ∷◌) h
    go' false h = refl

count_none : (S : Table) (js : List Pending) → work_count S 0 js ≡ 0
unfolding work_count advance steps counted
count_none S [] = refl
count_none S (j ∷ js) = go' (finished j) (count_none (over j.run.writes S) js)
  where
    go' : (b : Bool) → work_count (over j.run.writes S) 0 js ≡ 0 → 0 + cond b (work_count (over j.run.writes S) 0 js) 0 ≡ 0
    go' true h = omega arith
    go' false h = refl

worked-one : (S : Table) (c : ℕ) (js : List Pending) → worked S (suc c) js ≡ worked S c (operate S js)
unfolding operate worked
worked-one S c [] = refl
worked-one S c (j ∷ js) = go' (finished j) refl (worked-one (over j.run.writes S) c js)
  where
    R : Table
    R = over j.run.writes S

    go' : (b : Bool) → finished j ≡ b → worked R (suc c) js ≡ worked R c (operate R js) → worked S (suc c) (j ∷ js) ≡ worked S c (cond b (j ∷ operate R js) (advance S 1 j ∷ js))
    go' true e h = worked-finished S (suc c) j js e ∙ ap (j ∷◌) h ∙ sym (worked-finished S c j (operate R js) e)
    go' false e h = worked-unfinished S c j js e

count-one : (S : Table) (c : ℕ) (js : List Pending) → work_count S (suc c) js ≡ cond (all finished js) 0 (suc (work_count S c (operate S js)))
unfolding operate work_count
count-one S c [] = refl
count-one S c (j ∷ js) = go' (finished j) refl (count-one (over j.run.writes S) c js)
  where
    R : Table
    R = over j.run.writes S

    go' : (b : Bool) → finished j ≡ b → work_count R (suc c) js ≡ cond (all finished js) 0 (suc (work_count R c (operate R js)))
        → work_count S (suc c) (j ∷ js) ≡ cond (b && all finished js) 0 (suc (work_count S c (cond b (j ∷ operate R js) (advance S 1 j ∷ js))))
    go' true e h = count-finished S (suc c) j js e ∙ rw (count-finished S c j (operate R js) e) h
    go' false e h = count-unfinished S c j js e

worked-times : (c : ℕ) (S : Table) (js : List Pending) → worked S c js ≡ times c S js
unfolding times
worked-times zero S js = worked-none S js
worked-times (suc c) S js = worked-one S c js ∙ worked-times c S (operate S js)

count-times : (c : ℕ) (S : Table) (js : List Pending) → work_count S c js ≡ operation_count c S js
unfolding operation_count
count-times zero S js = count_none S js
count-times (suc c) S js = count-one S c js ∙ ap (λ n. cond (all finished js) 0 (suc n)) (count-times c S (operate S js))

-- ---- where it stops

operate-finished : (S : Table) (js : List Pending) → all finished js ≡ true → operate S js ≡ js
unfolding operate
operate-finished S [] e = refl
operate-finished S (j ∷ js) e =
    let h = both (finished j) (all finished js) e in
    rw h.0 (ap (j ∷◌) (operate-finished (over j.run.writes S) js h.1))

times-finished : (c : ℕ) (S : Table) (js : List Pending) → all finished js ≡ true → times c S js ≡ js
unfolding times
times-finished zero S js e = refl
times-finished (suc c) S js e = rw (operate-finished S js e) (times-finished c S js e)

-- "It stops after c operations, or sooner only when all pending jobs are finished"
stops : (c : ℕ) (S : Table) (js : List Pending) → (operation_count c S js ≡ c) ⊎ (all finished (times c S js) ≡ true)
unfolding operation_count times
stops zero S js = inl refl
stops (suc c) S js = go' (all finished js) refl (stops c S (operate S js))
  where
    on : List Pending
    on = operate S js

    go' : (b : Bool) → all finished js ≡ b → (operation_count c S on ≡ c) ⊎ (all finished (times c S on) ≡ true) → (cond b 0 (suc (operation_count c S on)) ≡ suc c) ⊎ (all finished (times c S on) ≡ true)
    go' true e h = inr (rw (operate-finished S js e, times-finished c S js e) e)
    go' false e (inl q) = inl (ap suc q)
    go' false e (inr q) = inr q

-- ---- the call

-- what an accepted Work c answers, and the pending transactions that it leaves
pub record Worked (c : ℕ) (u : Replica) (r : Answer × Replica) : Type 0 where
  pub pending : r.1.pending ≡ times c (committed_table u) u.pending
  pub answer : r.0 ≡ executed (operation_count c (committed_table u) u.pending) (count finished r.1.pending)
  pub stopped : (operation_count c (committed_table u) u.pending ≡ c) ⊎ (all finished r.1.pending ≡ true)

pub work : (l : Limits) (u : Replica) (c : ℕ) → refusal l (facts u) (execute c) ≡ 0 → Worked c u (call l u (execute c))
unfolding call perform
work l u c e =
    let S = committed_table u in
    rw (e, worked-times c S u.pending, count-times c S u.pending)
    (record { pending = refl; answer = refl; stopped = stops c S u.pending })
