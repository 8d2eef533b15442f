-- Restarting from a place on, one transaction at a time: what the loop of `jobstore_restart_from` goes by. Assumes nothing.
use Rattle.std.specs.Prelude.{◌≡◌, refl, List, [], ◌∷◌, ℕ, zero, suc, ◌+◌, ◌<◌, ◌≤◌, length, get_or, set}
use Rattle.std.proofs.Common.{ap, ◌∙◌, not-suc-le-zero, le_of_suc-le-suc, add-one}
use Rattle.host.specs.declared.PendingTransaction.{PendingTransaction}
use Rattle.host.specs.HostRestart.{restarted, restarted_behind}

step : (ts : List PendingTransaction) (i : ℕ) (d : PendingTransaction) → i < length ts → restarted_behind (suc i) (set ts i (restarted (get_or ts i d))) ≡ restarted_behind i ts
unfolding restarted_behind
step [] i d l = absurd (not-suc-le-zero l)
step (t ∷ ts) zero d l = refl
step (t ∷ ts) (suc i) d l = ap (t ∷◌) (step ts i d (le_of_suc-le-suc l))

-- the one at i is restarted, and then all from i + 1 on: that is all from i on
pub restart_step : (ts : List PendingTransaction) (i : ℕ) (d : PendingTransaction) → i < length ts → restarted_behind (i + 1) (set ts i (restarted (get_or ts i d))) ≡ restarted_behind i ts
restart_step ts i d l = ap (λ (k : ℕ). restarted_behind k (set ts i (restarted (get_or ts i d)))) (add-one i) ∙ step ts i d l

-- "a place past the last changes nothing"
pub restart_done : (ts : List PendingTransaction) (i : ℕ) → length ts ≤ i → restarted_behind i ts ≡ ts
unfolding restarted_behind
restart_done [] zero l = refl
restart_done [] (suc i) l = refl
restart_done (t ∷ ts) zero l = absurd (not-suc-le-zero l)
restart_done (t ∷ ts) (suc i) l = ap (t ∷◌) (restart_done ts i (le_of_suc-le-suc l))
