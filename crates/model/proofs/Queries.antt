-- A query changes nothing, refused or not: so it keeps whatever holds of the replica. Assumes nothing.
use Rattle.std.specs.Prelude.{◌≡◌, refl, ℕ, zero, suc}
use Rattle.model.specs.declared.Limits.{Limits}
use Rattle.model.specs.Interface.{Query, query}
use Rattle.model.specs.Calls.{refusal, judged}
use Rattle.model.specs.Replica.{Replica, facts, perform, call}

pub query-same : (l : Limits) (u : Replica) (q : Query) → (call l u (query q)).1 ≡ u
unfolding call perform
query-same l u q = go' (refusal l (facts u) (query q))
  where
    go' : (k : ℕ) → (judged u (perform l u (query q)) k).1 ≡ u
    go' zero = refl
    go' (suc k) = refl
