-- Computed examples. Assumes nothing.
use Rattle.std.specs.Prelude.{◌≡◌, refl, List, [], ◌∷◌, map, ℕ, pos, negsuc, replicate}
use Rattle.operation.specs.Body.{register_count, listed}
use Rattle.execution.specs.Entries.{entry}
use Rattle.execution.specs.Run.{start}
use Rattle.model.specs.Calls.{last_timestamp}
use Rattle.host.specs.declared.Counters.{Counters}
use Rattle.host.specs.declared.PendingTransaction.{PendingTransaction}
use Rattle.host.specs.Counting.{number_of_delivery, delivered, worked}
use Rattle.host.specs.HostRestart.{unbegun, restarted, restarted_behind}
use Rattle.host.proofs.HostReplica.{entries, transaction_of}

abbrev counts : ℕ → ℕ → ℕ → Counters
counts t p f = record { timestamp = t; pending = p; finished = f }

-- a delivery counted: below the highest timestamp, to it, and at it
unfoldable pub deliveries : List (ℕ × Counters)
deliveries = map (λ t. (number_of_delivery t, delivered (counts t 3 2))) (7 ∷ 4294967294 ∷ 4294967295 ∷ [])

pub deliveries-hold : deliveries ≡ (0, counts 8 3 2) ∷ (0, counts 4294967295 3 2) ∷ (9, counts 4294967295 3 2) ∷ []
unfolding deliveries last_timestamp
deliveries-hold = refl

-- work counted, with three pending and two of them finished: none finished, all three, and four, which changes nothing
unfoldable pub works : List Counters
works = map (worked (counts 7 3 2)) (0 ∷ 3 ∷ 4 ∷ [])

pub works-hold : works ≡ counts 7 3 0 ∷ counts 7 3 3 ∷ counts 7 3 2 ∷ []
unfolding works
works-hold = refl

-- client c's transaction, which has read 10 from object 0 and stored -5 to object 2
abbrev begun : ℕ → PendingTransaction
begun c =
    record {
      client = c;
      sequence = 1;
      counter = 3;
      outcome = 0;
      registers = pos 10 ∷ negsuc 4 ∷ pos 0 ∷ pos 0 ∷ [];
      reads = 1;
      entries = 2;
      objects = 0 ∷ 2 ∷ replicate 14 0;
      values = pos 10 ∷ negsuc 4 ∷ replicate 14 (pos 0);
    }

-- from each place on, from before the first to past the last
unfoldable pub restarts : List (List PendingTransaction)
restarts = map (λ k. restarted_behind k (begun 1 ∷ begun 2 ∷ [])) (0 ∷ 1 ∷ 2 ∷ 5 ∷ [])

pub restarts-hold : restarts
    ≡ (unbegun 1 1 ∷ unbegun 2 1 ∷ []) ∷ (begun 1 ∷ unbegun 2 1 ∷ []) ∷ (begun 1 ∷ begun 2 ∷ []) ∷ (begun 1 ∷ begun 2 ∷ []) ∷ []
unfolding restarts restarted_behind
restarts-hold = refl

-- the record as the model has it, and the same restarted
pub begun-holds : map (λ t. transaction_of t []) (begun 2 ∷ restarted (begun 2) ∷ [])
    ≡ record {
      sent = record { client = 2; sequence = 1; bytes = [] };
      run = record { counter = 3; outcome = 0; registers = pos 10 ∷ negsuc 4 ∷ pos 0 ∷ pos 0 ∷ []; reads = entry 0 (pos 10) ∷ []; writes = entry 2 (negsuc 4) ∷ [] };
    } ∷ record { sent = record { client = 2; sequence = 1; bytes = [] }; run = start } ∷ []
unfolding entries listed start register_count
begun-holds = refl
