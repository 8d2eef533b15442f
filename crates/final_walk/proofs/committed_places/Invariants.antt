-- The objects passed have their places.
use Rattle.std.proofs.Common.{◌≡◌, ℕ, ◌+◌, ◌*◌, ◌<◌, length, get_or}
use Rattle.final_walk.proofs.committed_places.Given as goal

abbrev pub invariant-loop-o : goal.invariant-loop-o
invariant-loop-o l = record { room : length l.places ≡ 128; passed : (i : ℕ) → i < l.o → get_or l.places i 0 ≡ l.first + i * l.width }
