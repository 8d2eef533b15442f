-- Optimistic delivery: its causes by what the code tests, and what its writes leave. Assumes nothing.
use Rattle.std.specs.Prelude.{◌≡◌, List, ℕ, ◌+◌, ◌≤◌, ◌<◌, length}
use Rattle.cells.specs.Cells.{Put, splice}
use Rattle.execution.specs.Run.{start}
use Rattle.model.specs.declared.Limits.{Limits}
use Rattle.model.specs.Replica.{Pending}
use Rattle.layout.specs.Offsets.{pending_at, row_at, record_length, body_width, body_at, bodies_length}

-- ---- the writes, on bytes

-- what `append` asks: areas of their lengths, a place that is free, a body that fits in it
pub record Room (l : Limits) (r b : List ℕ) (count : ℕ) (x : List ℕ) : Type 0 where
  pub records : length r ≡ record_length l
  pub bodies : length b ≡ bodies_length l
  pub free : count < l.pending
  pub small : length x ≤ body_width l

-- what it leaves: the key in the first cell of the row, the count, and the body at the front of its place
pub record Appended (l : Limits) (r b : List ℕ) (count key : ℕ) (x : List ℕ) (r' b' : List ℕ) : Type 0 where
  pub between : List ℕ
  pub row : Put r between (row_at l count) key
  pub counted : Put between r' (pending_at l) (count + 1)
  pub body : b' ≡ splice b (body_at l count) x

-- a transaction that was just delivered
abbrev pub delivered : ℕ → ℕ → List ℕ → Pending
delivered c s x = record { sent = record { client = c; sequence = s; bytes = x }; run = start }
