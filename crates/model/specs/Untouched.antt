-- How many accepted calls store an object. "For an untouched object this is the start stamp": where none does, its newest version stays, and so is the one
-- that it was opened with. Assumes nothing.
use Rattle.std.specs.Prelude.{Bool, cond}
use Rattle.std.proofs.Math.Bool.{true, false}
use Prim.Native.Nat.{ℕ}
use Rattle.execution.specs.Entries.{lookup}
use Rattle.model.specs.Interface.{optimistic, execute, final, open_reader, close_reader, Call, opening, update, query}
use Rattle.model.specs.Serial.{is_some}
use Rattle.model.specs.Replica.{Replica, committed_table, keyed, result}

-- whether a call that is accepted stores object o: a final delivery with o among its writes; an opening stores all
abbrev pub stores : Replica → ℕ → Call → Bool
stores u o (opening x) = true
stores u o (update (optimistic c s b)) = false
stores u o (update (execute k)) = false
stores u o (update (final c s)) = is_some (lookup (result (committed_table u) (keyed u c s)).writes o)
stores u o (update (open_reader r)) = false
stores u o (update (close_reader r)) = false
stores u o (query q) = false

-- a call that stores counts once
abbrev pub once : Bool → ℕ
once b = cond b 1 0
