-- The commit timestamp that the next commit takes: the one after the replica's. Assumes nothing.
use Rattle.std.specs.Prelude.{◌≡◌, List, ℕ, suc, ◌+◌, ◌^◌, ◌≤◌, ◌<◌, length, get_or}
use Rattle.std.proofs.Common.{arith}
use Rattle.cells.specs.Cells.{cells}
use Rattle.model.specs.declared.Limits.{Limits}
use Rattle.model.specs.Calls.{last_timestamp}
use Rattle.model.specs.Replica.{Replica}
use Rattle.layout.specs.Offsets.{Sane}
use Rattle.layout.specs.Holds.{Holds}
use Rattle.layout.proofs.HoldsLaws.{holds-long}
use Rattle.layout.proofs.Reading.{get-timestamp}

-- the timestamp in the first cell is not the last one
pub record Before (b : List ℕ) : Type 0 where
  pub inside : 8 ≤ length b
  pub low : get_or (cells b) 0 0 + 1 < 2 ^ 32

-- t is the one after it
pub record NextAfter (b : List ℕ) (t : ℕ) : Type 0 where
  pub next : t ≡ get_or (cells b) 0 0 + 1

-- as the replica u has it, which the record area b holds
module _ {l : Limits} {b : List ℕ} {u : Replica} (s : Sane l) (h : Holds l b u) where
  pub timestamp-left : u.timestamp < last_timestamp → Before b
  unfolding last_timestamp
  timestamp-left k =
      record { inside = omega (arith, holds-long l s b u h); low = omega (arith, get-timestamp l s b u h) }

  pub next-timestamp : {t : ℕ} → NextAfter b t → t ≡ suc u.timestamp
  next-timestamp e = omega (arith, e.next, get-timestamp l s b u h)
