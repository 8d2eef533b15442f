-- Where a transaction stands among the pending ones of a record area, and how many there are. Assumes nothing.
use Rattle.std.specs.Prelude.{◌≡◌, Bool, List, ℕ, ◌<◌, length, Option, Some, None, Err}
use Rattle.std.specs.Option.{ok_or}
use Rattle.std.proofs.Common.{subst}
use Rattle.model.specs.declared.Limits.{Limits}
use Rattle.model.specs.declared.OptimisticPosition.{OptimisticPosition}
use Rattle.model.specs.declared.Refusal.{Refusal}
use Rattle.model.specs.Lists.{index}
use Rattle.model.specs.Calls.{spent}
use Rattle.model.specs.Replica.{Replica, has_key}
use Rattle.layout.specs.Holds.{Holds}
use Rattle.queue.specs.declared.Place.{Place}

-- of the replica u: the key's transaction is the first at that position; or it is not among the pending ones
abbrev pub Stands : ℕ → ℕ → Replica → Option OptimisticPosition → Type 0
Stands c s u (Some p) = (p.0 ≡ index (has_key c s) u.pending) × (p.0 < length u.pending)
Stands c s u None = index (has_key c s) u.pending ≡ length u.pending

-- what `locate` ensures, of whichever replica the record area holds
pub record Located (l : Limits) (b : List ℕ) (c s : ℕ) (r : Place) : Type 0 where
  pub stands : (u : Replica) → Holds l b u → Stands c s u r.position
  pub count : (u : Replica) → Holds l b u → r.count ≡ length u.pending

-- what it says of the position where `ok_or` makes a refusal of None
module _ {l : Limits} {b : List ℕ} {c s : ℕ} {r : Place} (e : Located l b c s r) where
  pub found-there : {p : OptimisticPosition} → r.position ≡ Some p → (u : Replica) → Holds l b u → Stands c s u (Some p)
  found-there m u h = subst (Stands c s u) m (e.stands u h)

  pub found-nowhere : {x y : Refusal} → Err x ≡ ok_or r.position y → (x ≡ y) × ((u : Replica) → Holds l b u → Stands c s u None)
  found-nowhere {x} {y} m = by r.position m e.stands
    where
      by : (o : Option OptimisticPosition) → Err x ≡ ok_or o y → ((u : Replica) → Holds l b u → Stands c s u o) → (x ≡ y) × ((u : Replica) → Holds l b u → Stands c s u None)
      by None n f = (cc, f)
      by (Some p) n f = cc

-- what `is_spent` ensures, of whichever replica the record area holds
pub record Spent (l : Limits) (b : List ℕ) (c s : ℕ) (r : Bool) : Type 0 where
  pub test : (u : Replica) → Holds l b u → r ≡ spent u.lasts c s
