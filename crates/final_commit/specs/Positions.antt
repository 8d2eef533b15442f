-- The pending transaction at a position of the optimistic order, and both areas together. Assumes nothing.
use Rattle.std.proofs.Math.Option.{none}
use Rattle.std.specs.Prelude.{List, [], ◌∷◌, map, ℕ, zero, suc, ◌<◌, length, get_or}
use Rattle.std.proofs.Common.{arith}
use Rattle.model.specs.declared.Limits.{Limits}
use Rattle.model.specs.ListLaws.{All}
use Rattle.model.specs.Replica.{Pending, Replica, pending_of}
use Rattle.layout.specs.Holds.{Holds, HoldsBodies}

abbrev pub at : List Pending → ℕ → Pending
at js i = get_or js i (pending_of none)

-- a fact of each transaction's row, or of each body
pub fits-at : {B : Type 0} (f : Pending → B) (P : B → Type 0) (js : List Pending) (i : ℕ) → i < length js → All P (map f js) → P (f (at js i))
fits-at f P [] i h g = absurd (omega arith)
fits-at f P (j ∷ js) zero h g = g.0
fits-at f P (j ∷ js) (suc i) h g = fits-at f P js i (omega arith) g.1

-- both areas hold this replica
pub record Both (l : Limits) (b c : List ℕ) (u : Replica) : Type 0 where
  pub holds : Holds l b u
  pub bodies : HoldsBodies l c u
