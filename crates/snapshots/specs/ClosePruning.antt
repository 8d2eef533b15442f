-- What a reader's close asks of the objects' blocks, and what it leaves. Assumes nothing.
use Rattle.std.specs.Prelude.{◌≡◌, List, ◌∷◌, map, ℕ, suc, ◌*◌, ◌<◌, ◌^◌, length}
use Rattle.model.specs.declared.Limits.{Limits}
use Rattle.model.specs.Replica.{Replica, opens, prune}
use Rattle.model.specs.Shape.{VersionsShape}
use Rattle.model.specs.ListLaws.{All}
use Rattle.layout.specs.Offsets.{Sane}
use Rattle.layout.specs.Holds.{Holds, with_objects}

-- ---- pruning alone

-- the area holds a replica whose objects were in shape while one reader more was open, the one with the cell c; there is room for a copy of the
-- readers' cells
pub record Prunable (l : Limits) (c : ℕ) (b rs : List ℕ) : Type 0 where
  pub sane : Sane l
  pub replica : Replica
  pub holds : Holds l b replica
  pub reader : ℕ
  pub cell : c ≡ suc reader
  pub few : replica.timestamp < 2 ^ 63
  pub versions : All (VersionsShape replica.timestamp (reader ∷ opens replica.readers)) replica.objects
  pub room : length rs ≡ l.readers * 8

abbrev pub pruned : Replica → Replica
pruned u = with_objects (map (prune (opens u.readers)) u.objects) u

abbrev pub Pruned : Limits → List ℕ → List ℕ → Type 0
Pruned l b b' = (u : Replica) → Holds l b u → Holds l b' (pruned u)
