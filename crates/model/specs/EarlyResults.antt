-- The early results on record are those of running the pending transactions in optimistic order, and finished ones stand first: preserved by work, by a
-- commit's walk, by a delivery and by leaving. A validated run is the whole run on the committed table. Assumes nothing.
use Rattle.std.specs.Prelude.{◌≡◌, ◌⊎◌, true, List, [], ◌∷◌, map, ℕ}
use Rattle.execution.specs.Run.{Table, start, steps, over}
use Rattle.model.specs.Calls.{Transaction}
use Rattle.model.specs.Replica.{Pending, program, finished}
use Rattle.model.specs.ListLaws.{All}

-- the run on record is the run on this table, up to some operation
abbrev pub Reached : Table → Pending → Type 0
Reached S j = (k : ℕ) × (j.run ≡ steps S (program j) k start)

-- "each on the committed table with the stores of those before it"
abbrev pub Chain : Table → List Pending → Type 0
Chain S [] = Unit {0}
Chain S (j ∷ js) = Reached S j × Chain (over j.run.writes S) js

abbrev pub NotBegun : List Pending → Type 0
NotBegun js = All (λ j. j.run ≡ start) js

-- finished transactions first, then at most one partly run, then those not begun
abbrev pub Ordered : List Pending → Type 0
Ordered [] = Unit {0}
Ordered (j ∷ js) = ((finished j ≡ true) ⊎ NotBegun js) × Ordered js

-- ---- a commit's walk

-- reached on some table of the same bounds as S
abbrev pub Somewhere : Table → Pending → Type 0
Somewhere S j = (R : Table) × (S.allow ≡ R.allow) × Reached R j

-- ---- keys and bodies

abbrev pub sents : List Pending → List Transaction
sents js = map (λ (j : Pending). j.sent) js
