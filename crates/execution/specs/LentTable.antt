-- The table as the code is lent it: the values in a list, stamps and bounds in cells. Assumes nothing.
use Rattle.std.specs.Prelude.{ℕ, ◌+◌, ◌*◌, ◌≤◌, ◌<◌, Bool, cond, List, ℤ, ltb, get_or}
use Rattle.std.proofs.Common.{to_z}
use Rattle.std.specs.Int.{w64}
use Rattle.execution.specs.declared.ObjectsAt.{ObjectsAt}
use Rattle.execution.specs.Bounds.{Bounds, no_bounds, inside}
use Rattle.execution.specs.Run.{Table, Beside, table_of, object_count}

-- bounds that stand from cell a on, the lower one first
abbrev pub cell_bounds : List ℕ → ℕ → Bounds
cell_bounds cs a = record { lower = to_z w64 (get_or cs a 0); upper = to_z w64 (get_or cs (a + 1) 0) }

-- where those of object o begin, and its stamp
abbrev pub bounds_cell : ObjectsAt → ℕ → ℕ
bounds_cell p o = p.lower + o * p.stride

abbrev pub stamp_cell : ObjectsAt → ℕ → ℕ
stamp_cell p o = p.stamp + o * p.stride

abbrev pub object_bounds : ObjectsAt → List ℕ → ℕ → Bounds
object_bounds p cs o = cell_bounds cs (bounds_cell p o)

-- the bounds of n objects; any other has none
abbrev pub lent_bounds : ℕ → ObjectsAt → List ℕ → ℕ → Bounds
lent_bounds n p cs o = cond (ltb o n) (object_bounds p cs o) no_bounds

-- what each of n objects may take
abbrev pub lent_allowed : ℕ → ObjectsAt → List ℕ → ℕ → ℤ → Bool
lent_allowed n p cs o = inside (lent_bounds n p cs o)

-- the stamps of n objects; any other has 0
abbrev pub lent_stamp : ℕ → ObjectsAt → List ℕ → ℕ → ℕ
lent_stamp n p cs o = cond (ltb o n) (get_or cs (stamp_cell p o) 0) 0

abbrev pub lent_beside : ℕ → ObjectsAt → List ℕ → Beside
lent_beside n p cs = record { stamp = lent_stamp n p cs; allow = lent_allowed n p cs }

abbrev pub lent_table : List ℤ → ObjectsAt → List ℕ → Table
lent_table vs p cs = table_of vs (lent_beside (object_count vs) p cs)

-- the bounds of n objects lie in so many bytes
abbrev pub BoundsWithin : ObjectsAt → ℕ → ℕ → Type 0
BoundsWithin p n bytes = (o : ℕ) → o < n → (bounds_cell p o + 2) * 8 ≤ bytes
