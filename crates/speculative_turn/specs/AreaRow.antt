-- A turn on the record area: its row is a part of it, and stamps and bounds stand in it too. Assumes nothing.
use Rattle.std.specs.Prelude.{◌≡◌, List, ℕ, ◌-◌, ◌≤◌, ℤ, length}
use borrow.Rule.Slice.PartMut.{mid_of, put_mid}
use Rattle.cells.specs.Cells.{cells}
use Rattle.execution.specs.declared.ObjectsAt.{ObjectsAt}
use Rattle.execution.specs.Run.{Beside, object_count}
use Rattle.execution.specs.LentTable.{lent_beside, BoundsWithin}
use Rattle.speculative_turn.specs.declared.Advanced.{Advanced}
use Rattle.speculative_turn.specs.Advance.{Ready, Leaves}

-- the row from byte `row` to byte `next`, and the area with another in its place
abbrev pub area_row : List ℕ → ℕ → ℕ → List ℕ
area_row records row next = mid_of row (next - row) records

abbrev pub with_row : List ℕ → ℕ → ℕ → List ℕ → List ℕ
with_row records row next ys = put_mid row (next - row) records ys

-- what stands in the area beside the values of a table
abbrev pub beside_in : List ℕ → ObjectsAt → List ℤ → Beside
beside_in records objects vs = lent_beside (object_count vs) objects (cells records)

-- the row and every object's bounds lie in the area, and the row is ready for a turn
pub record ReadyAt (records : List ℕ) (objects : ObjectsAt) (row next : ℕ) (body : List ℕ) (vs : List ℤ) (budget : ℕ) : Type 0 where
  pub order : row ≤ next
  pub inside : next ≤ length records
  pub bounded : BoundsWithin objects (object_count vs) (length records)
  pub ready : Ready (area_row records row next) body vs (beside_in records objects vs) budget

-- what a turn leaves: the area with a new row in its place, and the table
pub record LeavesAt (records : List ℕ) (objects : ObjectsAt) (row next : ℕ) (body : List ℕ) (vs : List ℤ) (budget : ℕ) (a : Advanced) (left : List ℕ) (ws : List ℤ) : Type 0 where
  pub new_row : List ℕ
  pub leaves : Leaves (area_row records row next) body vs (beside_in records objects vs) budget a new_row ws
  pub back : left ≡ with_row records row next new_row
