-- What the code's parts are lent. Assumes nothing.
use Rattle.std.specs.Prelude.{◌≡◌, List, ℕ, ◌*◌, ◌≤◌, length}
use Rattle.operation.specs.Columns.{most_operations}
use Rattle.shape_row.specs.RowScan.{cells_of}
use Rattle.shape_row.specs.LentRow.{Objects}

-- at least k rows, the last numbers, and the objects, n of them
pub record Rows (most n readers k : ℕ) (rows lasts objects : List ℕ) : Type 0 where
  pub row_cells : k * (cells_of most * 8) ≤ length rows
  pub last_cells : length lasts ≡ 128
  pub few : most ≤ most_operations
  pub lent : Objects n readers objects
