-- What the code is lent. Assumes nothing.
use Rattle.std.specs.Prelude.{◌≡◌, true, List, ℕ, ◌*◌, ◌≤◌, length}
use Rattle.operation.specs.Columns.{most_operations}
use Rattle.shape_names.specs.NameScan.{names_in}
use Rattle.versions.specs.Block.{object_cells}
use Rattle.shape_row.specs.RowScan.{cells_of, place_of}

-- the objects, n of them, and so few readers that an object's cells are no overflow
pub record Objects (n readers : ℕ) (objects : List ℕ) : Type 0 where
  pub object_bytes : length objects ≡ n * (object_cells readers * 8)
  pub few_readers : readers ≤ 65536

-- k entries that name objects below n, of which n are lent
pub record Named (readers k : ℕ) (entries objects : List ℕ) : Type 0 where
  pub n : ℕ
  pub lent : Objects n readers objects
  pub names : names_in n k entries ≡ true

-- a row of cells, the place of its body, the last numbers, and the objects
pub record Row (most n readers : ℕ) (row place lasts objects : List ℕ) : Type 0 where
  pub row_cells : length row ≡ cells_of most * 8
  pub place_bytes : length place ≡ place_of most
  pub last_cells : length lasts ≡ 128
  pub few : most ≤ most_operations
  pub lent : Objects n readers objects
