-- What the code is lent. Assumes nothing.
use Rattle.std.specs.Prelude.{◌≡◌, List, ℕ, ◌≤◌, length}
use Rattle.operation.specs.Columns.{most_operations}
use Rattle.model.specs.declared.Limits.{Limits}
use Rattle.layout.specs.Offsets.{Sane, record_length}

-- the record area
pub record Record (l : Limits) (area : List ℕ) : Type 0 where
  pub sane : Sane l
  pub few : l.operations ≤ most_operations
  pub whole : length area ≡ record_length l
