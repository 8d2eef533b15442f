-- Where each part of the two areas lies, and how long they are. Offsets into the record area are in cells, into the body area in bytes.
-- Assumes nothing.
use Rattle.std.specs.Prelude.{◌≡◌, ℕ, ◌+◌, ◌*◌, ◌^◌, ◌≤◌}
use Rattle.operation.specs.Body.{body_length}
use Rattle.model.specs.declared.Limits.{Limits}
use Rattle.versions.specs.Block.{width, object_cells}

-- limits for which no offset overflows, and every count fits in a cell
pub record Sane (l : Limits) : Type 0 where
  pub objects : l.objects ≤ 65536
  pub pending : l.pending ≤ 65536
  pub readers : l.readers ≤ 65536
  pub operations : l.operations ≤ 65536

-- ---- the record area

abbrev pub last_at : ℕ → ℕ
last_at c = 1 + c

abbrev pub reader_at : ℕ → ℕ
reader_at r = 17 + r

-- the number of objects
abbrev pub size_at : Limits → ℕ
size_at l = reader_at l.readers

abbrev pub object_width : Limits → ℕ
object_width l = object_cells l.readers

-- the cells of its versions, with the number of them
abbrev pub versions_width : Limits → ℕ
versions_width l = width l.readers

abbrev pub object_at : Limits → ℕ → ℕ
object_at l i = 1 + size_at l + i * object_width l

-- the number of pending transactions
abbrev pub pending_at : Limits → ℕ
pending_at l = object_at l l.objects

-- the cells of a row with room for m entries
abbrev pub row_cells : ℕ → ℕ
row_cells m = 9 + 2 * m

abbrev pub row_width : Limits → ℕ
row_width l = row_cells l.operations

abbrev pub row_at : Limits → ℕ → ℕ
row_at l i = 1 + pending_at l + i * row_width l

-- the tail: where the rows end
abbrev pub tail_at : Limits → ℕ
tail_at l = row_at l l.pending

-- in bytes; the tail is empty
abbrev pub record_length : Limits → ℕ
record_length l = tail_at l * 8

-- ---- an object: the block of its versions, then its bounds

abbrev pub stamp_at : ℕ → ℕ
stamp_at j = 1 + j * 2

abbrev pub value_at : ℕ → ℕ
value_at j = 2 + j * 2

abbrev pub lower_at : Limits → ℕ
lower_at l = versions_width l

abbrev pub upper_at : Limits → ℕ
upper_at l = versions_width l + 1

-- ---- a row: key, program counter, outcome, registers, number of reads, number of reads and writes, entries

abbrev pub counter_at : ℕ
counter_at = 1

abbrev pub outcome_at : ℕ
outcome_at = 2

abbrev pub register_at : ℕ → ℕ
register_at r = 3 + r

abbrev pub reads_at : ℕ
reads_at = 7

abbrev pub entries_at : ℕ
entries_at = 8

abbrev pub entry_at : ℕ → ℕ
entry_at j = 9 + j * 2

-- ---- the body area

abbrev pub body_width : Limits → ℕ
body_width l = body_length l.operations

abbrev pub body_at : Limits → ℕ → ℕ
body_at l i = i * body_width l

abbrev pub bodies_length : Limits → ℕ
bodies_length l = body_at l l.pending

-- ---- what the code's offsets say of themselves

-- an offset into the record area, in cells: it lies in the area, whose length in bytes is far from an overflow
pub record CellAt (l : Limits) (at r : ℕ) : Type 0 where
  pub exact : r ≡ at
  pub inside : r * 8 ≤ record_length l
  pub small : record_length l ≤ 2 ^ 38

-- an offset into the body area, in bytes
pub record ByteAt (l : Limits) (at r : ℕ) : Type 0 where
  pub exact : r ≡ at
  pub inside : r ≤ bodies_length l
  pub small : bodies_length l ≤ 2 ^ 38
