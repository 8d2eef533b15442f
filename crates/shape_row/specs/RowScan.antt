-- The shape check of one row and its body as the code goes. Assumes nothing.
-- n is the number of objects, os their cells, one object after another, readers the number of readers, most the limit of a body's operations, m the
-- number of a body's operations, x the cells of a row, y a place for a body.
use Rattle.std.specs.Prelude.{Bool, true, cond, ◌&&◌, ◌||◌, List, ℕ, zero, suc, ◌+◌, ◌-◌, ◌*◌, ◌/◌, ◌%◌, ◌^◌, eqb, leb, ltb, length, take, drop, get_or}
use Rattle.std.specs.Int.{w64}
use Rattle.std.proofs.Common.{to_z}
use Rattle.cells.specs.Zeros.{zeros}
use Rattle.operation.specs.Body.{body_length, size, is_well_formed}
use Rattle.execution.specs.Bounds.{inside}
use Rattle.execution.specs.LentTable.{cell_bounds}
use Rattle.model.specs.Calls.{clients}
use Rattle.shape_names.specs.NameScan.{names_in}
use Rattle.versions.specs.Block.{width, object_cells}
use Rattle.layout.specs.Offsets.{counter_at, outcome_at, reads_at, entries_at, entry_at}

-- cells of a row, bytes of a place
abbrev pub cells_of : ℕ → ℕ
cells_of most = 9 + 2 * most

abbrev pub place_of : ℕ → ℕ
place_of most = body_length most

-- the cell of an object's lower bound; the upper one's is the next
abbrev pub bound_cell : ℕ → ℕ → ℕ
bound_cell readers o = o * object_cells readers + width readers

-- the parts of a row that are looked at
abbrev pub counter_in : List ℕ → ℕ
counter_in x = get_or x counter_at 0

abbrev pub outcome_in : List ℕ → ℕ
outcome_in x = get_or x outcome_at 0

abbrev pub reads_in : List ℕ → ℕ
reads_in x = get_or x reads_at 0

-- reads and writes
abbrev pub entries_in : List ℕ → ℕ
entries_in x = get_or x entries_at 0

-- "unspent": the client is one of the clients, and the sequence number above its last
unfoldable pub key_in : List ℕ → ℕ → Bool
key_in lasts k = ltb (k / 2 ^ 32) clients && ltb (get_or lasts (k / 2 ^ 32) 0) (k % 2 ^ 32)

-- a body, well formed, and zeros behind it
abbrev pub body_end : List ℕ → ℕ
body_end y = body_length (size y)

unfoldable pub body_in : ℕ → ℕ → List ℕ → Bool
body_in most n y =
    leb (body_end y) (length y) && (is_well_formed most n (take (body_end y) y) && zeros (drop (body_end y) y))

-- k entries, each an object and a value: the value inside the object's bounds
unfoldable pub stores_in : ℕ → List ℕ → ℕ → List ℕ → Bool
stores_in readers os zero xs = true
stores_in readers os (suc k) xs =
    inside (cell_bounds os (bound_cell readers (get_or xs 0 0))) (to_z w64 (get_or xs 1 0)) && stores_in readers os k (drop 2 xs)

-- reads, writes, whose values lie inside their objects' bounds, and the zeros behind them: r reads, e of both
unfoldable pub sets_in : ℕ → List ℕ → ℕ → ℕ → ℕ → List ℕ → Bool
sets_in readers os n r e x =
    names_in n r (drop (entry_at 0) x) && (names_in n (e - r) (drop (entry_at r) x) && (stores_in readers os (e - r) (drop (entry_at r) x) && zeros (drop (entry_at e) x)))

-- a transaction that has begun: its counter c, outcome o, r reads, e reads and writes
abbrev pub begun : ℕ → List ℕ → ℕ → ℕ → ℕ → ℕ → ℕ → ℕ → List ℕ → Bool
begun readers os n m c o r e x =
    leb c m && (leb o 3 && (leb e c && (leb r e && ((eqb o 0 || eqb r e) && sets_in readers os n r e x))))

unfoldable pub begun_in : ℕ → List ℕ → ℕ → ℕ → List ℕ → Bool
begun_in readers os n m x = begun readers os n m (counter_in x) (outcome_in x) (reads_in x) (entries_in x) x

-- one at its start is its key and zeros
unfoldable pub run_in : ℕ → List ℕ → ℕ → ℕ → List ℕ → Bool
run_in readers os n m x = cond (eqb (counter_in x) 0) (zeros (drop outcome_at x)) (begun_in readers os n m x)

-- one row and its body
unfoldable pub row_in : ℕ → ℕ → ℕ → List ℕ → List ℕ → List ℕ → List ℕ → Bool
row_in most n readers os lasts x y =
    key_in lasts (get_or x 0 0) && (body_in most n y && run_in readers os n (size y) x)
