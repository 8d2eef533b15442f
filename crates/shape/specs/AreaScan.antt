-- The shape check of document 01 as the code goes: one pass over the cells of the record area and the bytes of the body area. Assumes nothing.
-- n is the number of objects, os their cells, readers the number of readers, most the limit of a body's operations, y a place for a body, xs and
-- ys the cells and bytes from a row and its place on.
use Rattle.std.specs.Prelude.{Bool, true, ◌&&◌, ◌||◌, List, ℕ, zero, suc, eqb, leb, ltb, take, drop, get_or}
use Rattle.std.proofs.Math.Seq.{slice}
use Rattle.cells.specs.Cells.{cells}
use Rattle.cells.specs.Zeros.{zeros}
use Rattle.operation.specs.Body.{size}
use Rattle.model.specs.declared.Limits.{Limits}
use Rattle.layout.specs.Rows.{chunks}
use Rattle.layout.specs.Layout.{Areas}
use Rattle.layout.specs.Offsets.{row_at, body_at}
use Rattle.layout.specs.Unchecked.{size_in, pending_in}
use Rattle.shape_names.specs.NameScan.{absent}
use Rattle.shape_row.specs.RowScan.{counter_in, outcome_in, row_in, cells_of, place_of}
use Rattle.shape_objects.specs.ObjectScan.{lasts_of, objects_of, header_in, objects_in}

-- ---- all rows

-- The next of k + 1 rows: itself, its place in the order (b: all before are finished), and its key, which no later row has.
unfoldable pub next_in : ℕ → ℕ → ℕ → List ℕ → List ℕ → Bool → ℕ → List ℕ → List ℕ → Bool
next_in most n readers os lasts b k xs y =
    row_in most n readers os lasts (take (cells_of most) xs) y && ((b || eqb (counter_in xs) 0) && absent (get_or xs 0 0) (chunks (cells_of most) k (drop (cells_of most) xs)))

-- the same but for its key
unfoldable pub placed_in : ℕ → ℕ → ℕ → List ℕ → List ℕ → Bool → List ℕ → List ℕ → Bool
placed_in most n readers os lasts b xs y = row_in most n readers os lasts (take (cells_of most) xs) y && (b || eqb (counter_in xs) 0)

-- whether it is finished
abbrev pub finished_in : List ℕ → List ℕ → Bool
finished_in xs y = ltb 0 (outcome_in xs) || leb (size y) (counter_in xs)

-- k rows and their bodies
unfoldable pub rows_in : ℕ → ℕ → ℕ → List ℕ → List ℕ → Bool → ℕ → List ℕ → List ℕ → Bool
rows_in most n readers os lasts b zero xs ys = true
rows_in most n readers os lasts b (suc k) xs ys =
    next_in most n readers os lasts b k xs (take (place_of most) ys) && rows_in most n readers os lasts (b && finished_in xs (take (place_of most) ys)) k (drop (cells_of most) xs) (drop (place_of most) ys)

-- the same but for their keys
unfoldable pub keyless_in : ℕ → ℕ → ℕ → List ℕ → List ℕ → Bool → ℕ → List ℕ → List ℕ → Bool
keyless_in most n readers os lasts b zero xs ys = true
keyless_in most n readers os lasts b (suc k) xs ys =
    placed_in most n readers os lasts b xs (take (place_of most) ys) && keyless_in most n readers os lasts (b && finished_in xs (take (place_of most) ys)) k (drop (cells_of most) xs) (drop (place_of most) ys)

-- ---- the areas, for limits l: w are the cells of the record area, ys the bytes of the body area

-- the rows in use, k of them
abbrev pub used_in : Limits → ℕ → List ℕ → List ℕ → Bool
used_in l k w ys =
    rows_in l.operations (size_in l w) l.readers (objects_of l w) (lasts_of w) true k (drop (row_at l 0) w) ys

-- zeros behind them, and behind their bodies
abbrev pub unused_in : Limits → ℕ → List ℕ → List ℕ → Bool
unused_in l k w ys = zeros (slice (row_at l k) (row_at l l.pending) w) && zeros (drop (body_at l k) ys)

-- the number of pending transactions, rows and bodies, and zeros behind both
unfoldable pub pending_part : Limits → List ℕ → List ℕ → Bool
pending_part l w ys =
    leb (pending_in l w) l.pending && (used_in l (pending_in l w) w ys && unused_in l (pending_in l w) w ys)

-- areas of the right lengths
unfoldable pub scan : Limits → Areas → Bool
scan l a = header_in l (cells a.0) && (objects_in l (cells a.0) && pending_part l (cells a.0) a.1)
