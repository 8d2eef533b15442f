-- What the cells of one row say of its run, and what the code asks of a row and leaves in it. A row: key, program counter, outcome, registers, number
-- of reads, number of reads and writes, entries. Assumes nothing.
use Rattle.std.specs.Prelude.{◌≡◌, List, [], ◌∷◌, ◌++◌, map, ℕ, ◌+◌, ◌-◌, ◌*◌, ◌≤◌, ℤ, length, get_or, take, drop}
use Rattle.std.specs.Int.{w64}
use Rattle.std.proofs.Common.{to_z, of_z}
use Rattle.cells.specs.Cells.{cells, uncells}
use Rattle.operation.specs.Body.{register_count, listed}
use Rattle.execution.specs.declared.Counts.{Counts}
use Rattle.execution.specs.Entries.{Entry, entry}
use Rattle.execution.specs.Run.{Run}
use Rattle.execution.specs.Arrays.{capacity, run_of_arrays, Room, Within}
use Rattle.layout.specs.Rows.{flat}
use Rattle.layout.specs.Layout.{run, entry as entry-codec}
use Rattle.layout.specs.Offsets.{counter_at, outcome_at, register_at, reads_at, entries_at, entry_at}

abbrev pub entry_in : List ℕ → ℕ → Entry
entry_in cs i = entry (get_or cs (entry_at i) 0) (to_z w64 (get_or cs (entry_at i + 1) 0))

-- n entries, from entry `from` on
unfoldable pub entries_in : List ℕ → ℕ → ℕ → List Entry
entries_in cs from n = listed (λ i. entry_in cs (from + i)) n

abbrev pub register_in : List ℕ → ℕ → ℤ
register_in cs r = to_z w64 (get_or cs (register_at r) 0)

unfoldable pub registers_in : List ℕ → List ℤ
registers_in cs = listed (register_in cs) register_count

-- the run of a row
abbrev pub run_in : List ℕ → Run
run_in cs =
    record {
      counter = get_or cs counter_at 0;
      outcome = get_or cs outcome_at 0;
      registers = registers_in cs;
      reads = entries_in cs 0 (get_or cs reads_at 0);
      writes = entries_in cs (get_or cs reads_at 0) (get_or cs entries_at 0 - get_or cs reads_at 0);
    }

-- a row whose entries the lent arrays can take, and which has them all
pub record Readable (bs : List ℕ) : Type 0 where
  pub reads : get_or (cells bs) reads_at 0 ≤ get_or (cells bs) entries_at 0
  pub few : get_or (cells bs) entries_at 0 ≤ capacity
  pub long : entry_at (get_or (cells bs) entries_at 0) * 8 ≤ length bs

-- the run of a row stands in these counts and arrays
pub record Loaded (cs : List ℕ) (t : Counts) (g : List ℤ) (reads writes : List Entry) : Type 0 where
  pub run : run_of_arrays t g reads writes ≡ run_in cs
  pub registers : length g ≡ register_count
  pub within : Within t
  pub read_room : Room reads
  pub write_room : Room writes

-- ---- and back

-- of the cells cs the first are stored anew, so that they are ds
pub record Behind (cs stored ds : List ℕ) : Type 0 where
  pub same : ds ≡ stored ++ drop (length stored) cs

-- the key as it is, and all else that stands before the entries
abbrev pub front : Counts → List ℤ → List ℕ → List ℕ
front t g cs = take 1 cs ++ (t.counter ∷ t.outcome ∷ (map (of_z w64) g ++ (t.reads ∷ (t.reads + t.writes) ∷ [])))

-- the cells of entries
unfoldable pub entry_cells : List Entry → List ℕ
entry_cells es = flat (map entry-codec.enc es)

-- the row xs has room for the run in these counts
pub record Storable (t : Counts) (g : List ℤ) (xs : List ℕ) : Type 0 where
  pub few : t.reads + t.writes ≤ capacity
  pub long : entry_at (t.reads + t.writes) * 8 ≤ length xs
  pub registers : length g ≡ register_count

-- the row ys: its key as it was in xs, and the run in these counts and arrays
pub record Stored (t : Counts) (g : List ℤ) (reads writes : List Entry) (xs ys : List ℕ) : Type 0 where
  pub whole : (m : ℕ) → length xs ≡ entry_at m * 8 → ys ≡ take 8 xs ++ uncells ((run m).enc (run_of_arrays t g reads writes))
