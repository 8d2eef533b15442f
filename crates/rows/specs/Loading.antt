-- Reading a row: what the code's stores into arrays come to, and that a row which holds a run is read as that run. Assumes nothing.
use Rattle.std.specs.Prelude.{◌≡◌, List, [], ◌∷◌, ◌++◌, ℕ, ◌+◌, ◌-◌, ◌*◌, ◌^◌, ◌≤◌, ◌<◌, ℤ, pos, length, take, drop, set}
use Rattle.std.proofs.Common.{sym, ap₂, ◌∙◌, add-one, length-take-le, length-drop, take_at, to_z}
use Rattle.std.proofs.Math.Path.{ap}
use native.Mathlib.Omega.{arith}
use Rattle.std.proofs.Math.ListN.{get_or, length-append, get_or-append}
use Rattle.std.proofs.Math.Seq.{get_or-append-add}
use Rattle.std.specs.Int.{w64}
use Rattle.std.proofs.Math.Facts.{to_z-of_z}
use Rattle.cells.specs.Cells.{cells, uncells}
use Rattle.cells.specs.CellLaws.{cells-uncells}
use Rattle.cells.specs.Uncells.{length-uncells}
use Rattle.operation.specs.Body.{register_count, listed}
use Rattle.operation.proofs.BodyLaws.{length-listed}
use Rattle.execution.specs.declared.Counts.{Counts}
use Rattle.execution.specs.Entries.{Entry, entry}
use Rattle.execution.specs.Run.{register}
use Rattle.execution.specs.Arrays.{capacity, Room, Within}
use Rattle.model.specs.ListLaws.{All}
use Rattle.model.proofs.ListLaws.{all_join, all_in}
use Rattle.layout.specs.Layout.{Row, row}
use Rattle.layout.specs.Offsets.{counter_at, outcome_at, reads_at, entries_at, entry_at}
use Rattle.layout.proofs.LawfulLaws.{all-below}
use Rattle.layout.specs.Printable.{ValueFits, EntryFits, RowFits}
use Rattle.layout.proofs.PrintableLaws.{lawful_row}
use Rattle.layout.proofs.RowCells.{row-register, row_reads, row-entries, row-object, row-value}
use Rattle.rows.specs.RowRun.{entry_in, entries_in, register_in, registers_in, run_in, Readable, Loaded}
use Rattle.execution.proofs.Listed.{listed_same, listed_of, listed-next, fill_next, all_listed}

-- ---- the code's stores

none : Entry
none = entry 0 (pos 0)

module _ (cs : List ℕ) (from : ℕ) where
  -- the first i entries from entry `from` on stand in a slice
  abbrev pub Filling : ℕ → List Entry → Type 0
  Filling i es = (k : ℕ) → k < i → get_or es k (entry 0 (pos 0)) ≡ entry_in cs (from + k)

  pub filling-none : (es : List Entry) → Filling 0 es
  filling-none es k h = absurd (omega arith)

  pub filling-next : (i : ℕ) (e : Entry) (es : List Entry) → i < length es → Filling i es → e ≡ entry_in cs (from + i) → Filling (i + 1) (set es i e)
  filling-next i e es h f a = fill_next (λ k. entry_in cs (from + k)) (entry 0 (pos 0)) es i e h f a

  pub filling-all : (i n : ℕ) (es : List Entry) → length es ≡ n → n ≤ i → Filling i es → es ≡ entries_in cs from n
  unfolding entries_in
  filling-all i n es e h f = all_listed (λ k. entry_in cs (from + k)) (entry 0 (pos 0)) es n e (λ k l. f k (omega arith))

  -- one entry more at the end
  pub entries_in-next : (n : ℕ) → entries_in cs from (n + 1) ≡ entries_in cs from n ++ entry_in cs (from + n) ∷ []
  unfolding entries_in
  entries_in-next n = rw add-one (listed-next (λ k. entry_in cs (from + k)) n)

  -- n entries, loaded into the front of an array
  module _ (n : ℕ) (es old : List Entry) (h : n ≤ length old) (e : es ≡ entries_in cs from (length (take n old))) where
    loaded_all : es ≡ entries_in cs from n
    loaded_all = rw (length-take-le n old h) at e

    loaded_length : length es ≡ n
    unfolding entries_in
    loaded_length = ap length loaded_all ∙ length-listed (λ i. entry_in cs (from + i)) n

    pub loaded_front : take n (es ++ drop n old) ≡ entries_in cs from n
    loaded_front = take_at es (drop n old) n loaded_length ∙ loaded_all

    pub loaded_room : Room old → Room (es ++ drop n old)
    loaded_room r = omega (arith, loaded_length, length-append es (drop n old), length-drop n old)

-- the parts put together
pub loaded : (cs : List ℕ) (t : Counts) (g : List ℤ) (reads writes : List Entry)
    → t.counter ≡ get_or cs counter_at 0 → t.outcome ≡ get_or cs outcome_at 0 → t.reads ≡ get_or cs reads_at 0 → t.writes ≡ get_or cs entries_at 0 - get_or cs reads_at 0
    → g ≡ registers_in cs → take t.reads reads ≡ entries_in cs 0 t.reads → take t.writes writes ≡ entries_in cs t.reads t.writes → Within t → Room reads → Room writes
    → Loaded cs t g reads writes
unfolding registers_in
loaded cs t g reads writes a b n w r x y v rr ww =
    let p = x ∙ ap (entries_in cs 0) n in
    let q = y ∙ ap₂ (entries_in cs) n w in
    record {
      run = λ i. record { counter = a i; outcome = b i; registers = r i; reads = p i; writes = q i };
      registers = ap length r ∙ length-listed (register_in cs) register_count;
      within = v;
      read_room = rr;
      write_room = ww;
    }

-- ---- a row that holds a run

row-size : (m : ℕ) → (row m).size ≡ entry_at m
unfolding register_count
row-size m = omega arith

long-enough : (cs : List ℕ) (m n : ℕ) → length cs ≡ entry_at m → n ≤ m → entry_at n * 8 ≤ length (uncells cs)
long-enough cs m n e h = omega (arith, length-uncells cs)

module _ (m : ℕ) (r : Row) (g : RowFits m r) where
  abbrev cs : List ℕ
  cs = (row m).enc r

  abbrev es : List Entry
  es = r.1.reads ++ r.1.writes

  fits : All EntryFits es
  fits = all_join EntryFits r.1.reads r.1.writes g.1.1.1.1.1 g.1.1.1.1.2

  -- entry i as the cells say it
  entry-back : (i : ℕ) → i < length es → entry_in cs i ≡ get_or es i none
  entry-back i h =
      let o = row-object m r g i h none in
      let v = ap (to_z w64) (row-value m r g i h none) ∙ to_z-of_z (all_in EntryFits es i none fits h).1 in
      λ k. entry (o k) (v k)

  registers-back : registers_in cs ≡ r.1.registers
  unfolding registers_in
  registers-back =
      let n = g.1.1.1.0.0 in
      listed_same (register_in cs) (register r.1.registers) register_count
      (λ k h. ap (to_z w64) (row-register m r g k h) ∙ to_z-of_z (all_in ValueFits r.1.registers k (pos 0) g.1.1.1.0.1 (omega arith)))
      ∙ ap (listed (register r.1.registers)) (sym n) ∙ listed_of r.1.registers (pos 0)

  reads-back : entries_in cs 0 (length r.1.reads) ≡ r.1.reads
  unfolding entries_in
  reads-back =
      listed_same (λ i. entry_in cs (0 + i)) (λ i. get_or r.1.reads i none) (length r.1.reads)
      (λ i h. let z : 0 + i ≡ i = omega arith in
      ap (entry_in cs) z ∙ entry-back i (omega (arith, length-append r.1.reads r.1.writes)) ∙ get_or-append r.1.reads r.1.writes none i h)
      ∙ listed_of r.1.reads none

  writes-back : entries_in cs (length r.1.reads) (length r.1.writes) ≡ r.1.writes
  unfolding entries_in
  writes-back =
      listed_same (λ i. entry_in cs (length r.1.reads + i)) (λ i. get_or r.1.writes i none) (length r.1.writes)
      (λ i h. entry-back (length r.1.reads + i) (omega (arith, length-append r.1.reads r.1.writes)) ∙ get_or-append-add r.1.reads r.1.writes i none)
      ∙ listed_of r.1.writes none

  -- a row that holds a run says that run
  pub run-back : run_in ((row m).enc r) ≡ r.1
  run-back =
      let n = row_reads m r g in
      let w : get_or cs entries_at 0 - get_or cs reads_at 0 ≡ length r.1.writes =
      omega (arith, n, row-entries m r g, length-append r.1.reads r.1.writes) in
      let a = registers-back in
      let b = ap (entries_in cs 0) n ∙ reads-back in
      let c = ap₂ (entries_in cs) n w ∙ writes-back in
      λ i. record { counter = r.1.counter; outcome = r.1.outcome; registers = a i; reads = b i; writes = c i }

  module _ (room : m < 2 ^ 64) where
    pub row-length : length ((row m).enc r) ≡ entry_at m
    row-length = (lawful_row m room).len r g ∙ row-size m

    pub row_back : cells (uncells ((row m).enc r)) ≡ (row m).enc r
    row_back = cells-uncells cs (all-below (2 ^ 64) cs (omega arith) ((lawful_row m room).small r g))

    pub row-run : run_in (cells (uncells ((row m).enc r))) ≡ r.1
    row-run = ap run_in row_back ∙ run-back

    -- its bytes are a row that the code can read
    pub row-readable : m ≤ capacity → Readable (uncells ((row m).enc r))
    row-readable few =
        let e : get_or (cells (uncells cs)) entries_at 0 ≡ length es = ap (λ (x : List ℕ). get_or x entries_at 0) row_back ∙ row-entries m r g in
        let n : get_or (cells (uncells cs)) reads_at 0 ≡ length r.1.reads = ap (λ (x : List ℕ). get_or x reads_at 0) row_back ∙ row_reads m r g in
        let k = g.1.1.1.1.0 in
        let l = length-append r.1.reads r.1.writes in
        record { reads = omega arith; few = omega arith; long = long-enough cs m (get_or (cells (uncells cs)) entries_at 0) row-length (omega arith) }
