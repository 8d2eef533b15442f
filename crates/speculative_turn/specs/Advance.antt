-- At most `budget` operations of one pending transaction, in its row: what the code asks and what it leaves. Assumes nothing.
use Rattle.std.specs.Prelude.{◌≡◌, refl, Bool, true, false, cond, List, ℕ, zero, suc, ◌+◌, ◌*◌, ◌^◌, ◌≤◌, ◌<◌, ℤ, length, take}
use Rattle.std.proofs.Common.{sym, ap, ◌∙◌, true≢false, length-take-le, arith}
use Rattle.cells.specs.Cells.{cells, uncells}
use Rattle.cells.specs.Uncells.{length-uncells}
use Rattle.operation.specs.Body.{register_count, operations, is_well_formed}
use Rattle.operation.specs.declared.Operation.{Operation}
use Rattle.operation.proofs.BodyLaws.{formed}
use Rattle.execution.specs.declared.Counts.{Counts}
use Rattle.execution.specs.Entries.{Entry}
use Rattle.execution.specs.Run.{Table, Beside, table_of, object_count, Run, is_none, due_at, ended, steps, counted, over}
use Rattle.execution.proofs.ReadAgreement.{stay}
use Rattle.execution.specs.RunShape.{every, sound}
use Rattle.execution.specs.Arrays.{capacity, run_of_arrays, Room, Within, Lent}
use Rattle.execution_interpreter.specs.declared.Executed.{Executed}
use Rattle.execution_interpreter.specs.Executes.{Executes}
use Rattle.layout.specs.Layout.{Row, row}
use Rattle.layout.specs.Offsets.{entry_at}
use Rattle.layout.specs.Printable.{RowFits}
use Rattle.rows.specs.RowRun.{run_in, Readable, Loaded, Storable, Stored}
use Rattle.rows.specs.Loading.{row-run, row-length}
use Rattle.rows.specs.Storing.{stored_back}
use Rattle.speculative_turn.specs.declared.Advanced.{Advanced}

-- the run on record in a row, and the one that at most `budget` operations on the table `vs` make of it
abbrev pub before : List ℕ → Run
before xs = run_in (cells xs)

abbrev pub after : List ℕ → List ℕ → List ℤ → Beside → ℕ → Run
after xs body vs rest budget = steps (table_of vs rest) (operations body) budget (before xs)

abbrev pub operations_used : List ℕ → List ℕ → List ℤ → Beside → ℕ → ℕ
operations_used xs body vs rest budget = counted (table_of vs rest) (operations body) budget (before xs)

-- a row xs with its body, over a table of all objects: it can be read and run, and has room for what comes of it
pub record Ready (xs body : List ℕ) (vs : List ℤ) (rest : Beside) (budget : ℕ) : Type 0 where
  pub readable : Readable xs
  pub formed : is_well_formed capacity (object_count vs) body ≡ true
  pub reads : length (before xs).reads ≤ (before xs).counter
  pub writes : length (before xs).writes ≤ (before xs).counter
  pub registers : length (after xs body vs rest budget).registers ≡ register_count
  pub few : length (after xs body vs rest budget).reads + length (after xs body vs rest budget).writes ≤ capacity
  pub long : entry_at (length (after xs body vs rest budget).reads + length (after xs body vs rest budget).writes) * 8 ≤ length xs
  pub sound : every (sound (object_count vs)) (after xs body vs rest budget).writes ≡ true

-- the row ys holds the run q, if xs was the row of one
abbrev pub Rewritten : List ℕ → List ℕ → Run → Type 0
Rewritten xs ys q = (m : ℕ) (r : Row) → m < 2 ^ 64 → RowFits m r → xs ≡ uncells ((row m).enc r) → ys ≡ uncells ((row m).enc (r.0, q))

-- what a turn leaves: the row ys, and the table ws, which a finished transaction's writes are over
pub record Leaves (xs body : List ℕ) (vs : List ℤ) (rest : Beside) (budget : ℕ) (a : Advanced) (ys : List ℕ) (ws : List ℤ) : Type 0 where
  pub used : a.used ≡ operations_used xs body vs rest budget
  pub finished : a.finished ≡ ended (operations body) (after xs body vs rest budget)
  pub row : Rewritten xs ys (after xs body vs rest budget)
  pub table : table_of ws rest ≡ cond (ended (operations body) (after xs body vs rest budget)) (over (after xs body vs rest budget).writes (table_of vs rest)) (table_of vs rest)

-- the run after the operations stands in these counts and arrays
pub record Ran (xs body : List ℕ) (vs : List ℤ) (rest : Beside) (budget : ℕ) (e : Executed) (g : List ℤ) (reads writes : List Entry) : Type 0 where
  pub run : run_of_arrays e.counts g reads writes ≡ after xs body vs rest budget
  pub within : Within e.counts
  pub read_room : Room reads
  pub write_room : Room writes
  pub used : e.used ≡ operations_used xs body vs rest budget

-- ---- counts and the run that they stand for

counts_of : (t : Counts) (g : List ℤ) (reads writes : List Entry) (p : Run) → run_of_arrays t g reads writes ≡ p → Within t → Room reads → Room writes
    → (t.reads ≡ length p.reads) × (t.writes ≡ length p.writes) × (t.counter ≡ p.counter)
counts_of t g reads writes p e w rr wr = (
  sym (length-take-le t.reads reads (omega (arith, w.reads, rr))) ∙ ap (λ (q : Run). length q.reads) e,
  sym (length-take-le t.writes writes (omega (arith, w.writes, wr))) ∙ ap (λ (q : Run). length q.writes) e,
  ap (λ (q : Run). q.counter) e,
)

-- a run that has ended takes no operation
counted-ended : (T : Table) (b : List Operation) (k : ℕ) (p : Run) → ended b p ≡ true → counted T b k p ≡ 0
unfolding counted
counted-ended T b zero p e = refl
counted-ended T b (suc k) p e = rw e

-- a run that has not ended has no outcome yet
going_on : (b : List Operation) (i o : ℕ) → is_none (due_at b i o) ≡ false → o ≡ 0
going_on b i zero e = refl
going_on b i (suc o) e = absurd (true≢false e)

pub row_bytes : (m : ℕ) (r : Row) → m < 2 ^ 64 → RowFits m r → (xs : List ℕ) → xs ≡ uncells ((row m).enc r) → length xs ≡ entry_at m * 8
row_bytes m r h f xs e = ap length e ∙ length-uncells ((row m).enc r) ∙ ap (λ (n : ℕ). n * 8) (row-length m r f h)

module _ {xs body : List ℕ} {vs : List ℤ} {rest : Beside} {budget : ℕ} (r : Ready xs body vs rest budget) where
  abbrev T : Table
  T = table_of vs rest

  abbrev b : List Operation
  b = operations body

  abbrev q : Run
  q = after xs body vs rest budget

  pub some-body : 0 < length body
  some-body = let f = formed capacity (object_count vs) body r.formed in omega (arith, f.whole)

  -- a turn's table, by whether the transaction is finished then
  overlaid : (o : Bool) → ended b q ≡ o → (ws : List ℤ) → table_of ws rest ≡ cond o (over q.writes T) T → table_of ws rest ≡ cond (ended b q) (over q.writes T) T
  overlaid o f ws e = e ∙ ap (λ (x : Bool). cond x (over q.writes T) T) (sym f)

  -- ---- a finished transaction: its row stays as it is, and its writes go over the table

  module _ (done : ended b (before xs) ≡ true) where
    same : q ≡ before xs
    same = stay T b budget (before xs) done

    pub idle_sound : every (sound (object_count vs)) (before xs).writes ≡ true
    idle_sound = ap (λ (p : Run). every (sound (object_count vs)) p.writes) (sym same) ∙ r.sound

    pub idle : (ws : List ℤ) → table_of ws rest ≡ over (before xs).writes T → Leaves xs body vs rest budget (record { used = 0; finished = true }) xs ws
    idle ws e =
        let f = ap (ended b) same ∙ done in
        record {
          used = sym (counted-ended T b budget (before xs) done);
          finished = sym f;
          row = λ m x h g o. o ∙ ap (λ (p : Run). uncells ((row m).enc (x.0, p))) (sym (same ∙ ap before o ∙ row-run m x g h));
          table = overlaid true f ws (e ∙ ap (λ (p : Run). over p.writes T) (sym same));
        }

  -- ---- any other: its run is loaded,

  module _ {t : Counts} {g : List ℤ} {reads writes : List Entry} (k : Loaded (cells xs) t g reads writes) where
    pub lent : Lent t reads writes
    lent =
        let n = counts_of t g reads writes (before xs) k.run k.within k.read_room k.write_room in
        record { bounded = record { reads = omega (arith, r.reads); writes = omega (arith, r.writes) }; read_room = k.read_room; write_room = k.write_room }

    pub unstopped : ended b (before xs) ≡ false → t.outcome ≡ 0
    unstopped e = going_on b t.counter t.outcome (ap (ended b) k.run ∙ e)

    pub ran : {e : Executed} {g' : List ℤ} {reads' writes' : List Entry}
        → Executes T b budget (run_of_arrays t g reads writes) (run_of_arrays e.counts g' reads' writes') e.used → (Within t → Within e.counts) → Lent e.counts reads' writes' → Ran xs body vs rest budget e g' reads' writes'
    ran x w l = record { run = x.run ∙ ap (steps T b budget) k.run; within = w k.within; read_room = l.read_room; write_room = l.write_room; used = x.count ∙ ap (counted T b budget) k.run }

  -- ---- carried on to e in these arrays,

  module _ {e : Executed} {g : List ℤ} {reads writes : List Entry} (k : Ran xs body vs rest budget e g reads writes) where
    numbers : (e.counts.reads ≡ length q.reads) × (e.counts.writes ≡ length q.writes) × (e.counts.counter ≡ q.counter)
    numbers = counts_of e.counts g reads writes q k.run k.within k.read_room k.write_room

    -- there is room for the new run
    pub storable : Storable e.counts g xs
    storable =
        let n = numbers in
        record { few = omega (arith, r.few); long = omega (arith, r.long); registers = ap (λ (p : Run). length p.registers) k.run ∙ r.registers }

    -- its writes can be laid over the table
    pub overlays : (e.counts.writes ≤ capacity) × (every (sound (object_count vs)) (take e.counts.writes writes) ≡ true)
    overlays = (k.within.writes, ap (λ (p : Run). every (sound (object_count vs)) p.writes) k.run ∙ r.sound)

    -- ---- and stored

    module _ {ys : List ℕ} (st : Stored e.counts g reads writes xs ys) {o : Bool} (end : o ≡ is_none (due_at b e.counts.counter e.counts.outcome)) where
      ends : ended b q ≡ o
      ends = ap (ended b) (sym k.run) ∙ sym end

      pub leaves : (ws : List ℤ) → table_of ws rest ≡ cond o (over (take e.counts.writes writes) T) T → Leaves xs body vs rest budget (record { used = e.used; finished = o }) ys ws
      leaves ws f =
          record {
            used = k.used;
            finished = sym ends;
            row = λ m x h y p. stored_back m x e.counts g reads writes xs ys p (row_bytes m x h y xs p) st ∙ ap (λ (z : Run). uncells ((row m).enc (x.0, z))) k.run;
            table = overlaid o ends ws (f ∙ ap (λ (p : Run). cond o (over p.writes T) T) k.run);
          }
