-- Writing a row: what the code's stores leave. Assumes nothing.
use Rattle.std.specs.Prelude.{◌≡◌, refl, ℤ, pos, take}
use Rattle.std.proofs.Common.{sym, ◌∙◌, length-drop, drop_of_length-le, take-append-drop, take_at, drop-drop, length-take-le}
use Rattle.std.proofs.Math.Path.{ap, ap₂}
use mathlib.Core.List.{List, [], ◌∷◌, ◌++◌, map, append_assoc, append-nil}
use Prim.Native.Nat.{ℕ, zero, suc, ◌+◌, ◌-◌, ◌*◌, ◌≤◌, ◌<◌}
use native.Mathlib.Omega.{arith}
use Rattle.std.proofs.Math.ListN.{length, get_or, set, drop, length-append, length-map, get_or-map}
use Rattle.std.proofs.lemmas.List.{length-replicate}
use Rattle.std.proofs.Math.Seq.{paste, paste-zero, drop-append-add}
use mir.Syntax.{w64}
use mir.Val.{of_z}
use Rattle.cells.specs.Cells.{cells, uncells, splice, Below}
use Rattle.cells.specs.Splice.{splice-one}
use Rattle.cells.specs.BlockMoves.{copy_step, copy_done}
use Rattle.cells.specs.CellLaws.{uncells-cells}
use Rattle.cells.specs.Uncells.{uncells-append, uncells-take}
use Rattle.operation.specs.Body.{register_count}
use Rattle.execution.specs.declared.Counts.{Counts}
use Rattle.execution.specs.Entries.{Entry}
use Rattle.execution.specs.Arrays.{run_of_arrays}
use Rattle.layout.specs.Rows.{flat, table, blank}
use Rattle.layout.specs.Layout.{Row, row, run}
use Rattle.layout.specs.Layout as layout
use Rattle.layout.specs.Offsets.{counter_at, outcome_at, register_at, reads_at, entries_at, entry_at}
use Rattle.layout.proofs.RowCells.{array-cells}
use Rattle.rows.specs.RowRun.{Behind, front, entry_cells, Stored}

-- ---- entries and their cells

pub length_cells-of : (es : List Entry) → length (entry_cells es) ≡ length es * 2
unfolding entry_cells flat
length_cells-of [] = omega arith
length_cells-of (e ∷ es) = omega (arith, length_cells-of es)

cells_of-join : (a b : List Entry) → entry_cells (a ++ b) ≡ entry_cells a ++ entry_cells b
unfolding entry_cells flat
cells_of-join [] b = refl
cells_of-join (e ∷ a) b = ap (λ (x : List ℕ). e.object ∷ of_z w64 e.value ∷ x) (cells_of-join a b)

cell_of : (es : List Entry) (i : ℕ) (d : Entry) → i < length es → (get_or (entry_cells es) (i * 2) 0 ≡ (get_or es i d).object) × (get_or (entry_cells es) (i * 2 + 1) 0 ≡ of_z w64 (get_or es i d).value)
unfolding entry_cells flat
cell_of [] i d h = absurd (omega arith)
cell_of (e ∷ es) zero d h = (refl, refl)
cell_of (e ∷ es) (suc i) d h =
    let a : suc i * 2 ≡ suc (suc (i * 2)) = omega arith in
    let b : suc i * 2 + 1 ≡ suc (suc (i * 2 + 1)) = omega arith in
    let k = cell_of es i d (omega arith) in
    (ap (λ (n : ℕ). get_or (entry_cells (e ∷ es)) n 0) a ∙ k.0, ap (λ (n : ℕ). get_or (entry_cells (e ∷ es)) n 0) b ∙ k.1)

-- ---- a turn of the loop that stores registers, of any number

module _ (cs : List ℕ) (g : List ℤ) where
  -- the first i of them stand in the row
  abbrev pub Registers : ℕ → List ℕ → Type 0
  Registers i ds = ds ≡ paste cs (register_at 0) (map (of_z w64) g) i

  pub registers-none : Registers 0 cs
  registers-none = paste-zero cs (register_at 0) (map (of_z w64) g)

  pub registers-next : (i : ℕ) (ds : List ℕ) → register_at (length g) ≤ length cs → i < length g → Registers i ds → Registers (i + 1) (set ds (register_at i) (of_z w64 (get_or g i (pos 0))))
  registers-next i ds room h k =
      copy_step cs (map (of_z w64) g) ds (register_at 0) i k (of_z w64 (get_or g i (pos 0))) (omega arith) (omega (arith, length-map g (of_z w64))) (sym (get_or-map (of_z w64) g i (pos 0)))

  pub registers-all : (i : ℕ) (ds : List ℕ) → i ≡ length g → Registers i ds → ds ≡ splice cs (register_at 0) (map (of_z w64) g)
  registers-all i ds h k = copy_done cs (map (of_z w64) g) ds (register_at 0) i k (omega (arith, length-map g (of_z w64)))

-- ---- a turn of the loop that stores entries

module _ (cs : List ℕ) (from : ℕ) (es : List Entry) where
  -- the first i of them stand from entry `from` on
  abbrev pub Storing : ℕ → List ℕ → Type 0
  Storing i ds = ds ≡ paste cs (entry_at from) (entry_cells es) (i * 2)

  pub storing_none : Storing 0 cs
  storing_none = paste-zero cs (entry_at from) (entry_cells es)

  pub storing_next : (d : Entry) (i : ℕ) (ds : List ℕ) → entry_at (from + length es) ≤ length cs → i < length es → Storing i ds
      → Storing (i + 1) (set (set ds (entry_at (from + i)) (get_or es i d).object) (entry_at (from + i) + 1) (of_z w64 (get_or es i d).value))
  storing_next d i ds room h k =
      let s = entry_cells es in
      let at = entry_at from in
      let o = (get_or es i d).object in
      let v = of_z w64 (get_or es i d).value in
      let size = length_cells-of es in
      let there = cell_of es i d h in
      let a : entry_at (from + i) ≡ at + i * 2 = omega arith in
      let b : entry_at (from + i) + 1 ≡ at + (i * 2 + 1) = omega arith in
      let z : i * 2 + 1 + 1 ≡ (i + 1) * 2 = omega arith in
      let one : set ds (entry_at (from + i)) o ≡ paste cs at s (i * 2 + 1) =
      ap (λ (j : ℕ). set ds j o) a ∙ copy_step cs s ds at (i * 2) k o (omega arith) (omega arith) (sym there.0) in
      ap (λ (j : ℕ). set (set ds (entry_at (from + i)) o) j v) b
      ∙ copy_step cs s (set ds (entry_at (from + i)) o) at (i * 2 + 1) one v (omega arith) (omega arith) (sym there.1)
      ∙ ap (paste cs at s) z

  pub storing_all : (ds : List ℕ) → Storing (length es) ds → ds ≡ splice cs (entry_at from) (entry_cells es)
  storing_all ds k = copy_done cs (entry_cells es) ds (entry_at from) (length es * 2) k (sym (length_cells-of es))

-- ---- parts stored one right behind another

-- s stored right behind f
splice-behind : (f r s : List ℕ) (a : ℕ) → a ≡ length f → splice (f ++ r) a s ≡ (f ++ s) ++ drop (length s) r
unfolding splice
splice-behind f r s a e =
    rw (take_at f r a (sym e), e, drop-append-add f r (length s)) (sym (append_assoc f s (drop (length s) r)))

module _ (cs : List ℕ) where
  behind-part : (stored ds s es : List ℕ) (a : ℕ) → Behind cs stored ds → a ≡ length stored → es ≡ splice ds a s → Behind cs (stored ++ s) es
  behind-part stored ds s es a k h e =
      let n : length stored + length s ≡ length (stored ++ s) = sym (length-append stored s) in
      record {
        same =
            e ∙ ap (λ (x : List ℕ). splice x a s) k.same
            ∙ splice-behind stored (drop (length stored) cs) s a h
            ∙ ap ((stored ++ s) ++◌) (drop-drop (length s) (length stored) cs ∙ ap (λ (x : ℕ). drop x cs) n);
      }

  -- one cell
  behind-one : (stored ds es : List ℕ) (a v : ℕ) → Behind cs stored ds → a ≡ length stored → a < length cs → es ≡ set ds a v → Behind cs (stored ++ (v ∷ [])) es
  behind-one stored ds es a v k h room e =
      let n = ap length k.same in
      behind-part stored ds (v ∷ []) es a k h
      (e ∙ sym (splice-one ds a v (omega (arith, length-append stored (drop (length stored) cs), length-drop (length stored) cs))))

  -- all of it
  behind-all : (stored ds : List ℕ) → Behind cs stored ds → length cs ≤ length stored → ds ≡ stored
  behind-all stored ds k h = k.same ∙ ap (stored ++◌) (drop_of_length-le cs {i = length stored} h) ∙ append-nil stored

-- ---- what stands before the entries

module _ (t : Counts) (g : List ℤ) (four : length g ≡ register_count) (c0 : List ℕ) (room : entry_at 0 ≤ length c0) where
  abbrev regs : List ℕ
  regs = map (of_z w64) g

  -- the key, and one part after another
  abbrev f0 : List ℕ
  f0 = take 1 c0

  abbrev f1 : List ℕ
  f1 = f0 ++ (t.counter ∷ [])

  abbrev f2 : List ℕ
  f2 = f1 ++ (t.outcome ∷ [])

  abbrev f3 : List ℕ
  f3 = f2 ++ regs

  abbrev f4 : List ℕ
  f4 = f3 ++ (t.reads ∷ [])

  key-there : 1 ≡ length f0
  key-there = sym (length-take-le 1 c0 (omega arith))

  key-same : Behind c0 f0 c0
  key-same = record { same = sym (ap (λ (n : ℕ). take 1 c0 ++ drop n c0) (sym key-there) ∙ take-append-drop 1 c0) }

  pub front-size : length (front t g c0) ≡ entry_at 0
  unfolding register_count
  front-size =
      omega
      (arith, key-there, length-append f0 (t.counter ∷ t.outcome ∷ (regs ++ (t.reads ∷ (t.reads + t.writes) ∷ []))), length-append regs (t.reads ∷ (t.reads + t.writes) ∷ []), length-map g (of_z w64), four)

  pub front-stored : (c1 c2 c3 c4 c5 : List ℕ) → c1 ≡ set c0 counter_at t.counter → c2 ≡ set c1 outcome_at t.outcome → c3 ≡ splice c2 (register_at 0) regs
      → c4 ≡ set c3 reads_at t.reads → c5 ≡ set c4 entries_at (t.reads + t.writes) → Behind c0 (front t g c0) c5
  unfolding register_count
  front-stored c1 c2 c3 c4 c5 e1 e2 e3 e4 e5 =
      let n1 = length-append f0 (t.counter ∷ []) in
      let n2 = length-append f1 (t.outcome ∷ []) in
      let n3 = length-append f2 regs in
      let n4 = length-append f3 (t.reads ∷ []) in
      let n = length-map g (of_z w64) in
      let b1 = behind-one c0 f0 c0 c1 counter_at t.counter key-same key-there (omega arith) e1 in
      let b2 = behind-one c0 f1 c1 c2 outcome_at t.outcome b1 (omega (arith, key-there)) (omega arith) e2 in
      let b3 = behind-part c0 f2 c2 regs c3 (register_at 0) b2 (omega (arith, key-there)) e3 in
      let b4 = behind-one c0 f3 c3 c4 reads_at t.reads b3 (omega (arith, key-there, four)) (omega arith) e4 in
      let b5 = behind-one c0 f4 c4 c5 entries_at (t.reads + t.writes) b4 (omega (arith, key-there, four)) (omega arith) e5 in
      let regroup : f4 ++ ((t.reads + t.writes) ∷ []) ≡ front t g c0 = simp append_assoc in
      record { same = b5.same ∙ ap (λ (x : List ℕ). x ++ drop (length x) c0) regroup }

-- ---- the whole row

module _ (t : Counts) (g : List ℤ) (four : length g ≡ register_count) (reads writes : List Entry) (lr : t.reads ≤ length reads) (lw : t.writes ≤ length writes) where
  abbrev rs : List Entry
  rs = take t.reads reads

  abbrev ws : List Entry
  ws = take t.writes writes

  abbrev total : ℕ
  total = t.reads + t.writes

  abbrev regs' : List ℕ
  regs' = map (of_z w64) g

  -- the cells of the run
  run-cells : (m : ℕ) → (run m).enc (run_of_arrays t g reads writes)
      ≡ t.counter ∷ t.outcome ∷ (regs' ++ (t.reads ∷ total ∷ (entry_cells rs ++ (entry_cells ws ++ blank ((m - total) * 2)))))
  unfolding table entry_cells
  run-cells m =
      let n = length-take-le t.reads reads lr in
      let k = length-take-le t.writes writes lw in
      let all : length (rs ++ ws) ≡ total = length-append rs ws ∙ ap₂ ◌+◌ n k in
      let size : m - length (map (layout.entry).enc (rs ++ ws)) ≡ m - total = ap (λ (x : ℕ). m - x) (length-map (rs ++ ws) (layout.entry).enc ∙ all) in
      let tail = table m 2 (map (layout.entry).enc (rs ++ ws)) in
      ap (λ (x : List ℕ). t.counter ∷ t.outcome ∷ (x ++ (length rs ∷ length (rs ++ ws) ∷ tail))) (array-cells (of_z w64) register_count g four)
      ∙ ap₂ (λ (x y : ℕ). t.counter ∷ t.outcome ∷ (regs' ++ (x ∷ y ∷ tail))) n all
      ∙ ap (λ (x : List ℕ). t.counter ∷ t.outcome ∷ (regs' ++ (t.reads ∷ total ∷ x)))
      (ap₂ (λ (x : List ℕ) (y : ℕ). x ++ blank (y * 2)) (cells_of-join rs ws) size ∙ append_assoc (entry_cells rs) (entry_cells ws) (blank ((m - total) * 2)))

  -- the cells cs, and those after each store
  module _ (m : ℕ) (cs : List ℕ) (long : length cs ≡ entry_at m) (room : total ≤ m) where
    abbrev sr : List ℕ
    sr = entry_cells rs

    abbrev sw : List ℕ
    sw = entry_cells ws

    abbrev z : List ℕ
    z = blank (entry_at m - entry_at total)

    pub row-stored : (c1 c2 c3 c4 : List ℕ) → Behind cs (front t g cs) c1 → c2 ≡ splice c1 (entry_at 0) sr → c3 ≡ splice c2 (entry_at t.reads) sw → c4 ≡ splice c3 (entry_at total) z
        → c4 ≡ take 1 cs ++ (run m).enc (run_of_arrays t g reads writes)
    row-stored c1 c2 c3 c4 b1 e2 e3 e4 =
        let f = front t g cs in
        let n1 = front-size t g four cs (omega arith) in
        let nr : length sr ≡ t.reads * 2 = length_cells-of rs ∙ ap (λ (x : ℕ). x * 2) (length-take-le t.reads reads lr) in
        let nw : length sw ≡ t.writes * 2 = length_cells-of ws ∙ ap (λ (x : ℕ). x * 2) (length-take-le t.writes writes lw) in
        let n2 = length-append f sr in
        let n3 = length-append (f ++ sr) sw in
        let n4 = length-append ((f ++ sr) ++ sw) z in
        let nz : length z ≡ entry_at m - entry_at total = length-replicate (entry_at m - entry_at total) 0 in
        let b2 = behind-part cs f c1 sr c2 (entry_at 0) b1 (omega arith) e2 in
        let b3 = behind-part cs (f ++ sr) c2 sw c3 (entry_at t.reads) b2 (omega arith) e3 in
        let b4 = behind-part cs ((f ++ sr) ++ sw) c3 z c4 (entry_at total) b3 (omega arith) e4 in
        let blanks : entry_at m - entry_at total ≡ (m - total) * 2 = omega arith in
        let rest = blank ((m - total) * 2) in
        let regroup : ((f ++ sr) ++ sw) ++ rest ≡ take 1 cs ++ (t.counter ∷ t.outcome ∷ (regs' ++ (t.reads ∷ total ∷ (sr ++ (sw ++ rest))))) = simp append_assoc in
        behind-all cs (((f ++ sr) ++ sw) ++ z) c4 b4 (omega arith)
        ∙ ap (λ (x : ℕ). ((f ++ sr) ++ sw) ++ blank x) blanks
        ∙ regroup
        ∙ ap (take 1 cs ++◌) (sym (run-cells m))

-- from cells to bytes
pub row_bytes : (xs ys : List ℕ) (n : ℕ) (r : List ℕ) → Below 256 xs → Below 256 ys → length xs ≡ n * 8 → length ys ≡ n * 8 → cells ys ≡ take 1 (cells xs) ++ r → ys ≡ take 8 xs ++ uncells r
row_bytes xs ys n r hx hy lx ly e =
    sym (uncells-cells ys n hy ly) ∙ ap uncells e ∙ uncells-append (take 1 (cells xs)) r
    ∙ ap (◌++ uncells r) (sym (uncells-take 1 (cells xs)) ∙ ap (take 8) (uncells-cells xs n hx lx))

-- a row of some run holds the new one
pub stored_back : (m : ℕ) (r : Row) (t : Counts) (g : List ℤ) (reads writes : List Entry) (xs ys : List ℕ) → xs ≡ uncells ((row m).enc r)
    → length xs ≡ entry_at m * 8 → Stored t g reads writes xs ys → ys ≡ uncells ((row m).enc (r.0, run_of_arrays t g reads writes))
stored_back m r t g reads writes xs ys e n k =
    k.whole m n ∙ ap (λ (x : List ℕ). take 8 x ++ uncells ((run m).enc (run_of_arrays t g reads writes))) e
