-- The tests of a row. Assumes nothing.
use Rattle.std.specs.Prelude.{◌≡◌, Bool, true, false, cond, ◌&&◌, List, eqb, ℤ, Some, None, length, take, drop, get_or}
use Rattle.std.proofs.Math.Path.{sym, ap, ap₂}
use Rattle.std.proofs.Common.{◌∙◌, mul_assoc, mul-le-mul_right, get_or-take, eq-eqb, ne_eqb, lt-ltb, le-ltb, le-leb, ltb-true, to_z}
use Prim.Native.Nat.{ℕ, zero, suc, ◌+◌, ◌-◌, ◌*◌, ◌/◌, ◌%◌, ◌^◌, ◌≤◌, ◌<◌}
use native.Mathlib.Omega.{arith}
use Rattle.std.proofs.Math.Dec.{leb, ltb}
use Rattle.std.proofs.Math.Seq.{slice, take-length, get_or-drop, drop-drop}
use Rattle.std.proofs.lemmas.Bool.{lt-leb}
use mir.Syntax.{w64}
use Rattle.cells.specs.Cells.{cells}
use Rattle.cells.specs.CellLaws.{cells_rest}
use Rattle.cells.specs.Zeros.{zeros}
use Rattle.operation.specs.Body.{size, is_well_formed, decoded}
use Rattle.operation.proofs.BodyLaws.{formed, taken, refused}
use Rattle.execution.specs.Bounds.{inside}
use Rattle.execution.specs.LentTable.{cell_bounds}
use Rattle.execution.proofs.ReadAgreement.{both}
use Rattle.model.specs.Calls.{clients}
use Rattle.layout.specs.Offsets.{entry_at}
use Rattle.layout.specs.Rows.{chunks}
use Rattle.shape_names.specs.NameScan.{absent, names_in}
use Rattle.versions.specs.Block.{object_cells}
use Rattle.shape_row.specs.RowScan.{bound_cell, counter_in, outcome_in, reads_in, entries_in, key_in, body_in, stores_in, sets_in, begun, begun_in, run_in, row_in}
use Rattle.shape_row.specs.LentRow.{Named}

-- ---- leaves, test by test

module _ (lasts : List ℕ) (key : ℕ) where
  pub key-high : 16 ≤ key / 2 ^ 32 → key_in lasts key ≡ false
  unfolding key_in clients
  key-high h = ap (λ (t : Bool). t && ltb (get_or lasts (key / 2 ^ 32) 0) (key % 2 ^ 32)) (le-ltb (key / 2 ^ 32) 16 h)

  pub key-low : key / 2 ^ 32 < 16 → (v : ℕ) → v ≡ get_or lasts (key / 2 ^ 32) 0 → ltb v (key % 2 ^ 32) ≡ key_in lasts key
  unfolding key_in clients
  key-low h v e =
      ap (λ (x : ℕ). ltb x (key % 2 ^ 32)) e ∙ sym (ap (λ (t : Bool). t && ltb (get_or lasts (key / 2 ^ 32) 0) (key % 2 ^ 32)) (lt-ltb (key / 2 ^ 32) 16 h))

module _ (most n m : ℕ) (y : List ℕ) (e : m ≡ size y) where
  body_at : body_in most n y ≡ leb (1 + 11 * m) (length y) && (is_well_formed most n (take (1 + 11 * m) y) && zeros (drop (1 + 11 * m) y))
  unfolding body_in
  body_at =
      ap (λ (k : ℕ). leb (1 + 11 * k) (length y) && (is_well_formed most n (take (1 + 11 * k) y) && zeros (drop (1 + 11 * k) y))) (sym e)

  pub body-short : length y < 1 + 11 * m → body_in most n y ≡ false
  body-short h =
      body_at ∙ ap (λ (t : Bool). t && (is_well_formed most n (take (1 + 11 * m) y) && zeros (drop (1 + 11 * m) y))) (lt-leb (1 + 11 * m) (length y) h)

  module _ (h : 1 + 11 * m ≤ length y) where
    body-fits : body_in most n y ≡ is_well_formed most n (take (1 + 11 * m) y) && zeros (drop (1 + 11 * m) y)
    body-fits =
        body_at ∙ ap (λ (t : Bool). t && (is_well_formed most n (take (1 + 11 * m) y) && zeros (drop (1 + 11 * m) y))) (le-leb (1 + 11 * m) (length y) h)

    pub body-bad : decoded most n (take (1 + 11 * m) y) ≡ None → body_in most n y ≡ false
    body-bad d =
        body-fits ∙ ap (λ (t : Bool). t && zeros (drop (1 + 11 * m) y)) (refused most n (take (1 + 11 * m) y) d)

    pub body-good : (k : ℕ) → decoded most n (take (1 + 11 * m) y) ≡ Some k → (r : Bool) → r ≡ zeros (slice (1 + 11 * m) (length y) y) → r ≡ body_in most n y
    body-good k d r z =
        z ∙ ap (λ (ys : List ℕ). zeros (drop (1 + 11 * m) ys)) (take-length y)
        ∙ sym (body-fits ∙ ap (λ (t : Bool). t && zeros (drop (1 + 11 * m) y)) (taken most n k (take (1 + 11 * m) y) d).0)

-- ---- one row

-- zeros from a cell on
pub zeros-rest : (xs : List ℕ) (n f : ℕ) → length xs ≡ n * 8 → zeros (slice f n (cells xs)) ≡ zeros (drop f (cells xs))
zeros-rest xs n f e = ap zeros (cells_rest n xs e f)

-- ---- stores

module _ (readers : ℕ) (os : List ℕ) (left at : ℕ) (cs : List ℕ) where
  stores-next : 0 < left → stores_in readers os left (drop at cs)
      ≡ inside (cell_bounds os (bound_cell readers (get_or cs at 0))) (to_z w64 (get_or cs (at + 1) 0)) && stores_in readers os (left - 1) (drop (at + 2) cs)
  unfolding stores_in
  stores-next h = go' left h
    where
      go' : (left : ℕ) → 0 < left → stores_in readers os left (drop at cs)
          ≡ inside (cell_bounds os (bound_cell readers (get_or cs at 0))) (to_z w64 (get_or cs (at + 1) 0)) && stores_in readers os (left - 1) (drop (at + 2) cs)
      go' zero h = absurd (omega arith)
      go' (suc k) h =
          let z : at + 0 ≡ at = omega arith in
          let s : suc k - 1 ≡ k = omega arith in
          rw (get_or-drop at cs 0 0, get_or-drop at cs 1 0, z, drop-drop 2 at cs, s)

  -- the entry's object o, whose lower bound is cell i, its value v, and whether the object may take it
  module _ (h : 0 < left) (o : ℕ) (oe : o ≡ get_or cs at 0) (i : ℕ) (ie : i ≡ bound_cell readers o) (v : ℤ) (ve : v ≡ to_z w64 (get_or cs (at + 1) 0)) (p : Bool) (e : p ≡ inside (cell_bounds os i) v) where
    tested : stores_in readers os left (drop at cs) ≡ p && stores_in readers os (left - 1) (drop (at + 2) cs)
    tested = stores-next h ∙ rw (← oe, ← ie, ← ve, ← e)

    pub stores-no : p ≡ false → stores_in readers os left (drop at cs) ≡ false
    stores-no f = tested ∙ rw f

    pub stores-on : p ≡ true → stores_in readers os left (drop at cs) ≡ stores_in readers os (left - 1) (drop (at + 2) cs)
    stores-on f = tested ∙ rw f

  pub stores-end : left ≤ 0 → stores_in readers os left (drop at cs) ≡ true
  unfolding stores_in
  stores-end h = let e : left ≡ 0 = omega arith in ap (λ (k : ℕ). stores_in readers os k (drop at cs)) e

-- entries that name objects below n: the first does, and the others do
pub names-first : (n k : ℕ) (xs : List ℕ) → names_in n (suc k) xs ≡ true → (get_or xs 0 0 < n) × (names_in n k (drop 2 xs) ≡ true)
unfolding names_in
names-first n k xs e =
    let o = get_or xs 0 0 in
    let (b, e) = both (ltb o n) (absent o (chunks 2 k (drop 2 xs)) && names_in n k (drop 2 xs)) e in
    (ltb-true o n b, (both (absent o (chunks 2 k (drop 2 xs))) (names_in n k (drop 2 xs)) e).1)

-- the same from a cell on, where those objects are lent
module _ (readers left at : ℕ) (cs objects : List ℕ) (m : Named readers left (drop at cs) objects) (h : 0 < left) where
  first-named : (get_or cs at 0 < m.n) × (names_in m.n (left - 1) (drop (at + 2) cs) ≡ true)
  first-named = go' left h m.names
    where
      go' : (left : ℕ) → 0 < left → names_in m.n left (drop at cs) ≡ true → (get_or cs at 0 < m.n) × (names_in m.n (left - 1) (drop (at + 2) cs) ≡ true)
      go' zero h e = absurd (omega arith)
      go' (suc k) h e =
          let z : at + 0 ≡ at = omega arith in
          let s : suc k - 1 ≡ k = omega arith in
          let (b, e) = names-first m.n k (drop at cs) e in
          let here = get_or-drop at cs 0 0 ∙ ap (λ (i : ℕ). get_or cs i 0) z in
          (omega arith, ap₂ (λ (k : ℕ) (x : List ℕ). names_in m.n k x) s (sym (drop-drop 2 at cs)) ∙ e)

  -- its bounds lie in what is lent
  pub bounds-lent : (o : ℕ) → o ≡ get_or cs at 0 → (bound_cell readers o + 2) * 8 ≤ length objects
  bounds-lent o e =
      let less : suc o ≤ m.n = omega (arith, first-named.0) in
      omega (arith, m.lent.object_bytes, mul-le-mul_right (object_cells readers) less, mul_assoc m.n (object_cells readers) 8)

  pub named_on : Named readers (left - 1) (drop (at + 2) cs) objects
  named_on = record { n = m.n; lent = m.lent; names = first-named.1 }

-- ---- sets

module _ (readers : ℕ) (os : List ℕ) (n r e : ℕ) (x : List ℕ) (p : Bool) (h : p ≡ names_in n r (drop (entry_at 0) x)) where
  abbrev writes_named : Bool
  writes_named = names_in n (e - r) (drop (entry_at r) x)

  abbrev writes_inside : Bool
  writes_inside = stores_in readers os (e - r) (drop (entry_at r) x)

  abbrev behind : Bool
  behind = zeros (drop (entry_at e) x)

  sets-tests : sets_in readers os n r e x ≡ p && (writes_named && (writes_inside && behind))
  unfolding sets_in
  sets-tests = ap (λ (t : Bool). t && (writes_named && (writes_inside && behind))) (sym h)

  pub sets-reads : p ≡ false → false ≡ sets_in readers os n r e x
  sets-reads k = sym (sets-tests ∙ ap (λ (t : Bool). t && (writes_named && (writes_inside && behind))) k)

  module _ (k : p ≡ true) (q : Bool) (i : q ≡ writes_named) where
    sets_more : sets_in readers os n r e x ≡ q && (writes_inside && behind)
    sets_more = sets-tests ∙ ap₂ (λ (t u : Bool). t && (u && (writes_inside && behind))) k (sym i)

    pub sets-writes : q ≡ false → false ≡ sets_in readers os n r e x
    sets-writes l = sym (sets_more ∙ ap (λ (t : Bool). t && (writes_inside && behind)) l)

    module _ (l : q ≡ true) (s : Bool) (g : s ≡ writes_inside) where
      sets_last : sets_in readers os n r e x ≡ s && behind
      sets_last = sets_more ∙ ap₂ (λ (t u : Bool). t && (u && behind)) l (sym g)

      pub sets-outside : s ≡ false → false ≡ sets_in readers os n r e x
      sets-outside f = sym (sets_last ∙ ap (λ (t : Bool). t && behind) f)

      pub sets_behind : s ≡ true → (z : Bool) → z ≡ behind → z ≡ sets_in readers os n r e x
      sets_behind f z j = j ∙ sym (sets_last ∙ ap (λ (t : Bool). t && behind) f)

module _ (readers : ℕ) (os : List ℕ) (n m : ℕ) (x : List ℕ) (c : ℕ) (e : c ≡ counter_in x) where
  abbrev run_by : Bool → Bool
  run_by t = cond t (zeros (drop 2 x)) (begun_in readers os n m x)

  pub run-start : c ≡ 0 → run_in readers os n m x ≡ zeros (drop 2 x)
  unfolding run_in
  run-start h = ap (λ (k : ℕ). run_by (eqb k 0)) (sym e) ∙ ap run_by (eq-eqb c 0 h)

  -- the tests of a run that has begun, in the order of the code
  pub run-begun : (c ≡ 0 → ⊥) → (o r b : ℕ) → o ≡ outcome_in x → r ≡ reads_in x → b ≡ entries_in x
      → run_in readers os n m x ≡ begun readers os n m c o r b x
  unfolding run_in begun_in
  run-begun h o r b p q s =
      ap (λ (k : ℕ). run_by (eqb k 0)) (sym e) ∙ ap run_by (ne_eqb c 0 h)
      ∙ ap₂ (λ (c o : ℕ). begun readers os n m c o (reads_in x) (entries_in x) x) (sym e) (sym p)
      ∙ ap₂ (λ (r b : ℕ). begun readers os n m c o r b x) (sym q) (sym s)

-- a body that passes is of at most so many operations
pub body-most : (most n : ℕ) (y : List ℕ) → body_in most n y ≡ true → size y ≤ most
unfolding body_in
body-most most n y e =
    let (a, t) = both (leb (1 + 11 * size y) (length y)) (is_well_formed most n (take (1 + 11 * size y) y) && zeros (drop (1 + 11 * size y) y)) e in
    let (w, z) = both (is_well_formed most n (take (1 + 11 * size y) y)) (zeros (drop (1 + 11 * size y) y)) t in
    omega (arith, (formed most n (take (1 + 11 * size y) y) w).most, get_or-take (1 + 11 * size y) y 0 0 (omega arith))

module _ (most n readers : ℕ) (os lasts x y : List ℕ) (k : ℕ) (e : k ≡ get_or x 0 0) (p : Bool) (h : p ≡ key_in lasts k) where
  abbrev run_of : Bool
  run_of = run_in readers os n (size y) x

  row-tests : row_in most n readers os lasts x y ≡ p && (body_in most n y && run_of)
  unfolding row_in
  row-tests = ap (λ (t : Bool). t && (body_in most n y && run_of)) (ap (key_in lasts) (sym e) ∙ sym h)

  pub row-key : p ≡ false → false ≡ row_in most n readers os lasts x y
  row-key f = sym (row-tests ∙ ap (λ (t : Bool). t && (body_in most n y && run_of)) f)

  module _ (f : p ≡ true) (q : Bool) (i : q ≡ body_in most n y) where
    row_more : row_in most n readers os lasts x y ≡ q && run_of
    row_more = row-tests ∙ ap₂ (λ (t u : Bool). t && (u && run_of)) f (sym i)

    pub row-body : q ≡ false → false ≡ row_in most n readers os lasts x y
    row-body g = sym (row_more ∙ ap (λ (t : Bool). t && run_of) g)

    pub row-run : q ≡ true → (m : ℕ) → m ≡ size y → (z : Bool) → z ≡ run_in readers os n m x → z ≡ row_in most n readers os lasts x y
    row-run g m s z j = j ∙ ap (λ (m : ℕ). run_in readers os n m x) s ∙ sym (row_more ∙ ap (λ (t : Bool). t && run_of) g)
