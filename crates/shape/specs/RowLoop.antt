-- One turn of the loop over rows, and its end. Assumes nothing.
use Rattle.std.specs.Prelude.{◌≡◌, Bool, true, false, ◌&&◌, ◌||◌, List, get_or}
use Rattle.std.proofs.Math.Path.{refl, ap}
use Rattle.std.proofs.Common.{sym, ◌∙◌}
use Prim.Native.Nat.{ℕ, zero, suc, ◌+◌, ◌-◌, ◌*◌, ◌≤◌, ◌<◌}
use native.Mathlib.Omega.{arith}
use Rattle.std.proofs.Math.Dec.{eqb}
use Rattle.std.proofs.Math.ListN.{take, drop}
use Rattle.cells.specs.Cells.{cells}
use Rattle.cells.specs.CellLaws.{cells-take}
use Rattle.layout.specs.Rows.{chunks}
use Rattle.shape_names.specs.NameScan.{absent}
use Rattle.shape_row.specs.RowScan.{counter_in, row_in, cells_of, place_of}
use Rattle.shape_keys.specs.Keys.{lone_in}
use Rattle.shape.specs.AreaScan.{next_in, placed_in, finished_in, keyless_in, rows_in}

pub one_more : (k w : ℕ) → (k + 1) * w ≡ w + k * w
one_more k w = omega arith

-- ---- the rows

-- the keys apart from the rest
module _ (most n readers : ℕ) (os lasts : List ℕ) where
  apart : (r o a x l : Bool) → ((r && (o && a)) && (x && l)) ≡ (((r && o) && x) && (a && l))
  apart false o a x l = refl
  apart true false a x l = refl
  apart true true false false l = refl
  apart true true false true l = refl
  apart true true true x l = refl

  pub keys-apart : (b : Bool) (k : ℕ) (xs ys : List ℕ) → rows_in most n readers os lasts b k xs ys ≡ keyless_in most n readers os lasts b k xs ys && lone_in (cells_of most) k xs
  unfolding rows_in next_in keyless_in placed_in lone_in
  keys-apart b zero xs ys = refl
  keys-apart b (suc k) xs ys =
      let y = take (place_of most) ys in
      let c = b && finished_in xs y in
      let ws = drop (cells_of most) xs in
      let zs = drop (place_of most) ys in
      let r = row_in most n readers os lasts (take (cells_of most) xs) y in
      let o = b || eqb (counter_in xs) 0 in
      let a = absent (get_or xs 0 0) (chunks (cells_of most) k ws) in
      ap (λ (t : Bool). (r && (o && a)) && t) (keys-apart c k ws zs) ∙ apart r o a (keyless_in most n readers os lasts c k ws zs) (lone_in (cells_of most) k ws)

module _ (most n readers : ℕ) (os lasts : List ℕ) (count : ℕ) (xs ys : List ℕ) (p : Bool) (h : p ≡ keyless_in most n readers os lasts true count xs ys) where
  pub rows-each : p ≡ false → false ≡ rows_in most n readers os lasts true count xs ys
  rows-each f = sym (keys-apart most n readers os lasts true count xs ys ∙ ap (λ (t : Bool). t && lone_in (cells_of most) count xs) (sym h ∙ f))

  pub rows-keys : p ≡ true → (q : Bool) → q ≡ lone_in (cells_of most) count xs → q ≡ rows_in most n readers os lasts true count xs ys
  rows-keys f q e = e ∙ sym (keys-apart most n readers os lasts true count xs ys ∙ ap (λ (t : Bool). t && lone_in (cells_of most) count xs) (sym h ∙ f))

-- the first row, as the code lends it: k are its cells
pub row-lent : (most n readers : ℕ) (os lasts rows y : List ℕ) (k : ℕ) → k ≡ cells_of most → (p : Bool) → p ≡ row_in most n readers os lasts (cells (take (k * 8) rows)) y
    → p ≡ row_in most n readers os lasts (take (cells_of most) (cells rows)) y
row-lent most n readers os lasts rows y k e p h =
    h ∙ ap (λ (x : List ℕ). row_in most n readers os lasts x y) (cells-take k rows ∙ ap (λ (k : ℕ). take k (cells rows)) e)

module _ (most n readers : ℕ) (os lasts : List ℕ) (b : Bool) (xs y : List ℕ) (p : Bool) (h : p ≡ row_in most n readers os lasts (take (cells_of most) xs) y) where
  placed : placed_in most n readers os lasts b xs y ≡ p && (b || eqb (counter_in xs) 0)
  unfolding placed_in
  placed = ap (λ (t : Bool). t && (b || eqb (counter_in xs) 0)) (sym h)

  pub next_row : p ≡ false → false ≡ placed_in most n readers os lasts b xs y
  next_row f = sym (placed ∙ ap (λ (t : Bool). t && (b || eqb (counter_in xs) 0)) f)

  pub next-order : p ≡ true → (c : ℕ) → c ≡ counter_in xs → (q : Bool) → q ≡ (b || eqb c 0) → q ≡ placed_in most n readers os lasts b xs y
  next-order f c e q i =
      i ∙ ap (λ (v : ℕ). b || eqb v 0) e ∙ sym (placed ∙ ap (λ (t : Bool). t && (b || eqb (counter_in xs) 0)) f)

module _ (most n readers : ℕ) (os lasts : List ℕ) (b : Bool) (left : ℕ) (xs ys : List ℕ) where
  abbrev rest : Bool
  rest =
      keyless_in most n readers os lasts (b && finished_in xs (take (place_of most) ys)) (left - 1) (drop (cells_of most) xs) (drop (place_of most) ys)

  module _ (h : 0 < left) (p : Bool) (e : p ≡ placed_in most n readers os lasts b xs (take (place_of most) ys)) where
    rows_next : keyless_in most n readers os lasts b left xs ys ≡ p && rest
    unfolding keyless_in
    rows_next = go' left h ∙ ap (λ (t : Bool). t && rest) (sym e)
      where
        go' : (left : ℕ) → 0 < left → keyless_in most n readers os lasts b left xs ys
            ≡ placed_in most n readers os lasts b xs (take (place_of most) ys) && keyless_in most n readers os lasts (b && finished_in xs (take (place_of most) ys)) (left - 1) (drop (cells_of most) xs) (drop (place_of most) ys)
        go' zero h = absurd (omega arith)
        go' (suc k) h =
            let s : k ≡ suc k - 1 = omega arith in
            ap (λ (k : ℕ). placed_in most n readers os lasts b xs (take (place_of most) ys) && keyless_in most n readers os lasts (b && finished_in xs (take (place_of most) ys)) k (drop (cells_of most) xs) (drop (place_of most) ys)) s

    pub rows-no : p ≡ false → keyless_in most n readers os lasts b left xs ys ≡ false
    rows-no f = rows_next ∙ ap (λ (t : Bool). t && rest) f

    pub rows_on : p ≡ true → (q : Bool) → q ≡ finished_in xs (take (place_of most) ys) → keyless_in most n readers os lasts b left xs ys ≡ keyless_in most n readers os lasts (b && q) (left - 1) (drop (cells_of most) xs) (drop (place_of most) ys)
    rows_on f q g =
        rows_next ∙ ap (λ (t : Bool). t && rest) f
        ∙ ap (λ (t : Bool). keyless_in most n readers os lasts (b && t) (left - 1) (drop (cells_of most) xs) (drop (place_of most) ys)) (sym g)

  pub rows_end : left ≤ 0 → keyless_in most n readers os lasts b left xs ys ≡ true
  unfolding keyless_in
  rows_end h = let e : left ≡ 0 = omega arith in ap (λ (k : ℕ). keyless_in most n readers os lasts b k xs ys) e
