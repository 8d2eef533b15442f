-- The walk over all rows: what holds before each turn, one turn, its end. Assumes nothing.
use Rattle.std.specs.Prelude.{◌≡◌, Bool, true, false, ◌&&◌, List, ℕ, ◌+◌, ◌-◌, ◌*◌, ◌≤◌, ◌<◌, length, take, drop}
use Rattle.std.proofs.Common.{sym, ap, ap₂, ◌∙◌, arith, length-drop, take_all, drop-drop}
use Rattle.cells.specs.Cells.{cells}
use Rattle.cells.specs.CellLaws.{cells-drop}
use Rattle.shape_row.specs.RowScan.{cells_of, place_of}
use Rattle.shape.specs.AreaScan.{placed_in, finished_in, keyless_in}
use Rattle.versions.proofs.BlockLoops.{less_times}
use Rattle.shape.specs.RowLoop.{rows_on, rows-no, rows_end}

-- left rows are left, from byte at on, and their bodies from byte from on; finished says whether all before are finished; os and lasts are cells
pub record Walk (most n readers count : ℕ) (os lasts rows places : List ℕ) (at from left : ℕ) (finished : Bool) : Type 0 where
  pub rows_left : at + left * (cells_of most * 8) ≤ length rows
  pub places-left : from + left * place_of most ≤ length places
  pub answer : keyless_in most n readers os lasts true count (cells rows) places ≡ keyless_in most n readers os lasts finished left (cells (drop at rows)) (drop from places)

-- the parts that the code lends, a place of so many bytes
abbrev pub rows_part : List ℕ → ℕ → List ℕ
rows_part rows at = take (length rows - at) (drop at rows)

abbrev pub place_part : ℕ → List ℕ → ℕ → List ℕ
place_part size places from = take (from + size - from) (drop from places)

module _ (most n readers count : ℕ) (os lasts rows places : List ℕ) (at from left : ℕ) (finished : Bool) (w : Walk most n readers count os lasts rows places at from left finished) where
  abbrev xs : List ℕ
  xs = cells (drop at rows)

  abbrev ys : List ℕ
  ys = drop from places

  -- what is left of the rows, each of w cells
  abbrev rest : ℕ → ℕ → Bool → Bool
  rest at from finished = keyless_in most n readers os lasts finished (left - 1) (cells (drop at rows)) (drop from places)

  part-rows : cells (rows_part rows at) ≡ xs
  part-rows = ap cells (take_all (length rows - at) (drop at rows) (omega (arith, length-drop at rows)))

  pub walk_end : left ≤ 0 → keyless_in most n readers os lasts true count (cells rows) places ≡ true
  walk_end h = w.answer ∙ rows_end most n readers os lasts finished left xs ys h

  module _ (h : 0 < left) (size : ℕ) (se : size ≡ place_of most) (p : Bool) (e : p ≡ placed_in most n readers os lasts finished (cells (rows_part rows at)) (place_part size places from)) where
    part-place : place_part size places from ≡ take (place_of most) ys
    part-place = let k : from + size - from ≡ place_of most = omega arith in ap (λ (k : ℕ). take k ys) k

    next : p ≡ placed_in most n readers os lasts finished xs (take (place_of most) ys)
    next = e ∙ ap₂ (λ (x y : List ℕ). placed_in most n readers os lasts finished x y) part-rows part-place

    pub walk_no : p ≡ false → keyless_in most n readers os lasts true count (cells rows) places ≡ false
    walk_no f = w.answer ∙ rows-no most n readers os lasts finished left xs ys h p next f

    pub walk-on : p ≡ true → (width : ℕ) → width ≡ cells_of most * 8 → (q : Bool) → q ≡ finished_in (cells (rows_part rows at)) (place_part size places from) → (r : Bool) → r ≡ finished && q
        → Walk most n readers count os lasts rows places (at + width) (from + size) (left - 1) r
    walk-on f width we q g r z =
        let d = g ∙ ap₂ (λ (x y : List ℕ). finished_in x y) part-rows part-place in
        let l = less_times left (cells_of most * 8) h in
        let k = less_times left (place_of most) h in
        let at_rows = sym (cells-drop (cells_of most) (drop at rows)) ∙ ap cells (drop-drop (cells_of most * 8) at rows) in
        rw (we, se)
        (record {
          rows_left = omega (arith, w.rows_left);
          places-left = omega (arith, w.places-left);
          answer =
              w.answer
              ∙ rows_on most n readers os lasts finished left xs ys h p next f q d
              ∙ ap₂ (λ (x y : List ℕ). keyless_in most n readers os lasts (finished && q) (left - 1) x y) at_rows (drop-drop (place_of most) from places)
              ∙ ap (rest (at + cells_of most * 8) (from + place_of most)) (sym z);
        })
