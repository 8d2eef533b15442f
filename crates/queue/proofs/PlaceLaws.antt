-- What follows from `specs/Place`. Assumes nothing.
use Rattle.std.specs.Prelude.{◌≡◌, refl, Bool, true, false, cond, ◌&&◌, List, [], ◌∷◌, map, ℕ, suc, ◌+◌, ◌-◌, ◌*◌, ◌^◌, ◌≤◌, ◌<◌, eqb, length, take, drop, get_or}
use Rattle.std.proofs.Common.{sym, ap, ap₂, ◌∙◌, arith, mul-le-mul_right, length-drop, take_all, get_or-drop, ext_get_or, length-take-le, eq-eqb, ne_eqb, eqb-true}
use Rattle.std.proofs.Math.Option.{none}
use Rattle.std.proofs.lemmas.List.{length-map}
use Rattle.std.proofs.lemmas.Bool.{eqb-false}
use Rattle.cells.specs.Cells.{cells}
use Rattle.cells.specs.CellLaws.{cells-drop}
use Rattle.model.specs.declared.Limits.{Limits}
use Rattle.model.specs.Lists.{index}
use Rattle.model.specs.Replica.{Pending, Replica, has_key, pending_of}
use Rattle.model.proofs.ListLaws.{index-map, all_map, all-implies, index_same, get_or_map-in}
use Rattle.layout.specs.Layout.{of_key, row_of}
use Rattle.layout.specs.Offsets.{Sane, row_width, row_at}
use Rattle.layout.specs.Printable.{RowFits}
use Rattle.layout.proofs.PrintableLaws.{few_pending}
use Rattle.layout.specs.Holds.{Holds}
use Rattle.layout.proofs.HoldsLaws.{holds-long}
use Rattle.layout.proofs.Reading.{get-row}
use Rattle.layout.specs.RowKeys.{keys}
use Rattle.layout.proofs.RowKeysLaws.{length-keys, get_or-keys}

-- the first that passes stands among them, or behind the last
pub index-most : (q : Pending → Bool) (js : List Pending) → index q js ≤ length js
index-most q [] = omega arith
index-most q (j ∷ js) = by (q j) (index-most q js)
  where
    by : (x : Bool) → index q js ≤ length js → cond x 0 (suc (index q js)) ≤ suc (length js)
    by true h = omega arith
    by false h = omega arith

-- two keys are one cell exactly where both parts are equal
same_key : (c s c' s' : ℕ) → s < 2 ^ 32 → s' < 2 ^ 32 → eqb (of_key (c, s)) (of_key (c', s')) ≡ (eqb c' c && eqb s' s)
same_key c s c' s' h h' = by (eqb c' c) (eqb s' s) refl refl
  where
    by : (x y : Bool) → eqb c' c ≡ x → eqb s' s ≡ y → eqb (of_key (c, s)) (of_key (c', s')) ≡ (x && y)
    by true true e f = eq-eqb (of_key (c, s)) (of_key (c', s')) (omega (arith, eqb-true c' c e, eqb-true s' s f))
    by true false e f = ne_eqb (of_key (c, s)) (of_key (c', s')) (λ z. eqb-false s' s f (omega arith))
    by false y e f = ne_eqb (of_key (c, s)) (of_key (c', s')) (λ z. eqb-false c' c e (omega arith))

module _ (l : Limits) (s : Sane l) (b : List ℕ) (u : Replica) (h : Holds l b u) where
  abbrev cell_of : Pending → ℕ
  cell_of j = of_key (row_of j).0

  row-keys : keys (row_width l) (length u.pending) (drop (row_at l 0) (cells b)) ≡ map cell_of u.pending
  row-keys =
      let w = row_width l in
      let n = length u.pending in
      let d = pending_of none in
      ext_get_or 0 (keys w n (drop (row_at l 0) (cells b))) (map cell_of u.pending)
      (length-keys w n (drop (row_at l 0) (cells b)) ∙ sym (length-map u.pending cell_of))
      (λ i k.
      let low : i < n = omega (arith, length-keys w n (drop (row_at l 0) (cells b))) in
      let e : row_at l 0 + i * w ≡ row_at l i + 0 = omega arith in
      get_or-keys w n (drop (row_at l 0) (cells b)) i low
      ∙ get_or-drop (row_at l 0) (cells b) (i * w) 0
      ∙ ap (λ (j : ℕ). get_or (cells b) j 0) e
      ∙ get-row l s b u h i low d 0 (omega arith)
      ∙ sym (get_or_map-in cell_of u.pending i d 0 low))

  -- the search over the part of the area from the first row on, in the code's numbers: it stays in that part, and finds the transaction
  module _ (at k w n : ℕ) (first : at ≡ row_at l 0 * 8) (rest : k ≡ length b - at) (wide : w ≡ row_width l) (all : n ≡ length u.pending) where
    pub rows-room : (0 < w) × (n * w * 8 ≤ length (take k (drop at b)))
    rows-room =
        let len : length (take k (drop at b)) ≡ k = length-take-le k (drop at b) (omega (arith, length-drop at b)) in
        let m : n * w ≤ l.pending * row_width l = rw (wide, all) (mul-le-mul_right (row_width l) (few_pending l u h.fits)) in
        (omega arith, omega (arith, holds-long l s b u h))

    pub position-of : (c q key : ℕ) → q < 2 ^ 32 → key ≡ of_key (c, q) → index (eqb key) (keys w n (cells (take k (drop at b)))) ≡ index (has_key c q) u.pending
    position-of c q key m e =
        ap (λ (x : List ℕ). index (eqb key) (keys w n (cells x))) (take_all k (drop at b) (omega (arith, length-drop at b)) ∙ ap (λ (a : ℕ). drop a b) first)
        ∙ ap (λ (x : List ℕ). index (eqb key) (keys w n x)) (cells-drop (row_at l 0) b)
        ∙ ap₂ (λ (x y : ℕ). index (eqb key) (keys x y (drop (row_at l 0) (cells b)))) wide all
        ∙ ap₂ (λ (x : ℕ) (y : List ℕ). index (eqb x) y) e row-keys
        ∙ index-map cell_of (eqb (of_key (c, q))) u.pending
        ∙ index_same (λ j. eqb (of_key (c, q)) (cell_of j)) (has_key c q) u.pending
        (all-implies (λ (j : Pending). RowFits l.operations (row_of j)) (λ j. eqb (of_key (c, q)) (cell_of j) ≡ has_key c q j) (λ j r. same_key c q j.sent.client j.sent.sequence m r.0.1) u.pending
        (all_map (RowFits l.operations) row_of u.pending h.fits.rows.1))
