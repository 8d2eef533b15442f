-- The stores on record in the scan: each looks its object's bounds up in the cells, and the model in a list. Assumes nothing.
use Rattle.std.specs.Prelude.{◌≡◌, refl, true, ◌&&◌, List, map, take, drop, get_or}
use Rattle.std.proofs.Common.{sym, ap₂, ◌∙◌, get_or-take, get_or-drop, to_z}
use Rattle.std.proofs.Math.Path.{ap}
use Prim.Native.Nat.{ℕ, zero, suc, ◌+◌, ◌<◌}
use native.Mathlib.Omega.{arith}
use Rattle.std.specs.Int.{w64}
use Rattle.execution.specs.Bounds.{Bounds, no_bounds, inside}
use Rattle.execution.specs.LentTable.{cell_bounds}
use Rattle.model.specs.ShapeCheck.{stores_inside}
use Rattle.versions.specs.Block.{width, object_cells, bounds_at}
use Rattle.layout.specs.Rows.{chunks}
use Rattle.layout.specs.Layout.{entry}
use Rattle.shape_names.specs.NameScan.{names_in}
use Rattle.shape_row.specs.RowScan.{bound_cell, stores_in}
use Rattle.shape_row.specs.RowTests.{names-first}
use Rattle.shape.specs.Leaves.{object_of}

-- bs are the bounds that the cells os of n objects say
abbrev pub Said : ℕ → ℕ → List ℕ → List Bounds → Type 0
Said n readers os bs = (o : ℕ) → o < n → cell_bounds os (bound_cell readers o) ≡ get_or bs o no_bounds

-- ---- the bounds of n objects, one after another

module _ (readers : ℕ) where
  -- those of the first
  first-bounds : (os : List ℕ) → cell_bounds os (width readers) ≡ bounds_at readers (take (object_cells readers) os)
  first-bounds os i =
      record { lower = to_z w64 (cell (width readers) (omega arith) i); upper = to_z w64 (cell (width readers + 1) (omega arith) i) }
    where
      cell : (k : ℕ) → k < object_cells readers → get_or os k 0 ≡ get_or (take (object_cells readers) os) k 0
      cell k h = sym (get_or-take (object_cells readers) os k 0 h)

  -- those of the others, which begin behind it
  later-bounds : (os : List ℕ) (o : ℕ) → cell_bounds os (bound_cell readers (suc o)) ≡ cell_bounds (drop (object_cells readers) os) (bound_cell readers o)
  later-bounds os o i =
      record { lower = to_z w64 (cell (bound_cell readers o) (bound_cell readers (suc o)) (omega arith) i); upper = to_z w64 (cell (bound_cell readers o + 1) (bound_cell readers (suc o) + 1) (omega arith) i) }
    where
      cell : (k j : ℕ) → object_cells readers + k ≡ j → get_or os j 0 ≡ get_or (drop (object_cells readers) os) k 0
      cell k j e = sym (get_or-drop (object_cells readers) os k 0 ∙ ap (λ (j : ℕ). get_or os j 0) e)

  pub bounds-are_said : (n : ℕ) (os : List ℕ) → Said n readers os (map (bounds_at readers) (chunks (object_cells readers) n os))
  unfolding chunks
  bounds-are_said zero os o h = absurd (omega arith)
  bounds-are_said (suc n) os zero h =
      let z : bound_cell readers 0 ≡ width readers = omega arith in
      ap (cell_bounds os) z ∙ first-bounds os
  bounds-are_said (suc n) os (suc o) h = later-bounds os o ∙ bounds-are_said n (drop (object_cells readers) os) o (omega arith)

-- ---- k entries that name objects below n

pub stores-are : (n readers : ℕ) (os : List ℕ) (bs : List Bounds) → Said n readers os bs → (k : ℕ) (xs : List ℕ) → names_in n k xs ≡ true
    → stores_in readers os k xs ≡ stores_inside bs (map entry.dec (chunks 2 k xs))
unfolding stores_in stores_inside chunks
stores-are n readers os bs s zero xs e = refl
stores-are n readers os bs s (suc k) xs e =
    let o = get_or xs 0 0 in
    let (b, e) = names-first n k xs e in
    let here : get_or (take 1 (take 2 xs)) 0 0 ≡ o = object_of 1 xs (omega arith) in
    let value : get_or (drop 1 (take 2 xs)) 0 0 ≡ get_or xs 1 0 = get_or-drop 1 (take 2 xs) 0 0 ∙ get_or-take 2 xs 1 0 (omega arith) in
    ap₂ ◌&&◌
    (ap (λ (b : Bounds). inside b (to_z w64 (get_or xs 1 0))) (s o b)
    ∙ ap₂ (λ (o v : ℕ). inside (get_or bs o no_bounds) (to_z w64 v)) (sym here) (sym value))
    (stores-are n readers os bs s k (drop 2 xs) e)
