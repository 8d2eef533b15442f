-- One object's bounds, from its bytes: its block is the front of them, and the bounds stand behind it. Assumes nothing.
-- n is the number of readers, xs the bytes of one object, of which the first w cells are its block; l and u are its bounds' bits.
use Rattle.std.specs.Prelude.{◌≡◌, ℕ, ◌+◌, ◌*◌, ◌≤◌, Bool, true, false, ◌&&◌, List, length, take, slice_index, slice_index_or}
use Rattle.std.proofs.Common.{sym, ap, ◌∙◌, arith, length-take-le, get_or-take}
use Rattle.std.proofs.Math.Path.{ap₂}
use Rattle.std.proofs.Math.Bool.{and-false}
use Rattle.cells.specs.Cells.{cells}
use Rattle.cells.specs.CellLaws.{cells-take}
use Rattle.execution.specs.Bounds.{ordered}
use Rattle.model.specs.Shape.{versions_inside}
use Rattle.versions.specs.Block.{width, object_cells, block_versions, block_of, bounds_at, bounds_ok}
use Rattle.shape_bounds.specs.Difference.{bounds_of, bits_inside, rest_inside, newest-first}

module _ (n : ℕ) (xs : List ℕ) (w : ℕ) (ew : w ≡ width n) where
  pub block-part : cells (take (w * 8) xs) ≡ block_of n (cells xs)
  block-part = rw ew (cells-take (width n) xs)

  pub block-length : length xs ≡ object_cells n * 8 → length (take (w * 8) xs) ≡ width n * 8
  block-length ex = length-take-le (w * 8) xs (omega arith) ∙ ap (◌* 8) ew

  module _ (l u : ℕ) (gl : l ≡ slice_index (cells xs) w) (gu : u ≡ slice_index (cells xs) (w + 1)) where
    bounds-part : bounds_at n (cells xs) ≡ bounds_of l u
    bounds-part = rw (gl, gu, ew)

    bounds-both : bounds_ok (bounds_at n (cells xs)) (block_of n (cells xs)) ≡ ordered (bounds_of l u) && versions_inside (bounds_of l u) (block_versions (cells (take (w * 8) xs)))
    unfolding bounds_ok
    bounds-both = ap₂ bounds_ok bounds-part (sym block-part)

    -- v is the newest of count versions' value
    module _ (v : ℕ) (gv : v ≡ slice_index (cells xs) 2) (count : ℕ) (some : (slice_index (block_of n (cells xs)) 0 ≡ count) × (1 ≤ count)) where
      newest : bounds_ok (bounds_at n (cells xs)) (block_of n (cells xs)) ≡ ordered (bounds_of l u) && (bits_inside l u v && rest_inside l u count 1 (cells (take (w * 8) xs)))
      newest =
          let bc = cells (take (w * 8) xs) in
          let counted : slice_index_or bc 0 0 ≡ count = ap (λ x. slice_index x 0) block-part ∙ some.0 in
          let value : slice_index_or bc 2 0 ≡ v = ap (λ x. slice_index x 2) block-part ∙ get_or-take (width n) (cells xs) 2 0 (omega arith) ∙ sym gv in
          bounds-both ∙ ap (ordered (bounds_of l u) &&◌) (newest-first l u count bc counted some.1 ∙ ap (λ x. bits_inside l u x && rest_inside l u count 1 bc) value)

      pub bounds-no : bits_inside l u v ≡ false → bounds_ok (bounds_at n (cells xs)) (block_of n (cells xs)) ≡ false
      bounds-no e = newest ∙ rw e (and-false (ordered (bounds_of l u)))

      pub bounds-by : ordered (bounds_of l u) ≡ true → bits_inside l u v ≡ true → bounds_ok (bounds_at n (cells xs)) (block_of n (cells xs)) ≡ rest_inside l u count 1 (cells (take (w * 8) xs))
      bounds-by o e = newest ∙ ap₂ (λ (x y : Bool). x && (y && rest_inside l u count 1 (cells (take (w * 8) xs)))) o e
