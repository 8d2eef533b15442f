-- Objects that stand one after another: the rules on all are those on each. Assumes nothing.
-- n is the number of readers, rc are their cells, xs the bytes of m objects.
use Rattle.std.specs.Prelude.{◌≡◌, Bool, true, false, List, ℕ, zero, suc, ◌+◌, ◌*◌, ◌-◌, ◌≤◌, ◌<◌, take, drop}
use Rattle.std.proofs.Common.{refl, sym, ◌∙◌, arith, add-zero}
use Rattle.cells.specs.Cells.{cells}
use Rattle.versions.specs.Block.{object_cells, object_ok, blocks_ok}
use Rattle.versions.proofs.BlockLoops.{blocks-no, blocks-next, blocks_end}

-- the bytes of the i-th, w bytes to an object
abbrev pub object_at : ℕ → List ℕ → ℕ → List ℕ
object_at w xs i = take w (drop (i * w) xs)

-- do the rules hold of the i-th?
abbrev pub ok_at : ℕ → ℕ → List ℕ → List ℕ → ℕ → Bool
ok_at n timestamp rc xs i = object_ok n timestamp rc (cells (object_at (object_cells n * 8) xs i))

module _ (n timestamp : ℕ) (rc xs : List ℕ) where
  -- the same of m objects, from the i-th on
  ok_from : ℕ → ℕ → Bool
  ok_from m i = blocks_ok n timestamp rc m (cells (drop (i * (object_cells n * 8)) xs))

  next : (m i : ℕ) → ok_at n timestamp rc xs i ≡ true → ok_from (suc m) i ≡ ok_from m (i + 1)
  unfolding ok_from
  next m i e =
      let w = object_cells n * 8 in
      let less : suc m - 1 ≡ m = omega arith in
      let on : i * w + w ≡ (i + 1) * w = omega arith in
      rw (less, on) at (blocks-next n timestamp rc (suc m) (i * w) xs (omega arith) w refl true (sym e) refl)

  no : (m i : ℕ) → ok_at n timestamp rc xs i ≡ false → ok_from (suc m) i ≡ false
  unfolding ok_from
  no m i e = let w = object_cells n * 8 in blocks-no n timestamp rc (suc m) (i * w) xs (omega arith) w refl false (sym e) refl

  passed-from : (m i : ℕ) → ((k : ℕ) → i ≤ k → k < i + m → ok_at n timestamp rc xs k ≡ true) → ok_from m i ≡ true
  unfolding ok_from
  passed-from zero i p = blocks_end n timestamp rc 0 (cells (drop (i * (object_cells n * 8)) xs)) (omega arith)
  passed-from (suc m) i p = next m i (p i (omega arith) (omega arith)) ∙ passed-from m (i + 1) (λ k a b. p k (omega arith) (omega arith))

  failed-from : (m i k : ℕ) → k < m → ok_at n timestamp rc xs (i + k) ≡ false → ok_from m i ≡ false
  failed-from zero i k h e = absurd (omega arith)
  failed-from (suc m) i zero h e = no m i (rw add-zero at e)
  failed-from (suc m) i (suc k) h e = by (ok_at n timestamp rc xs i) refl (let on : i + suc k ≡ i + 1 + k = omega arith in failed-from m (i + 1) k (omega arith) (rw on at e))
    where
      by : (t : Bool) → ok_at n timestamp rc xs i ≡ t → ok_from m (i + 1) ≡ false → ok_from (suc m) i ≡ false
      by false f g = no m i f
      by true f g = next m i f ∙ g

  whole : (m : ℕ) → ok_from m 0 ≡ blocks_ok n timestamp rc m (cells xs)
  unfolding ok_from
  whole m = let z : 0 * (object_cells n * 8) ≡ 0 = omega arith in rw z

  -- they hold of m objects where they hold of each
  pub blocks-passed : (m : ℕ) → ((i : ℕ) → i < m → ok_at n timestamp rc xs i ≡ true) → blocks_ok n timestamp rc m (cells xs) ≡ true
  blocks-passed m p = sym (whole m) ∙ passed-from m 0 (λ k a b. p k (omega arith))

  -- and not where they do not of one
  pub blocks-failed : (m i : ℕ) → i < m → ok_at n timestamp rc xs i ≡ false → blocks_ok n timestamp rc m (cells xs) ≡ false
  blocks-failed m i h e = let z : 0 + i ≡ i = omega arith in sym (whole m) ∙ failed-from m 0 i h (rw z e)

  -- an answer that says which of the two is the rules'
  pub blocks-decided : (m : ℕ) (t : Bool) → (t ≡ true → (i : ℕ) → i < m → ok_at n timestamp rc xs i ≡ true) → (t ≡ false → (i : ℕ) × (i < m) × (ok_at n timestamp rc xs i ≡ false)) → t ≡ blocks_ok n timestamp rc m (cells xs)
  blocks-decided m true p f = sym (blocks-passed m (p refl))
  blocks-decided m false p f = let (i, h, e) = f refl in sym (blocks-failed m i h e)
