-- Whether every element of a list is 0: of bytes and of cells, and a turn of a scan by OR. Assumes nothing.
use Rattle.std.specs.Prelude.{ℕ, zero, suc, ◌+◌, ◌-◌, ◌*◌, ◌/◌, ◌≤◌, ◌<◌, ◌≡◌, refl, Bool, true, false, ◌&&◌, List, [], ◌∷◌, ◌++◌, eqb, length, take, drop, get_or, replicate}
use Rattle.std.proofs.Common.{sym, ap, ap₂, ◌∙◌, arith, add-one, length-drop, take-append-drop, ne_eqb}
use Rattle.std.proofs.Math.Bool.{and-true, and_assoc}
use Rattle.std.specs.Int.Bits.{bit_or, or_zero_l, or_add_and}
use Rattle.std.proofs.lemmas.Nat.{and_le_l, and_le_r}
use Rattle.std.proofs.Math.Dec.{eqb-suc-zero}
use Rattle.std.proofs.Math.Seq.{slice, slice-cons, slice_empty, length-slice}
use Rattle.words.specs.Words.{word}
use Rattle.cells.specs.Cells.{first_cells, cells}
use Rattle.cells.specs.CellLaws.{cells-slice}

abbrev pub zeros : List ℕ → Bool
zeros [] = true
zeros (x ∷ xs) = eqb x 0 && zeros xs

-- ---- true exactly for a list of zeros

pub zeros-replicate : (n : ℕ) → zeros (replicate n 0) ≡ true
zeros-replicate zero = refl
zeros-replicate (suc n) = zeros-replicate n

pub zeros-true : (l : List ℕ) → zeros l ≡ true → l ≡ replicate (length l) 0
zeros-true [] e = refl
zeros-true (zero ∷ l) e = ap (λ (r : List ℕ). 0 ∷ r) (zeros-true l e)
zeros-true (suc x ∷ l) e = let z : false ≡ true = rw eqb-suc-zero at e in cc

-- ---- whole cells are 0 exactly if their bytes are

not-zero : (n : ℕ) → 0 < n → eqb n 0 ≡ false
not-zero n h = ne_eqb n 0 (λ e. omega arith)

word-zeros : (bs : List ℕ) → eqb (word bs) 0 ≡ zeros bs
word-zeros [] = refl
word-zeros (zero ∷ bs) = times (word bs) ∙ word-zeros bs
  where
    times : (w : ℕ) → eqb (0 + 256 * w) 0 ≡ eqb w 0
    times zero = refl
    times (suc w) = not-zero (0 + 256 * suc w) (omega arith) ∙ sym (eqb-suc-zero w)
word-zeros (suc b ∷ bs) = rw (not-zero (suc b + 256 * word bs) (omega arith), eqb-suc-zero)

zeros-append : (xs ys : List ℕ) → zeros (xs ++ ys) ≡ zeros xs && zeros ys
zeros-append [] ys = refl
zeros-append (x ∷ xs) ys = rw (zeros-append xs ys) (sym (and_assoc (eqb x 0) (zeros xs) (zeros ys)))

zeros-first_cells : (n : ℕ) (xs : List ℕ) → length xs ≡ n * 8 → zeros (first_cells n xs) ≡ zeros xs
zeros-first_cells zero [] h = refl
zeros-first_cells zero (x ∷ xs) h = absurd (omega arith)
zeros-first_cells (suc n) xs h =
    ap₂ ◌&&◌ (word-zeros (take 8 xs)) (zeros-first_cells n (drop 8 xs) (length-drop 8 xs ∙ omega arith))
    ∙ sym (zeros-append (take 8 xs) (drop 8 xs))
    ∙ ap zeros (take-append-drop 8 xs)

pub zeros-cells : (xs : List ℕ) (n : ℕ) → length xs ≡ n * 8 → zeros (cells xs) ≡ zeros xs
unfolding cells
zeros-cells xs n h =
    let e : length xs / 8 ≡ n = omega arith in
    rw e (zeros-first_cells n xs h)

-- what a scan over bytes says of the cells from f up to t
pub zeros-cells_part : (f t : ℕ) (xs : List ℕ) → t * 8 ≤ length xs → zeros (slice (f * 8) (t * 8) xs) ≡ zeros (slice f t (cells xs))
zeros-cells_part f t xs h =
    sym (zeros-cells (slice (f * 8) (t * 8) xs) (t - f) (length-slice (f * 8) (t * 8) xs h ∙ omega arith))
    ∙ ap zeros (cells-slice f t xs)

-- ---- a scan by OR: a is the OR of what was seen before index i

or_zeros : (a b : ℕ) (t : Bool) → eqb (bit_or a b) 0 && t ≡ eqb a 0 && (eqb b 0 && t)
or_zeros zero b t = rw (or_zero_l b)
or_zeros (suc a) b t =
    let l : 0 < bit_or (suc a) b = omega (arith, or_add_and (suc a) b, and_le_l (suc a) b, and_le_r (suc a) b) in
    rw (not-zero (bit_or (suc a) b) l, eqb-suc-zero)

module _ (xs : List ℕ) (a i to : ℕ) where
  pub scan_step : i < to → to ≤ length xs
      → eqb a 0 && zeros (slice i to xs) ≡ eqb (bit_or a (get_or xs i 0)) 0 && zeros (slice (i + 1) to xs)
  scan_step h l = rw (slice-cons i to xs 0 h l, add-one) (sym (or_zeros a (get_or xs i 0) (zeros (slice (suc i) to xs))))

  pub scan-done : i ≡ to → eqb a 0 && zeros (slice i to xs) ≡ eqb a 0
  scan-done e = rw (e, slice_empty) (and-true (eqb a 0))
