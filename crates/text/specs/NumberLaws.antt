-- How the digits of a number are read one by one. Assumes nothing.
use Rattle.std.specs.Prelude.{◌≡◌, ◌≢◌, ℕ, Some, None, zero, suc, ◌+◌, ◌-◌, ◌*◌, ◌%◌, ◌^◌, ◌<◌, ◌≤◌, Bool, true, false, ◌&&◌, List, [], ◌∷◌, length, drop, ℤ, pos, negsuc, neg_ℤ, FitsSigned, int_lt, nat_le, slice_index, unsigned_abs, refl}
use Rattle.std.proofs.Math.Bool.{and-false}
use Rattle.std.proofs.Common.{add-one, arith, drop_of_length-le, drop-cons, lt-ltb, le-ltb, le-leb, leb-true, ltb-true, to_z, of_z, to_z-of_z}
use Rattle.std.proofs.lemmas.Bool.{lt-leb, eq-eqb, ne_eqb}
use Rattle.std.specs.Int.{w64}
use mir.ValLaws.{to_z-neg}
use Rattle.text.specs.Numbers.{digit_of, digits, decimal, pick_number, read_on, unsigned_of, integer_of, negative_of, has_minus, signed_of}

-- a number that was read is not above the most
pub at_most : (most n : ℕ) (w : List ℕ) → Some n ≡ unsigned_of most w → n ≤ most
unfolding unsigned_of read_on
at_most most n [] e = let z : ◌≡◌ {A = ℕ} 0 1 = cc in absurd (omega arith)
at_most most n (b ∷ w) e = go' (digits (b ∷ w)) (nat_le (decimal 0 (b ∷ w)) most) refl e
  where
    go' : (d l : Bool) → nat_le (decimal 0 (b ∷ w)) most ≡ l → Some n ≡ pick_number (d && l) (Some (decimal 0 (b ∷ w))) None → n ≤ most
    go' true true t e = let z : n ≡ decimal 0 (b ∷ w) = cc in omega (arith, leb-true (decimal 0 (b ∷ w)) most t)
    go' true false t e = let z : ◌≡◌ {A = ℕ} 0 1 = cc in absurd (omega arith)
    go' false l t e = let z : ◌≡◌ {A = ℕ} 0 1 = cc in absurd (omega arith)

-- 2^64 - n, and 0 for 0, are the bits of -n
pub negated : (n m : ℕ) → n ≤ 9223372036854775808 → m < 2 ^ 64 → (m + n) % 2 ^ 64 ≡ 0 → to_z w64 m ≡ neg_ℤ (pos n)
negated zero m l f e = let z : m ≡ 0 = omega arith in rw z
negated (suc k) m l f e = let z : m ≡ 2 ^ 64 - suc k = omega arith in rw z (to_z-neg w64 k (omega arith))

-- the distance from 0 of a number with the bits x, below 0 and elsewhere
module _ (z : ℤ) (x : ℕ) (f : FitsSigned w64 z) (e : x ≡ of_z w64 (to_z w64 (of_z w64 z))) where
  pub distance-below : (m : ℕ) → int_lt (to_z w64 (of_z w64 z)) (pos 0) ≡ true → m < 2 ^ 64 → (m + x) % 2 ^ 64 ≡ 0 → m ≡ unsigned_abs z
  distance-below m t l g = below z f (rw (to_z-of_z f) at t) (rw (to_z-of_z f) at e)
    where
      below : (z : ℤ) → FitsSigned w64 z → int_lt z (pos 0) ≡ true → x ≡ of_z w64 z → m ≡ unsigned_abs z
      below (pos k) f t e = absurd (omega (arith, ltb-true k 0 t))
      below (negsuc k) f t e = omega (arith, f.sfits)

  pub distance-above : int_lt (to_z w64 (of_z w64 z)) (pos 0) ≡ false → x ≡ unsigned_abs z
  distance-above t = above z (rw (to_z-of_z f) at t) (rw (to_z-of_z f) at e)
    where
      above : (z : ℤ) → int_lt z (pos 0) ≡ false → x ≡ of_z w64 z → x ≡ unsigned_abs z
      above (pos k) t e = e
      above (negsuc k) t e = let y : true ≡ false = t in cc

pub minus-some : (w : List ℕ) → has_minus w ≡ true → 1 ≤ length w
unfolding has_minus
minus-some [] e = let z : false ≡ true = e in let y : ◌≡◌ {A = ℕ} 0 1 = cc in absurd (omega arith)
minus-some (b ∷ w) e = omega arith

pub short-plain : (w : List ℕ) → length w < 1 → slice_index w 0 ≢ 45
short-plain [] h e = absurd (omega arith)
short-plain (b ∷ w) h e = absurd (omega arith)

pub minus-none : (w : List ℕ) → length w ≤ 0 → false ≡ has_minus w
unfolding has_minus
minus-none [] h = refl
minus-none (b ∷ w) h = absurd (omega arith)

-- behind a minus sign the rest of the word, else the whole
module _ (w : List ℕ) where
  pub signed-minus : slice_index w 0 ≡ 45 → negative_of (drop 1 w) ≡ signed_of w
  unfolding signed_of has_minus
  signed-minus e = rw (eq-eqb (slice_index w 0) 45 e)

  pub signed-plain : (slice_index w 0 ≢ 45) → integer_of pos (unsigned_of 9223372036854775807 w) ≡ signed_of w
  unfolding signed_of has_minus
  signed-plain e = rw (ne_eqb (slice_index w 0) 45 e)

pub begins : (most : ℕ) (w : List ℕ) → 0 < length w → read_on most 0 w ≡ unsigned_of most w
unfolding unsigned_of
begins most [] h = absurd (omega arith)
begins most (b ∷ w) h = refl

pub nothing : (most : ℕ) (w : List ℕ) → length w ≡ 0 → None ≡ unsigned_of most w
unfolding unsigned_of
nothing most [] h = refl
nothing most (b ∷ w) h = absurd (omega arith)

-- more digits make no number smaller
grows : (n : ℕ) (w : List ℕ) → n ≤ decimal n w
unfolding decimal
grows n [] = omega arith
grows n (b ∷ w) = omega (arith, grows (n * 10 + digit_of b) w)

-- at a byte b, before the bytes w
module _ (most n b : ℕ) (w : List ℕ) where
  stop : 9 < digit_of b → None ≡ read_on most n (b ∷ w)
  unfolding read_on digits
  stop s = rw (le-ltb (digit_of b) 10 (omega arith))

  exceed : most < n * 10 + digit_of b → None ≡ read_on most n (b ∷ w)
  unfolding read_on decimal
  exceed s = rw (lt-leb (decimal n (b ∷ w)) most (omega (arith, grows (n * 10 + digit_of b) w)), and-false)

  go_on : digit_of b ≤ 9 → read_on most (n * 10 + digit_of b) w ≡ read_on most n (b ∷ w)
  unfolding read_on digits decimal
  go_on s = rw (lt-ltb (digit_of b) 10 (omega arith))

-- at index i of a word, where the byte says d
module _ (most n i d : ℕ) (w : List ℕ) (h : i < length w) (e : d ≡ digit_of (slice_index w i)) where
  split : drop i w ≡ slice_index w i ∷ drop (i + 1) w
  split = rw (add-one, drop-cons w i 0)

  pub stops : 9 < d → None ≡ read_on most n (drop i w)
  stops s = rw split (stop most n (slice_index w i) (drop (i + 1) w) (omega arith))

  pub exceeds : most < n * 10 + d → None ≡ read_on most n (drop i w)
  exceeds s = rw split (exceed most n (slice_index w i) (drop (i + 1) w) (omega arith))

  pub goes_on : d ≤ 9 → read_on most (n * 10 + d) (drop (i + 1) w) ≡ read_on most n (drop i w)
  goes_on s = rw (split, e) (go_on most n (slice_index w i) (drop (i + 1) w) (omega arith))

pub ends : (most n i : ℕ) (w : List ℕ) → length w ≤ i → n ≤ most → Some n ≡ read_on most n (drop i w)
unfolding read_on digits decimal
ends most n i w h l = rw (drop_of_length-le w h, le-leb n most l)
