-- Document 02, S-9: "rounds an exact half to the even neighbour .. All other quotients are as before." The quotient is a nearest whole number, of
-- two that are equally near the even one (`nearest_even`); no other number is that (`nearest_even_only`). At an exact half two are equally near, and
-- only there (`half-tie`, `tie_half`); elsewhere it is the quotient by the base's rule (`as_before`). All hold for every number, so at both
-- ends of 64 bits. Assumes nothing.
use Rattle.std.specs.Prelude.{ℕ, zero, suc, ◌+◌, ◌-◌, ◌*◌, ◌/◌, ◌%◌, ◌≤◌, ◌<◌, ◌≡◌, refl, Bool, true, false, leb, eqb, ℤ, negsuc, ◌-ℤ◌, ◌*ℤ◌, nat_abs}
use Rattle.std.proofs.Common.{sym, ap, ◌∙◌, zero-mul, suc-mul, le_antisymm, lt_of_mul-lt-mul_right, div-add-mod', mod-lt, eqb-true, le-leb}
use native.Mathlib.Omega.{arith}
use Rattle.std.proofs.Math.IntN.{pos, neg_ℤ}
use Rattle.std.proofs.lemmas.Bool.{eqb-false, lt-leb}
use Rattle.arith.specs.Integer.{pick_nat, rounded, on_side, quotient}
use Rattle.arith.proofs.IntegerLaws.{pos_part, neg_part, neg_parts, difference_parts, rounding, next-times, nearest_magnitude}

-- ---- magnitudes

-- how far apart two numbers are: one of the differences is 0
abbrev distance : ℕ → ℕ → ℕ
distance m n = m - n + (n - m)

-- p times d is less than d above q times d, so p is not above q
at_most : (d p q : ℕ) → p * d < q * d + d → p ≤ q
at_most d p q h = let l : p < suc q = lt_of_mul-lt-mul_right d (rw suc-mul h) in omega arith

-- q is a nearest whole number to a / d, and even where another is as near
record Settled (a d q : ℕ) : Type 0 where
  near : 2 * distance a (q * d) ≤ d
  even : 2 * distance a (q * d) ≡ d → q % 2 ≡ 0

module _ (a d : ℕ) (h : 1 ≤ d) where
  settled : Settled a d (rounded a d)
  settled =
      let n = nearest_magnitude a d h in
      record {
        near = omega arith;
        even =
            rounding a d (λ q. 2 * distance a (q * d) ≡ d → q % 2 ≡ 0)
            (λ u k. let odd = u.half (omega (arith, next-times (a / d) d, div-add-mod' a d, mod-lt a h)) in omega arith)
            (λ w k. w.half (omega (arith, div-add-mod' a d)));
      }

  -- where d / 2 is left over another number is as near, and only there
  tie : (2 * (a % d) ≡ d → 2 * distance a (rounded a d * d) ≡ d) × (2 * distance a (rounded a d * d) ≡ d → 2 * (a % d) ≡ d)
  tie =
      let r = next-times (a / d) d in
      let s = div-add-mod' a d in
      let l = mod-lt a h in
      rounding a d (λ q. (2 * (a % d) ≡ d → 2 * distance a (q * d) ≡ d) × (2 * distance a (q * d) ≡ d → 2 * (a % d) ≡ d))
      (λ u. (λ k. omega arith, λ k. omega arith))
      (λ w. (λ k. omega arith, λ k. omega arith))

  -- of two neighbours one is odd, so not both are as near
  below_by : (p q : ℕ) → Settled a d p → Settled a d q → (t : Bool) → eqb (p * d) (q * d + d) ≡ t → p ≤ q
  below_by p q x y true e =
      let next = eqb-true (p * d) (q * d + d) e in
      let least : suc q ≤ p = at_most d (suc q) p (rw suc-mul (omega arith)) in
      let most : p ≤ suc q = at_most d p (suc q) (rw suc-mul (omega arith)) in
      absurd (omega (arith, x.even (omega (arith, x.near, y.near)), y.even (omega (arith, x.near, y.near))))
  below_by p q x y false e =
      let other = eqb-false (p * d) (q * d + d) e in at_most d p q (omega (arith, x.near, y.near))

  below : (p q : ℕ) → Settled a d p → Settled a d q → p ≤ q
  below p q x y = below_by p q x y (eqb (p * d) (q * d + d)) refl

  settled_only : (q : ℕ) → Settled a d q → q ≡ rounded a d
  settled_only q x = le_antisymm (below q (rounded a d) x settled) (below (rounded a d) q settled x)

-- ---- signed numbers

-- y is a nearest whole number to x / d (y times d is at most d / 2 from x), and even where another is as near
pub record NearestEven (x : ℤ) (d : ℕ) (y : ℤ) : Type 0 where
  pub near : 2 * nat_abs (x -ℤ y *ℤ pos d) ≤ d
  pub even : 2 * nat_abs (x -ℤ y *ℤ pos d) ≡ d → nat_abs y % 2 ≡ 0

parts-distance : (z : ℤ) (m n : ℕ) → pos_part z + n ≡ m + neg_part z → nat_abs z ≡ distance m n
unfolding pos_part neg_part
parts-distance (pos k) m n e = omega arith
parts-distance (negsuc k) m n e = omega arith

neg_times_parts : (q d : ℕ) → (pos_part (neg_ℤ (pos q) *ℤ pos d) ≡ 0) × (neg_part (neg_ℤ (pos q) *ℤ pos d) ≡ q * d)
unfolding pos_part neg_part
neg_times_parts zero d = (zero-mul d, sym (zero-mul d))
neg_times_parts (suc q) d = neg_parts (pos (suc q * d))

nat_abs-neg : (q : ℕ) → nat_abs (neg_ℤ (pos q)) ≡ q
nat_abs-neg zero = refl
nat_abs-neg (suc q) = refl

-- how far a number is from q times d, by the sides of 0 on which each of them stands
module _ (a d : ℕ) where
  above-above : (q : ℕ) → nat_abs (pos a -ℤ pos q *ℤ pos d) ≡ distance a (q * d)
  unfolding pos_part neg_part
  above-above q =
      parts-distance (pos a -ℤ pos (q * d)) a (q * d) (omega (arith, difference_parts (pos a) (pos (q * d))))

  above-below : (q : ℕ) → nat_abs (pos a -ℤ neg_ℤ (pos q) *ℤ pos d) ≡ a + q * d
  unfolding pos_part neg_part
  above-below q =
      let t = neg_ℤ (pos q) *ℤ pos d in
      parts-distance (pos a -ℤ t) (a + q * d) 0 (omega (arith, difference_parts (pos a) t, neg_times_parts q d)) ∙ omega arith

  below-above : (q : ℕ) → nat_abs (negsuc a -ℤ pos q *ℤ pos d) ≡ suc a + q * d
  unfolding pos_part neg_part
  below-above q =
      parts-distance (negsuc a -ℤ pos (q * d)) 0 (suc a + q * d) (omega (arith, difference_parts (negsuc a) (pos (q * d)))) ∙ omega arith

  below-below : (q : ℕ) → nat_abs (negsuc a -ℤ neg_ℤ (pos q) *ℤ pos d) ≡ distance (suc a) (q * d)
  unfolding pos_part neg_part
  below-below q =
      let t = neg_ℤ (pos q) *ℤ pos d in
      parts-distance (negsuc a -ℤ t) (q * d) (suc a) (omega (arith, difference_parts (negsuc a) t, neg_times_parts q d)) ∙ omega arith

-- the same of a signed number and of its magnitude
module _ {a d q : ℕ} {x y : ℤ} (e : nat_abs (x -ℤ y *ℤ pos d) ≡ distance a (q * d)) (m : nat_abs y ≡ q) where
  of-settled : Settled a d q → NearestEven x d y
  of-settled s = record { near = omega (arith, s.near); even = λ k. ap (◌% 2) m ∙ s.even (omega arith) }

  to_settled : NearestEven x d y → Settled a d q
  to_settled n = record { near = omega (arith, n.near); even = λ k. ap (◌% 2) (sym m) ∙ n.even (omega arith) }

pub nearest_even : (x : ℤ) (d : ℕ) → 1 ≤ d → NearestEven x d (quotient x d)
unfolding quotient
nearest_even (pos a) d h = of-settled (above-above a d (rounded a d)) refl (settled a d h)
nearest_even (negsuc a) d h =
    of-settled (below-below a d (rounded (suc a) d)) (nat_abs-neg (rounded (suc a) d)) (settled (suc a) d h)

-- document 01's "rounded to the nearest whole number", as it was: twice the distance from x to quotient x d times d is at most d
pub nearest : (x : ℤ) (d : ℕ) → 1 ≤ d → 2 * nat_abs (x -ℤ quotient x d *ℤ pos d) ≤ d
nearest x d h = (nearest_even x d h).near

-- "an exact half": what the division leaves over is half the divisor
abbrev pub ExactHalf : ℤ → ℕ → Type 0
ExactHalf x d = 2 * (nat_abs x % d) ≡ d

pub half-tie : (x : ℤ) (d : ℕ) → 1 ≤ d → ExactHalf x d → 2 * nat_abs (x -ℤ quotient x d *ℤ pos d) ≡ d
unfolding quotient
half-tie (pos a) d h e = ap (2 *◌) (above-above a d (rounded a d)) ∙ (tie a d h).0 e
half-tie (negsuc a) d h e = ap (2 *◌) (below-below a d (rounded (suc a) d)) ∙ (tie (suc a) d h).0 e

pub tie_half : (x : ℤ) (d : ℕ) → 1 ≤ d → 2 * nat_abs (x -ℤ quotient x d *ℤ pos d) ≡ d → ExactHalf x d
unfolding quotient
tie_half (pos a) d h e = (tie a d h).1 (ap (2 *◌) (sym (above-above a d (rounded a d))) ∙ e)
tie_half (negsuc a) d h e = (tie (suc a) d h).1 (ap (2 *◌) (sym (below-below a d (rounded (suc a) d))) ∙ e)

-- "rounds an exact half to the even neighbour"
pub half-even : (x : ℤ) (d : ℕ) → 1 ≤ d → ExactHalf x d → nat_abs (quotient x d) % 2 ≡ 0
half-even x d h e = (nearest_even x d h).even (half-tie x d h e)

-- a number on the other side of 0 is not nearest
pub nearest_even_only : (x : ℤ) (d : ℕ) (y : ℤ) → 1 ≤ d → NearestEven x d y → y ≡ quotient x d
unfolding quotient
nearest_even_only (pos a) d (pos b) h n = ap pos (settled_only a d h b (to_settled (above-above a d b) refl n))
nearest_even_only (pos a) d (negsuc b) h n =
    absurd (omega (arith, n.near, above-below a d (suc b), suc-mul b d))
nearest_even_only (negsuc a) d (pos zero) h n =
    ap (λ (q : ℕ). neg_ℤ (pos q)) (settled_only (suc a) d h 0 (to_settled (below-below a d 0) refl n))
nearest_even_only (negsuc a) d (pos (suc b)) h n =
    absurd (omega (arith, n.near, below-above a d (suc b), suc-mul b d))
nearest_even_only (negsuc a) d (negsuc b) h n =
    ap (λ (q : ℕ). neg_ℤ (pos q)) (settled_only (suc a) d h (suc b) (to_settled (below-below a d (suc b)) refl n))

-- ---- the base's rule, "a half away from zero" (document 01), and where it still holds

unfoldable pub half_away : ℤ → ℕ → ℤ
half_away z d = on_side z (pick_nat (leb d (2 * (nat_abs z % d))) (nat_abs z / d + 1) (nat_abs z / d))

-- "all other quotients are as before"
pub as_before : (z : ℤ) (d : ℕ) → (ExactHalf z d → ⊥) → quotient z d ≡ half_away z d
unfolding quotient half_away
as_before z d h =
    let a = nat_abs z in
    let r = a % d in
    ap (on_side z)
    (rounding a d (λ q. q ≡ pick_nat (leb d (2 * r)) (a / d + 1) (a / d))
    (λ u. rw (le-leb d (2 * r) u.rest))
    (λ w. rw (lt-leb d (2 * r) (omega (arith, w.rest, h)))))
