-- The laws of the definitions in Integer: the range, equality, bits and division; and sums of signed numbers for `omega`. Assumes nothing.
use Rattle.std.specs.Prelude.{ℕ, zero, suc, ◌+◌, ◌-◌, ◌*◌, ◌/◌, ◌%◌, ◌^◌, ◌≤◌, ◌<◌, ◌≡◌, Bool, true, false, not, cond, ◌||◌, ◌&&◌, T, ltb, eqb, ℤ, pos, negsuc, neg_ℤ, ◌+ℤ◌, ◌-ℤ◌}
use Rattle.std.proofs.Math.Path.{refl}
use Rattle.std.proofs.Common.{sym, ap, subst, ◌∙◌, suc-mul, le-mul_of_pos_right, div-add-mod', mod-lt, add-one, arith, eq-eqb, eqb-true, ltb-true, ltb-false, lt-ltb, le-ltb, SFits, to_z, of_z, to_z-of_z}
use Rattle.std.proofs.Math.IntN.{sub_ℕ}
use Rattle.std.specs.Int.Signed.{mag, lt_z}
use Rattle.std.proofs.lemmas.Bool.{eqb-false}
use Rattle.std.specs.Int.{w64}
use Rattle.arith.specs.Integer.{fits, rounds_up, pick_nat, rounded, quotient, eq_z}

-- ---- a signed number as two naturals, so that `omega` reads sums, differences and orders: z is pos_part z less neg_part z, and one of them is 0

unfoldable pub pos_part : ℤ → ℕ
pos_part (pos n) = n
pos_part (negsuc n) = 0

unfoldable pub neg_part : ℤ → ℕ
neg_part (pos n) = 0
neg_part (negsuc n) = suc n

subℕ_by : (a b : ℕ) (t : Bool) → ltb a b ≡ t → pos_part (cond t (negsuc (b - suc a)) (pos (a - b))) + b ≡ a + neg_part (cond t (negsuc (b - suc a)) (pos (a - b)))
unfolding pos_part neg_part
subℕ_by a b true e = omega (arith, ltb-true a b e)
subℕ_by a b false e = omega (arith, ltb-false a b e)

subℕ_parts : (a b : ℕ) → pos_part (sub_ℕ a b) + b ≡ a + neg_part (sub_ℕ a b)
subℕ_parts a b = subℕ_by a b (ltb a b) refl

pub sum-parts : (x y : ℤ) → pos_part (x +ℤ y) + neg_part x + neg_part y ≡ pos_part x + pos_part y + neg_part (x +ℤ y)
unfolding pos_part neg_part
sum-parts (pos a) (pos b) = omega arith
sum-parts (pos a) (negsuc b) = omega (arith, subℕ_parts a (suc b))
sum-parts (negsuc a) (pos b) = omega (arith, subℕ_parts b (suc a))
sum-parts (negsuc a) (negsuc b) = omega arith

pub neg_parts : (y : ℤ) → (pos_part (neg_ℤ y) ≡ neg_part y) × (neg_part (neg_ℤ y) ≡ pos_part y)
unfolding pos_part neg_part
neg_parts (pos zero) = (refl, refl)
neg_parts (pos (suc n)) = (refl, refl)
neg_parts (negsuc n) = (refl, refl)

pub difference_parts : (x y : ℤ) → pos_part (x -ℤ y) + neg_part x + pos_part y ≡ pos_part x + neg_part y + neg_part (x -ℤ y)
difference_parts x y = omega (arith, sum-parts x (neg_ℤ y), neg_parts y)

pub less_parts : (x y : ℤ) → lt_z x y ≡ true → pos_part x + neg_part y < pos_part y + neg_part x
unfolding pos_part neg_part
less_parts (pos a) (pos b) e = omega (arith, ltb-true a b e)
less_parts (pos a) (negsuc b) e = absurd (subst T (sym e) tt)
less_parts (negsuc a) (pos b) e = omega arith
less_parts (negsuc a) (negsuc b) e = omega (arith, ltb-true b a e)

pub not-less_parts : (x y : ℤ) → lt_z x y ≡ false → pos_part y + neg_part x ≤ pos_part x + neg_part y
unfolding pos_part neg_part
not-less_parts (pos a) (pos b) e = omega (arith, ltb-false a b e)
not-less_parts (pos a) (negsuc b) e = omega arith
not-less_parts (negsuc a) (pos b) e = absurd (subst (λ (t : Bool). T (not t)) (sym e) tt)
not-less_parts (negsuc a) (negsuc b) e = omega (arith, ltb-false b a e)

-- numbers whose parts differ by the same are equal
pub same_parts : (x y : ℤ) → pos_part x + neg_part y ≡ pos_part y + neg_part x → x ≡ y
unfolding pos_part neg_part
same_parts (pos a) (pos b) e = ap pos (omega arith)
same_parts (pos a) (negsuc b) e = absurd (omega arith)
same_parts (negsuc a) (pos b) e = absurd (omega arith)
same_parts (negsuc a) (negsuc b) e = ap negsuc (omega arith)

-- ---- the range

pub fits→SFits : (z : ℤ) → fits z ≡ true → SFits w64 z
unfolding fits
fits→SFits z e = record { sfits = ltb-true (mag z) (2 ^ 63) e }

pub SFits→fits : {z : ℤ} → SFits w64 z → fits z ≡ true
unfolding fits
SFits→fits {z} f = lt-ltb (mag z) (2 ^ 63) f.sfits

-- by the parts: what a number in the range has, and what shows that a number is in it, above it or below it
pub fits-parts : (z : ℤ) → fits z ≡ true → (pos_part z < 2 ^ 63) × (neg_part z ≤ 2 ^ 63)
unfolding fits pos_part neg_part
fits-parts (pos n) e = omega (arith, ltb-true n (2 ^ 63) e)
fits-parts (negsuc n) e = omega (arith, ltb-true n (2 ^ 63) e)

pub in_range : (z : ℤ) → (pos_part z < 2 ^ 63 + neg_part z) × (neg_part z ≤ 2 ^ 63 + pos_part z) → fits z ≡ true
unfolding fits pos_part neg_part
in_range (pos n) h = lt-ltb n (2 ^ 63) (omega arith)
in_range (negsuc n) h = lt-ltb n (2 ^ 63) (omega arith)

pub above-range : (z : ℤ) → 2 ^ 63 + neg_part z ≤ pos_part z → fits z ≡ false
unfolding fits pos_part neg_part
above-range (pos n) h = le-ltb n (2 ^ 63) (omega arith)
above-range (negsuc n) h = le-ltb n (2 ^ 63) (omega arith)

pub below-range : (z : ℤ) → 2 ^ 63 + pos_part z < neg_part z → fits z ≡ false
unfolding fits pos_part neg_part
below-range (pos n) h = le-ltb n (2 ^ 63) (omega arith)
below-range (negsuc n) h = le-ltb n (2 ^ 63) (omega arith)

-- ---- bits

-- a number in the range is read back from its bits
pub read_back : {z : ℤ} → mag z < 2 ^ 63 → to_z w64 (of_z w64 z) ≡ z
read_back h = to_z-of_z {w = w64} (record { sfits = h })

pub same_bits : {y z : ℤ} → mag y < 2 ^ 63 → mag z < 2 ^ 63 → of_z w64 y ≡ of_z w64 z → y ≡ z
same_bits h k e = sym (read_back h) ∙ ap (to_z w64) e ∙ read_back k

-- ---- equality

pub eq_z-true : (x y : ℤ) → eq_z x y ≡ true → x ≡ y
eq_z-true (pos a) (pos b) e = ap pos (eqb-true a b e)
eq_z-true (pos a) (negsuc b) e = absurd (subst T (sym e) tt)
eq_z-true (negsuc a) (pos b) e = absurd (subst T (sym e) tt)
eq_z-true (negsuc a) (negsuc b) e = ap negsuc (eqb-true a b e)

eq_z-refl : (x : ℤ) → eq_z x x ≡ true
eq_z-refl (pos a) = eq-eqb a a refl
eq_z-refl (negsuc a) = eq-eqb a a refl

pub eq_eq_z : (x y : ℤ) → x ≡ y → eq_z x y ≡ true
eq_eq_z x y e = rw (← e) (eq_z-refl x)

pub ne_eq_z : (x y : ℤ) → (x ≡ y → ⊥) → eq_z x y ≡ false
ne_eq_z x y h = by (eq_z x y) refl
  where
    by : (t : Bool) → eq_z x y ≡ t → eq_z x y ≡ false
    by true e = absurd (h (eq_z-true x y e))
    by false e = e

-- ---- division

-- all that the other laws know of the rule for rounding: what is rounded up is a half at least, what is not is one at most, and a half tells
-- the quotient's parity
pub record Up (q r d : ℕ) : Type 0 where
  pub rest : d ≤ 2 * r
  pub half : d ≡ 2 * r → q % 2 ≡ 1

pub record Down (q r d : ℕ) : Type 0 where
  pub rest : 2 * r ≤ d
  pub half : d ≡ 2 * r → q % 2 ≡ 0

module _ (q r d : ℕ) where
  up_by : (s t u : Bool) → ltb d (2 * r) ≡ s → eqb d (2 * r) ≡ t → eqb (q % 2) 1 ≡ u → (s || (t && u)) ≡ true → Up q r d
  up_by true t u l e o y =
      let h = ltb-true d (2 * r) l in record { rest = omega arith; half = λ e. absurd (omega arith) }
  up_by false true true l e o y =
      let h = eqb-true d (2 * r) e in record { rest = omega arith; half = λ e. eqb-true (q % 2) 1 o }
  up_by false true false l e o y = absurd (subst T (sym y) tt)
  up_by false false u l e o y = absurd (subst T (sym y) tt)

  up : rounds_up q r d ≡ true → Up q r d
  unfolding rounds_up
  up = up_by (ltb d (2 * r)) (eqb d (2 * r)) (eqb (q % 2) 1) refl refl refl

  down_by : (s t u : Bool) → ltb d (2 * r) ≡ s → eqb d (2 * r) ≡ t → eqb (q % 2) 1 ≡ u → (s || (t && u)) ≡ false → Down q r d
  down_by true t u l e o y = absurd (subst T y tt)
  down_by false true true l e o y = absurd (subst T y tt)
  down_by false true false l e o y =
      let h = eqb-false (q % 2) 1 o in
      record { rest = ltb-false d (2 * r) l; half = λ e. omega arith }
  down_by false false u l e o y =
      record { rest = ltb-false d (2 * r) l; half = λ h. absurd (eqb-false d (2 * r) e h) }

  down : rounds_up q r d ≡ false → Down q r d
  unfolding rounds_up
  down = down_by (ltb d (2 * r)) (eqb d (2 * r)) (eqb (q % 2) 1) refl refl refl

pub next-times : (q d : ℕ) → (q + 1) * d ≡ q * d + d
next-times q d = rw add-one (suc-mul q d)

-- what holds of a magnitude's quotient, by the two ways in which it is rounded
pub rounding : (a d : ℕ) (P : ℕ → Type 0) → (Up (a / d) (a % d) d → P (a / d + 1)) → (Down (a / d) (a % d) d → P (a / d)) → P (rounded a d)
rounding a d P u w = by (rounds_up (a / d) (a % d) d) refl
  where
    by : (t : Bool) → rounds_up (a / d) (a % d) d ≡ t → P (pick_nat t (a / d + 1) (a / d))
    by true e = u (up (a / d) (a % d) d e)
    by false e = w (down (a / d) (a % d) d e)

module _ (a d : ℕ) (h : 1 ≤ d) where
  pub rounded-le : rounded a d ≤ a
  rounded-le =
      let m = le-mul_of_pos_right (a / d) h in
      rounding a d (λ q. q ≤ a) (λ u. omega (arith, u.rest, div-add-mod' a d)) (λ w. omega (arith, div-add-mod' a d))

  -- a magnitude's quotient is nearest: 2qd is at most d from 2a
  pub nearest_magnitude : (2 * (rounded a d * d) ≤ 2 * a + d) × (2 * a ≤ 2 * (rounded a d * d) + d)
  nearest_magnitude =
      rounding a d (λ q. (2 * (q * d) ≤ 2 * a + d) × (2 * a ≤ 2 * (q * d) + d))
      (λ u. omega (arith, u.rest, next-times (a / d) d, div-add-mod' a d, mod-lt a h))
      (λ w. omega (arith, w.rest, div-add-mod' a d))

mag-neg : (q a : ℕ) → q ≤ suc a → mag (neg_ℤ (pos q)) ≤ a
mag-neg zero a h = omega arith
mag-neg (suc q) a h = omega arith

pub quotient_fits : (z : ℤ) (d : ℕ) → fits z ≡ true → 1 ≤ d → fits (quotient z d) ≡ true
unfolding fits quotient
quotient_fits (pos a) d e h =
    lt-ltb (rounded a d) (2 ^ 63) (omega (arith, ltb-true a (2 ^ 63) e, rounded-le a d h))
quotient_fits (negsuc a) d e h =
    lt-ltb (mag (neg_ℤ (pos (rounded (suc a) d)))) (2 ^ 63) (omega (arith, ltb-true a (2 ^ 63) e, mag-neg (rounded (suc a) d) a (rounded-le (suc a) d h)))
