-- Signed 64-bit numbers: their range, sums that may leave it, and division to the nearest whole number. Assumes nothing.
use Rattle.std.specs.Prelude.{ℕ, ◌+◌, ◌*◌, ◌/◌, ◌%◌, ◌^◌, Bool, true, false, ◌||◌, ◌&&◌, ltb, eqb, ℤ, pos, negsuc, neg_ℤ, nat_abs, Option, Some, None}
use Rattle.std.specs.Int.Signed.{mag}

-- whether 64 bits hold z: -2^63 to 2^63 - 1 (`mag z` is n both for n and for -(n + 1))
unfoldable pub fits : ℤ → Bool
fits z = ltb (mag z) (2 ^ 63)

abbrev pub pick_checked : Bool → Option ℤ → Option ℤ → Option ℤ
pick_checked true a b = a
pick_checked false a b = b

-- z, or none where 64 bits do not hold it
abbrev pub bounded : ℤ → Option ℤ
bounded z = pick_checked (fits z) (Some z) None

-- Whether the quotient q of a magnitude divided by d, with the remainder r, is rounded up: more than a half is, and "an exact half to the
-- even neighbour" (document 02, S-9), so where q is odd. The rule for a half stands in this line alone.
unfoldable pub rounds_up : ℕ → ℕ → ℕ → Bool
rounds_up q r d = ltb d (2 * r) || (eqb d (2 * r) && eqb (q % 2) 1)

abbrev pub pick_nat : Bool → ℕ → ℕ → ℕ
pick_nat true a b = a
pick_nat false a b = b

-- a magnitude divided by d, to the nearest whole number
abbrev pub rounded : ℕ → ℕ → ℕ
rounded a d = pick_nat (rounds_up (a / d) (a % d) d) (a / d + 1) (a / d)

-- the number at the distance q from 0, on the side of z
abbrev pub on_side : ℤ → ℕ → ℤ
on_side (pos a) q = pos q
on_side (negsuc a) q = neg_ℤ (pos q)

-- a signed number divided by d: its magnitude is, and the sign stays
unfoldable pub quotient : ℤ → ℕ → ℤ
quotient z d = on_side z (rounded (nat_abs z) d)

-- equality as a test
abbrev pub eq_z : ℤ → ℤ → Bool
eq_z (pos a) (pos b) = eqb a b
eq_z (pos a) (negsuc b) = false
eq_z (negsuc a) (pos b) = false
eq_z (negsuc a) (negsuc b) = eqb a b
