-- Numbers as words: decimal digits, before which a signed number may have a minus sign. Assumes nothing.
use Rattle.std.specs.Prelude.{ℕ, Option, Some, None, ◌+◌, ◌-◌, ◌*◌, Bool, true, false, cond, ◌&&◌, List, [], ◌∷◌, drop, ℤ, pos, neg_ℤ, ◌==◌, nat_le, nat_lt, slice_index}

-- what a byte says as a decimal digit; 10 where it is none
unfoldable pub digit_of : ℕ → ℕ
digit_of b = cond (nat_lt b 48) 10 (cond (nat_lt b 58) (b - 48) 10)

-- is every byte a digit?
unfoldable pub digits : List ℕ → Bool
digits [] = true
digits (b ∷ w) = nat_lt (digit_of b) 10 && digits w

-- the number that digits say behind digits that say n
unfoldable pub decimal : ℕ → List ℕ → ℕ
decimal n [] = n
decimal n (b ∷ w) = decimal (n * 10 + digit_of b) w

abbrev pub pick_number : Bool → Option ℕ → Option ℕ → Option ℕ
pick_number true a b = a
pick_number false a b = b

-- the digits w behind digits that say n, where the whole is not above most
unfoldable pub read_on : ℕ → ℕ → List ℕ → Option ℕ
read_on most n w = pick_number (digits w && nat_le (decimal n w) most) (Some (decimal n w)) None

-- one digit or more, saying a number that is not above most
unfoldable pub unsigned_of : ℕ → List ℕ → Option ℕ
unsigned_of most [] = None
unsigned_of most (b ∷ w) = read_on most 0 (b ∷ w)

abbrev pub integer_of : (ℕ → ℤ) → Option ℕ → Option ℤ
integer_of f (Some n) = Some (f n)
integer_of f None = None

abbrev pub pick_integer : Bool → Option ℤ → Option ℤ → Option ℤ
pick_integer true a b = a
pick_integer false a b = b

-- behind a minus sign, as far as -2^63
unfoldable pub negative_of : List ℕ → Option ℤ
negative_of w = integer_of (λ n. neg_ℤ (pos n)) (unsigned_of 9223372036854775808 w)

unfoldable pub has_minus : List ℕ → Bool
has_minus w = slice_index w 0 == 45

-- a minus sign or none; without one as far as 2^63 - 1
unfoldable pub signed_of : List ℕ → Option ℤ
signed_of w =
    pick_integer (has_minus w) (negative_of (drop 1 w)) (integer_of pos (unsigned_of 9223372036854775807 w))
