-- Bytes as hexadecimal digits, two each. Assumes nothing.
use Rattle.std.specs.Prelude.{◌≡◌, ℕ, Option, Some, None, ◌+◌, ◌-◌, ◌*◌, ◌/◌, ◌%◌, Bool, true, false, cond, ◌&&◌, List, [], ◌∷◌, length, take, nat_le, nat_lt}

-- the digit of a number below 16: `0` to `9`, then `a` to `f`
unfoldable pub glyph_of : ℕ → ℕ
glyph_of n = cond (nat_lt n 10) (48 + n) (97 + (n - 10))

unfoldable pub spelled : List ℕ → List ℕ
spelled [] = []
spelled (b ∷ l) = glyph_of (b / 16) ∷ glyph_of (b % 16) ∷ spelled l

-- what a byte says as a digit of either case; 16 where it is none
unfoldable pub nibble_of : ℕ → ℕ
nibble_of b =
    cond (nat_lt b 48) 16
    (cond (nat_le b 57) (b - 48)
    (cond (nat_lt b 65) 16 (cond (nat_le b 70) (b - 65 + 10) (cond (nat_lt b 97) 16 (cond (nat_le b 102) (b - 97 + 10) 16)))))

-- is a word pairs of digits?
unfoldable pub pairs : List ℕ → Bool
pairs [] = true
pairs (a ∷ []) = false
pairs (a ∷ b ∷ w) = nat_lt (nibble_of a) 16 && (nat_lt (nibble_of b) 16 && pairs w)

-- the bytes that pairs of digits say
unfoldable pub hex_bytes : List ℕ → List ℕ
hex_bytes [] = []
hex_bytes (a ∷ []) = []
hex_bytes (a ∷ b ∷ w) = (nibble_of a * 16 + nibble_of b) ∷ hex_bytes w

abbrev pub pick_digits : Bool → Option ℕ → Option ℕ → Option ℕ
pick_digits true a b = a
pick_digits false a b = b

-- a word of digits whose bytes fit is answered by their number, and they stand at the start of the buffer
pub record Parsed (w before after : List ℕ) (r : Option ℕ) : Type 0 where
  pub answer : r ≡ pick_digits (pairs w && nat_le (length (hex_bytes w)) (length before)) (Some (length (hex_bytes w))) None
  pub bytes : r ≡ Some (length (hex_bytes w)) → take (length (hex_bytes w)) after ≡ hex_bytes w
