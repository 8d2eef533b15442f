-- Numbers as they are written: decimal numerals, and lines of them. Assumes nothing.
use Rattle.std.specs.Prelude.{◌≡◌, ℕ, zero, suc, ◌+◌, ◌/◌, ◌%◌, ◌≤◌, cond, List, [], ◌∷◌, ◌++◌, length, take, ℤ, pos, negsuc, nat_lt}
use Rattle.text.specs.declared.buffer.Text.{Text}

-- the decimal digits of n, at most f of them
unfoldable pub spelt : ℕ → ℕ → List ℕ
spelt zero n = []
spelt (suc f) n = cond (nat_lt n 10) [] (spelt f (n / 10)) ++ ((48 + n % 10) ∷ [])

-- a number of 64 bits has at most 20
unfoldable pub unsigned_numeral : ℕ → List ℕ
unsigned_numeral n = spelt 20 n

-- below 0 behind a minus sign
unfoldable pub numeral : ℤ → List ℕ
numeral (pos n) = unsigned_numeral n
numeral (negsuc n) = 45 ∷ unsigned_numeral (suc n)

-- numbers behind another, a space before each
unfoldable pub spaced : List ℤ → List ℕ
spaced [] = []
spaced (z ∷ zs) = 32 ∷ (numeral z ++ spaced zs)

-- a line of numbers, one space between two
unfoldable pub line : List ℤ → List ℕ
line [] = []
line (z ∷ zs) = numeral z ++ spaced zs

-- Where there is room, the text stands in the buffer right behind its first `at` bytes, and r is the index behind it.
pub record Behind (before : List ℕ) (at : ℕ) (text after : List ℕ) (r : ℕ) : Type 0 where
  pub end : at + length text ≤ length before → r ≡ at + length text
  pub bytes : at + length text ≤ length before → take r after ≡ take at before ++ text

-- the same for a line that holds its buffer
pub record Follows (before : Text) (text : List ℕ) (after : Text) : Type 0 where
  pub same_buffer : after.out.ghost_name ≡ before.out.ghost_name
  pub same_size : length after.out.now ≡ length before.out.now
  pub behind : Behind before.out.now before.end text after.out.now after.end

-- a whole line, from the buffer's start on
abbrev pub Line : List ℕ → List ℤ → List ℕ → ℕ → Type 0
Line before zs after r = Behind before 0 (line zs) after r
