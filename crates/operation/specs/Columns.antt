-- The rules as `decode` tests them, a column for each limit, and that these tests are the rules of specs/Body.antt.
-- A skip's limit is `second + i < m`, so that no column changes from one operation to the next. Assumes nothing.
use Prim.Native.Nat.{ℕ, ◌+◌, ◌*◌}
use Rattle.std.specs.Prelude.{◌≤◌, ◌≡◌, List, [], ◌∷◌, Bool, ◌&&◌, length, get_or, ltb}
use Rattle.std.proofs.Math.Dec.{leb}
use Rattle.operation.specs.Body.{size, body_length}

-- No limit may allow more operations than this: a skip that does not reach past the end is then at most 15 long.
abbrev pub most_operations : ℕ
most_operations = 16

-- a body of m operations, at most so many, and of their length: what the tests of its operations ask before
abbrev pub Measured : List ℕ → ℕ → Type 0
Measured b m = (m ≡ size b) × (m ≤ most_operations) × (length b ≡ body_length m)

abbrev pub first_bound : ℕ → ℕ
first_bound kind = get_or (4 ∷ 4 ∷ 4 ∷ 4 ∷ 4 ∷ 4 ∷ 1 ∷ 4 ∷ []) kind 0

abbrev pub least_second : ℕ → ℕ
least_second kind = get_or (0 ∷ 0 ∷ 0 ∷ 0 ∷ 0 ∷ 1 ∷ 0 ∷ 0 ∷ []) kind 0

abbrev pub second_bound : ℕ → ℕ → ℕ → ℕ
second_bound n m kind = get_or (n ∷ n ∷ 1 ∷ 4 ∷ 4 ∷ m ∷ 1 ∷ 1 ∷ []) kind 0

abbrev pub least_constant : ℕ → ℕ
least_constant kind = get_or (0 ∷ 0 ∷ 0 ∷ 0 ∷ 0 ∷ 0 ∷ 0 ∷ 1 ∷ []) kind 0

abbrev pub most_constant : ℕ → ℕ
most_constant kind = get_or (0 ∷ 0 ∷ 18446744073709551615 ∷ 0 ∷ 0 ∷ 0 ∷ 0 ∷ 1000000 ∷ []) kind 0

-- operation i of m
unfoldable pub tested : ℕ → ℕ → ℕ → ℕ → ℕ → ℕ → ℕ → Bool
tested n m i kind f s c =
    ltb f (first_bound kind) && leb (least_second kind) s && ltb (s + least_second kind * i) (second_bound n m kind) && leb (least_constant kind) c && leb c (most_constant kind)
