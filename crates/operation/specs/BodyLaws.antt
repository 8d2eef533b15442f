-- Laws of a body: its operations as a list, and what a well_formed body promises of each of them. Assumes nothing.
use Rattle.std.specs.Prelude.{ℕ, ◌+◌, ◌-◌, ◌*◌, ◌≤◌, ◌<◌, ◌≡◌, true, length}
use mathlib.Core.List.{List}
use Rattle.arith.specs.Integer.{fits}
use Rattle.operation.specs.declared.Operation.{Operation}
use Rattle.operation.specs.declared.Operation.TheVariants.{Load, Store, Set, Add, Subtract, Skip, Fail, Divide}
use Rattle.operation.specs.Body.{register_count, longest_skip, most_divisor, size}
use Rattle.operation.specs.Body.{operation_at, allowed_at}

-- where a part of the list starts with an operation, that is operation i, and the rest is what comes after it
pub record Place (b : List ℕ) (i : ℕ) (x : Operation) (rest : List Operation) : Type 0 where
  pub inside : i < size b
  pub here : x ≡ operation_at b i
  pub after : length rest ≡ size b - (i + 1)

pub record Formed (limit n : ℕ) (b : List ℕ) : Type 0 where
  pub some : 1 ≤ size b
  pub most : size b ≤ limit
  pub whole : length b ≡ 1 + 11 * size b
  pub all : (i : ℕ) → i < size b → allowed_at n b i ≡ true

-- ---- what the rules promise of one operation

-- n objects; `left` operations come after this one
abbrev pub Valid : ℕ → ℕ → Operation → Type 0
Valid n left (Load r o) = (r < register_count) × (o < n)
Valid n left (Store r o) = (r < register_count) × (o < n)
Valid n left (Set r v) = (r < register_count) × (fits v ≡ true)
Valid n left (Add r s) = (r < register_count) × (s < register_count)
Valid n left (Subtract r s) = (r < register_count) × (s < register_count)
Valid n left (Skip r k) = (r < register_count) × (1 ≤ k) × (k ≤ left) × (k ≤ longest_skip)
Valid n left Fail = Unit {0}
Valid n left (Divide r d) = (r < register_count) × (1 ≤ d) × (d ≤ most_divisor)
