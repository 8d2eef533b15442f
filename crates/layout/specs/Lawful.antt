-- The laws of layouts, composed as the layouts are: what is written is read back, and what passes the check is written back. Assumes nothing.
use Rattle.std.specs.Prelude.{◌≡◌, Bool, true, get_or}
use mathlib.Core.List.{List}
use Prim.Native.Nat.{ℕ, ◌^◌, ◌≤◌, ◌<◌}
use Rattle.std.proofs.Math.ListN.{length}
use Rattle.model.specs.ListLaws.{All}
use Rattle.layout.specs.Codec.{Codec}

-- K holds of each number of a block, as "below 256" of bytes; Good values are those that can be written
pub record Lawful (K : ℕ → Type 0) {A : Type 0} (c : Codec A) (Good : A → Type 0) : Type 0 where
  -- what is written: its length and its numbers; it is read back, and passes the check
  pub len : (a : A) → Good a → length (c.enc a) ≡ c.size
  pub small : (a : A) → Good a → All K (c.enc a)
  pub back : (a : A) → Good a → c.dec (c.enc a) ≡ a
  pub okay : (a : A) → Good a → c.ok (c.enc a) ≡ true
  -- a block that passes the check is written back, and its value can be written
  pub forth : (b : List ℕ) → length b ≡ c.size → All K b → c.ok b ≡ true → c.enc (c.dec b) ≡ b
  pub good : (b : List ℕ) → length b ≡ c.size → All K b → c.ok b ≡ true → Good (c.dec b)

-- what a predicate says of a block's length
pub record Sized {A : Type 0} (c : Codec A) (P : A → Type 0) : Type 0 where
  pub len : (a : A) → P a → length (c.enc a) ≡ c.size

-- ---- seen as another value
pub record Turns {A B : Type 0} (P : A → Type 0) (Q : B → Type 0) (f : A → B) (g : B → A) (q : A → Bool) : Type 0 where
  pub there : (y : B) → Q y → P (g y)
  pub round : (y : B) → Q y → f (g y) ≡ y
  pub fine : (y : B) → Q y → q (g y) ≡ true
  pub again : (x : A) → P x → q x ≡ true → g (f x) ≡ x
  pub onto : (x : A) → P x → q x ≡ true → Q (f x)

-- ---- filled up with zeros
abbrev pub Padded : (ℕ → Type 0) → ℕ → (ℕ → ℕ) → List ℕ → Type 0
Padded K p f a = (length a ≡ f (get_or a 0 0)) × (length a ≤ p) × All K a

-- ---- cells in bytes
abbrev pub Byte : ℕ → Type 0
Byte n = n < 256

abbrev pub Word : ℕ → Type 0
Word n = n < 2 ^ 64
