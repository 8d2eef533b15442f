-- Laws of rows: tables and their parts. Assumes nothing.
use Rattle.std.specs.Prelude.{◌≡◌, drop}
use Rattle.std.proofs.Math.Path.{refl, ap}
use mathlib.Core.List.{List, [], ◌∷◌}
use Prim.Native.Nat.{ℕ, zero, suc}
use Rattle.std.proofs.Math.ListN.{length}
use Rattle.layout.specs.Rows.{chunks}

-- ---- rows taken from a list

module _ (w : ℕ) where
  pub length-chunks : (n : ℕ) (b : List ℕ) → length (chunks w n b) ≡ n
  unfolding chunks
  length-chunks zero b = refl
  length-chunks (suc n) b = ap suc (length-chunks n (drop w b))

-- ---- rows of one width

abbrev pub Uniform : ℕ → List (List ℕ) → Type 0
Uniform w [] = Unit {0}
Uniform w (r ∷ rs) = (length r ≡ w) × Uniform w rs
