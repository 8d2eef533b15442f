-- Rows of one width, one after another in a list of numbers (cells or bytes). Assumes nothing.
use Rattle.std.specs.Prelude.{List, [], ◌∷◌, ℕ, zero, suc, take, drop}

-- n rows of width w from the front of b
unfoldable pub chunks : ℕ → ℕ → List ℕ → List (List ℕ)
chunks w zero b = []
chunks w (suc n) b = take w b ∷ chunks w n (drop w b)
