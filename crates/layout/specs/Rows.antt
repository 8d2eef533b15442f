-- Rows of one width, end to end in a list of numbers (cells or bytes). Assumes nothing.
use Rattle.std.specs.Prelude.{List, [], ◌∷◌, ◌++◌, ℕ, ◌-◌, ◌*◌, length, replicate}
unfoldable pub use Rattle.cells.specs.Chunks.{chunks}

-- the rows end to end
unfoldable pub flat : List (List ℕ) → List ℕ
flat [] = []
flat (r ∷ rs) = r ++ flat rs

abbrev pub blank : ℕ → List ℕ
blank n = replicate n 0

-- a table of p places of width w: the rows, then the unused places
unfoldable pub table : ℕ → ℕ → List (List ℕ) → List ℕ
table p w rs = flat rs ++ blank ((p - length rs) * w)

-- filled up with zeros to width w
unfoldable pub pad_to : ℕ → List ℕ → List ℕ
pad_to w r = r ++ blank (w - length r)
