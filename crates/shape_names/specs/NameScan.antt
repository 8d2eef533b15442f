-- Entries that name different objects, as the code goes. Assumes nothing.
use Rattle.std.specs.Prelude.{Bool, true, not, ◌&&◌, List, ℕ, zero, suc, eqb, ltb, drop, get_or}
use Rattle.model.specs.Lists.{any}
use Rattle.layout.specs.Rows.{chunks}

-- no block begins with this cell
abbrev pub absent : ℕ → List (List ℕ) → Bool
absent k rs = not (any (λ r. eqb (get_or r 0 0) k) rs)

-- k entries, each an object and a value: "different objects below n"
unfoldable pub names_in : ℕ → ℕ → List ℕ → Bool
names_in n zero xs = true
names_in n (suc k) xs =
    ltb (get_or xs 0 0) n && (absent (get_or xs 0 0) (chunks 2 k (drop 2 xs)) && names_in n k (drop 2 xs))
