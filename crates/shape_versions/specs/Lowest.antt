-- The smallest open reader's cell: each branch of a comparison, and a turn of the loop. Assumes nothing.
use Rattle.std.specs.Prelude.{◌≡◌, ℕ, ◌+◌, ◌*◌, ◌≤◌, ◌<◌, List, length, get_or, drop}
use Rattle.std.proofs.Common.{lt-ltb, le-ltb}
use Rattle.cells.specs.Cells.{cells}
use Rattle.cells.specs.CellLaws.{cells-next, cells-end}
use Rattle.versions.specs.Block.{lower, lowest}

pub lower-yes : (top c : ℕ) → 0 < c → c < top → c ≡ lower top c
lower-yes top c a b = rw (lt-ltb 0 c a, lt-ltb c top b)

pub lower-no : (top c : ℕ) → 0 < c → top ≤ c → top ≡ lower top c
lower-no top c a b = rw (lt-ltb 0 c a, le-ltb c top b)

pub lower-closed : (top c : ℕ) → c ≤ 0 → top ≡ lower top c
lower-closed top c a = rw (le-ltb 0 c a)

pub lowest_step : (n i : ℕ) (xs : List ℕ) (top : ℕ) → length xs ≡ n * 8 → i < n → lowest top (drop i (cells xs)) ≡ lowest (lower top (get_or (cells xs) i 0)) (drop (i + 1) (cells xs))
unfolding lowest
lowest_step n i xs top e h = rw (cells-next n xs e i h)

pub lowest-end : (n i : ℕ) (xs : List ℕ) (top : ℕ) → length xs ≡ n * 8 → n ≤ i → lowest top (drop i (cells xs)) ≡ top
unfolding lowest
lowest-end n i xs top e h = rw (cells-end n xs e i h)
