-- The keys of rows in a list of cells, and the first that passes a test. Assumes nothing.
use Rattle.std.specs.Prelude.{List, [], ◌∷◌, ℕ, zero, suc, drop, get_or}

-- the first cells of the first n rows of w cells each
unfoldable pub keys : ℕ → ℕ → List ℕ → List ℕ
keys w zero cs = []
keys w (suc n) cs = get_or cs 0 0 ∷ keys w n (drop w cs)
