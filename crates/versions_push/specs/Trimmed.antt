-- Definitions: the cells of the versions that are held as a block is rewritten, and what contracts say. Assumes nothing.
-- n is the number of readers, rc are their cells, bc the cells of one block, cs those from a version on.
use Rattle.std.specs.Prelude.{◌≡◌, true, cond, List, [], ◌∷◌, ◌++◌, ℕ, zero, suc, ◌+◌, ◌*◌, ◌-◌, ◌/◌, ◌<◌, ◌≤◌, ℤ, length, get_or, take, drop, set, replicate}
use Rattle.std.proofs.Math.Option.{some}
use Rattle.cells.specs.Cells.{cells, uncells}
use Rattle.model.specs.Replica.{prune, pushed}
use Rattle.versions.specs.Block.{width, block_versions, stamps, block, block_ok, between, Lent}

-- the cells of those of k versions, after one of stamp upper, that are held
unfoldable pub trim_cells : List ℕ → ℕ → ℕ → List ℕ → List ℕ
trim_cells rc upper zero cs = []
trim_cells rc upper (suc k) cs =
    cond (between rc (get_or cs 0 0) upper) (get_or cs 0 0 ∷ get_or cs 1 0 ∷ trim_cells rc (get_or cs 0 0) k (drop 2 cs)) (trim_cells rc (get_or cs 0 0) k (drop 2 cs))

-- the front of a block that is rewritten: the cell of the count, the version (s, v), and those held of the k versions from cell start on
abbrev pub fronted : List ℕ → List ℕ → ℕ → ℕ → ℕ → ℕ → List ℕ
fronted rc bc s v start k = take 1 bc ++ (s ∷ v ∷ trim_cells rc s k (drop start bc))

-- the cells of a block whose versions have the cells ws
unfoldable pub filled : ℕ → List ℕ → List ℕ
filled n ws = length ws / 2 ∷ (ws ++ replicate (2 * suc n - length ws) 0)

-- ---- what contracts say

-- what is to be put to the front of a block: one version, and those held of the k versions from cell start on; there is room
pub record Room (n start k s : ℕ) (rs bs : List ℕ) : Type 0 where
  pub lent : Lent n rs bs
  pub behind : 1 ≤ start
  pub inside : start + 2 * k ≤ width n
  pub room : length (trim_cells (cells rs) s k (drop start (cells bs))) ≤ 2 * n

-- two cells put
pub record Pair (xs ys : List ℕ) (j s v : ℕ) : Type 0 where
  pub pair : cells ys ≡ set (set (cells xs) j s) (j + 1) v
  pub size : length ys ≡ length xs

-- the version (s, v) and those held stand at the front, up to cell r
pub record Trimmed (rc : List ℕ) (s v start k : ℕ) (xs ys : List ℕ) (r : ℕ) : Type 0 where
  pub end : r ≡ 3 + length (trim_cells rc s k (drop start (cells xs)))
  pub front : take r (cells ys) ≡ fronted rc (cells xs) s v start k
  pub size : length ys ≡ length xs

-- a block rewritten: the version (s, v) and those held, zeros behind them
abbrev pub rebuilt_block : ℕ → List ℕ → ℕ → ℕ → ℕ → ℕ → List ℕ → List ℕ
rebuilt_block n rs s v start k bs = uncells (filled n (s ∷ v ∷ trim_cells (cells rs) s k (drop start (cells bs))))

-- a block that passed the check before stamp s
abbrev pub Pushable : ℕ → ℕ → List ℕ → List ℕ → Type 0
Pushable n s rs bs = Lent n rs bs × (0 < s) × (block_ok n (s - 1) (cells rs) (cells bs) ≡ true)

-- it with one version more, of stamp s, and without those that no reader holds any more
abbrev pub pushed_block : ℕ → List ℕ → ℕ → ℤ → List ℕ → List ℕ
pushed_block n rs s z bs = uncells (block n (prune (stamps (cells rs)) (pushed s (block_versions (cells bs)) (some z))))
