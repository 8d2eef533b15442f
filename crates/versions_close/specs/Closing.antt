-- Definitions: a reader's close lets go one version an object at most, the one that it saw. Assumes nothing.
-- n is the number of readers, c the closed reader's cell, rc the cells of all readers without it, bc the cells of one block, bs bytes: of one block or
-- of objects one after another.
use Rattle.std.specs.Prelude.{◌≡◌, true, cond, List, [], ◌∷◌, ◌++◌, ℕ, zero, suc, ◌+◌, ◌*◌, ◌-◌, ◌<◌, ◌^◌, leb, ltb, length, get_or, take, drop}
use Rattle.cells.specs.Cells.{cells, uncells}
use Rattle.model.specs.ListLaws.{All}
use Rattle.model.specs.Replica.{prune}
use Rattle.versions.specs.Block.{width, object_cells, block_versions, stamps, block_of, chunks, block, block_ok, between}

-- how many of n stamps, each in the first of two cells, are c or more
unfoldable pub seen : ℕ → ℕ → List ℕ → ℕ
seen c zero cs = 0
seen c (suc n) cs = cond (leb c (get_or cs 0 0)) (suc (seen c n (drop 2 cs))) (seen c n (drop 2 cs))

-- the cells of a block without version j
unfoldable pub less_one : ℕ → ℕ → List ℕ → List ℕ
less_one n j bc = (get_or bc 0 0 - 1) ∷ (take (2 * j) (drop 1 bc) ++ (drop (3 + 2 * j) bc ++ (0 ∷ 0 ∷ [])))

-- a block that passed the check with the reader c open
pub record Checked (n c : ℕ) (rc bc : List ℕ) : Type 0 where
  pub timestamp : ℕ
  pub few : timestamp < 2 ^ 63
  pub ok : block_ok n timestamp (c ∷ rc) bc ≡ true

-- m objects, from the front of the cells cs: each one's block did
abbrev pub AllChecked : ℕ → ℕ → List ℕ → ℕ → List ℕ → Type 0
AllChecked n c rc m cs = All (λ oc. Checked n c rc (block_of n oc)) (chunks (object_cells n) m cs)

-- p and q stand for the readers beside c, on either side
pub record Beside (c p q : ℕ) (rc : List ℕ) : Type 0 where
  pub some : 0 < c
  pub upto : (s : ℕ) → between rc s c ≡ ltb s p
  pub above : (u : ℕ) → u < 2 ^ 63 → between rc c u ≡ leb q u

-- a block to be looked at as the reader closes: it passed the check with the others
pub record Closable (n c p q : ℕ) (bs : List ℕ) : Type 0 where
  pub size : length bs ≡ width n * 8
  pub others : List ℕ
  pub beside : Beside c p q others
  pub checked : Checked n c others (cells bs)

-- the bytes of one block without the versions that no reader of rc holds
abbrev pub pruned_block : ℕ → List ℕ → List ℕ → List ℕ
pruned_block n rc bs = uncells (block n (prune (stamps rc) (block_versions (cells bs))))

-- the bytes of m objects, so pruned: the first one's block, the 16 bytes of its bounds as they are, then the objects behind it
unfoldable pub pruned : ℕ → List ℕ → ℕ → List ℕ → List ℕ
pruned n rc zero bs = []
pruned n rc (suc m) bs = pruned_block n rc (take (width n * 8) bs) ++ (take 16 (drop (width n * 8) bs) ++ pruned n rc m (drop (object_cells n * 8) bs))

-- what one object's block is, now that the reader is closed
abbrev pub Closed : ℕ → ℕ → ℕ → ℕ → List ℕ → List ℕ → Type 0
Closed n c p q bs bs' = (rc : List ℕ) → Beside c p q rc → Checked n c rc (cells bs) → bs' ≡ pruned_block n rc bs
