-- Definitions: an object's versions in a block of cells, and the readers' cells. Assumes nothing.
-- A block: a count, then a stamp and a value for each version, the newest first; unused cells are 0. An object: its block, then its lower and its
-- upper bound. A reader's cell: 0 closed, else its stamp + 1.
-- n is the number of readers, m that of objects, rc are the readers' cells, bc the cells of one block, oc those of one object, cs those of objects one
-- after another.
use Rattle.std.specs.Prelude.{◌≡◌, Bool, true, cond, ◌&&◌, List, [], ◌∷◌, ◌++◌, map, ℕ, zero, suc, ◌+◌, ◌*◌, ◌-◌, ◌≤◌, ◌<◌, ◌^◌, leb, ltb, length, get_or, take, drop, replicate}
use Rattle.std.proofs.Math.Option.{Option, none, some}
use Rattle.std.specs.Int.{w64}
use Rattle.std.proofs.Common.{SFits, to_z, of_z}
use borrow.Rule.Slice.PartMut.{mid_of}
use Rattle.cells.specs.Cells.{cells}
unfoldable pub use Rattle.cells.specs.Chunks.{chunks}
use Rattle.cells.specs.Zeros.{zeros}
use Rattle.execution.specs.Bounds.{Bounds, ordered}
use Rattle.model.specs.Lists.{any, all}
use Rattle.model.specs.Serial.{Version}
use Rattle.model.specs.Replica.{opens, as_of}
use Rattle.model.specs.LookedAt.{looked_at}
use Rattle.model.specs.Shape.{falling, versions_inside}
use Rattle.model.specs.ShapeCheck.{versions_shaped}
use Rattle.versions.specs.declared.Seen.{Seen}

-- ---- what the cells say

-- the cells of a block: one version more than there are readers
abbrev pub width : ℕ → ℕ
width n = 3 + 2 * n

-- the cells of an object
abbrev pub object_cells : ℕ → ℕ
object_cells n = width n + 2

abbrev pub version_of : ℕ → ℕ → Version
version_of s b = record { stamp = s; value = to_z w64 b }

-- k versions, from the front of the cells
unfoldable pub versions_in : ℕ → List ℕ → List Version
versions_in zero cs = []
versions_in (suc k) cs = version_of (get_or cs 0 0) (get_or cs 1 0) ∷ versions_in k (drop 2 cs)

-- a block's versions
unfoldable pub block_versions : List ℕ → List Version
block_versions bc = versions_in (get_or bc 0 0) (drop 1 bc)

abbrev pub reader_of : ℕ → Option ℕ
reader_of zero = none
reader_of (suc r) = some r

-- the open readers' stamps
unfoldable pub stamps : List ℕ → List ℕ
stamps rc = opens (map reader_of rc)

-- an object's block, and its bounds
abbrev pub block_of : ℕ → List ℕ → List ℕ
block_of n oc = take (width n) oc

abbrev pub bounds_at : ℕ → List ℕ → Bounds
bounds_at n oc = record { lower = to_z w64 (get_or oc (width n) 0); upper = to_z w64 (get_or oc (width n + 1) 0) }

-- m objects' versions, and their bounds
unfoldable pub objects_in : ℕ → ℕ → List ℕ → List (List Version)
objects_in n m cs = map (λ oc. block_versions (block_of n oc)) (chunks (object_cells n) m cs)

unfoldable pub bounds_in : ℕ → ℕ → List ℕ → List Bounds
bounds_in n m cs = map (bounds_at n) (chunks (object_cells n) m cs)

-- ---- and back

unfoldable pub flat : List Version → List ℕ
flat [] = []
flat (v ∷ vs) = v.stamp ∷ of_z w64 v.value ∷ flat vs

-- the block with these versions
unfoldable pub block : ℕ → List Version → List ℕ
block n vs = length vs ∷ (flat vs ++ replicate (2 * (suc n - length vs)) 0)

-- versions that cells can hold
abbrev pub Small : List Version → Type 0
Small [] = Unit {0}
Small (v ∷ vs) = SFits w64 v.value × (v.stamp < 2 ^ 64) × Small vs

-- ---- the shape check

-- the count within its limit, unused cells 0
unfoldable pub framed : ℕ → List ℕ → Bool
framed n bc = leb (get_or bc 0 0) (suc n) && zeros (drop (1 + 2 * get_or bc 0 0) bc)

-- one object's block: its frame, and the model's rules on its versions
unfoldable pub block_ok : ℕ → ℕ → List ℕ → List ℕ → Bool
block_ok n timestamp rc bc = framed n bc && versions_shaped timestamp (stamps rc) (block_versions bc)

-- its bounds beside it: "each lower limit not above its upper, every version .. inside"
unfoldable pub bounds_ok : Bounds → List ℕ → Bool
bounds_ok b bc = ordered b && versions_inside b (block_versions bc)

-- one object
unfoldable pub object_ok : ℕ → ℕ → List ℕ → List ℕ → Bool
object_ok n timestamp rc oc = block_ok n timestamp rc (block_of n oc) && bounds_ok (bounds_at n oc) (block_of n oc)

-- m objects
unfoldable pub blocks_ok : ℕ → ℕ → List ℕ → ℕ → List ℕ → Bool
blocks_ok n timestamp rc m cs = all (object_ok n timestamp rc) (chunks (object_cells n) m cs)

-- ---- the check in one pass, from the newest version on

-- some open reader's stamp is s or more, and below upper
unfoldable pub between : List ℕ → ℕ → ℕ → Bool
between rc s upper = any (λ c. ltb s c && leb c upper) rc

-- the smallest open reader's cell, if it is below top
abbrev pub lower : ℕ → ℕ → ℕ
lower top c = cond (ltb 0 c && ltb c top) c top

unfoldable pub lowest : ℕ → List ℕ → ℕ
lowest top [] = top
lowest top (c ∷ rc) = lowest (lower top c) rc

-- the versions after one of stamp upper: each is held by a reader that does not see the one before, so that stamps fall, and the last is below low
unfoldable pub chain : List ℕ → ℕ → ℕ → List Version → Bool
chain rc low upper [] = ltb upper low
chain rc low upper (v ∷ vs) = between rc v.stamp upper && chain rc low v.stamp vs

-- the same of a block of k versions, after its newest
abbrev pub chained : List ℕ → ℕ → ℕ → List ℕ → Bool
chained rc low k bc = chain rc low (get_or bc 1 0) (versions_in (k - 1) (drop 3 bc))

-- the versions after one of stamp upper that are held: pruning in one pass
unfoldable pub trim : List ℕ → ℕ → List Version → List Version
trim rc upper [] = []
trim rc upper (v ∷ vs) = cond (between rc v.stamp upper) (v ∷ trim rc v.stamp vs) (trim rc v.stamp vs)

-- ---- what contracts say

-- what a lookup yields
abbrev pub version_seen : Seen → Version
version_seen x = record { stamp = x.stamp; value = x.value }

-- what a reader of stamp t sees in a block that is lent out of the bytes b: k bytes from byte f on
abbrev pub seen_from : List ℕ → ℕ → ℕ → ℕ → Version
seen_from b t k f = as_of t (block_versions (cells (mid_of f k b)))

-- and how many of its versions are looked at for that
abbrev pub looked_at_from : List ℕ → ℕ → ℕ → ℕ → ℕ
looked_at_from b t k f = looked_at t (block_versions (cells (mid_of f k b)))

-- the block lent to a lookup: it has room for as many versions as it counts, and their stamps fall
pub record SortedBlock (bs : List ℕ) : Type 0 where
  pub room : (1 + 2 * get_or (cells bs) 0 0) * 8 ≤ length bs
  pub order : falling (block_versions (cells bs)) ≡ true

-- the areas lent: the readers' cells and one block
pub record Lent (n : ℕ) (rs bs : List ℕ) : Type 0 where
  pub reader_cells : length rs ≡ n * 8
  pub block_cells : length bs ≡ width n * 8

-- the areas lent: the readers' cells and m objects; so few readers that an object's length is an address, also where there is none
pub record LentBlocks (n m : ℕ) (rs bs : List ℕ) : Type 0 where
  pub reader_cells : length rs ≡ n * 8
  pub block_cells : length bs ≡ m * (object_cells n * 8)
  pub few : n < 2 ^ 32
