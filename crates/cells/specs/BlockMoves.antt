-- A block moved and a block filled with 0: what they do to the cells, and a turn of a loop that copies. Assumes nothing.
use Rattle.std.specs.Prelude.{ℕ, ◌+◌, ◌-◌, ◌*◌, ◌≤◌, ◌<◌, ◌≡◌, List, length, take, drop, set, get_or, replicate}
use Rattle.std.proofs.Common.{ap, ◌∙◌, arith, add-one, length-drop, length-take-le}
use Rattle.std.proofs.lemmas.List.{length-replicate}
use Rattle.std.proofs.Math.Seq.{paste, paste-suc}
use Rattle.cells.specs.Cells.{cells, splice}
use Rattle.cells.specs.Splice.{splice-paste}
use Rattle.cells.specs.CellLaws.{cells-take, cells-drop, cells-splice, cells-zeros}

-- ---- n cells from f on, moved to t

pub cells-move : (xs : List ℕ) (t f n : ℕ) → t * 8 + n * 8 ≤ length xs → f * 8 + n * 8 ≤ length xs
    → cells (splice xs (t * 8) (take (n * 8) (drop (f * 8) xs))) ≡ splice (cells xs) t (take n (drop f (cells xs)))
cells-move xs t f n h g =
    let d : n * 8 ≤ length (drop (f * 8) xs) = rw length-drop (omega arith) in
    cells-splice xs t n (take (n * 8) (drop (f * 8) xs)) (length-take-le (n * 8) (drop (f * 8) xs) d) h
    ∙ rw (cells-take, cells-drop)

-- ---- the cells from f up to, not including, t filled with 0

bytes_of : (f t : ℕ) → t * 8 - f * 8 ≡ (t - f) * 8
bytes_of f t = omega arith

pub cells-fill : (xs : List ℕ) (f t : ℕ) → f ≤ t → t * 8 ≤ length xs
    → cells (splice xs (f * 8) (replicate (t * 8 - f * 8) 0)) ≡ splice (cells xs) f (replicate (t - f) 0)
cells-fill xs f t h g =
    rw (bytes_of f t)
    (cells-splice xs f (t - f) (replicate ((t - f) * 8) 0) (length-replicate ((t - f) * 8) 0) (omega arith)
    ∙ ap (splice (cells xs) f) (cells-zeros (t - f)))

-- ---- a loop that copies s to d from index at on: after k turns it has left a

module _ (d s a : List ℕ) (at k : ℕ) (e : a ≡ paste d at s k) where
  pub copy_step : (v : ℕ) → at + k < length d → k < length s → v ≡ get_or s k 0 → set a (at + k) v ≡ paste d at s (k + 1)
  copy_step v h l f = rw (e, f, add-one) (paste-suc d at s k 0 h l)

  pub copy_done : k ≡ length s → a ≡ splice d at s
  copy_done f = e ∙ rw f (splice-paste d at s)
