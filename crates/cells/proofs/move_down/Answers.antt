-- A turn of the move, and its end: those of a loop that copies, where each byte is read before it is written over.
use Rattle.std.proofs.Common.{ℕ, ◌≡◌, ◌+◌, ◌-◌, ◌≤◌, ◌<◌, List, length, get_or, take, drop, length-drop, length-take-le, get_or-drop, arith}
use Rattle.std.proofs.Math.Seq.{paste, drop-paste, get_or-take}
use Rattle.cells.specs.BlockMoves.{copy_step, copy_done}
use Rattle.cells.proofs.move_down.Goals as goal

module _ (d : List ℕ) (from len : ℕ) (fits : from + len ≤ length d) where
  size : length (take len (drop from d)) ≡ len
  size = length-take-le len (drop from d) (rw length-drop (omega arith))

  -- the byte that is read lies at or past those that are written
  ahead : (a : List ℕ) (to k : ℕ) → a ≡ paste d to (take len (drop from d)) k → to ≤ from → k < len
      → get_or a (from + k) 0 ≡ get_or (take len (drop from d)) k 0
  ahead a to k e h l =
      let s : List ℕ = take len (drop from d) in
      let j : from + k ≡ to + k + (from - to) = omega arith in
      rw (e, get_or-take len (drop from d) k 0 l, get_or-drop from d k 0, j, ← get_or-drop (to + k) (paste d to s k) (from - to) 0, drop-paste d to s k (omega arith) (omega (arith, size)))
      (get_or-drop (to + k) d (from - to) 0)

pub loop-k-preserved : goal.loop-k-preserved
loop-k-preserved c =
    let i = c.loop-k in
    let a = c.args in
    let d : List ℕ = a.area.now in
    let s : List ℕ = take a.len (drop a.from d) in
    let fits : a.from + a.len ≤ length d = omega arith in
    let less : i.k < length s = rw (size d a.from a.len fits) (omega arith) in
    let same : get_or i.area (a.from + i.k) 0 ≡ get_or s i.k 0 = ahead d a.from a.len fits i.area a.to i.k i.invariant (omega arith) (omega arith) in
    copy_step d s i.area a.to i.k i.invariant _ (omega arith) less same

pub returns : goal.returns
returns c =
    let i = c.loop-k in
    let a = c.args in
    let d : List ℕ = a.area.now in
    copy_done d (take a.len (drop a.from d)) i.area a.to i.k i.invariant (omega (arith, size d a.from a.len (omega arith)))
