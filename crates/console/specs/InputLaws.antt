-- What a read behind the unused bytes leaves in the buffer. Assumes nothing.
use Rattle.std.specs.Prelude.{◌≡◌, ℕ, ◌+◌, ◌≤◌, List, ◌++◌, length, take, drop}
use Rattle.std.proofs.Common.{arith, length-drop, length-take-le, take_at}
use Rattle.std.proofs.lemmas.List.{take-append-le}
use Rattle.std.proofs.Math.Seq.{take-append-add}

behind : (xs ys : List ℕ) (k n : ℕ) → length xs ≡ k → take (k + n) (xs ++ ys) ≡ xs ++ take n ys
behind xs ys k n e = rw (← e) (take-append-add xs ys n)

-- The unused bytes, which are k from an index on, were copied to the start of moved, and the part behind them was lent and came back as part, of which
-- the first n are read.
pub unused-read : (before moved part rest : List ℕ) (from k n m : ℕ) → from + k ≤ length before → take k moved ≡ take k (drop from before) → n ≤ length part → m ≡ k + n
    → take m (take k moved ++ (part ++ rest)) ≡ take k (drop from before) ++ take n part
unused-read before moved part rest from k n m h e l f =
    let unused = take k (drop from before) in
    let w : length unused ≡ k = length-take-le k (drop from before) (simp length-drop (omega arith)) in
    rw (f, e, behind unused (part ++ rest) k n w, take-append-le n part rest l)

-- The same, of a part of which nothing is known: the unused bytes stand at the start.
pub unused-kept : (before moved part rest : List ℕ) (from k : ℕ) → from + k ≤ length before → take k moved ≡ take k (drop from before)
    → take k (take k moved ++ (part ++ rest)) ≡ take k (drop from before)
unused-kept before moved part rest from k h e =
    let unused = take k (drop from before) in
    let w : length unused ≡ k = length-take-le k (drop from before) (simp length-drop (omega arith)) in
    rw e (take_at unused (part ++ rest) k w)
