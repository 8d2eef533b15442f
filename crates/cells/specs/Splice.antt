-- Laws of `splice`: its length, a splice of one element, and what code leaves that is one. Assumes nothing.
use Rattle.std.specs.Prelude.{ℕ, ◌+◌, ◌≤◌, ◌<◌, ◌≡◌, List, [], ◌∷◌, ◌++◌, length, take, drop, set}
use Rattle.std.proofs.Common.{sym, append_assoc, arith, add-one, length-append, length-take, length-drop, drop-drop}
use Rattle.std.proofs.lemmas.List.{set_split}
use Rattle.std.proofs.Math.Seq.{take-length, paste}
use Rattle.cells.specs.Cells.{splice}

pub length-splice : (xs : List ℕ) (i : ℕ) (vs : List ℕ) → i + length vs ≤ length xs → length (splice xs i vs) ≡ length xs
unfolding splice
length-splice xs i vs h = simp (length-append, length-take, length-drop) (omega arith)

pub splice-one : (xs : List ℕ) (k v : ℕ) → k < length xs → splice xs k (v ∷ []) ≡ set xs k v
unfolding splice
splice-one xs k v h = rw add-one (sym (set_split xs k v h))

-- a part of k elements that was lent and came back as vs
pub splice-back : (xs ys vs : List ℕ) (i k : ℕ) → ys ≡ vs → k ≡ length vs → take i xs ++ (ys ++ drop k (drop i xs)) ≡ splice xs i vs
unfolding splice
splice-back xs ys vs i k e f = rw (e, f, drop-drop)

-- a copy of a whole list
pub splice-paste : (d : List ℕ) (at : ℕ) (s : List ℕ) → paste d at s (length s) ≡ splice d at s
unfolding splice
splice-paste d at s = rw take-length (append_assoc (take at d) s (drop (at + length s) d))
