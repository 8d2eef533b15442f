-- What follows from `specs/Arrays`. Assumes nothing.
use Rattle.std.specs.Prelude.{ℕ, ◌≡◌, ◌≤◌, List, length, take, set}
use Rattle.std.proofs.Common.{◌∙◌, length-set, length-take-le}
use Rattle.execution.specs.Entries.{Entry}
use Rattle.execution.specs.Arrays.{Room}

pub room-set : (es : List Entry) (i : ℕ) (e : Entry) → Room es → Room (set es i e)
room-set es i e room = length-set es i e ∙ room

-- how many entries stand at the front
pub length-entries : (n : ℕ) (es : List Entry) → n ≤ length es → length (take n es) ≡ n
length-entries n es h = length-take-le n es h
