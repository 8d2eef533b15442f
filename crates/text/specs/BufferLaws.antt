-- What the two ways through a put leave. Assumes nothing.
use Rattle.std.specs.Prelude.{◌≡◌, ℕ, ◌+◌, ◌-◌, ◌<◌, ◌≤◌, List, ◌++◌, length, take, drop}
use Rattle.std.proofs.Common.{append-nil, arith, drop_of_length-le, le-leb}
use Rattle.std.proofs.Math.Seq.{take-length}
use Rattle.std.proofs.lemmas.Bool.{lt-leb}
use Rattle.cells.specs.Splice.{splice-back}
use Rattle.text.specs.Buffer.{Put}

pub left_out : (before : List ℕ) (at : ℕ) (text : List ℕ) → length before < at + length text → Put before at text before at
left_out before at text h = record { bytes = rw (lt-leb (at + length text) (length before) h); behind = rw (lt-leb (at + length text) (length before) h) }

-- the part from index at up to end was lent, and came back as the text
pub put_in : (before : List ℕ) (at : ℕ) (text part : List ℕ) (end : ℕ) → end ≡ at + length text → end ≤ length before → part ≡ text
    → Put before at text (take at before ++ (part ++ drop (end - at) (drop at before))) end
put_in before at text part end e h p =
    let r = le-leb (at + length text) (length before) (omega arith) in
    record { bytes = rw r (splice-back before part text at (end - at) p (omega arith)); behind = rw r e }

-- a copy of a whole text over a part of its length is the text
pub copied : (text part : List ℕ) (n : ℕ) → n ≡ length text → length part ≤ n → take n text ++ drop n part ≡ text
copied text part n e h = rw (drop_of_length-le part h, e, take-length, append-nil)
