-- How the words of a line are read one by one. Assumes nothing.
use Rattle.std.specs.Prelude.{◌≡◌, ℕ, Option, Some, None, ◌<◌, List, [], length}
use Rattle.std.proofs.Common.{Bor}
use Rattle.text.specs.LineWords.{first_word, rest}

-- the first word of a line, which is passed, if there is one
abbrev pub NextWord : List ℕ → Option (Bor (List ℕ)) → List ℕ → Type 0
NextWord line (Some w) left = (w.now ≡ first_word line) × (left ≡ rest line) × (length left < length line)
NextWord line None left = (first_word line ≡ []) × (left ≡ line)
