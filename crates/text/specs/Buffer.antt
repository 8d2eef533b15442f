-- Text put into a buffer. Assumes nothing.
use Rattle.std.specs.Prelude.{◌≡◌, ℕ, ◌+◌, Bool, cond, List, length, nat_le}
use Rattle.cells.specs.Cells.{splice}
use Rattle.text.specs.declared.buffer.Text.{Text}

-- is there room for the text from index at on?
abbrev pub room : List ℕ → ℕ → List ℕ → Bool
room before at text = nat_le (at + length text) (length before)

-- The text stands in the buffer from index at on, the rest is as before, and r is the index behind the text.
-- Where there is no room nothing changes and r is at.
pub record Put (before : List ℕ) (at : ℕ) (text after : List ℕ) (r : ℕ) : Type 0 where
  pub bytes : after ≡ cond (room before at text) (splice before at text) before
  pub behind : r ≡ cond (room before at text) (at + length text) at

-- the same for a line, which holds its buffer
pub record Puts (before : Text) (text : List ℕ) (after : Text) : Type 0 where
  pub same_buffer : after.out.ghost_name ≡ before.out.ghost_name
  pub put : Put before.out.now before.end text after.out.now after.end
