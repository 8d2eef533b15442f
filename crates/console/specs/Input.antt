-- What is known of the input buffer. Assumes nothing.
use Rattle.std.specs.Prelude.{ℕ, ◌-◌, ◌≤◌, List, take, drop}
use Rattle.console.specs.declared.input.Input.{Input}

-- the unused bytes lie in a buffer of n bytes
pub record Within (i : Input) (n : ℕ) : Type 0 where
  pub ordered : i.from ≤ i.end
  pub within : i.end ≤ n

-- the bytes that are read and not used yet
abbrev pub unused : Input → List ℕ → List ℕ
unused i buffer = take (i.end - i.from) (drop i.from buffer)
