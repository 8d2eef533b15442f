-- No block before block i begins with the key.
use Rattle.std.proofs.Common.{◌≡◌, ℕ, ◌*◌, ◌<◌, get_or}
use Rattle.cells.specs.Cells.{cells}
use Rattle.layout.proofs.key_index.Given as goal

abbrev pub invariant-loop-i : goal.invariant-loop-i
invariant-loop-i l = (k : ℕ) → k < l.i → get_or (cells l.blocks) (k * l.width) 0 ≡ l.key → ⊥
