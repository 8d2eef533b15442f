-- If nothing is missing so far, the values passed are inside.
use Rattle.std.proofs.Common.{◌≡◌, ℕ, ◌<◌, true}
use Rattle.opening.specs.Inside.{inside_at}
use Rattle.opening.proofs.all_widest.Given as goal

abbrev pub invariant-loop-i : goal.invariant-loop-i
invariant-loop-i l = l.missing ≡ 0 → (k : ℕ) → k < l.i → inside_at l.values l.lower l.upper k ≡ true
