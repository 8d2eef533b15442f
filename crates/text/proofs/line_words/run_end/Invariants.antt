-- The run from index at on is the bytes passed and the run from there on.
use Rattle.std.proofs.Common.{drop, ◌+◌, ◌≡◌}
use Rattle.text.specs.LineWords.{run}
use Rattle.text.proofs.line_words.run_end.Given as goal

abbrev pub invariant-loop-i : goal.invariant-loop-i
invariant-loop-i l = l.at + run l.blank (drop l.at l.line) ≡ l.i + run l.blank (drop l.i l.line)
