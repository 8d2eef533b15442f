-- k words are passed, and none is the one that is looked for.
use Rattle.std.proofs.Common.{◌≤◌}
use Rattle.text.specs.WordLaws.{Passed}
use Rattle.text.proofs.line_words.place.Given as goal

abbrev pub invariant-loop-k : goal.invariant-loop-k
invariant-loop-k l = record { passed : Passed l.line l.word l.at l.k; forward : l.k ≤ l.at }
