-- The numbers before this one, the first aside, stand behind what was there before the loop.
use Rattle.std.proofs.Common.{take}
use Rattle.text.specs.Numerals.{spaced, Follows}
use Rattle.text.proofs.numerals.put_numbers.Given as goal

abbrev pub invariant-loop-number : goal.invariant-loop-number
invariant-loop-number l = Follows l.initial.line (spaced (take l.number-index l.others)) l.line
