-- The unused bytes lie in the buffer.
use Rattle.std.proofs.Common.{length}
use Rattle.console.specs.Input.{Within}
use Rattle.shell.proofs.lines.run.Given as goal

abbrev pub invariant-loop-turn : goal.invariant-loop-turn
invariant-loop-turn g l = Within l.s.input (length l.buffer)
