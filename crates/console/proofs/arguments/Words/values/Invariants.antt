-- No more values than bytes are passed, and what is left of the line grows less.
use Rattle.std.proofs.Common.{length, ◌+◌, ◌≤◌}
use Rattle.console.proofs.arguments.Words.values.Given as goal

abbrev pub invariant-loop-word : goal.invariant-loop-word
invariant-loop-word l = l.count + length l.self.left.now ≤ length l.initial.self.left.now

abbrev pub decreases-loop-word : goal.decreases-loop-word
decreases-loop-word l = length l.self.left.now
