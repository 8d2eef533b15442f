-- The area holds the replica after the writes of the entries passed.
use Rattle.final_commit.specs.Install.{Installing}
use Rattle.final_commit.proofs.install.Given as goal

abbrev pub invariant-loop-e : goal.invariant-loop-e
invariant-loop-e l = Installing l.l l.fn.records l.readers l.fn.timestamp.0 l.writes l.records l.e-index
