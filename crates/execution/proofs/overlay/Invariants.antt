-- What the iterator has left is still to be laid.
use Rattle.execution.proofs.TableLaws.{Laid}
use Rattle.execution.proofs.overlay.Given as goal

abbrev pub invariant-loop-e : goal.invariant-loop-e
invariant-loop-e l = Laid l.initial.table l.writes l.e-iterator.iter.rest.now l.table
