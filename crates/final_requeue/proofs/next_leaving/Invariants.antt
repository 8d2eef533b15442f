-- The first that leaves from `from` on is the first from here on.
use Rattle.final_requeue.specs.Leave.{Passing}
use Rattle.final_requeue.proofs.next_leaving.Given as goal

abbrev pub invariant-loop-i : goal.invariant-loop-i
invariant-loop-i l = Passing l.l l.records l.client l.sequence l.count l.from l.i
