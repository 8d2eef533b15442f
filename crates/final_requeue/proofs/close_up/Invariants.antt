-- Those before `from` that stay stand at the front, the others where they were.
use Rattle.std.proofs.Common.{◌-◌, ◌≤◌}
use Rattle.final_requeue.specs.Leave.{Counted, Closing}
use Rattle.final_requeue.proofs.close_up.Given as goal

abbrev pub invariant-loop-next : goal.invariant-loop-next
invariant-loop-next l = record {
  within : l.from ≤ l.count;
  closing : (p : Counted l.l l.fn.records l.fn.bodies l.count) → Closing l.l l.records l.bodies p.replica l.client l.sequence l.count l.staying l.from;
}

abbrev pub decreases-loop-next : goal.decreases-loop-next
decreases-loop-next l = l.count - l.from
