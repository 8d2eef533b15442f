-- The transactions passed are worked on, and the others are still to be.
use Rattle.layout.specs.Layout.{parse}
use Rattle.speculative_execution.specs.Passing.{Going}
use Rattle.speculative_execution.proofs.execute_pending.Given as goal

abbrev pub invariant-loop-i : goal.invariant-loop-i
invariant-loop-i l = Going l.l (parse l.l (l.initial.records, l.bodies)) l.budget l.records l.table l.i l.left
