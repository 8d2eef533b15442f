-- The writes from entry i on are laid over the table.
use Rattle.final_walk.specs.Recorded.{Laying}
use Rattle.final_walk.proofs.lay_writes.Given as goal

abbrev pub invariant-loop-i : goal.invariant-loop-i
invariant-loop-i l = Laying l.records l.at l.fn.places l.places l.i
