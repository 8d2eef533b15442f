-- What is left to be sent back of the area now gives what is asked of the area at entry.
use Rattle.layout.specs.Holds.{Holding}
use Rattle.final_walk.specs.RestartFrom.{Restarting}
use Rattle.final_walk.proofs.restart_from.Given as goal

abbrev pub invariant-loop-i : goal.invariant-loop-i
invariant-loop-i l = (p : Holding l.l l.fn.records) → Restarting l.l l.records p.replica l.first l.pending l.i
