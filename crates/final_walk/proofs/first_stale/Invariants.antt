-- Those passed match, and the walk from here on with the table now is what is left.
use Rattle.final_walk.specs.Walk.{Walking, Walked}
use Rattle.final_walk.proofs.first_stale.Given as goal

abbrev pub invariant-loop-i : goal.invariant-loop-i
invariant-loop-i l = (p : Walking l.l l.records l.fn.places) → Walked l.l l.records p.replica l.places l.count l.i
