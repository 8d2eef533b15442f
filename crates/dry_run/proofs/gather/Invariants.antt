-- The objects passed have the values in their places, and the rest of the array is as it was.
use Rattle.dry_run.specs.Values.{Gathered}
use Rattle.dry_run.proofs.gather.Given as goal

abbrev pub invariant-loop-o : goal.invariant-loop-o
invariant-loop-o l = Gathered l.records l.o l.places l.fn.values l.values
