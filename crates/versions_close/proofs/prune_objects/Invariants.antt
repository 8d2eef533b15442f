-- What stands in front is done, from the next object on nothing has changed, and the blocks of the objects that are left passed the check.
use Rattle.std.proofs.Common.{◌-◌, ◌*◌}
use Rattle.cells.specs.Cells.{cells}
use Rattle.versions_close.specs.Closing.{pruned}
use Rattle.versions_close.specs.ObjectLoop.{Pruning}
use Rattle.versions_close.proofs.prune_objects.Given as goal

abbrev pub invariant-loop-k : goal.invariant-loop-k
invariant-loop-k l = Pruning l.readers l.c (cells l.snapshots) l.initial.blocks l.blocks (l.k * l.step) (l.n - l.k) (pruned l.readers (cells l.snapshots) l.n l.initial.blocks)
