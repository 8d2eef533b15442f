-- What stands in front, the version in hand and those yet to be looked at make up the target, and from the next one's cell on nothing has changed.
use Rattle.std.proofs.Common.{◌+◌, ◌-◌, ◌*◌, ◌≤◌}
use Rattle.cells.specs.Cells.{cells}
use Rattle.versions_push.specs.Trimmed.{fronted}
use Rattle.versions_push.specs.Moving.{Moving}
use Rattle.versions_push.proofs.keep_held.Given as goal

abbrev pub invariant-loop-k : goal.invariant-loop-k
invariant-loop-k l = record {
  from_1 : 1 ≤ l.j;
  behind : l.j ≤ l.start + 2 * l.k;
  moving : Moving (cells l.snapshots) (cells l.initial.block) (cells l.block) l.upper l.s l.v (l.start + 2 * l.k) (l.count - l.k) l.j
      (fronted (cells l.snapshots) (cells l.initial.block) l.stamp l.value l.start l.count);
}
