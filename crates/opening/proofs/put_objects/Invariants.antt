-- The blocks in front are done, those that are left are 0; the next one lies in the area.
use Rattle.std.proofs.Common.{◌+◌, ◌*◌, ◌<◌, ◌≤◌, length}
use Rattle.versions.specs.Block.{width}
use Rattle.opening.specs.Opening.{Filling}
use Rattle.opening.proofs.put_objects.Given as goal

abbrev pub invariant-loop-i : goal.invariant-loop-i
invariant-loop-i l = record {
  filling : Filling l.readers l.timestamp l.values l.lower l.upper l.objects (l.i * (l.width + 2)) l.i;
  room : l.i < length l.values → (l.i * (l.width + 2) + width l.readers) * 8 + 16 ≤ length l.objects;
}
