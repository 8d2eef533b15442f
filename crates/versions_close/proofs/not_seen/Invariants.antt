-- j and what is left make up the whole.
use Rattle.std.proofs.Common.{◌≡◌, ◌+◌, ◌-◌, ◌*◌, ◌≤◌, drop}
use Rattle.cells.specs.Cells.{cells}
use Rattle.versions_close.specs.Closing.{seen}
use Rattle.versions_close.proofs.not_seen.Given as goal

abbrev pub invariant-loop-i : goal.invariant-loop-i
invariant-loop-i l = record {
  counted : l.j ≤ l.i;
  whole : seen l.c l.readers (drop 1 (cells l.block)) ≡ l.j + seen l.c (l.readers - l.i) (drop (1 + 2 * l.i) (cells l.block));
}
