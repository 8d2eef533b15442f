-- A reader above s and not above c is one below p, or one from i on; and a reader above c and not above u is one from q on, or one from i on.
use Rattle.std.proofs.Common.{◌≡◌, ◌||◌, ℕ, ◌^◌, ◌<◌, ltb, leb, drop}
use Rattle.cells.specs.Cells.{cells}
use Rattle.versions.specs.Block.{between}
use Rattle.versions_close.proofs.neighbours_of.Given as goal

abbrev pub invariant-loop-i : goal.invariant-loop-i
invariant-loop-i l = record {
  upto : (s : ℕ) → between (cells l.snapshots) s l.c ≡ ltb s l.p || between (drop l.i (cells l.snapshots)) s l.c;
  above : (u : ℕ) → u < 2 ^ 63 → between (cells l.snapshots) l.c u ≡ leb l.q u || between (drop l.i (cells l.snapshots)) l.c u;
}
