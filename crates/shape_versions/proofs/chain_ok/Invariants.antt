-- The answer is that of the versions from the k-th on, after one of stamp upper.
use Rattle.std.proofs.Common.{◌≡◌, ◌+◌, ◌*◌, ◌-◌, drop}
use Rattle.cells.specs.Cells.{cells}
use Rattle.versions.specs.Block.{versions_in, chain, chained}
use Rattle.shape_versions.proofs.chain_ok.Given as goal

abbrev pub invariant-loop-k : goal.invariant-loop-k
invariant-loop-k l = chained (cells l.b.snapshots.now) l.b.low l.count (cells l.block) ≡ chain (cells l.b.snapshots.now) l.b.low l.upper (versions_in (l.count - l.k) (drop (1 + 2 * l.k) (cells l.block)))
