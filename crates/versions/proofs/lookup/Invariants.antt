-- The answer is that of the versions left, and those before them are all above the stamp.
use Rattle.std.proofs.Common.{◌≡◌, ◌+◌}
use Rattle.cells.specs.Cells.{cells}
use Rattle.model.specs.Replica.{as_of}
use Rattle.model.specs.LookedAt.{seen_index}
use Rattle.versions.specs.Block.{block_versions}
use Rattle.versions.proofs.BlockLoops.{left}
use Rattle.versions.proofs.lookup.Given as goal

abbrev pub invariant-loop-above : goal.invariant-loop-above
invariant-loop-above l = record {
  seen : as_of l.stamp (block_versions (cells l.block)) ≡ as_of l.stamp (left l.count l.above (cells l.block));
  passed : seen_index l.stamp (block_versions (cells l.block)) ≡ l.above + seen_index l.stamp (left l.count l.above (cells l.block));
}
