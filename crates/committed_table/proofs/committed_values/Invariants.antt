-- The values passed are those that the lookup gives.
use Rattle.std.proofs.Common.{◌≡◌, ℕ, ◌*◌, ◌<◌, length}
use Rattle.execution.specs.Run.{value_of}
use Rattle.versions.specs.Block.{seen_from}
use Rattle.layout.specs.Offsets.{object_at}
use Rattle.committed_table.proofs.committed_values.Given as goal

abbrev pub invariant-loop-i : goal.invariant-loop-i
invariant-loop-i l = record {
  room : length l.table ≡ 128;
  passed : (o : ℕ) → o < l.i → value_of l.table o ≡ (seen_from l.records l.timestamp l.block (object_at l.l o * 8)).value;
}
