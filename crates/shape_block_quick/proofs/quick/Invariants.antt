-- The chain of all versions is that of those from the k-th on, whichever readers d has, after one of stamp upper.
use Rattle.std.proofs.Common.{◌≤◌}
use Rattle.cells.specs.Cells.{cells}
use Rattle.shape_block_quick.specs.Quick.{Walked}
use Rattle.shape_block_quick.proofs.quick.Given as goal

abbrev pub invariant-loop-k : goal.invariant-loop-k
invariant-loop-k l = record {
  reader : l.i ≤ 16;
  older : l.upper ≤ l.newest;
  walked : Walked l.d.places (cells l.block) l.low l.count l.upper l.k;
}
