-- Where all readers asked so far see their versions, those before the k-th are held.
use Rattle.cells.specs.Cells.{cells}
use Rattle.shape_block_quick.specs.Quick.{Climbed}
use Rattle.shape_block_quick.proofs.full.Given as goal

abbrev pub invariant-loop-k : goal.invariant-loop-k
invariant-loop-k l = Climbed l.d (cells l.block) l.low l.count l.held l.k
