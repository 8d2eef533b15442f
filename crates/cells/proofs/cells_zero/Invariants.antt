-- The answer is whether what was seen is 0 and what is left is zeros.
use Rattle.std.proofs.Common.{◌≡◌, ◌&&◌, eqb}
use Rattle.std.proofs.Math.Seq.{slice}
use Rattle.cells.specs.Cells.{cells}
use Rattle.cells.specs.Zeros.{zeros}
use Rattle.cells.proofs.cells_zero.Given as goal

abbrev pub invariant-loop-cell : goal.invariant-loop-cell
invariant-loop-cell l = zeros (slice l.from l.to (cells l.area)) ≡ eqb l.seen 0 && zeros (slice l.cell l.to (cells l.area))
