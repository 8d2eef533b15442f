-- The answer is whether what was seen is 0 and what is left is zeros.
use Rattle.std.proofs.Common.{◌≡◌, ◌&&◌, eqb}
use Rattle.std.proofs.Math.Seq.{slice}
use Rattle.cells.specs.Zeros.{zeros}
use Rattle.zero_scan.proofs.bytes_zero.Given as goal

abbrev pub invariant-loop-i : goal.invariant-loop-i
invariant-loop-i l = zeros (slice l.from l.to l.area) ≡ eqb l.seen 0 && zeros (slice l.i l.to l.area)
