-- The answer is whether what was seen and what is left add up to 0.
use Rattle.std.proofs.Common.{◌≡◌, ◌+◌, ◌*◌, eqb}
use Rattle.std.proofs.Math.Seq.{slice}
use Rattle.cells.specs.Zeros.{zeros}
use Rattle.zero_scan.specs.Totals.{total}
use Rattle.zero_scan.proofs.words_zero.Given as goal

abbrev pub invariant-loop-k : goal.invariant-loop-k
invariant-loop-k l = zeros (slice l.from l.to l.area) ≡ eqb (l.seen + total (slice (l.from + l.k * 8) l.to l.area)) 0
