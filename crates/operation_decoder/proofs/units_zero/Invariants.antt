-- Whether what was seen and what is left add up to 0 is the answer.
use Rattle.std.proofs.Common.{◌≡◌, ◌+◌, ◌*◌, eqb}
use Rattle.std.proofs.Math.Seq.{slice}
use Rattle.cells.specs.Zeros.{zeros}
use Rattle.zero_scan.specs.Totals.{total}
use Rattle.operation_decoder.proofs.units_zero.Given as goal

abbrev pub invariant-loop-k : goal.invariant-loop-k
invariant-loop-k l = zeros (slice l.from (l.from + 11 * l.units) l.place) ≡ eqb (l.seen + total (slice (l.from + 11 * l.k) (l.from + 11 * l.units) l.place)) 0
