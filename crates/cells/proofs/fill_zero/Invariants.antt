-- The bytes below i are 0.
use Rattle.std.proofs.Common.{◌≡◌, ◌-◌, replicate}
use Rattle.std.proofs.Math.Seq.{paste}
use Rattle.cells.proofs.fill_zero.Given as goal

abbrev pub invariant-loop-i : goal.invariant-loop-i
invariant-loop-i l = l.area ≡ paste l.initial.area l.from (replicate (l.to - l.from) 0) (l.i - l.from)
