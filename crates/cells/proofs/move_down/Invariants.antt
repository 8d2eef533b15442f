-- After k turns the first k bytes are copied, and those yet to be copied are as they were.
use Rattle.std.proofs.Common.{◌≡◌, take, drop}
use Rattle.std.proofs.Math.Seq.{paste}
use Rattle.cells.proofs.move_down.Given as goal

abbrev pub invariant-loop-k : goal.invariant-loop-k
invariant-loop-k l = l.area ≡ paste l.initial.area l.to (take l.len (drop l.from l.initial.area)) l.k
