-- Each object so far passed.
use Rattle.std.proofs.Common.{true, ℕ, ◌<◌}
use Rattle.std.specs.Fn.{FnReturnsAt}
use Rattle.shape_versions_quick.specs.EachObject.{object_at}
use Rattle.shape_versions_quick.proofs.each_object.Given as goal

abbrev pub invariant-loop-i : goal.invariant-loop-i
invariant-loop-i g l = (k : ℕ) → k < l.i → FnReturnsAt g.F.Fn l.test (object_at l.width l.blocks k) true
