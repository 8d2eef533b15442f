-- The operations passed are allowed.
use Rattle.std.proofs.Common.{◌≡◌, true}
use Rattle.operation.specs.Body.{allowed_at, each}
use Rattle.operation_columns.proofs.each_allowed.Given as goal

abbrev pub invariant-loop-i : goal.invariant-loop-i
invariant-loop-i l = each (allowed_at l.objects l.body) l.i ≡ true
