-- If no register was too high and nothing was seen, the operations passed are allowed.
use Rattle.std.proofs.Common.{◌≡◌, ◌<◌, true}
use Rattle.operation.specs.Body.{allowed_at, each}
use Rattle.operation_plain.proofs.plainly_allowed.Given as goal

abbrev pub invariant-loop-i : goal.invariant-loop-i
invariant-loop-i l = l.firsts < 4 → l.seen ≡ 0 → each (allowed_at l.objects l.body) l.i ≡ true
