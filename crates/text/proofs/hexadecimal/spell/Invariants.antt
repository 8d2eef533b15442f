-- The digits of the bytes before i stand at the start.
use Rattle.std.proofs.Common.{length, take, ◌*◌, ◌≡◌}
use Rattle.text.specs.Hexadecimal.{spelled}
use Rattle.text.proofs.hexadecimal.spell.Given as goal

abbrev pub invariant-loop-i : goal.invariant-loop-i
invariant-loop-i l = record { same_size : length l.out ≡ 2 * length l.bytes; spelt : take (2 * l.i) l.out ≡ spelled (take l.i l.bytes) }
