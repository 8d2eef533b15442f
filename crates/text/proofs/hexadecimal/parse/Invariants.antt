-- The pairs before i are read, and their bytes stand at the start.
use Rattle.std.proofs.Common.{◌*◌}
use Rattle.text.specs.HexadecimalLaws.{Reading}
use Rattle.text.proofs.hexadecimal.parse.Given as goal

abbrev pub invariant-loop-i : goal.invariant-loop-i
invariant-loop-i l = Reading l.word l.initial.out l.out (2 * l.i) l.i
