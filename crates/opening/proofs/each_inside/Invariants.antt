-- Whether all lie inside is whether those from i on do.
use Rattle.std.proofs.Common.{◌≡◌, length}
use Rattle.opening.specs.Inside.{inside_from}
use Rattle.opening.proofs.each_inside.Given as goal

abbrev pub invariant-loop-i : goal.invariant-loop-i
invariant-loop-i l =
    (lows : length l.lower ≡ length l.values) (highs : length l.upper ≡ length l.values)
    → inside_from l.values l.lower l.upper lows highs 0 ≡ inside_from l.values l.lower l.upper lows highs l.i
