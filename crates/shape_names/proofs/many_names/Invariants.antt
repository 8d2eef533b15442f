-- The answer is that of the entries from entry i on.
use Rattle.std.proofs.Common.{◌≡◌, ◌-◌, ◌*◌, drop}
use Rattle.cells.specs.Cells.{cells}
use Rattle.shape_names.specs.NameScan.{names_in}
use Rattle.shape_names.proofs.many_names.Given as goal

abbrev pub invariant-loop-i : goal.invariant-loop-i
invariant-loop-i l =
    names_in l.n l.count (cells l.entries) ≡ names_in l.n (l.count - l.i) (drop (l.i * 2) (cells l.entries))
