-- The answer so far, and that of the entries from entry i on.
use Rattle.std.proofs.Common.{◌≡◌, ◌&&◌, ◌-◌, ◌*◌, drop}
use Rattle.cells.specs.Cells.{cells}
use Rattle.shape_names.specs.NameScan.{names_in}
use Rattle.shape_names.proofs.few_names.Given as goal

abbrev pub invariant-loop-i : goal.invariant-loop-i
invariant-loop-i g l =
    names_in l.n g.row.N (cells l.entries) ≡ (l.fine && names_in l.n (g.row.N - l.i) (drop (l.i * 2) (cells l.entries)))
