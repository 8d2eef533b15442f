-- Each read passed has the value that stands in its object's place.
use Rattle.std.proofs.Common.{◌≡◌, ℕ, ◌<◌}
use Rattle.cells.specs.Cells.{cells}
use Rattle.final_walk.specs.Places.{table_in}
use Rattle.final_walk.specs.Recorded.{entry_from}
use Rattle.final_walk.proofs.reads_match.Given as goal

abbrev pub invariant-loop-i : goal.invariant-loop-i
invariant-loop-i l = (k : ℕ) → k < l.i
    → (table_in (cells l.records) l.places).look (entry_from (cells l.records) l.at k).object ≡ (entry_from (cells l.records) l.at k).value
