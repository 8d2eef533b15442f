-- What a run in lent arrays comes to. Assumes nothing.
use Rattle.std.specs.Prelude.{ℕ, ◌≡◌, List}
use Rattle.operation.specs.declared.Operation.{Operation}
use Rattle.execution.specs.declared.Counts.{Counts}
use Rattle.execution.specs.Entries.{Entry}
use Rattle.execution.specs.Run.{Table, Run, steps, counted}
use Rattle.execution.specs.Arrays.{run_of_arrays}

-- q is the run that at most `budget` operations make of p, and `used` of them were carried out
pub record Executes (T : Table) (b : List Operation) (budget : ℕ) (p q : Run) (used : ℕ) : Type 0 where
  pub run : q ≡ steps T b budget p
  pub count : used ≡ counted T b budget p

-- p stands in these counts and arrays, but for its registers
abbrev pub InArrays : Run → Counts → List Entry → List Entry → Type 0
InArrays p t reads writes = run_of_arrays t p.registers reads writes ≡ p
