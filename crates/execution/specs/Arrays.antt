-- A run as the interpreter holds it: counts by value, registers and both sets in lent arrays. Assumes nothing.
use Rattle.std.specs.Prelude.{ℕ, ◌≤◌, ◌≡◌, List, ℤ, length, take}
use Rattle.execution.specs.declared.Counts.{Counts}
use Rattle.execution.specs.Entries.{Entry}
use Rattle.execution.specs.Run.{Run}

-- places of the lent arrays: a body has at most so many operations, and each adds at most one entry
abbrev pub capacity : ℕ
capacity = 16

-- each set stands at the front of its array
abbrev pub run_of_arrays : Counts → List ℤ → List Entry → List Entry → Run
run_of_arrays c registers reads writes =
    record { counter = c.counter; outcome = c.outcome; registers = registers; reads = take c.reads reads; writes = take c.writes writes }

-- a set's array has all its places
abbrev pub Room : List Entry → Type 0
Room es = length es ≡ capacity

-- neither set is longer than the counter
pub record Bounded (c : Counts) : Type 0 where
  pub reads : c.reads ≤ c.counter
  pub writes : c.writes ≤ c.counter

-- both sets lie in their arrays
pub record Within (c : Counts) : Type 0 where
  pub reads : c.reads ≤ capacity
  pub writes : c.writes ≤ capacity

-- a run that can go on in these arrays
pub record Lent (c : Counts) (reads writes : List Entry) : Type 0 where
  pub bounded : Bounded c
  pub read_room : Room reads
  pub write_room : Room writes
