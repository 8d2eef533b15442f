-- What the code of one operation says of counts and arrays. Assumes nothing.
use Rattle.std.specs.Prelude.{ℕ, ◌+◌, ◌<◌, ◌≡◌, List, ℤ, eqb, set, position, Option, Some, None}
use Rattle.execution.specs.declared.Counts.{Counts}
use Rattle.execution.specs.Entries.{Entry}
use Rattle.execution.specs.Run.{Move, go, halt, overflowed}
use Rattle.execution.specs.Arrays.{capacity, Bounded}

-- what a checked sum, a load and a store ask alike: sets no longer than the counter, places in the arrays for one entry more, a register that is there
abbrev pub Ready : Counts → ℕ → Type 0
Ready c r = Bounded c × (c.counter < capacity) × (r < 4)

-- past one operation and k more
abbrev pub advanced : ℕ → Counts → Counts
advanced k c = record { counter = c.counter + k + 1; outcome = 0; reads = c.reads; writes = c.writes }

-- stopped early with outcome k
abbrev pub stopped : ℕ → Counts → Counts
stopped k c = record { counter = c.counter + 1; outcome = k; reads = c.reads; writes = 0 }

-- what a checked sum or difference for register r asks for
abbrev pub settled : List ℤ → ℕ → Option ℤ → Move
settled g r (Some z) = go (set g r z) 0
settled g r None = halt overflowed

-- r is the first index at which o stands in a set, or none
abbrev pub Found : List Entry → ℕ → Option ℕ → Type 0
Found es o r = r ≡ position (λ e. eqb e.object o) es
