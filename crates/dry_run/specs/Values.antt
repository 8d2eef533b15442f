-- The values that the objects would hold, in an array: the committed ones, gathered from their places. Assumes nothing.
use Rattle.std.specs.Prelude.{◌≡◌, refl, List, ℕ, zero, suc, ◌+◌, ◌≤◌, ◌<◌, ℤ, pos, length, set, replicate}
use Rattle.std.proofs.Common.{◌∙◌, arith, length-set, get_or-set_other}
use Rattle.cells.specs.Cells.{cells}
use Rattle.execution.specs.Run.{value_of}
use Rattle.execution.proofs.Listed.{fill_next}
use Rattle.final_walk.specs.Places.{table_in}

-- of the first n objects what stands in their places, and past them what the array held
pub record Gathered (b : List ℕ) (n : ℕ) (ps : List ℕ) (before after : List ℤ) : Type 0 where
  pub room : length after ≡ 128
  pub values : (o : ℕ) → o < n → value_of after o ≡ (table_in (cells b) ps).look o
  pub rest : (o : ℕ) → n ≤ o → value_of after o ≡ value_of before o

-- an array of zeros
pub all-zero : (n o : ℕ) → value_of (replicate n (pos 0)) o ≡ pos 0
all-zero zero o = refl
all-zero (suc n) zero = refl
all-zero (suc n) (suc o) = all-zero n o

-- none yet
pub gathered_none : {b ps : List ℕ} {vs : List ℤ} → length vs ≡ 128 → Gathered b 0 ps vs vs
gathered_none e = record { room = e; values = λ o h. absurd (omega arith); rest = λ o h. refl }

-- one more
pub gathered_next : {b ps : List ℕ} {before after : List ℤ} {n : ℕ} {v : ℤ} → n < 128 → Gathered b n ps before after → v ≡ (table_in (cells b) ps).look n
    → Gathered b (n + 1) ps before (set after n v)
gathered_next {b} {ps} {before} {after} {n} {v} few g e =
    record {
      room = length-set after n v ∙ g.room;
      values = fill_next (table_in (cells b) ps).look (pos 0) after n v (omega (arith, g.room)) g.values e;
      rest = λ o h. get_or-set_other after n o v (pos 0) (λ q. omega arith) ∙ g.rest o (omega arith);
    }
