-- Each test of a run that has begun: where it fails, so does the run. The check finds them itself, whatever the tests compare with.
use Rattle.std.specs.Prelude.{◌≡◌, false, List, ℕ, ◌<◌}
use Rattle.std.proofs.Common.{refl, sym, ◌∙◌, arith}
use Rattle.std.proofs.Math.Bool.{and-false}
use Rattle.std.proofs.lemmas.Bool.{lt-leb}
use Rattle.shape_row.specs.RowScan.{counter_in, outcome_in, reads_in, entries_in, begun, run_in}
use Rattle.shape_row.specs.RowTests.{run-begun}

module _ (readers : ℕ) (os : List ℕ) (n m : ℕ) (x : List ℕ) (b : 0 < counter_in x) where
  tests : run_in readers os n m x ≡ begun readers os n m (counter_in x) (outcome_in x) (reads_in x) (entries_in x) x
  tests = run-begun readers os n m x (counter_in x) refl (λ z. omega arith) (outcome_in x) (reads_in x) (entries_in x) refl refl refl

  pub past_the_body : m < counter_in x → false ≡ run_in readers os n m x
  past_the_body h = sym (tests ∙ simp (lt-leb (counter_in x) m h))

  pub no_outcome : 3 < outcome_in x → false ≡ run_in readers os n m x
  no_outcome h = sym (tests ∙ simp (lt-leb (outcome_in x) 3 h, and-false))

  pub more_entries : counter_in x < entries_in x → false ≡ run_in readers os n m x
  more_entries h = sym (tests ∙ simp (lt-leb (entries_in x) (counter_in x) h, and-false))

  pub more_reads : entries_in x < reads_in x → false ≡ run_in readers os n m x
  more_reads h = sym (tests ∙ simp (lt-leb (reads_in x) (entries_in x) h, and-false))

pub ruleset failing_tests = (past_the_body, no_outcome, more_entries, more_reads)
