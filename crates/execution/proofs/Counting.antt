-- How many operations a run carries out: no more than are left of its body, and no budget beyond those makes a difference. Assumes nothing.
use Rattle.std.specs.Prelude.{◌≡◌, Bool, List}
use Rattle.std.proofs.Math.Path.{refl, ap}
use Rattle.std.proofs.Common.{sym, ◌∙◌}
use Rattle.std.proofs.Math.Bool.{true, false}
use Rattle.std.proofs.lemmas.Bool.{false≢true}
use Rattle.std.proofs.Math.Option.{Option, none, some}
use Prim.Native.Nat.{ℕ, zero, suc, ◌-◌, ◌≤◌, ◌<◌}
use native.Mathlib.Omega.{arith}
use Rattle.std.proofs.Math.Nat.{sub-zero}
use Rattle.std.proofs.Math.Dec.{leb}
use Rattle.std.proofs.Math.ListN.{length}
use borrow.Author.Tests.{leb-true, leb-false}
use Rattle.operation.specs.declared.Operation.{Operation}
use Rattle.execution.specs.Run.{Table, move, Run, start, due, is_none, ended, obey, step, steps, whole, counted, whole_count}
use Rattle.execution.proofs.ReadAgreement.{ended-past, stay, steps-step, apply-counter}

module _ (S : Table) (b : List Operation) where
  -- an operation is carried out inside the body and moves the counter on
  moved : (p : Run) → ended b p ≡ false → (p.counter < length b) × (p.counter < (step S b p).counter)
  unfolding step obey
  moved p e = (inside (leb (length b) p.counter) refl, on (due b p) refl)
    where
      inside : (k : Bool) → leb (length b) p.counter ≡ k → p.counter < length b
      inside true h = absurd (false≢true (sym e ∙ ended-past b p (leb-true (length b) p.counter h)))
      inside false h = leb-false (length b) p.counter h

      on : (d : Option Operation) → due b p ≡ d → p.counter < (obey S p d).counter
      on none h = absurd (false≢true (sym e ∙ ap is_none h))
      on (some x) h = apply-counter S b (move x p.registers) p

  pub counted-ended : (c : ℕ) (p : Run) → ended b p ≡ true → counted S b c p ≡ 0
  unfolding counted
  counted-ended zero p e = refl
  counted-ended (suc c) p e = rw e

  -- no more than are left of the body
  pub counted-most : (c : ℕ) (p : Run) → counted S b c p ≤ length b - p.counter
  unfolding counted
  counted-most zero p = omega arith
  counted-most (suc c) p = by (ended b p) refl (counted-most c (step S b p))
    where
      by : (k : Bool) → ended b p ≡ k → counted S b c (step S b p) ≤ length b - (step S b p).counter → counted S b (suc c) p ≤ length b - p.counter
      by true e rest = rw e (omega arith)
      by false e rest = rw e (omega (arith, (moved p e).0, (moved p e).1))

  -- a budget that is enough counts what any larger one counts
  counted-enough : (n c : ℕ) (p : Run) → length b - p.counter ≤ n → n ≤ c → counted S b c p ≡ counted S b n p
  unfolding counted
  counted-enough zero c p h l = counted-ended c p (ended-past b p (omega arith))
  counted-enough (suc n) zero p h l = absurd (omega arith)
  counted-enough (suc n) (suc c) p h l = by (ended b p) refl (counted-enough n c (step S b p))
    where
      by : (k : Bool) → ended b p ≡ k → (length b - (step S b p).counter ≤ n → n ≤ c → counted S b c (step S b p) ≡ counted S b n (step S b p))
          → counted S b (suc c) p ≡ counted S b (suc n) p
      by true e rest = rw e
      by false e rest = rw e (ap suc (rest (omega (arith, (moved p e).0, (moved p e).1)) (omega arith)))

  -- so many operations lead where all of the budget leads
  counted-steps : (c : ℕ) (p : Run) → steps S b (counted S b c p) p ≡ steps S b c p
  unfolding counted steps
  counted-steps zero p = refl
  counted-steps (suc c) p = by (ended b p) refl (counted-steps c (step S b p))
    where
      by : (k : Bool) → ended b p ≡ k → steps S b (counted S b c (step S b p)) (step S b p) ≡ steps S b c (step S b p)
          → steps S b (counted S b (suc c) p) p ≡ steps S b (suc c) p
      by true e rest = rw e (sym (stay S b (suc c) p e))
      by false e rest = rw e (sym (steps-step S b (counted S b c (step S b p)) p) ∙ rest ∙ steps-step S b c p)

  -- and before each of them the run has not ended
  counted-going : (c k : ℕ) (p : Run) → k < counted S b c p → ended b (steps S b k p) ≡ false
  unfolding counted steps
  counted-going zero k p h = absurd (omega arith)
  counted-going (suc c) k p h = by (ended b p) refl k h (λ n. counted-going c n (step S b p))
    where
      by : (t : Bool) → ended b p ≡ t → (k : ℕ) → k < counted S b (suc c) p
          → ((n : ℕ) → n < counted S b c (step S b p) → ended b (steps S b n (step S b p)) ≡ false) → ended b (steps S b k p) ≡ false
      by true e k h rest = let none = counted-ended (suc c) p e in absurd (omega arith)
      by false e zero h rest = e
      by false e (suc k) h rest =
          let one_more : counted S b (suc c) p ≡ suc (counted S b c (step S b p)) = rw e in
          ap (ended b) (sym (steps-step S b k p)) ∙ rest k (omega arith)

  -- ---- a whole run

  -- "exactly those in the definition of that run" (document 02, S-10): they make the whole run, and before each of them it has not ended
  pub whole-carried : steps S b (whole_count S b) start ≡ whole S b
  unfolding whole_count whole
  whole-carried = counted-steps (length b) start

  pub whole-going : (k : ℕ) → k < whole_count S b → ended b (steps S b k start) ≡ false
  unfolding whole_count
  whole-going k h = counted-going (length b) k start h

  -- no more than the body has
  pub whole_count-most : whole_count S b ≤ length b
  unfolding whole_count start
  whole_count-most = rw sub-zero at (counted-most (length b) start)

  -- a budget of as many as the body has, or more, counts the same
  pub whole-counted : (c : ℕ) → length b ≤ c → counted S b c start ≡ whole_count S b
  unfolding whole_count start
  whole-counted c h = counted-enough (length b) c start (omega arith) h
