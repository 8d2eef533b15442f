-- The numbers of an answer, and that they are the paper's. Assumes nothing.
use Rattle.std.specs.Prelude.{◌≡◌, refl, Bool, true, false, List, [], ◌∷◌, ℕ, ℤ, pos, replicate, Result, Ok, Err}
use Rattle.std.proofs.Common.{sym, ap, subst}
use mir.Val.{bool_byte}
use Rattle.model.specs.Calls.{Call, Answer, refused, results, numbers, flag}
use Rattle.ffi_numbers.specs.declared.Executed.{Executed}
use Rattle.ffi_numbers.specs.declared.Committed.{Committed}
use Rattle.ffi_numbers.specs.declared.Valued.{Valued}
use Rattle.ffi_numbers.specs.declared.Found.{Found}
use Rattle.ffi_numbers.specs.declared.Previewed.{Previewed}

-- ---- the numbers of each result, in the struct's order

abbrev pub lone : ℕ → List ℤ
lone n = pos n ∷ []

abbrev pub executed : Executed → List ℤ
executed r = pos r.number ∷ pos r.operations ∷ pos r.finished ∷ []

abbrev pub committed : Committed → List ℤ
committed r =
    pos r.number ∷ pos r.outcome ∷ pos r.kept ∷ pos r.stamp ∷ pos r.stored ∷ pos r.operations ∷ []

abbrev pub valued : Valued → List ℤ
valued r = pos r.number ∷ r.value ∷ pos r.stamp ∷ []

abbrev pub found : Found → List ℤ
found r = pos r.number ∷ pos r.place ∷ pos r.length ∷ []

abbrev pub previewed : Previewed → List ℤ
previewed r = pos r.number ∷ pos r.outcome ∷ pos r.kept ∷ pos r.stamp ∷ r.values

-- these are the numbers of the answer to any call that yields k beside the first
pub record Numbered (k : ℕ) (result : List ℤ) (x : Answer) : Type 0 where
  pub says : (c : Call) → results c ≡ k → result ≡ numbers c x

-- the same of a Result, the refusals in it of any type: of what it yields, or of a refusal by a number that the refusal has
abbrev pub NumberedBy : {T R : Type 0} → ℕ → List ℤ → (T → Answer) → (R → ℕ → Type 0) → Result T R → Type 0
NumberedBy k result yields has (Ok x) = Numbered k result (yields x)
NumberedBy k result yields has (Err e) = (n : ℕ) × has e n × Numbered k result (refused n)

-- the answer, where a refusal has one number: for a `u32` itself, for a `Refusal` its number, as `reply`, `execution` .. of model/specs/Answers say it
abbrev pub told : {T R : Type 0} → (T → Answer) → (R → ℕ) → Result T R → Answer
told yields number (Ok x) = yields x
told yields number (Err e) = refused (number e)

-- so they are the numbers of the answer
pub numbered_told : {T R : Type 0} {k : ℕ} {result : List ℤ} (yields : T → Answer) (number : R → ℕ) (r : Result T R)
    → NumberedBy k result yields (λ e n. n ≡ number e) r → Numbered k result (told yields number r)
numbered_told yields number (Ok x) h = h
numbered_told {k = k} {result = result} yields number (Err e) h = subst (λ (n : ℕ). Numbered k result (refused n)) h.1 h.2

pub turned_back : (k n : ℕ) → Numbered k (pos n ∷ replicate k (pos 0)) (refused n)
unfolding numbers
turned_back k n = record { says = λ c e. ap (λ (i : ℕ). pos n ∷ replicate i (pos 0)) (sym e) }

pub flagged : (b : Bool) → pos (bool_byte b) ≡ flag b
flagged true = refl
flagged false = refl
