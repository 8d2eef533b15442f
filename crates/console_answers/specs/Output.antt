-- What the line of an answer says. Assumes nothing.
use Rattle.std.specs.Prelude.{ℕ, suc, ◌+◌, ◌^◌, ◌<◌, ◌≡◌, refl, Bool, true, false, List, ◌∷◌, ℤ, pos, length, take, set, get_or}
use Rattle.std.specs.Prelude.{Result, Ok, Err}
use Rattle.std.proofs.Common.{sym, subst, add-one, arith, take-suc, take-suc-set}
use Rattle.std.specs.Int.{w64}
use mir.Val.{to_z, bool_byte}
use Rattle.std.proofs.lemmas.Int.{to_z_pos}
use Rattle.text.specs.Numerals.{Line}
use Rattle.model.specs.declared.Refusal.{Refusal}
use Rattle.model.specs.declared.Executed.{Executed}
use Rattle.model.specs.declared.Commit.{Commit}
use Rattle.model.specs.declared.Version.{Version}
use Rattle.model.specs.declared.Found.{Found}
use Rattle.model.specs.declared.Preview.{Preview}
use Rattle.model.specs.Answers.{number, reply, execution, delivery, reading, finding, preview}
use Rattle.model.specs.Calls.{Call, Answer, refused, numbers, flag}

-- the numbers that the call yields, as numerals in a line
abbrev pub Answered : List ℕ → Call → Answer → List ℕ → ℕ → Type 0
Answered before c a after r = Line before (numbers c a) after r

-- the same of a Result, the refusals in it of any type: of what it yields, or of a refusal by a number that the refusal has
abbrev pub AnsweredBy : {T R : Type 0} → List ℕ → Call → (T → Answer) → (R → ℕ → Type 0) → Result T R → List ℕ → ℕ → Type 0
AnsweredBy before c yields has (Ok x) after r = Answered before c (yields x) after r
AnsweredBy before c yields has (Err e) after r = (n : ℕ) × has e n × Answered before c (refused n) after r

-- the answer, where a refusal has one number: for a `u32` itself, for a `Refusal` its number, as `reply`, `execution` .. of model/specs/Answers say it
abbrev pub told : {T R : Type 0} → (T → Answer) → (R → ℕ) → Result T R → Answer
told yields number (Ok x) = yields x
told yields number (Err e) = refused (number e)

-- so the line is that of the answer
pub answered-told : {T R : Type 0} (before : List ℕ) (c : Call) (yields : T → Answer) (number : R → ℕ) (r : Result T R) (after : List ℕ) (n : ℕ)
    → AnsweredBy before c yields (λ e k. k ≡ number e) r after n → Answered before c (told yields number r) after n
answered-told before c yields number (Ok x) after n h = h
answered-told before c yields number (Err e) after n h = subst (λ (k : ℕ). Answered before c (refused k) after n) h.1 h.2

-- and of a `Refusal` the answers are the model's
pub told-reply : (r : Result (Unit {0}) Refusal) → told (λ u. reply (Ok u)) number r ≡ reply r
told-reply r = refl

pub told-execution : (r : Result Executed Refusal) → told (λ x. execution (Ok x)) number r ≡ execution r
told-execution r = refl

pub told-delivery : (r : Result Commit Refusal) → told (λ x. delivery (Ok x)) number r ≡ delivery r
told-delivery r = refl

pub told-reading : (r : Result Version Refusal) → told (λ x. reading (Ok x)) number r ≡ reading r
told-reading r = refl

pub told-finding : (r : Result Found Refusal) → told (λ x. finding (Ok x)) number r ≡ finding r
told-finding r = refl

pub told-preview : (r : Result Preview Refusal) → told (λ x. preview (Ok x)) number r ≡ preview r
told-preview r = refl

-- a number of 32 bits, as the answers' lists hold it
pub as_signed : (n : ℕ) → n < 2 ^ 32 → pos n ≡ to_z w64 n
as_signed n h = sym (to_z_pos w64 n (omega arith))

-- kept or run again, as a number of a line
pub flag-signed : (b : Bool) → flag b ≡ to_z w64 (bool_byte b)
flag-signed true = refl
flag-signed false = refl

-- a dry run's line that begins with its four numbers and the first i values takes the next value
pub next-value : {a b c d : ℤ} (values line : List ℤ) (i : ℕ) → take (4 + i) line ≡ a ∷ b ∷ c ∷ d ∷ take i values → i < length values → 4 + i < length line
    → take (4 + (i + 1)) (set line (4 + i) (get_or values i (pos 0))) ≡ a ∷ b ∷ c ∷ d ∷ take (i + 1) values
next-value values line i begun more room =
    let one_on : 4 + (i + 1) ≡ suc (4 + i) = omega arith in
    rw (one_on, take-suc-set line (4 + i) (get_or values i (pos 0)) room, begun, add-one, take-suc values i (pos 0) more)
