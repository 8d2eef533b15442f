-- A run that has ended, by its numbers: stopped early, or past the last operation of its body. Assumes nothing.
use Rattle.std.specs.Prelude.{◌≡◌, refl, Bool, true, ◌||◌, List, [], ◌∷◌, ℕ, zero, suc, ◌≤◌, ◌<◌, leb, ltb, length, drop}
use Rattle.std.proofs.Common.{sym, ap, ◌∙◌, arith, length-drop, le-leb, lt-ltb}
use Rattle.std.proofs.Math.Bool.{or-true, or-false}
use Rattle.std.proofs.lemmas.Bool.{lt-leb}
use Rattle.operation.specs.Body.{size, operations}
use Rattle.operation.proofs.BodyLaws.{length-operations}
use Rattle.operation.specs.declared.Operation.{Operation}
use Rattle.execution.specs.Run.{is_none, due_at}

ended-numbers : (b : List Operation) (i c : ℕ) → is_none (due_at b i c) ≡ (ltb 0 c || leb (length b) i)
ended-numbers b i zero = go' (drop i b) refl
  where
    go' : (l : List Operation) → drop i b ≡ l → is_none (due_at b i 0) ≡ leb (length b) i
    go' [] e = rw e (sym (le-leb (length b) i (let k = ap length e in omega (arith, length-drop i b))))
    go' (x ∷ l) e = rw e (sym (lt-leb (length b) i (let k = ap length e in omega (arith, length-drop i b))))
ended-numbers b i (suc c) = rw (lt-ltb 0 (suc c) (omega arith))

module _ (body : List ℕ) (counter outcome : ℕ) where
  -- of a body in bytes, the first of which is the number of its operations
  pub body_ended : is_none (due_at (operations body) counter outcome) ≡ (ltb 0 outcome || leb (size body) counter)
  body_ended =
      ended-numbers (operations body) counter outcome
      ∙ ap (λ (m : ℕ). ltb 0 outcome || leb m counter) (length-operations body)

  pub ended-past : (m : ℕ) → m ≡ size body → m ≤ counter → is_none (due_at (operations body) counter outcome) ≡ true
  ended-past m e h = body_ended ∙ ap (λ (t : Bool). ltb 0 outcome || t) (le-leb (size body) counter (omega arith)) ∙ or-true (ltb 0 outcome)

  pub ended-early : (m : ℕ) → m ≡ size body → counter < m → is_none (due_at (operations body) counter outcome) ≡ ltb 0 outcome
  ended-early m e h = body_ended ∙ ap (λ (t : Bool). ltb 0 outcome || t) (lt-leb (size body) counter (omega arith)) ∙ or-false (ltb 0 outcome)
