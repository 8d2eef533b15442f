-- No run depends on the stamps beside the values: on a table with any others it takes the same steps. Assumes nothing.
use Rattle.std.specs.Prelude.{◌≡◌, Bool, ◌&&◌, List, [], ◌∷◌, length}
use Rattle.std.proofs.Math.Path.{refl, ap}
use Rattle.std.proofs.Common.{◌∙◌}
use Rattle.std.proofs.Math.Bool.{cond}
use Rattle.std.proofs.Math.Option.{Option, none, some}
use Prim.Native.Nat.{ℕ, zero, suc}
use Rattle.arith.specs.Integer.{eq_z}
use Rattle.operation.specs.declared.Operation.{Operation}
use Rattle.execution.specs.Entries.{Entry}
use Rattle.execution.specs.Run.{Table, Move, get, put, go, halt, move, Run, start, apply, due, ended, obey, step, steps, whole, counted, matches}

-- the table with other stamps
abbrev pub stamped : (ℕ → ℕ) → Table → Table
stamped s T = record { look = T.look; stamp = s; allow = T.allow }

module _ (s : ℕ → ℕ) (T : Table) where
  apply-stamped : (m : Move) (p : Run) → apply (stamped s T) m p ≡ apply T m p
  apply-stamped (get r o) p = refl
  apply-stamped (put o v) p = refl
  apply-stamped (go g k) p = refl
  apply-stamped (halt c) p = refl

  obey-stamped : (p : Run) (k : Option Operation) → obey (stamped s T) p k ≡ obey T p k
  unfolding obey
  obey-stamped p none = refl
  obey-stamped p (some x) = apply-stamped (move x p.registers) p

  step-stamped : (b : List Operation) (p : Run) → step (stamped s T) b p ≡ step T b p
  unfolding step
  step-stamped b p = obey-stamped p (due b p)

  pub steps-stamped : (b : List Operation) (k : ℕ) (p : Run) → steps (stamped s T) b k p ≡ steps T b k p
  unfolding steps
  steps-stamped b zero p = refl
  steps-stamped b (suc k) p = ap (step (stamped s T) b) (steps-stamped b k p) ∙ step-stamped b (steps T b k p)

  pub whole-stamped : (b : List Operation) → whole (stamped s T) b ≡ whole T b
  unfolding whole
  whole-stamped b = steps-stamped b (length b) start

  pub counted-stamped : (b : List Operation) (c : ℕ) (p : Run) → counted (stamped s T) b c p ≡ counted T b c p
  unfolding counted
  counted-stamped b zero p = refl
  counted-stamped b (suc c) p =
      ap (λ (k : ℕ). cond (ended b p) 0 (suc k)) (ap (counted (stamped s T) b c) (step-stamped b p) ∙ counted-stamped b c (step T b p))

  pub matches-stamped : (l : List Entry) → matches (stamped s T) l ≡ matches T l
  matches-stamped [] = refl
  matches-stamped (e ∷ l) = ap (λ (t : Bool). eq_z (T.look e.object) e.value && t) (matches-stamped l)
