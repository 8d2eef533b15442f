-- Nothing computed on a table depends on its stamps: with any others, work, validation and the walk after a commit come to the same. Assumes nothing.
use Rattle.std.specs.Prelude.{◌≡◌, Bool, ◌&&◌, ℕ, ◌+◌, ◌-◌}
use Rattle.std.proofs.Math.Path.{refl, ap, ap₂}
use Rattle.std.proofs.Common.{◌∙◌}
use Rattle.std.proofs.Math.Bool.{cond}
use mathlib.Core.List.{List, [], ◌∷◌, map}
use Rattle.execution.specs.Run.{Table, Run, over}
use Rattle.execution.proofs.OtherStamps.{stamped, steps-stamped, whole-stamped, counted-stamped, matches-stamped}
use Rattle.model.specs.Replica.{Pending, program, finished, advance, used, worked, work_count, restarted, walk, validated, result}

module _ (s : ℕ → ℕ) where
  advance-stamped : (T : Table) (c : ℕ) (j : Pending) → advance (stamped s T) c j ≡ advance T c j
  unfolding advance
  advance-stamped T c j = ap (λ (p : Run). record { sent = j.sent; run = p }) (steps-stamped s T (program j) c j.run)

  used-stamped : (T : Table) (c : ℕ) (j : Pending) → used (stamped s T) c j ≡ used T c j
  used-stamped T c j = counted-stamped s T (program j) c j.run

  pub worked-stamped : (T : Table) (c : ℕ) (js : List Pending) → worked (stamped s T) c js ≡ worked T c js
  unfolding worked
  worked-stamped T c [] = refl
  worked-stamped T c (j ∷ js) =
      let i = advance T c j in
      ap₂ (λ (i : Pending) (n : ℕ). i ∷ cond (finished i) (worked (over i.run.writes (stamped s T)) (c - n) js) js) (advance-stamped T c j) (used-stamped T c j)
      ∙ ap (λ (ks : List Pending). i ∷ cond (finished i) ks js) (worked-stamped (over i.run.writes T) (c - used T c j) js)

  pub work_count-stamped : (T : Table) (c : ℕ) (js : List Pending) → work_count (stamped s T) c js ≡ work_count T c js
  unfolding work_count
  work_count-stamped T c [] = refl
  work_count-stamped T c (j ∷ js) =
      let i = advance T c j in
      ap₂ (λ (i : Pending) (n : ℕ). n + cond (finished i) (work_count (over i.run.writes (stamped s T)) (c - n) js) 0) (advance-stamped T c j) (used-stamped T c j)
      ∙ ap (λ (k : ℕ). used T c j + cond (finished i) k 0) (work_count-stamped (over i.run.writes T) (c - used T c j) js)

  pub walk-stamped : (T : Table) (js : List Pending) → walk (stamped s T) js ≡ walk T js
  unfolding walk
  walk-stamped T [] = refl
  walk-stamped T (j ∷ js) =
      ap₂ (λ (t : Bool) (ks : List Pending). cond t (j ∷ ks) (map restarted (j ∷ js))) (matches-stamped s T j.run.reads) (walk-stamped (over j.run.writes T) js)

  pub validated-stamped : (T : Table) (j : Pending) → validated (stamped s T) j ≡ validated T j
  unfolding validated
  validated-stamped T j = ap (λ (t : Bool). finished j && t) (matches-stamped s T j.run.reads)

  pub result-stamped : (T : Table) (j : Pending) → result (stamped s T) j ≡ result T j
  unfolding result
  result-stamped T j =
      ap₂ (λ (t : Bool) (p : Run). cond t j.run p) (validated-stamped T j) (whole-stamped s T (program j))
