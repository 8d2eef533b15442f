-- What a dry run promises. Assumes nothing.
use Rattle.std.specs.Prelude.{◌≡◌, ℕ, ◌+◌, ◌∷◌, pos, replicate, Result, Ok, Err}
use Rattle.std.proofs.Common.{ap, ◌∙◌}
use Rattle.model.specs.declared.Limits.{Limits}
use Rattle.model.specs.declared.Refusal.{Refusal}
use Rattle.model.specs.declared.Preview.{Preview}
use Rattle.model.specs.Interface as interface
use Rattle.model.specs.Calls.{Answer, dry_run, refused, yielded, numbers, preview_places}
use Rattle.model.specs.Answers.{number, preview}
use Rattle.layout.specs.Layout.{Areas}
use Rattle.layout.specs.Contract.{Met}

-- Its answer is that of `act`, both areas stay as they are, and of a refusal what a host sees is its number and zeros in all places: its type has no values.
pub record Previews (l : Limits) (c s : ℕ) (a : Areas) (r : Result Preview Refusal) : Type 0 where
  pub met : Met l (dry_run c s) a (preview r) a
  pub zeros : (k : ℕ) → preview r ≡ refused k → numbers (dry_run c s) (preview r) ≡ pos k ∷ replicate (3 + preview_places) (pos 0)

-- the numbers of a refused dry run
refused-zeros : (c s k : ℕ) (x : Answer) → x ≡ refused k → numbers (dry_run c s) x ≡ pos k ∷ replicate (3 + preview_places) (pos 0)
unfolding numbers
refused-zeros c s k x e = ap (numbers (dry_run c s)) e

pub previews-refused : {l : Limits} {c s : ℕ} {e : Refusal} {a : Areas} {r : Result Preview Refusal} → r ≡ Err e → Met l (dry_run c s) a (refused (number e)) a → Previews l c s a r
previews-refused e m = rw e (record { met = m; zeros = λ k z. refused-zeros _ _ k _ z })

pub previews-accepted : {l : Limits} {c s : ℕ} {a : Areas} {r : Preview} {y : interface.Yield} → preview (Ok r) ≡ yielded y → Met l (dry_run c s) a (yielded y) a → Previews l c s a (Ok r)
previews-accepted e m =
    record {
      met = record { answers = e ∙ m.answers; areas = m.areas };
      zeros = λ k z. refused-zeros _ _ k _ z;
    }
