-- The final delivery on areas that pass the shape check: the refusal, or the commit of the transaction found. Assumes nothing.
use Rattle.std.specs.Prelude.{◌≡◌, refl, List, ℕ, Ok, Err}
use Rattle.std.proofs.Common.{sym, ◌∙◌}
use Rattle.std.proofs.Math.Path.{ap}
use Rattle.model.specs.declared.Limits.{Limits}
use Rattle.model.specs.declared.Commit.{Commit}
use Rattle.model.specs.declared.Refusal.{Refusal}
use Rattle.model.specs.Calls.{final, Yield, Answer, yielded}
use Rattle.model.specs.Answers.{number, delivery}
use Rattle.model.specs.Replica.{Pending, perform, commit, validated, result, rework, committed_table}
use Rattle.layout.specs.Layout.{Areas, parse, print}
use Rattle.layout.specs.Act.{act}
use Rattle.layout.proofs.Areas.{act-accepted}
use Rattle.layout.proofs.HoldsLaws.{holds-print}
use Rattle.layout.specs.Contract.{Met}
use Rattle.final_admission.specs.Admission.{Shaped, shaped-passed, Admitted, Turned, admitted_keyed, met_turned}
use Rattle.final_decision.specs.FoundAt.{Found, passed_found, commit_at}
use Rattle.final_delivery.specs.Commit.{Commits}

module _ {l : Limits} {a : Areas} (q : Shaped l a) where
  -- a refusal: its number, and both areas as they were
  pub met-refused : {cl sq : ℕ} (e : Refusal) → Turned l (parse l a) cl sq (number e) → Met l (final cl sq) a (delivery (Err e)) a
  met-refused {cl} {sq} e f = met_turned (final cl sq) q.fits refl (number e) f

  -- the transaction at position i is to be committed
  module _ {cl sq i : ℕ} (f : Admitted l (parse l a) cl sq i) where
    abbrev pub fit_found : Found l a.0 a.1 i
    fit_found = passed_found (shaped-passed q) f.there f.before

    accepted : act l (final cl sq) a ≡ (yielded (Yield.committed (commit_at (parse l a) cl sq i).0), print l (commit_at (parse l a) cl sq i).1)
    unfolding perform
    accepted = act-accepted l (final cl sq) a q.fits f.accepted ∙ ap to (admitted_keyed f)
      where
        to : Pending → Answer × Areas
        to j =
            let T = committed_table (parse l a) in
            let r = commit (parse l a) cl sq (validated T j) (result T j) (rework T j) in
            (yielded (Yield.committed r.0), print l r.1)

    pub met-committed : {b c : List ℕ} {r : Commit} → Commits l cl sq i a.0 a.1 b c r → Met l (final cl sq) a (delivery (Ok r)) (b, c)
    met-committed {b} {c} {r} h =
        let g = h.answered fit_found f.client in
        record {
          answers = g.answer ∙ sym (ap (λ (w : Answer × Areas). w.0) accepted);
          areas = holds-print l b c (commit_at (parse l a) cl sq i).1 g.areas.holds g.areas.bodies ∙ sym (ap (λ (w : Answer × Areas). w.1) accepted);
        }
