-- The dry run on areas that pass the shape check: the refusal, or what the transaction found would come to. Assumes nothing.
use Rattle.std.specs.Prelude.{◌≡◌, ℕ, refl, Ok, Err}
use Rattle.std.proofs.Math.Path.{sym, ap}
use Rattle.std.proofs.Common.{◌∙◌}
use Rattle.model.specs.declared.Limits.{Limits}
use Rattle.model.specs.declared.Preview.{Preview}
use Rattle.model.specs.declared.Refusal.{Refusal}
use Rattle.model.specs.Answers.{number}
use Rattle.model.specs.Interface as interface
use Rattle.model.specs.Calls.{dry_run, Query, Answer, Yield, yielded}
use Rattle.model.specs.Replica.{Pending, Replica, committed_table, validated, result, rework, commit, facts, perform}
use Rattle.model.proofs.Refusals.{dry_run-judged}
use Rattle.layout.specs.Layout.{Areas, parse}
use Rattle.layout.specs.Act.{act}
use Rattle.layout.proofs.Areas.{act-accepted}
use Rattle.layout.proofs.ContractLaws.{met-query}
use Rattle.final_admission.specs.Admission.{Shaped, shaped-passed, Admitted, Turned, admitted_keyed, met_turned}
use Rattle.final_decision.specs.FoundAt.{Found, passed_found, commit_at}
use Rattle.dry_run.specs.Foreseen.{shown_of, Foresees}
use Rattle.dry_run.specs.Previews.{Previews, previews-refused, previews-accepted}

module _ {l : Limits} {a : Areas} (q : Shaped l a) where
  abbrev u : Replica
  u = parse l a

  module _ (c s : ℕ) where
    pub tried-refused : {e : Refusal} → Turned l u c s (number e) → Previews l c s a (Err e)
    tried-refused {e} f = previews-refused refl (met_turned (dry_run c s) q.fits (dry_run-judged l (facts u) c s) (number e) f)

    -- the transaction at position i is found
    module _ {i : ℕ} (f : Admitted l u c s i) where
      abbrev pub tried_found : Found l a.0 a.1 i
      tried_found = passed_found (shaped-passed q) f.there f.before

      shown : Pending → Yield
      shown j =
          let T = committed_table u in
          interface.observed (shown_of (commit u c s (validated T j) (result T j) (rework T j)))

      accepted : yielded (interface.observed (shown_of (commit_at u c s i))) ≡ (act l (dry_run c s) a).0
      unfolding perform shown
      accepted =
          sym
          (ap (λ (w : Answer × Areas). w.0) (act-accepted l (dry_run c s) a q.fits (dry_run-judged l (facts u) c s ∙ f.accepted))
          ∙ ap (λ (j : Pending). yielded (shown j)) (admitted_keyed f))

      pub tried-accepted : {r : Preview} → Foresees l a.0 a.1 i r → Previews l c s a (Ok r)
      tried-accepted h =
          previews-accepted (h.shows tried_found c s) (met-query l q.sane a q.bytes q.fits (Query.dry_run c s) _ accepted)
