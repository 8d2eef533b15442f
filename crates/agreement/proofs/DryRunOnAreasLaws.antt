-- What follows from `specs/DryRunOnAreas`. Assumes nothing.
use Rattle.std.specs.Prelude.{◌≡◌, Bool, List, ◌∷◌, map}
use Rattle.std.proofs.Math.Path.{refl, ap}
use Rattle.std.proofs.Common.{sym, ◌∙◌, true≢false}
use Rattle.std.proofs.Math.Bool.{true, false}
use Prim.Native.Nat.{ℕ, zero, suc}
use Rattle.cells.specs.Cells.{Below}
use Rattle.model.specs.declared.Limits.{Limits}
use Rattle.model.specs.Interface.{Query, previewed, observed, Answer, yielded}
use Rattle.model.specs.Lists.{pick}
use Rattle.model.specs.Calls.{Call, final, show_body, dry_run, seen, is_key, bytes_of, causes, refusal, judged}
use Rattle.model.specs.Start.{Start, start_of}
use Rattle.model.specs.DryRun.{preview_of}
use Rattle.model.specs.Replica.{Replica, newest, facts, delivered, opened, perform, call, calls}
use Rattle.model.specs.VersionLaws.{Dated}
use Rattle.model.proofs.Refusals.{dry_run-judged}
use Rattle.model.specs.ShapeCheck.{shaped}
use Rattle.model.proofs.ShapeKept.{call-shaped}
use Rattle.model.proofs.Replicas as states
use Rattle.model.proofs.Replicas.{reopening}
use Rattle.layout.specs.Layout.{Areas, parse, print}
use Rattle.layout.specs.Offsets.{Sane}
use Rattle.layout.specs.Fit.{fit}
use Rattle.layout.proofs.FitLaws.{fit-says, parse-print}
use Rattle.layout.specs.Act.{act}
use Rattle.layout.proofs.Areas.{act-unfit, act-refused, act-accepted, act-query, act-print}
use Rattle.agreement.specs.Trace.{Trace, areas, taken, bytes_in, history}
use Rattle.agreement.proofs.TraceLaws.{shows, dated, last, last-shaped, areas-print, history-same}
use Rattle.agreement.specs.DryRunOnAreas.{previewed_as, newest_on, DoneAside}

module _ (l : Limits) (sane : Sane l) (c s : ℕ) (a : Areas) where
  abbrev u : Replica
  u = parse l a

  -- the areas after an accepted final delivery say the replica after it
  after : fit l a ≡ true → refusal l (facts u) (final c s) ≡ 0 → parse l (print l (delivered u c s).1) ≡ (delivered u c s).1
  unfolding call perform
  after f r =
      let kept : shaped l (delivered u c s).1 ≡ true = rw r at (call-shaped l u (final c s) tt (fit-says l a f).shaped) in
      parse-print l sane (delivered u c s).1 kept

  aside : (act l (dry_run c s) a).0 ≡ previewed_as (act l (final c s) a).0 (newest_on l (act l (final c s) a).1)
  unfolding perform
  aside = by (fit l a) (refusal l (facts u) (final c s)) refl refl
    where
      by : (b : Bool) (k : ℕ) → fit l a ≡ b → refusal l (facts u) (final c s) ≡ k
          → (act l (dry_run c s) a).0 ≡ previewed_as (act l (final c s) a).0 (newest_on l (act l (final c s) a).1)
      by false k f r = rw (act-unfit l (dry_run c s) a f, act-unfit l (final c s) a f)
      by true (suc k) f r = rw (act-refused l (dry_run c s) a k f (dry_run-judged l (facts u) c s ∙ r), act-refused l (final c s) a k f r)
      by true zero f r =
          rw (act-accepted l (dry_run c s) a f (dry_run-judged l (facts u) c s ∙ r), act-accepted l (final c s) a f r)
          (ap (λ (v : Replica). yielded (observed (previewed (preview_of (delivered u c s).0 (map newest v.objects))))) (sym (after f r)))

  pub dry_run-on_areas : Below 256 a.0 → DoneAside l c s a
  dry_run-on_areas x = record { answer = aside; areas = act-query l sane (Query.dry_run c s) a x }

-- ---- two replicas

-- on states: equal starts with equal histories
settled : (l m : Limits) (a b : Start) → Dated a → (cs ds : List Call) → reopening a ∷ states.history l (opened l a) cs ≡ reopening b ∷ states.history m (opened m b) ds
    → (c s : ℕ) → refusal l (facts (calls l (opened l a) cs).1) (dry_run c s) ≡ 0 → refusal m (facts (calls m (opened m b) ds).1) (dry_run c s) ≡ 0
    → bytes_of (pick (is_key c s) (facts (calls l (opened l a) cs).1).queue) ≡ bytes_of (pick (is_key c s) (facts (calls m (opened m b) ds).1).queue)
    → seen (call l (calls l (opened l a) cs).1 (dry_run c s)).0 ≡ seen (call m (calls m (opened m b) ds).1 (dry_run c s)).0
settled l m a b d cs ds e c s h k same =
    let v : a ≡ b = cc in
    let w : states.history l (opened l a) cs ≡ states.history m (opened m b) ds = cc in
    rw (← v) (states.same-dry_runs l m a d cs ds (rw (← v) at w) c s h (rw (← v) at k) (rw (← v) at same))

module _ {l : Limits} (x : Trace l) (c s : ℕ) where
  -- on the areas after a trace
  told : (k : Call) → (act l k (areas x)).0 ≡ (call l (last x) k).0
  told k =
      ap (λ (a : Areas). (act l k a).0) (areas-print x)
      ∙ ap (λ (r : Answer × Areas). r.0) (act-print l x.sane k (last x) (last-shaped x))

  -- an answer that is none of the refusals tells that the call was taken
  accepted : taken (act l (dry_run c s) (areas x)).0 ≡ true → refusal l (facts (last x)) (dry_run c s) ≡ 0
  unfolding call
  accepted e = by (refusal l (facts (last x)) (dry_run c s)) (ap taken (sym (told (dry_run c s))) ∙ e)
    where
      by : (k : ℕ) → taken (judged (last x) (perform l (last x) (dry_run c s)) k).0 ≡ true → k ≡ 0
      by zero h = refl
      by (suc k) h = absurd (true≢false (sym h))

  -- the body that Show body shows is the one that is tried
  body-shown : taken (act l (dry_run c s) (areas x)).0 ≡ true → bytes_in (act l (show_body c s) (areas x)).0 ≡ bytes_of (pick (is_key c s) (facts (last x)).queue)
  unfolding refusal causes
  body-shown e =
      ap (λ (a : Areas). bytes_in (act l (show_body c s) a).0) (areas-print x)
      ∙ shows l x.sane (last x) (last-shaped x) c s (accepted e)

-- Dispatch may ask any replica: after equal final deliveries a key that is pending with the same body gets the same answer, kept or run again aside.
pub dry_runs_agree : {l m : Limits} (x : Trace l) (y : Trace m) → history x ≡ history y → (c s : ℕ)
    → taken (act l (dry_run c s) (areas x)).0 ≡ true → taken (act m (dry_run c s) (areas y)).0 ≡ true
    → (act l (show_body c s) (areas x)).0 ≡ (act m (show_body c s) (areas y)).0
    → seen (act l (dry_run c s) (areas x)).0 ≡ seen (act m (dry_run c s) (areas y)).0
dry_runs_agree {l} {m} x y e c s h k same =
    let bodies = sym (body-shown x c s h) ∙ ap bytes_in same ∙ body-shown y c s k in
    let histories = sym (history-same x) ∙ e ∙ history-same y in
    ap seen (told x c s (dry_run c s))
    ∙ settled l m (start_of x.opening) (start_of y.opening) (dated x) x.later y.later histories c s (accepted x c s h) (accepted y c s k) bodies
    ∙ sym (ap seen (told y c s (dry_run c s)))
