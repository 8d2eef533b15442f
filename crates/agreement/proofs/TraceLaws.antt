-- A trace on the areas is the list of calls on states, and its history is that list's. Assumes nothing.
use Rattle.std.proofs.Math.Path.{◌≡◌, refl, sym, ap, ap₂}
use Rattle.std.proofs.Common.{◌∙◌, arith, eq-eqb}
use Rattle.std.specs.Prelude.{true, false, ℤ, length, get_or}
use Rattle.std.proofs.Math.Bool.{cond}
use mathlib.Core.List.{List, [], ◌∷◌, ◌++◌}
use Prim.Native.Nat.{ℕ, zero, suc, ◌≤◌, ◌<◌}
use Rattle.model.specs.declared.Limits.{Limits}
use Rattle.model.specs.Lists.{pick, any}
use Rattle.model.specs.Interface.{optimistic, execute, final, open_reader, close_reader, read, find, show_body, Call, opening, update, query, Answer}
use Rattle.model.specs.Calls.{plain, done, version, is_key, bytes_of, shown, causes, refusal, judged}
use Rattle.model.specs.Start.{start_of}
use Rattle.model.specs.Replica.{Replica, newest, keyed, facts, opened, perform, call, calls}
use Rattle.model.specs.ListLaws.{All}
use Rattle.model.proofs.Refusals.{accepted, plain-counted, plain-inside}
use Rattle.model.proofs.VersionLaws.{opening-dated}
use Rattle.model.specs.VersionLaws.{Dated}
use Rattle.model.proofs.Correspondence.{picked-bytes}
use Rattle.model.specs.ShapeCheck.{shaped}
use Rattle.model.proofs.ShapeKept.{Typed, call-shaped}
use Rattle.model.proofs.Replicas as states
use Rattle.model.proofs.Replicas.{reopening, delivery, if_accepted, SameCommits}
use Rattle.model.proofs.ReaderSnapshots.{ends}
use Rattle.model.proofs.ReaderViews.{reader-snapshot}
use Rattle.layout.specs.Layout.{Areas, parse, print, lengths}
use Rattle.layout.specs.Offsets.{Sane, record_length, bodies_length}
use Rattle.layout.specs.Fields.{sizes}
use Rattle.layout.proofs.FitLaws.{parse-print}
use Rattle.layout.specs.Act.{act, acts}
use Rattle.layout.proofs.Areas.{act-print, acts-print, calls-shaped, opening-done, accepted as accepted-anywhere, act-open, start as opened-shaped, acts-open}
use Rattle.agreement.specs.Trace.{Trace, list, answers, areas, replica, taken, bytes_in, event, history_from, history}

-- ---- the history on the areas of a shaped replica

-- Find refuses no key that a final delivery takes
found-too : (l : Limits) (u : Replica) (c s : ℕ) → refusal l (facts u) (update (final c s)) ≡ 0 → refusal l (facts u) (query (find c s)) ≡ 0
unfolding refusal causes
found-too l u c s e =
    let k = accepted l (facts u) (update (final c s)) e in rw (k.0, k.1.1.0)

module _ (l : Limits) (s : Sane l) (u : Replica) (e : shaped l u ≡ true) where
  -- so Show body shows the body that is delivered
  pub shows : (c q : ℕ) → refusal l (facts u) (update (final c q)) ≡ 0 → bytes_in (act l (query (show_body c q)) (print l u)).0 ≡ bytes_of (pick (is_key c q) (facts u).queue)
  unfolding call perform facts refusal causes
  shows c q k =
      ap (λ (r : Answer × Areas). bytes_in r.0) (act-print l s (query (show_body c q)) u e)
      ∙ ap (shown (keyed u c q).sent.bytes) (found-too l u c q k)
      ∙ sym (picked-bytes (is_key c q) u.pending)

  event-same : (c : Call) → refusal l (facts u) c ≡ 0 → event l (print l u) c ≡ states.event (facts u) c
  event-same (opening o) k = refl
  event-same (update (optimistic c q b)) k = refl
  event-same (update (execute n)) k = refl
  event-same (update (final c q)) k = ap (λ (b : List ℕ). delivery c q b ∷ []) (shows c q k)
  event-same (update (open_reader r)) k = refl
  event-same (update (close_reader r)) k = refl
  event-same (query q) k = refl

  entry-same : (c : Call) → cond (taken (act l c (print l u)).0) (event l (print l u) c) [] ≡ if_accepted (states.event (facts u) c) (refusal l (facts u) c)
  unfolding call
  entry-same c =
      ap (λ (r : Answer × Areas). cond (taken r.0) (event l (print l u) c) []) (act-print l s c u e)
      ∙ go' (refusal l (facts u) c) refl
    where
      go' : (k : ℕ) → refusal l (facts u) c ≡ k → cond (taken (judged u (perform l u c) k).0) (event l (print l u) c) [] ≡ if_accepted (states.event (facts u) c) k
      go' zero h = event-same c h
      go' (suc k) h = refl

module _ (l : Limits) (s : Sane l) where
  history-print : (cs : List Call) (u : Replica) → shaped l u ≡ true → All Typed cs → history_from l cs (print l u) ≡ states.history l u cs
  unfolding history_from states.history
  history-print [] u e g = refl
  history-print (c ∷ cs) u e g =
      ap₂ ◌++◌ (entry-same l s u e c)
      (ap (λ (r : Answer × Areas). history_from l cs r.1) (act-print l s c u e)
      ∙ history-print cs (call l u c).1 (call-shaped l u c g.0 e) g.1)

-- ---- a trace

pub right-lengths : (l : Limits) (a : Areas) → length a.0 ≡ record_length l → length a.1 ≡ bodies_length l → lengths l a ≡ true
unfolding lengths
right-lengths l a e f =
    rw ((sizes l).2, (sizes l).3, eq-eqb (length a.0) (record_length l) e, eq-eqb (length a.1) (bodies_length l) f)

-- on areas of the right lengths, with any contents, an opening within the limits starts one
abbrev pub trace_on : (l : Limits) → Sane l → (a : Areas) → lengths l a ≡ true → (vs : List ℤ) (t : ℕ) (cs : List Call) → 1 ≤ length vs → length vs ≤ l.objects → All Typed (opening (plain vs t) ∷ cs) → Trace l
trace_on l s a h vs t cs least most g =
    record { sane = s; before = a; opening = plain vs t; later = cs; accepted = opening-done l s (length vs) vs _ _ t a h (plain-counted l vs least most) (plain-inside vs g.0.0); typed = g }

module _ {l : Limits} (x : Trace l) where
  abbrev s : Sane l
  s = x.sane

  abbrev pub first : Replica
  first = opened l (start_of x.opening)

  pub dated : Dated (start_of x.opening)
  dated = opening-dated l (facts first) x.opening ((accepted-anywhere l s x.opening x.before x.accepted).1 (facts first))

  first-shaped : shaped l first ≡ true
  first-shaped =
      opened-shaped l s x.opening x.before x.accepted x.typed.0 x.later x.typed.1

  -- the replica after the list
  abbrev pub last : Replica
  last = (calls l first x.later).1

  pub last-shaped : shaped l last ≡ true
  last-shaped = calls-shaped l s x.later first first-shaped x.typed.1

  -- the list on the areas is the list on states
  on_states : acts l (list x) x.before ≡ (done ∷ (calls l first x.later).0, print l last)
  on_states =
      acts-open l s x.opening x.before x.accepted x.typed.0 x.later x.typed.1

  pub answers-same : answers x ≡ done ∷ (calls l first x.later).0
  answers-same = ap (λ (r : List Answer × Areas). r.0) on_states

  pub areas-print : areas x ≡ print l last
  areas-print = ap (λ (r : List Answer × Areas). r.1) on_states

  pub replica-same : replica x ≡ last
  replica-same = ap (parse l) areas-print ∙ parse-print l s last last-shaped

  pub history-same : history x ≡ reopening (start_of x.opening) ∷ states.history l first x.later
  unfolding history_from
  history-same =
      ap (λ (r : Answer × Areas). cond (taken r.0) (event l x.before (opening x.opening)) [] ++ history_from l x.later r.1)
      (act-open l s x.opening x.before x.accepted)
      ∙ ap (reopening (start_of x.opening) ∷◌) (history-print l s x.later first first-shaped x.typed.1)

  -- ---- a reader

  -- an answer of 0 tells that the call was taken
  pub opens : (r : ℕ) → (act l (update (open_reader r)) (areas x)).0 ≡ done → refusal l (facts last) (update (open_reader r)) ≡ 0
  unfolding call
  opens r e =
      go' (refusal l (facts last) (update (open_reader r)))
      (sym (ap (λ (y : Answer × Areas). y.0) (act-print l s (update (open_reader r)) last last-shaped)) ∙ ap (λ (a : Areas). (act l (update (open_reader r)) a).0) (sym areas-print) ∙ e)
    where
      go' : (k : ℕ) → (judged last (perform l last (update (open_reader r))) k).0 ≡ done → k ≡ 0
      go' zero h = refl
      go' (suc k) h = absurd (let z : ◌≡◌ {A = ℕ} 0 1 = cc in omega arith)

  module _ (r : ℕ) (e : (act l (update (open_reader r)) (areas x)).0 ≡ done) (cs : List Call) (g : All Typed cs) (q : any (ends l r) cs ≡ false) where
    abbrev pub then : Replica
    then = (calls l last (update (open_reader r) ∷ cs)).1

    pub then-shaped : shaped l then ≡ true
    then-shaped = calls-shaped l s (update (open_reader r) ∷ cs) last last-shaped (tt, g)

    pub areas-then : (acts l (update (open_reader r) ∷ cs) (areas x)).1 ≡ print l then
    areas-then =
        ap (λ (a : Areas). (acts l (update (open_reader r) ∷ cs) a).1) areas-print
        ∙ ap (λ (y : List Answer × Areas). y.1) (acts-print l s (update (open_reader r) ∷ cs) last last-shaped (tt, g))

    pub reads-as_opened : (o : ℕ) → o < length (replica x).objects → (act l (query (read r o)) (acts l (update (open_reader r) ∷ cs) (areas x)).1).0 ≡ version (newest (get_or (replica x).objects o []))
    reads-as_opened o h =
        ap (λ (a : Areas). (act l (query (read r o)) a).0) areas-then
        ∙ ap (λ (y : Answer × Areas). y.0) (act-print l s (query (read r o)) then then-shaped)
        ∙ reader-snapshot l (start_of x.opening) dated x.later cs r o (opens r e) q (rw replica-same at h)
        ∙ sym (ap (λ (u : Replica). version (newest (get_or u.objects o []))) replica-same)
