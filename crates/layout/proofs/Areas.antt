-- Demand 3 on the areas: lists of `act`, the function that the public contracts cite. Assumes nothing.
use Rattle.std.specs.Prelude.{◌≡◌, Bool, cond, ℤ}
use Rattle.std.proofs.Math.Path.{refl}
use Rattle.std.proofs.Common.{sym, ap, ◌∙◌, arith}
use Rattle.std.proofs.Math.Bool.{true, false}
use mathlib.Core.List.{List, [], ◌∷◌, map}
use Prim.Native.Nat.{ℕ, zero, suc}
use Rattle.cells.specs.Cells.{Below}
use Rattle.model.specs.declared.Limits.{Limits}
use Rattle.model.specs.Interface.{Opening, by_values, Query, Call, opening, update, query, Yield, Answer, refused, yielded}
use Rattle.model.specs.Lists.{all₂}
use Rattle.model.specs.Calls.{done, seen, miscounted, bounds_from, starts_inside, Facts, refusal, judged}
use Rattle.model.specs.Start.{start_of}
use Rattle.model.specs.Serial as serial
use Rattle.model.specs.Serial.{Serial}
use Rattle.model.specs.Replica.{Replica, committed_objects, facts, perform, opened, call, calls}
use Rattle.model.specs.ListLaws.{All}
use Rattle.model.proofs.Refusals.{opening-judged, opening-accepted}
use Rattle.model.proofs.Queries.{query-same}
use Rattle.model.specs.ShapeCheck.{shaped}
use Rattle.model.proofs.ShapeKept.{Typed, call-shaped, opening-shaped}
use Rattle.model.proofs.Serializability.{Serializable, demand_3-on_states}
use Rattle.layout.specs.Layout.{Areas, parse, print, lengths}
use Rattle.layout.specs.Offsets.{Sane}
use Rattle.layout.specs.Fit.{fit}
use Rattle.layout.proofs.FitLaws.{fit-says, fit-back, parse-print, fit-print}
use Rattle.layout.specs.Act.{asked, unfit, printed, act, acts}

-- ---- a refusal leaves the areas as they are, whatever they are

module _ (l : Limits) (c : Call) (a : Areas) where
  pub act-unfit : asked l c a ≡ false → act l c a ≡ (unfit c, a)
  unfolding act
  act-unfit e = rw e

  pub act-refused : (k : ℕ) → asked l c a ≡ true → refusal l (facts (parse l a)) c ≡ suc k → act l c a ≡ (refused (suc k), a)
  unfolding act
  act-refused k e f = rw (e, f)

  pub act-accepted : asked l c a ≡ true → refusal l (facts (parse l a)) c ≡ 0 → act l c a ≡ (yielded (perform l (parse l a) c).0, print l (perform l (parse l a) c).1)
  unfolding act
  act-accepted e f = rw (e, f)

not_done : (k : ℕ) → refused k ≡ done → ⊥
not_done k e = let z : ◌≡◌ {A = ℕ} 0 1 = cc in omega arith

-- ---- areas that pass the check: the model's call

-- "(except at opening)": whatever they hold, an opening looks at the lengths alone
opening-asked : (l : Limits) (o : Opening) (a : Areas) → asked l (opening o) a ≡ lengths l a
opening-asked l o a = refl

fit-asked : (l : Limits) (c : Call) (a : Areas) → fit l a ≡ true → asked l c a ≡ true
fit-asked l (opening o) a f = opening-asked l o a ∙ (fit-says l a f).lengths
fit-asked l (update c) a f = f
fit-asked l (query q) a f = f

-- judged on the areas or on the replica: the same
judged-print : (l : Limits) (u : Replica) (r : Yield × Replica) (k : ℕ) → judged (print l u) (printed l r) k ≡ printed l (judged u r k)
judged-print l u r zero = refl
judged-print l u r (suc k) = refl

act-call : (l : Limits) (c : Call) (a : Areas) → fit l a ≡ true → print l (parse l a) ≡ a → act l c a ≡ printed l (call l (parse l a) c)
unfolding act call
act-call l c a f e =
    rw (fit-asked l c a f)
    (ap (λ (x : Areas). judged x (printed l (perform l (parse l a) c)) (refusal l (facts (parse l a)) c)) (sym e)
    ∙ judged-print l (parse l a) (perform l (parse l a) c) (refusal l (facts (parse l a)) c))

module _ (l : Limits) (s : Sane l) where
  -- on any areas that pass the check
  pub act-fit : (c : Call) (a : Areas) → Below 256 a.0 → fit l a ≡ true → act l c a ≡ printed l (call l (parse l a) c)
  act-fit c a x f = act-call l c a f (fit-back l s a x f)

  -- on the areas of a shaped replica
  pub act-print : (c : Call) (u : Replica) → shaped l u ≡ true → act l c (print l u) ≡ printed l (call l u c)
  act-print c u e =
      let p = parse-print l s u e in
      act-call l c (print l u) (fit-print l s u e) (ap (print l) p) ∙ ap (λ (v : Replica). printed l (call l v c)) p

  -- a query leaves both areas as they are, whatever they are
  pub act-query : (q : Query) (a : Areas) → Below 256 a.0 → (act l (query q) a).1 ≡ a
  act-query q a x = go' (fit l a) refl
    where
      go' : (b : Bool) → fit l a ≡ b → (act l (query q) a).1 ≡ a
      go' true f =
          ap (λ (r : Answer × Areas). r.1) (act-fit (query q) a x f)
          ∙ ap (print l) (query-same l (parse l a) q)
          ∙ fit-back l s a x f
      go' false f = ap (λ (r : Answer × Areas). r.1) (act-unfit l (query q) a f)

  -- ---- lists of calls

  pub acts-print : (cs : List Call) (u : Replica) → shaped l u ≡ true → All Typed cs → acts l cs (print l u) ≡ ((calls l u cs).0, print l (calls l u cs).1)
  unfolding acts calls
  acts-print [] u e g = refl
  acts-print (c ∷ cs) u e g =
      rw (act-print c u e, acts-print cs (call l u c).1 (call-shaped l u c g.0 e) g.1)

  pub calls-shaped : (cs : List Call) (u : Replica) → shaped l u ≡ true → All Typed cs → shaped l (calls l u cs).1 ≡ true
  unfolding calls
  calls-shaped [] u e g = e
  calls-shaped (c ∷ cs) u e g = calls-shaped cs (call l u c).1 (call-shaped l u c g.0 e) g.1

  -- ---- an opening that is accepted on areas with any contents

  -- an opening by values within the limits is accepted on areas of the right lengths
  pub opening-done : (n : ℕ) (vs los his : List ℤ) (t : ℕ) (a : Areas) → lengths l a ≡ true → miscounted l n vs los his ≡ false → all₂ starts_inside (bounds_from los his) vs ≡ true
      → (act l (opening (by_values n vs los his t)) a).0 ≡ done
  unfolding act perform
  opening-done n vs los his t a h e k = rw (h, opening-accepted l (facts (parse l a)) n vs los his t e k)

  module _ (o : Opening) (a : Areas) (ok : (act l (opening o) a).0 ≡ done) where
    abbrev pub begun : Replica
    begun = opened l (start_of o)

    -- it is accepted there alone, and whether it is refused does not depend on what a replica holds
    pub accepted : (lengths l a ≡ true) × ((f : Facts) → refusal l f (opening o) ≡ 0)
    unfolding act
    accepted = go' (lengths l a) (refusal l (facts (parse l a)) (opening o)) refl refl ok
      where
        go' : (b : Bool) (k : ℕ) → lengths l a ≡ b → refusal l (facts (parse l a)) (opening o) ≡ k
            → (cond b (judged a (printed l (perform l (parse l a) (opening o))) k) (unfit (opening o), a)).0 ≡ done → (lengths l a ≡ true) × ((f : Facts) → refusal l f (opening o) ≡ 0)
        go' true zero h e y = (h, λ f. opening-judged l f (facts (parse l a)) o ∙ e)
        go' true (suc k) h e y = absurd (not_done (suc k) y)
        go' false k h e y = absurd (not_done 1 y)

    pub act-open : act l (opening o) a ≡ (done, print l begun)
    unfolding act perform
    act-open = rw (accepted.0, accepted.1 (facts (parse l a)))

    module _ (typed : Typed (opening o)) (cs : List Call) (g : All Typed cs) where
      pub start : shaped l begun ≡ true
      start = opening-shaped l (facts (parse l a)) o typed (accepted.1 (facts (parse l a)))

      pub acts-open : acts l (opening o ∷ cs) a ≡ (done ∷ (calls l begun cs).0, print l (calls l begun cs).1)
      unfolding acts
      acts-open = rw (act-open, acts-print cs begun start g)

      calls-open : (u : Replica) → calls l u (opening o ∷ cs) ≡ (done ∷ (calls l begun cs).0, (calls l begun cs).1)
      unfolding calls call perform
      calls-open u = rw (accepted.1 (facts u))

      -- the list on the areas is the list on the model, whatever replica the model starts from
      pub acts-calls : (u : Replica) → acts l (opening o ∷ cs) a ≡ ((calls l u (opening o ∷ cs)).0, print l (calls l u (opening o ∷ cs)).1)
      acts-calls u = acts-open ∙ sym (ap (λ (r : List Answer × Replica). (r.0, print l r.1)) (calls-open u))

      pub acts-parse : (u : Replica) → parse l (acts l (opening o ∷ cs) a).1 ≡ (calls l u (opening o ∷ cs)).1
      acts-parse u =
          ap (λ (r : List Answer × Areas). parse l r.1) acts-open
          ∙ parse-print l s (calls l begun cs).1 (calls-shaped cs begun start g)
          ∙ sym (ap (λ (r : List Answer × Replica). r.1) (calls-open u))

      -- the areas after the list pass the check
      pub acts-fit : fit l (acts l (opening o ∷ cs) a).1 ≡ true
      acts-fit =
          ap (λ (r : List Answer × Areas). fit l r.1) acts-open ∙ fit-print l s (calls l begun cs).1 (calls-shaped cs begun start g)

      -- DEMAND 3 on the areas: the answers of every list that starts with an accepted opening, on areas with any contents, and the committed
      -- table that the areas say after it, are the serial table's, whatever the serial table was before
      pub serializable-on_areas : (p : Serial) → Serializable ((acts l (opening o ∷ cs) a).0, parse l (acts l (opening o ∷ cs) a).1) (serial.calls l p (opening o ∷ cs))
      serializable-on_areas p =
          let d = demand_3-on_states l o cs begun p (accepted.1 (facts begun)) in
          let e = acts-parse begun in
          record {
            answers = ap (λ (r : List Answer × Areas). map seen r.0) (acts-calls begun) ∙ d.answers;
            objects = ap committed_objects e ∙ d.objects;
            timestamp = ap (λ (v : Replica). v.timestamp) e ∙ d.timestamp;
          }
