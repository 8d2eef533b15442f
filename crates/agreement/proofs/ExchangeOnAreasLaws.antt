-- What follows from `specs/ExchangeOnAreas`. Assumes nothing.
use Rattle.std.specs.Prelude.{◌≡◌, refl, true}
use Rattle.std.proofs.Math.Path.{sym}
use Rattle.std.proofs.Common.{ap, ◌∙◌}
use mathlib.Core.List.Permᴰ
use mathlib.Core.List.{List, [], ◌∷◌, map, reverse}
use Rattle.model.specs.declared.Limits.{Limits}
use Rattle.model.specs.Lists.{all}
use Rattle.model.specs.Interface.{Answer, refused, yielded}
use Rattle.model.specs.Start.{start_of}
use Rattle.model.specs.Calls.{Call}
use Rattle.model.specs.Replica.{Replica, calls}
use Rattle.model.specs.ListLaws.{All}
use Rattle.model.proofs.Invariant.{Invariant, opened-invariant, calls-invariant}
use Rattle.model.specs.ShapeCheck.{shaped}
use Rattle.model.proofs.ShapeCheckLaws.{shaped-says}
use Rattle.model.proofs.ShapeKept.{Typed}
use Rattle.model.specs.Exchange.{Key, deliveries, alone, exchangeable, exchangeable_by_bodies, same_answer, answer_of, newest_values}
use Rattle.model.proofs.Reordering.{Permutation}
use Rattle.model.proofs.ExchangeLaws as states
use Rattle.model.proofs.ExchangeLater.{later-alike}
use Rattle.model.proofs.NamedObjects.{by_bodies}
use Rattle.layout.specs.Layout.{Areas, print}
use Rattle.layout.proofs.FitLaws.{parse-print}
use Rattle.layout.specs.Act.{acts}
use Rattle.layout.proofs.Areas.{acts-print, calls-shaped}
use Rattle.agreement.specs.Trace.{Trace, areas, replica, taken}
use Rattle.agreement.proofs.TraceLaws.{first, dated, last, last-shaped, areas-print, replica-same}
use Rattle.agreement.specs.ExchangeOnAreas.{values_on, delivered_on, Exchanged, AsAlone, Reordered}

all_typed : (ks : List Key) → All Typed (deliveries ks)
all_typed [] = tt
all_typed (k ∷ ks) = (tt, all_typed ks)

-- what is the same in every order tells whether a call was taken
all-taken : (xs : List Answer) → all taken xs ≡ all taken (map same_answer xs)
all-taken [] = refl
all-taken (refused k ∷ xs) = refl
all-taken (yielded y ∷ xs) = all-taken xs

module _ {l : Limits} (x : Trace l) where
  invariant : Invariant l (last x)
  invariant = calls-invariant l x.later (first x) (opened-invariant l (start_of x.opening) (dated x))

  module _ (ks : List Key) where
    abbrev after : Replica
    after = (calls l (last x) (deliveries ks)).1

    invariant_after : Invariant l after
    invariant_after = calls-invariant l (deliveries ks) (last x) invariant

    after-shaped : shaped l after ≡ true
    after-shaped = calls-shaped l x.sane (deliveries ks) (last x) (last-shaped x) (all_typed ks)

    on_states : delivered_on l (areas x) ks ≡ ((calls l (last x) (deliveries ks)).0, print l after)
    on_states =
        ap (acts l (deliveries ks)) (areas-print x)
        ∙ acts-print l x.sane (deliveries ks) (last x) (last-shaped x) (all_typed ks)

    answers-on : map same_answer (delivered_on l (areas x) ks).0 ≡ map same_answer (calls l (last x) (deliveries ks)).0
    answers-on = ap (λ (r : List Answer × Areas). map same_answer r.0) on_states

    -- calls after them
    module _ (cs : List Call) (g : All Typed cs) where
      later-on_states : acts l cs (delivered_on l (areas x) ks).1 ≡ ((calls l after cs).0, print l (calls l after cs).1)
      later-on_states = ap (λ (r : List Answer × Areas). acts l cs r.1) on_states ∙ acts-print l x.sane cs after after-shaped g

      later-answers : map same_answer (acts l cs (delivered_on l (areas x) ks).1).0 ≡ map same_answer (calls l after cs).0
      later-answers = ap (λ (r : List Answer × Areas). map same_answer r.0) later-on_states

      later-values : values_on l (acts l cs (delivered_on l (areas x) ks).1).1 ≡ newest_values (calls l after cs).1
      later-values =
          ap (λ (r : List Answer × Areas). values_on l r.1) later-on_states
          ∙ ap newest_values (parse-print l x.sane (calls l after cs).1 (calls-shaped l x.sane cs after after-shaped g))

    as_alone : map same_answer (calls l (last x) (deliveries ks)).0 ≡ map (λ k. answer_of (alone (last x) k)) ks → AsAlone l (areas x) ks
    as_alone h =
        let outcomes = answers-on ∙ h ∙ ap (λ (u : Replica). map (λ k. answer_of (alone u k)) ks) (sym (replica-same x)) in
        record { accepted = all-taken (delivered_on l (areas x) ks).0 ∙ ap (all taken) outcomes ∙ yields ks; outcomes = outcomes }
      where
        yields : (ks : List Key) → all taken (map (λ k. answer_of (alone (replica x) k)) ks) ≡ true
        yields [] = refl
        yields (k ∷ ks) = yields ks

  -- "This holds for every table and every such pair": for planners who move more than one, too
  pub reorder : (ks ms : List Key) → Permutation ks ms → exchangeable (replica x) ks ≡ true → Reordered l (areas x) ks ms
  unfolding acts calls
  reorder ks ms p e =
      let h = states.reordered l (last x) invariant ((shaped-says l (last x)).0 (last-shaped x)) ks ms p (rw replica-same at e) in
      record {
        first = as_alone ks h.first;
        second = as_alone ms h.second;
        values = later-values ks [] tt ∙ h.after.values ∙ sym (later-values ms [] tt);
        later = λ cs g. (let k = later-alike l cs (after ks) (after ms) (invariant_after ks) (invariant_after ms) h.after in record {
          answers = later-answers ks cs g ∙ k.0 ∙ sym (later-answers ms cs g);
          values = later-values ks cs g ∙ k.1.values ∙ sym (later-values ms cs g);
        });
      }

  -- S-14
  pub exchange : (j k : Key) → exchangeable (replica x) (j ∷ k ∷ []) ≡ true → Exchanged l (areas x) j k
  exchange j k e =
      let h = reorder (j ∷ k ∷ []) (k ∷ j ∷ []) (Permᴰ.swap refl refl) e in
      record {
        accepted = rw (h.first.accepted, h.second.accepted);
        outcomes = h.first.outcomes ∙ sym (ap reverse h.second.outcomes);
        values = h.values;
        later = h.later;
      }

  -- Told by the bodies alone: no store of one is of an object that another loads or stores.
  pub reorder_by_bodies : (ks ms : List Key) → Permutation ks ms → exchangeable_by_bodies (replica x) ks ≡ true → Reordered l (areas x) ks ms
  reorder_by_bodies ks ms p e = reorder ks ms p (by_bodies (replica x) ks e)

  pub exchange-by_bodies : (j k : Key) → exchangeable_by_bodies (replica x) (j ∷ k ∷ []) ≡ true → Exchanged l (areas x) j k
  exchange-by_bodies j k e = exchange j k (by_bodies (replica x) (j ∷ k ∷ []) e)
