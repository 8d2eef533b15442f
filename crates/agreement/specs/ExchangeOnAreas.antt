-- S-14 of document 02, for planners, on the two lent areas: after any list of calls, pending transactions that may change places. Assumes nothing.
use Rattle.std.specs.Prelude.{◌≡◌, true, ◌&&◌, ℤ}
use mathlib.Core.List.{List, [], ◌∷◌, map, reverse}
use Rattle.model.specs.declared.Limits.{Limits}
use Rattle.model.specs.Lists.{all}
use Rattle.model.specs.Interface.{Answer}
use Rattle.model.specs.Calls.{Call}
use Rattle.model.specs.ListLaws.{All}
use Rattle.model.proofs.ShapeKept.{Typed}
use Rattle.model.specs.Exchange.{Key, deliveries, alone, same_answer, answer_of, newest_values}
use Rattle.layout.specs.Layout.{Areas, parse}
use Rattle.layout.specs.Act.{acts}
use Rattle.agreement.specs.Trace.{taken}

-- the newest values that the areas say
abbrev pub values_on : Limits → Areas → List ℤ
values_on l a = newest_values (parse l a)

-- final deliveries one directly after the other: what they answer, and the areas after them
abbrev pub delivered_on : Limits → Areas → List Key → List Answer × Areas
delivered_on l a ks = acts l (deliveries ks) a

-- Later calls on either areas: each is accepted or refused alike, final deliveries have the same outcomes, and the newest values are the same after them.
pub record SameLater (l : Limits) (a b : Areas) (cs : List Call) : Type 0 where
  pub answers : map same_answer (acts l cs a).0 ≡ map same_answer (acts l cs b).0
  pub values : values_on l (acts l cs a).1 ≡ values_on l (acts l cs b).1

abbrev pub AlikeLater : Limits → Areas → Areas → Type 0
AlikeLater l a b = (cs : List Call) → All Typed cs → SameLater l a b cs

pub record Exchanged (l : Limits) (a : Areas) (j k : Key) : Type 0 where
  -- in either order both are accepted;
  pub accepted : all taken (delivered_on l a (j ∷ k ∷ [])).0 && all taken (delivered_on l a (k ∷ j ∷ [])).0 ≡ true
  -- "exchanging them gives the same two outcomes
  pub outcomes : map same_answer (delivered_on l a (j ∷ k ∷ [])).0 ≡ reverse (map same_answer (delivered_on l a (k ∷ j ∷ [])).0)
  -- and the same newest values"
  pub values : values_on l (delivered_on l a (j ∷ k ∷ [])).1 ≡ values_on l (delivered_on l a (k ∷ j ∷ [])).1
  -- and so on in the list, whatever calls come after
  pub later : AlikeLater l (delivered_on l a (j ∷ k ∷ [])).1 (delivered_on l a (k ∷ j ∷ [])).1

-- Of any number: each is accepted, and answers what its run on the table before them all gives.
pub record AsAlone (l : Limits) (a : Areas) (ks : List Key) : Type 0 where
  pub accepted : all taken (delivered_on l a ks).0 ≡ true
  pub outcomes : map same_answer (delivered_on l a ks).0 ≡ map (λ k. answer_of (alone (parse l a) k)) ks

-- in two orders
pub record Reordered (l : Limits) (a : Areas) (ks ms : List Key) : Type 0 where
  pub first : AsAlone l a ks
  pub second : AsAlone l a ms
  pub values : values_on l (delivered_on l a ks).1 ≡ values_on l (delivered_on l a ms).1
  pub later : AlikeLater l (delivered_on l a ks).1 (delivered_on l a ms).1
