-- The starred cases of document 01, "A small depot", on real areas of the standard limits. Assumes nothing.
use Rattle.std.specs.Prelude.{◌≡◌, refl, true, ℤ, length}
use Rattle.std.proofs.Common.{ap, ◌∙◌, arith}
use Rattle.std.proofs.Math.Path.{ap₂}
use mathlib.Core.List.{List, [], ◌∷◌, map}
use Rattle.arith.specs.Integer.{fits}
use Rattle.execution.proofs.ReadAgreement.{both}
use Rattle.model.specs.Lists.{all}
use Rattle.model.specs.Calls.{plain, opening, Answer, done}
use Rattle.model.specs.Replica.{Replica, newest}
use Rattle.model.specs.Limits.{standard}
use Rattle.model.specs.ListLaws.{All}
use Rattle.model.specs.Cases.{Case, outcome, cases, expected}
use Rattle.model.proofs.CasesLaws.{cases-hold}
use Rattle.layout.specs.Layout.{Areas, parse}
use Rattle.layout.specs.Act.{acts}
use Rattle.agreement.proofs.TraceLaws.{answers-same, replica-same}
use Rattle.agreement.proofs.CaseTrace.{Small, trace}

-- the answers, the opening's first, and the committed values that the areas say after the last
unfoldable pub outcome_on : Areas → Case → List Answer × List ℤ
outcome_on a x =
    let r : List Answer × Areas = acts standard (opening (plain x.0 0) ∷ x.1) a in
    (r.0, map (λ vs. (newest vs).value) (parse standard r.1).objects)

abbrev pub opened_first : List Answer × List ℤ → List Answer × List ℤ
opened_first r = (done ∷ r.0, r.1)

-- ---- an opening that is accepted, and arguments that the code's types can hold

all_small : All Small cases
unfolding cases
all_small = (omega arith, (omega arith, (omega arith, (omega arith, omega arith))))

all_fit : all (λ (x : Case). all fits x.0) cases ≡ true
unfolding cases fits
all_fit = refl

module _ (a : Areas) (e : length a.0 ≡ 30160) (f : length a.1 ≡ 5664) where
  same_outcome : (x : Case) → Small x → all fits x.0 ≡ true → outcome_on a x ≡ opened_first (outcome x)
  unfolding outcome_on outcome trace
  same_outcome x h v =
      ap₂ (λ (r : List Answer) (u : Replica). (r, map (λ vs. (newest vs).value) u.objects)) (answers-same (trace a e f x h v)) (replica-same (trace a e f x h v))

  same-outcomes : (xs : List Case) → All Small xs → all (λ (x : Case). all fits x.0) xs ≡ true → map (outcome_on a) xs ≡ map opened_first (map outcome xs)
  same-outcomes [] h v = refl
  same-outcomes (x ∷ xs) h v =
      let k = both (all fits x.0) (all (λ (x : Case). all fits x.0) xs) v in
      ap₂ ◌∷◌ (same_outcome x h.0 k.0) (same-outcomes xs h.1 k.1)

-- STARRED CASES 1 to 8, on areas of 30,160 and 5,664 bytes with any contents: each opened and called as the paper says, the answers and the committed
-- values after the last are those that it prints
pub cases-on_areas : (a : Areas) → length a.0 ≡ 30160 → length a.1 ≡ 5664 → map (outcome_on a) cases ≡ map opened_first expected
cases-on_areas a e f = same-outcomes a e f cases all_small all_fit ∙ ap (map opened_first) cases-hold
