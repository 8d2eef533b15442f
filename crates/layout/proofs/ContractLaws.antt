-- What follows from `specs/Contract`. Assumes nothing.
use Rattle.std.specs.Prelude.{◌≡◌, true, false, List, map, ℕ}
use Rattle.std.proofs.Common.{sym, ap, ◌∙◌}
use Rattle.cells.specs.Cells.{Below}
use Rattle.model.specs.declared.Limits.{Limits}
use Rattle.model.specs.Calls.{Call, Query, query, Answer}
use Rattle.model.specs.Replica.{Replica, call}
use Rattle.model.proofs.Queries.{query-same}
use Rattle.model.specs.Shape.{Shape}
use Rattle.layout.specs.Layout.{Areas, parse, print, body_of}
use Rattle.layout.specs.Offsets.{Sane}
use Rattle.layout.specs.Holds.{Holds}
use Rattle.layout.proofs.HoldsLaws.{holds-print}
use Rattle.layout.proofs.Bodies.{same-bodies}
use Rattle.layout.specs.Fit.{fit}
use Rattle.layout.proofs.FitLaws.{fit-back, fit-holds, fit-bodies, fit-shape}
use Rattle.layout.specs.Act.{asked, unfit, act}
use Rattle.layout.proofs.Areas.{act-unfit, act-fit}
use Rattle.layout.specs.Contract.{Met, Passed, HoldsShaped, MetBeside, Answered}

pub met_by : {l : Limits} {c : Call} {a b : Areas} {r : Answer} → (r ≡ (act l c a).0) × (b ≡ (act l c a).1) → Met l c a r b
met_by e = record { answers = e.0; areas = e.1 }

-- areas that fail the check: 1, and nothing changes
pub met-unfit : (l : Limits) (c : Call) (a : Areas) → asked l c a ≡ false → Met l c a (unfit c) a
met-unfit l c a e =
    let k = act-unfit l c a e in
    record { answers = sym (ap (λ (x : Answer × Areas). x.0) k); areas = sym (ap (λ (x : Answer × Areas). x.1) k) }

module _ (l : Limits) (s : Sane l) (a : Areas) (x : Below 256 a.0) (f : fit l a ≡ true) where
  pub passed : Passed l a
  passed = record { holds = fit-holds l s a x f; bodies = fit-bodies l s a x f; shape = fit-shape l a f }

  -- the record area b holds the replica after the call, and the call leaves the bodies alone
  pub met-record : (c : Call) (b : List ℕ) (r : Answer) → map body_of (call l (parse l a) c).1.pending ≡ map body_of (parse l a).pending
      → r ≡ (call l (parse l a) c).0 → Holds l b (call l (parse l a) c).1 → Met l c a r (b, a.1)
  met-record c b r e p h =
      let k = act-fit l s c a x f in
      let v = (call l (parse l a) c).1 in
      record {
        answers = p ∙ sym (ap (λ (y : Answer × Areas). y.0) k);
        areas = holds-print l b a.1 v h (same-bodies l s a.1 (parse l a) passed.bodies v h.fits e) ∙ sym (ap (λ (y : Answer × Areas). y.1) k);
      }

  -- a call that changes nothing
  pub met-same : (c : Call) (r : Answer) → (call l (parse l a) c).1 ≡ parse l a → r ≡ (act l c a).0 → Met l c a r a
  met-same c r e p =
      record { answers = p; areas = sym (ap (λ (y : Answer × Areas). y.1) (act-fit l s c a x f) ∙ ap (print l) e ∙ fit-back l s a x f) }

  -- a query changes nothing
  pub met-query : (q : Query) (r : Answer) → r ≡ (act l (query q) a).0 → Met l (query q) a r a
  met-query q r = met-same (query q) r (query-same l (parse l a) q)

module _ (l : Limits) (s : Sane l) (a : Areas) (x : Below 256 a.0) (f : fit l a ≡ true) where
  pub holds-shaped : HoldsShaped l a.0
  holds-shaped = let q = passed l s a x f in record { bytes = x; replica = parse l a; holds = q.holds; shape = q.shape }

-- a call that leaves the bodies alone, by what it does to each shaped replica that the area may hold
pub met-beside : (l : Limits) → Sane l → (c : Call) (b : List ℕ) → Below 256 b → (b' : List ℕ) (r : Answer) → ((u : Replica) → map body_of (call l u c).1.pending ≡ map body_of u.pending)
    → ((u : Replica) → Holds l b u → Shape l u → Answered l c u b' r) → MetBeside l c b b' r
met-beside l s c b x b' r e k bodies f =
    let a : Areas = (b, bodies) in
    let q = passed l s a x f in
    let w = k (parse l a) q.holds q.shape in
    met-record l s a x f c b' r (e (parse l a)) w.answer w.after
