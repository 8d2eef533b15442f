-- What follows from `specs/ContractTrace`. Assumes nothing.
use Rattle.std.specs.Prelude.{◌≡◌, refl, List, ◌∷◌, ℕ}
use Rattle.std.proofs.Common.{sym, ap, ap₂, ◌∙◌}
use Rattle.std.specs.Borrow.{Bor}
use Rattle.cells.specs.Cells.{Below}
use Rattle.model.specs.declared.Limits.{Limits}
use Rattle.model.specs.Calls.{Opening, Call, opening, Query, show_body, Answer, done, body}
use Rattle.model.specs.ListLaws.{All}
use Rattle.model.proofs.ShapeKept.{Typed}
use Rattle.layout.specs.Layout.{Areas}
use Rattle.layout.specs.Offsets.{Sane}
use Rattle.layout.specs.Act.{act, acts}
use Rattle.layout.proofs.Areas.{act-query}
use Rattle.queue.specs.Shown.{Shown}
use Rattle.layout.specs.Contract.{Met}
use Rattle.agreement.specs.Trace.{Trace}
use Rattle.agreement.proofs.AgreementLaws.{demand_3-on_areas}
use Rattle.agreement.specs.ContractTrace.{AllMet, stop, next, Traced}

first-met : {l : Limits} {a z : Areas} {c : Call} {cs : List Call} {r : Answer} {rs : List Answer} → AllMet l a (c ∷ cs) (r ∷ rs) z → (act l c a).0 ≡ r
first-met (next m h) = sym m.answers

-- such a chain is the list by `act`
pub met-acts : {l : Limits} {a z : Areas} {cs : List Call} {rs : List Answer} → AllMet l a cs rs z → acts l cs a ≡ (rs, z)
unfolding acts
met-acts stop = refl
met-acts {l} (next {r = r} {cs = cs} m h) =
    ap₂ (λ (x : Answer) (y : Areas). (x ∷ (acts l cs y).0, (acts l cs y).1)) (sym m.answers) (sym m.areas)
    ∙ ap (λ (w : List Answer × Areas). (r ∷ w.0, w.1)) (met-acts h)

-- what Show body's contract says is `Met` too, with both areas as they were: it is lent them to read
pub shown-met : (l : Limits) → Sane l → (records : List ℕ) (bodies r : Bor (List ℕ)) (c s : ℕ) → Below 256 records → Shown l records bodies r c s
    → Met l (show_body c s) (records, bodies.now) (body r.now) (records, bodies.now)
shown-met l o records bodies r c s x h =
    record { answers = h.answer; areas = sym (act-query l o (Query.show_body c s) (records, bodies.now) x) }

pub demand_3-contract : (l : Limits) → Sane l → (o : Opening) (cs : List Call) (rs : List Answer) (a z : Areas)
    → All Typed (opening o ∷ cs) → AllMet l a (opening o ∷ cs) (done ∷ rs) z → Traced l a (opening o ∷ cs) (done ∷ rs) z
demand_3-contract l s o cs rs a z g h =
    record { trace = x; same_start = refl; same_calls = refl; same_answers = ap (λ (y : List Answer × Areas). y.0) k; same_areas = ap (λ (y : List Answer × Areas). y.1) k; demand_3 = demand_3-on_areas x }
  where
    k : acts l (opening o ∷ cs) a ≡ (done ∷ rs, z)
    k = met-acts h

    x : Trace l
    x = record { sane = s; before = a; opening = o; later = cs; accepted = first-met h; typed = g }
