-- Each answer is Find's on the replica that the areas hold.
use Rattle.std.proofs.Common.{◌<◌, ◌∙◌, ap, arith, Some}
use Rattle.std.proofs.lemmas.Result.{err_from_is_err_and}
use Rattle.operation.specs.Body.{body_length}
use Rattle.model.specs.Calls.{Query, clients, found}
use Rattle.layout.specs.Layout.{Areas, parse}
use Rattle.layout.specs.Contract.{Passed}
use Rattle.layout.proofs.OffsetLaws.{body-room}
use Rattle.layout.proofs.HoldsLaws.{bodies-long}
use Rattle.layout.proofs.ContractLaws.{passed, met-query}
use Rattle.layout.proofs.PrintableLaws.{few_pending}
use Rattle.queue.specs.Place.{Stands, found-there, found-nowhere}
use Rattle.queue.specs.Found.{find-3, find-8, find-found}
use Rattle.queue.proofs.find.Goals as goal
use Rattle.queue.proofs.find.Goals.{Else-client-ge-CLIENTS, In_ok-position}

-- what the areas hold
held : (c : Else-client-ge-CLIENTS) → Passed c.args.l (c.args.records.now, c.args.bodies.now)
held c = passed c.args.l c.requires.supported.sane _ (λ i. (c.type_inv.records i).fits) c.requires.bodies_value

-- where the transaction stands
stands : (c : In_ok-position) → Passed c.args.l (c.args.records.now, c.args.bodies.now) → (let s = c.args in Stands s.client s.sequence (parse s.l (s.records.now, s.bodies.now)) (Some c.in_ok-position.position))
stands c k = found-there c.locate-place.ensures c.in_ok-position.ensures.ok_part _ k.holds

low : (c : In_ok-position) → Passed c.args.l (c.args.records.now, c.args.bodies.now) → c.in_ok-position.position.0 < c.args.l.pending
low c k = omega (arith, (stands c k).1, few_pending c.args.l _ k.holds.fits)

pub returns-then-client-ge-CLIENTS : goal.returns-then-client-ge-CLIENTS
unfolding clients
returns-then-client-ge-CLIENTS c =
    let s = c.args in
    let a : Areas = (s.records.now, s.bodies.now) in
    met-query s.l c.requires.supported.sane a (λ i. (c.type_inv.records i).fits) c.requires.bodies_value (Query.find s.client s.sequence) _
    (find-3 s.l a c.requires.bodies_value s.client s.sequence (omega arith))

pub locate-place-requires-clause-holding : goal.locate-place-requires-clause-holding
locate-place-requires-clause-holding c =
    record { replica = parse c.args.l (c.args.records.now, c.args.bodies.now); holds = (held c).holds }

pub returns-in_err-position : goal.returns-in_err-position
unfolding clients
returns-in_err-position c =
    let s = c.args in
    let k = held (goal.at.returns-in_err-position c).Else-client-ge-CLIENTS in
    let a : Areas = (s.records.now, s.bodies.now) in
    let f = found-nowhere c.locate-place.ensures c.in_err-position.ensures.value in
    let p = err_from_is_err_and c.from_residual.result c.from_residual.ensures.1 in
    rw (p.1, p.2, f.0)
    (met-query s.l c.requires.supported.sane a (λ i. (c.type_inv.records i).fits) c.requires.bodies_value (Query.find s.client s.sequence) _
    (find-8 s.l a c.requires.bodies_value s.client s.sequence (omega arith) (omega (arith, f.1 (parse s.l a) k.holds))))

pub body_at-at-requires-clause-i_le_pending : goal.body_at-at-requires-clause-i_le_pending
body_at-at-requires-clause-i_le_pending c =
    let at = goal.at.body_at-at-requires-clause-i_le_pending c in
    omega (arith, low at.In_ok-position (held at.Else-client-ge-CLIENTS))

pub bounds-bodies-at : goal.bounds-bodies-at
bounds-bodies-at c =
    let s = c.args in
    let at = goal.at.bounds-bodies-at c in
    let k = held at.Else-client-ge-CLIENTS in
    let h = low at.In_ok-position k in
    omega (arith, c.body_at-at.ensures.exact, bodies-long s.l c.requires.supported.sane s.bodies.now _ k.bodies, body-room s.l c.in_ok-position.position.0 h)

pub returns : goal.returns
unfolding clients
returns c =
    let s = c.args in
    let a : Areas = (s.records.now, s.bodies.now) in
    let o = c.requires.supported.sane in
    let f = c.requires.bodies_value in
    let at = goal.at.returns c in
    let k = held at.Else-client-ge-CLIENTS in
    let p = stands at.In_ok-position k in
    met-query s.l o a (λ i. (c.type_inv.records i).fits) f (Query.find s.client s.sequence) _
    (ap (found c.in_ok-position.position.0) (c.body_length-length.ensures ∙ ap body_length c.small.ensures.0)
    ∙ find-found s.l a f s.client s.sequence o k.bodies (omega arith) c.in_ok-position.position.0 c.body_at-at.result p.0 p.1 c.body_at-at.ensures.exact)
