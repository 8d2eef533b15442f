-- Each refusal is the first cause that holds, and what is written holds one transaction more.
use Rattle.std.proofs.Common.{◌≡◌, true, false, ◌≤◌, ◌∙◌, sym, subst, ℕ, arith, rules, length}
use Rattle.cells.specs.Cells.{Below}
use Rattle.operation.specs.Body.{is_well_formed}
use Rattle.operation.proofs.BodyLaws.{formed, taken, refused}
use Rattle.model.specs.Calls.{clients, spent}
use Rattle.layout.specs.Layout.{parse}
use Rattle.layout.specs.Contract.{Passed}
use Rattle.layout.proofs.HoldsLaws.{holds-long, bodies-long}
use Rattle.layout.proofs.Reading.{size-read}
use Rattle.layout.proofs.ContractLaws.{passed, met_by}
use Rattle.queue.specs.Found.{position}
use Rattle.optimistic_delivery.proofs.DeliveredTests.{among, not-among}
use Rattle.optimistic_delivery.proofs.DeliveredLaws.{deliver-3, deliver-4, deliver-5, deliver-6, deliver-7, deliver-0}
use Rattle.optimistic_delivery.proofs.deliver_optimistic.Goals as goal
use Rattle.optimistic_delivery.proofs.deliver_optimistic.Goals.{Start, Else-client-ge-CLIENTS, Else-is_spent, Else-is_some, After-get-objects, In-Some}

-- ---- what the tests say, one after another

-- what the areas hold
held : (c : Else-client-ge-CLIENTS) → Passed c.args.l (c.args.records.now, c.args.bodies.now)
held c =
    let b : Below 256 c.args.records.now = search rules in
    passed c.args.l c.requires.supported.sane (c.args.records.now, c.args.bodies.now) b c.requires.bodies_value

fresh : (c : Else-is_spent) → Passed c.args.l (c.args.records.now, c.args.bodies.now) → (let s = c.args in spent (parse s.l (s.records.now, s.bodies.now)).lasts s.client s.sequence ≡ false)
fresh c k = sym (c.is_spent.ensures.test _ k.holds) ∙ c.if-is_spent.false

absent : (c : Else-is_some) → Passed c.args.l (c.args.records.now, c.args.bodies.now)
    → (let s = c.args in length (parse s.l (s.records.now, s.bodies.now)).pending ≤ position s.l (s.records.now, s.bodies.now) c.requires.bodies_value s.client s.sequence)
absent c k = not-among c.locate-place.ensures (sym c.is_some.ensures ∙ c.if-is_some.false) _ k.holds

objects : (c : After-get-objects) → Passed c.args.l (c.args.records.now, c.args.bodies.now) → c.get-objects.result ≡ length (parse c.args.l (c.args.records.now, c.args.bodies.now)).objects
objects c k = size-read c.args.l c.requires.supported.sane c.args.records.now _ k.holds c.size_at.result c.get-objects.result c.get-objects.ensures c.size_at.ensures.exact

well : (c : In-Some) → (let s = c.args in c.get-objects.result ≡ length (parse s.l (s.records.now, s.bodies.now)).objects)
    → (let s = c.args in is_well_formed s.l.operations (length (parse s.l (s.records.now, s.bodies.now)).objects) s.body.now ≡ true)
well c e =
    subst (λ (n : ℕ). is_well_formed c.args.l.operations n c.args.body.now ≡ true) e
    (taken c.args.l.operations c.get-objects.result _ c.args.body.now (sym c.in-Some.ensures)).0

-- ---- the goals

pub returns-then-client-ge-CLIENTS : goal.returns-then-client-ge-CLIENTS
unfolding clients
returns-then-client-ge-CLIENTS c =
    let s = c.args in
    met_by (deliver-3 s.l (s.records.now, s.bodies.now) c.requires.bodies_value s.client s.sequence s.body.now c.if-client-ge-CLIENTS.true)

pub is_spent-requires-clause-sane : goal.is_spent-requires-clause-sane
unfolding clients
is_spent-requires-clause-sane c = (c.requires.supported.sane, c.if-client-ge-CLIENTS.false)

pub is_spent-requires-clause-holding : goal.is_spent-requires-clause-holding
is_spent-requires-clause-holding c = record { replica = _; holds = (held c).holds }

pub returns-then-is_spent : goal.returns-then-is_spent
unfolding clients
returns-then-is_spent c =
    let s = c.args in
    let k = held (goal.at.returns-then-is_spent c).Else-client-ge-CLIENTS in
    met_by (deliver-4 s.l (s.records.now, s.bodies.now) c.requires.bodies_value s.client s.sequence s.body.now c.if-client-ge-CLIENTS.false (sym (c.is_spent.ensures.test _ k.holds) ∙ c.if-is_spent.true))

pub locate-place-requires-clause-holding : goal.locate-place-requires-clause-holding
locate-place-requires-clause-holding c =
    record { replica = _; holds = (held (goal.at.locate-place-requires-clause-holding c).Else-client-ge-CLIENTS).holds }

pub returns-then-is_some : goal.returns-then-is_some
unfolding clients
returns-then-is_some c =
    let s = c.args in
    let at = goal.at.returns-then-is_some c in
    let k = held at.Else-client-ge-CLIENTS in
    met_by
    (deliver-5 s.l (s.records.now, s.bodies.now) c.requires.bodies_value s.client s.sequence s.body.now c.if-client-ge-CLIENTS.false (fresh at.Else-is_spent k)
    (among c.locate-place.ensures (sym c.is_some.ensures ∙ c.if-is_some.true) _ k.holds))

pub get-objects-requires : goal.get-objects-requires
get-objects-requires c =
    let k = held (goal.at.get-objects-requires c).Else-client-ge-CLIENTS in
    omega (arith, holds-long c.args.l c.requires.supported.sane c.args.records.now _ k.holds)

pub returns-in_default : goal.returns-in_default
unfolding clients
returns-in_default c =
    let s = c.args in
    let at = goal.at.returns-in_default c in
    let k = held at.Else-client-ge-CLIENTS in
    met_by
    (deliver-6 s.l (s.records.now, s.bodies.now) c.requires.bodies_value s.client s.sequence s.body.now c.if-client-ge-CLIENTS.false (fresh at.Else-is_spent k) (absent at.Else-is_some k)
    (subst (λ (n : ℕ). is_well_formed s.l.operations n s.body.now ≡ false) (objects at.After-get-objects k)
    (refused s.l.operations c.get-objects.result s.body.now (sym c.in_default.ensures))))

pub returns-then-l-count : goal.returns-then-l-count
unfolding clients
returns-then-l-count c =
    let s = c.args in
    let at = goal.at.returns-then-l-count c in
    let k = held at.Else-client-ge-CLIENTS in
    met_by
    (deliver-7 s.l (s.records.now, s.bodies.now) c.requires.bodies_value s.client s.sequence s.body.now c.if-client-ge-CLIENTS.false (fresh at.Else-is_spent k) (absent at.Else-is_some k)
    (well at.In-Some (objects at.After-get-objects k)) (omega (arith, c.locate-place.ensures.count _ k.holds)))

pub append-requires-clause-room : goal.append-requires-clause-room
append-requires-clause-room c =
    let s = c.args in
    let at = goal.at.append-requires-clause-room c in
    let k = held at.Else-client-ge-CLIENTS in
    let body = formed s.l.operations _ s.body.now (well at.In-Some (objects at.After-get-objects k)) in
    record {
      records = holds-long s.l c.requires.supported.sane s.records.now _ k.holds;
      bodies = bodies-long s.l c.requires.supported.sane s.bodies.now _ k.bodies;
      free = c.if-l-count.false;
      small = omega (arith, body.whole, body.most);
    }

pub returns : goal.returns
unfolding clients
returns c =
    let s = c.args in
    let at = goal.at.returns c in
    let k = held at.Else-client-ge-CLIENTS in
    let n = c.locate-place.ensures.count _ k.holds in
    met_by
    (deliver-0 s.l (s.records.now, s.bodies.now) c.requires.bodies_value s.client s.sequence s.body.now c.if-client-ge-CLIENTS.false (fresh at.Else-is_spent k) (absent at.Else-is_some k)
    (well at.In-Some (objects at.After-get-objects k)) (omega (arith, n, c.if-l-count.false)) c.requires.supported.sane (omega arith) k.holds k.bodies
    c.locate-place.result.count c.key_cell.result n c.key_cell.ensures c.append.new.records c.append.new.bodies c.append.ensures)
