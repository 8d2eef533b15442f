-- The facts that the turns share, and by the lemmas of `LentAreas` what a turn asks and leaves.
use Rattle.std.proofs.Common.{◌≡◌, ap, ◌∙◌, subst, ℕ, ◌+◌, ◌-◌, ◌≤◌, ◌<◌, length, get_or, Fits, w8, arith, rules}
use Rattle.std.proofs.lemmas.Bool.{not-true, not-false}
use Rattle.cells.specs.Cells.{cells, Below}
use Rattle.operation.specs.Body.{body_length}
use Rattle.model.specs.Calls.{most_work}
use Rattle.layout.specs.Layout.{Areas, parse}
use Rattle.layout.specs.Offsets.{record_length, body_at}
use Rattle.layout.proofs.FitLaws.{fit-says, fit-shape, lengths-say}
use Rattle.speculative_execution.specs.Passing.{Worked}
use Rattle.speculative_execution.specs.LentAreas.{pending-there, low-place, body-inside, begun_first, begun-last, lent-ready, lent-most, lent-next, lent-last}
use Rattle.speculative_execution.proofs.execute_pending.Goals as goal
use Rattle.speculative_execution.proofs.execute_pending.Goals.{Start, After-objects_place-objects, In-loop-i, After-body_length}

-- ---- what is known at the entry, before the loop, in it and before a transaction's turn

lengths : (c : Start) → length c.args.records.now ≡ record_length c.args.l
lengths c =
    let areas : Areas = (c.args.records.now, c.args.bodies.now) in
    (lengths-say c.args.l areas (fit-says c.args.l areas c.requires.fit).lengths).0

-- a byte is a byte
bytes : (c : After-objects_place-objects) → Below 256 c.args.records.now
bytes c i = let h : Fits w8 (get_or c.args.records.now i 0) = search rules in h.fits

-- the number of pending transactions
total : (c : After-objects_place-objects) → (let a = c.args in c.get-pending.result ≡ length (parse a.l (a.records.now, a.bodies.now)).pending)
total c =
    let a = c.args in
    c.get-pending.ensures ∙ ap (λ (n : ℕ). get_or (cells a.records.now) n 0) c.pending_at.ensures.exact
    ∙ pending-there c.requires.sane a.records.now a.bodies.now c.requires.fit (bytes c)

-- what is known before the loop is known in it
abbrev outside : In-loop-i → After-objects_place-objects
outside c = (goal.at.row_at-row-requires-clause-i_le_pending c).After-objects_place-objects

-- a turn's transaction is a pending one
turn : (c : In-loop-i) → (let a = c.args in c.loop-i.i < length (parse a.l (a.records.now, a.bodies.now)).pending)
turn c = omega (arith, total (outside c))

place : (c : In-loop-i) → c.loop-i.i < c.args.l.pending
place c = low-place c.requires.sane c.args.records.now c.args.bodies.now c.requires.fit (bytes (outside c)) c.loop-i.i (turn c)

-- its body lies in its place
inside : (c : In-loop-i) → (let a = c.args in let at = body_at a.l c.loop-i.i in (at < length a.bodies.now) × (at + body_length (get_or a.bodies.now at 0) ≤ length a.bodies.now))
inside c = body-inside c.requires.sane c.args.records.now c.args.bodies.now c.requires.fit (bytes (outside c)) c.loop-i.i (turn c)

-- the length of the body
body_bytes : (c : After-body_length) → c.body_length.result ≡ body_length (get_or c.args.bodies.now c.body_at-at.result 0)
body_bytes c = c.body_length.ensures ∙ ap body_length c.small.ensures.0

-- ---- the goals

pub get-pending-requires : goal.get-pending-requires
get-pending-requires c = omega (arith, lengths (goal.at.get-pending-requires c).Start)

pub loop-i-init : goal.loop-i-init
loop-i-init c = begun_first c.requires (bytes (goal.at.loop-i-init c).After-objects_place-objects)

pub row_at-row-requires-clause-i_le_pending : goal.row_at-row-requires-clause-i_le_pending
row_at-row-requires-clause-i_le_pending c = omega (arith, place c)

pub row_at-next-requires-clause-i_le_pending : goal.row_at-next-requires-clause-i_le_pending
row_at-next-requires-clause-i_le_pending c = omega (arith, place (goal.at.row_at-next-requires-clause-i_le_pending c).In-loop-i)

pub bounds-bodies-at : goal.bounds-bodies-at
bounds-bodies-at c = omega (arith, (inside (goal.at.bounds-bodies-at c).In-loop-i).0)

pub slice_bounds-advance-end : goal.slice_bounds-advance-end
slice_bounds-advance-end c =
    let e = c.body_at-at.ensures.exact in
    let same = ap (λ (at : ℕ). body_length (get_or c.args.bodies.now at 0)) e in
    omega (arith, e, body_bytes (goal.at.slice_bounds-advance-end c).After-body_length, same, (inside (goal.at.slice_bounds-advance-end c).In-loop-i).1)

pub advance-a-requires : goal.advance-a-requires
advance-a-requires c =
    let t = (goal.at.advance-a-requires c).In-loop-i in
    let next = c.row_at-next.ensures in
    let whole = lengths (goal.at.advance-a-requires c).Start in
    lent-ready c.requires (bytes (outside t)) c.loop-i.invariant (turn t) c.row_at-row.ensures.exact c.row_at-next.ensures.exact c.body_at-at.ensures.exact
    (body_bytes (goal.at.advance-a-requires c).After-body_length) c.objects_place-objects.ensures (omega (arith, next.inside, whole))

pub overflow_sub-left : goal.overflow_sub-left
overflow_sub-left c =
    let t = (goal.at.overflow_sub-left c).In-loop-i in
    lent-most c.requires (bytes (outside t)) c.loop-i.invariant (turn t) c.row_at-row.ensures.exact c.row_at-next.ensures.exact c.body_at-at.ensures.exact
    (body_bytes (goal.at.overflow_sub-left c).After-body_length) c.objects_place-objects.ensures c.advance-a.ensures

-- both counts fit in 32 bits
pub overflow_cast-result : goal.overflow_cast-result
unfolding most_work
overflow_cast-result c = omega (arith, c.requires.allowed)

pub overflow_cast-operations : goal.overflow_cast-operations
unfolding most_work
overflow_cast-operations c = omega (arith, c.requires.allowed)

pub overflow_cast-result-2 : goal.overflow_cast-result-2
overflow_cast-result-2 c =
    let a = c.args in
    omega (arith, total (goal.at.overflow_cast-result-2 c).After-objects_place-objects, (fit-shape a.l (a.records.now, a.bodies.now) c.requires.fit).few_pending, c.requires.sane.pending)

pub returns-then-not-a : goal.returns-then-not-a
returns-then-not-a c =
    let t = (goal.at.returns-then-not-a c).In-loop-i in
    lent-last c.requires (bytes (outside t)) c.loop-i.invariant (turn t) c.row_at-row.ensures.exact c.row_at-next.ensures.exact c.body_at-at.ensures.exact
    (body_bytes (goal.at.returns-then-not-a c).After-body_length) c.objects_place-objects.ensures c.advance-a.ensures (not-true _ c.if-not-a.true)

pub loop-i-preserved : goal.loop-i-preserved
loop-i-preserved c =
    let t = (goal.at.loop-i-preserved c).In-loop-i in
    lent-next c.requires (bytes (outside t)) c.loop-i.invariant (turn t) c.row_at-row.ensures.exact c.row_at-next.ensures.exact c.body_at-at.ensures.exact
    (body_bytes (goal.at.loop-i-preserved c).After-body_length) c.objects_place-objects.ensures c.advance-a.ensures (not-false _ c.if-not-a.false) c.advance-a.auto.table

pub returns : goal.returns
returns c =
    let a = c.args in
    let v = c.loop-i in
    let p = (goal.at.returns c).After-objects_place-objects in
    let n : c.get-pending.result ≡ length (parse a.l (a.records.now, a.bodies.now)).pending = total p in
    let all : v.i ≡ c.get-pending.result = omega (arith, v.invariant.within) in
    subst (λ (f : ℕ). Worked a.l (parse a.l (a.records.now, a.bodies.now)) a.budget v.records (a.budget - v.left) f) all
    (begun-last c.requires (bytes p) v.invariant (omega arith))
