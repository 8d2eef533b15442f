-- In each arm the block passes its test, and the bounds decide.
use Rattle.std.proofs.Common.{◌≡◌, ◌≤◌, ◌*◌, ◌+◌, Bool, true, ℕ, get_or, take, sym, ap, ◌∙◌, arith}
use Rattle.cells.specs.Cells.{cells}
use Rattle.versions.specs.Block.{block_of, bounds_at, bounds_ok}
use Rattle.shape_block_quick.specs.Quick.{Sound}
use Rattle.shape_bounds.specs.ObjectBounds.{block-part}
use Rattle.shape_versions_quick.specs.ObjectTests.{ObjectSound, object-by}
use Rattle.shape_versions_quick.proofs.object_quick.Goals as goal
use Rattle.shape_versions_quick.proofs.object_quick.Goals.{After-get-count}

-- count is what the block that is lent says
counted : (c : After-get-count) (count : ℕ) → c.get-count.result ≡ count → 1 ≤ count → count ≤ c.args.readers + 1
    → (get_or (block_of c.args.readers (cells c.args.object.now)) 0 0 ≡ count) × (1 ≤ count) × (count ≤ c.args.readers + 1)
counted c count e some room =
    let a = c.args in
    let w = c.width-end in
    (sym (c.get-count.ensures ∙ ap (λ x. get_or x 0 0) (block-part a.readers a.object.now w.result w.ensures)) ∙ e, some, room)

-- a block that passes t, and bounds that b decides
sound : (c : After-get-count) (t b : Bool) → Sound c.args.readers c.args.timestamp c.args.low c.args.d.now.places (take (c.width-end.result * 8) c.args.object.now) t → t ≡ true
    → b ≡ bounds_ok (bounds_at c.args.readers (cells c.args.object.now)) (block_of c.args.readers (cells c.args.object.now))
    → ObjectSound c.args.readers c.args.timestamp c.args.low c.args.d.now.places c.args.object.now b
sound c t b s pass e rc o l ok =
    let a = c.args in
    let w = c.width-end in
    object-by a.readers a.object.now w.result w.ensures a.timestamp rc (s rc o l pass) ∙ sym e ∙ ok

pub bounds_hold-requires-clause-versions : goal.bounds_hold-requires-clause-versions
bounds_hold-requires-clause-versions c = counted (goal.at.bounds_hold-requires-clause-versions c).After-get-count 1 (omega arith) (omega arith) (omega arith)

pub returns-then-single : goal.returns-then-single
returns-then-single c = sound (goal.at.returns-then-single c).After-get-count c.single.result c.bounds_hold.result (c.single.ensures c.args.timestamp c.args.d.now.places) c.if-single.true c.bounds_hold.ensures

pub bounds_hold-requires-then-quick-clause-versions : goal.bounds_hold-requires-then-quick-clause-versions
bounds_hold-requires-then-quick-clause-versions c = counted (goal.at.bounds_hold-requires-then-quick-clause-versions c).After-get-count 2 c.in-2.is (omega arith) (omega arith)

pub returns-then-quick : goal.returns-then-quick
returns-then-quick c = sound (goal.at.returns-then-quick c).After-get-count c.quick.result c.bounds_hold-then-quick.result c.quick.ensures c.if-quick.true c.bounds_hold-then-quick.ensures

pub bounds_hold-requires-then-quick-2-clause-versions : goal.bounds_hold-requires-then-quick-2-clause-versions
bounds_hold-requires-then-quick-2-clause-versions c = counted (goal.at.bounds_hold-requires-then-quick-2-clause-versions c).After-get-count 3 c.in-3.is (omega arith) (omega arith)

pub returns-then-quick-2 : goal.returns-then-quick-2
returns-then-quick-2 c = sound (goal.at.returns-then-quick-2 c).After-get-count c.quick-in-3.result c.bounds_hold-then-quick-2.result c.quick-in-3.ensures c.if-quick-2.true c.bounds_hold-then-quick-2.ensures

pub bounds_hold-requires-then-quick-3-clause-versions : goal.bounds_hold-requires-then-quick-3-clause-versions
bounds_hold-requires-then-quick-3-clause-versions c = counted (goal.at.bounds_hold-requires-then-quick-3-clause-versions c).After-get-count 4 c.in-4.is (omega arith) (omega arith)

pub returns-then-quick-3 : goal.returns-then-quick-3
returns-then-quick-3 c = sound (goal.at.returns-then-quick-3 c).After-get-count c.quick-in-4.result c.bounds_hold-then-quick-3.result c.quick-in-4.ensures c.if-quick-3.true c.bounds_hold-then-quick-3.ensures

pub bounds_hold-requires-then-quick-4-clause-versions : goal.bounds_hold-requires-then-quick-4-clause-versions
bounds_hold-requires-then-quick-4-clause-versions c = counted (goal.at.bounds_hold-requires-then-quick-4-clause-versions c).After-get-count 5 c.in-5.is (omega arith) (omega arith)

pub returns-then-quick-4 : goal.returns-then-quick-4
returns-then-quick-4 c = sound (goal.at.returns-then-quick-4 c).After-get-count c.quick-in-5.result c.bounds_hold-then-quick-4.result c.quick-in-5.ensures c.if-quick-4.true c.bounds_hold-then-quick-4.ensures

pub bounds_hold-requires-then-quick-5-clause-versions : goal.bounds_hold-requires-then-quick-5-clause-versions
bounds_hold-requires-then-quick-5-clause-versions c = counted (goal.at.bounds_hold-requires-then-quick-5-clause-versions c).After-get-count 6 c.in-6.is (omega arith) (omega arith)

pub returns-then-quick-5 : goal.returns-then-quick-5
returns-then-quick-5 c = sound (goal.at.returns-then-quick-5 c).After-get-count c.quick-in-6.result c.bounds_hold-then-quick-5.result c.quick-in-6.ensures c.if-quick-5.true c.bounds_hold-then-quick-5.ensures

pub bounds_hold-requires-then-quick-6-clause-versions : goal.bounds_hold-requires-then-quick-6-clause-versions
bounds_hold-requires-then-quick-6-clause-versions c = counted (goal.at.bounds_hold-requires-then-quick-6-clause-versions c).After-get-count 7 c.in-7.is (omega arith) (omega arith)

pub returns-then-quick-6 : goal.returns-then-quick-6
returns-then-quick-6 c = sound (goal.at.returns-then-quick-6 c).After-get-count c.quick-in-7.result c.bounds_hold-then-quick-6.result c.quick-in-7.ensures c.if-quick-6.true c.bounds_hold-then-quick-6.ensures

pub bounds_hold-requires-then-full-clause-versions : goal.bounds_hold-requires-then-full-clause-versions
bounds_hold-requires-then-full-clause-versions c = counted (goal.at.bounds_hold-requires-then-full-clause-versions c).After-get-count 8 c.in-8.is (omega arith) (omega arith)

pub returns-then-full : goal.returns-then-full
returns-then-full c = sound (goal.at.returns-then-full c).After-get-count c.full.result c.bounds_hold-then-full.result c.full.ensures c.if-full.true c.bounds_hold-then-full.ensures
