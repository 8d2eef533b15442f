-- Where the early results are validated their writes are loaded, else the body is run.
use Rattle.std.proofs.Common.{◌≡◌, ℕ, ◌≤◌, ◌∙◌, List, ◌++◌, refl, ap, arith, length, take, take_all, length-append, length-take-le}
use Rattle.std.proofs.lemmas.List.{take-append-le}
use Rattle.execution.specs.Arrays.{capacity}
use Rattle.layout.proofs.HoldsLaws.{holds-long}
use Rattle.final_decision.specs.Decide.{decided-as, body-begins, body-ends, lent-some, rerunning, decide_lying, decide_reads, writes-few, writes_inside, writes-loaded, decided-validated, decided-again}
use Rattle.rows.specs.RowRun.{entries_in}
use Rattle.final_decision.proofs.decide.Goals as goal
use Rattle.final_decision.proofs.decide.Goals.{After-counts_at-t}

pub bounds-bodies-first : goal.bounds-bodies-first
bounds-bodies-first c =
    let s = c.requires.sane in
    body-begins s.0 s.1 c.requires.deciding.0 c.body_at-first.ensures.exact

pub slice_bounds-body-end : goal.slice_bounds-body-end
slice_bounds-body-end c =
    let s = c.requires.sane in
    body-ends s.0 s.1 c.requires.deciding.0 c.body_at-first.ensures.exact refl c.body_length.ensures

pub counts_at-t-requires : goal.counts_at-t-requires
counts_at-t-requires c =
    let s = c.requires.sane in
    decide_lying s.0 s.1 c.requires.deciding.0 c.row_at-at.ensures.exact

pub is_validated-requires-clause-lying : goal.is_validated-requires-clause-lying
is_validated-requires-clause-lying c =
    let s = c.requires.sane in
    let p = c.requires.deciding.0 in
    (decide_lying s.0 s.1 p c.row_at-at.ensures.exact, lent-some s.0 s.1 p c.body_at-first.ensures.exact refl c.body_length.ensures)

pub is_validated-requires-clause-reaching : goal.is_validated-requires-clause-reaching
is_validated-requires-clause-reaching c =
    let s = c.requires.sane in
    decide_reads s.0 s.1 c.requires.deciding.0 c.row_at-at.ensures.exact

-- ---- the early results are kept

pub slice_bounds-load_entries-count : goal.slice_bounds-load_entries-count
slice_bounds-load_entries-count c =
    let p = c.requires.deciding.0 in
    omega (arith, holds-long c.args.l c.requires.sane.0 c.args.records.now p.replica p.holds)

pub slice_bounds-load_entries-start : goal.slice_bounds-load_entries-start
slice_bounds-load_entries-start c =
    let p = c.requires.deciding.0 in
    omega (arith, holds-long c.args.l c.requires.sane.0 c.args.records.now p.replica p.holds)

-- the array has room for the row's writes
few : (c : After-counts_at-t) → c.counts_at-t.result.writes ≤ capacity
few c = let s = c.requires.sane in writes-few s.0 s.1 c.requires.deciding.0 c.row_at-at.ensures.exact c.counts_at-t.ensures

lent : (c : After-counts_at-t) → length (take c.counts_at-t.result.writes c.args.writes.now) ≡ c.counts_at-t.result.writes
lent c = length-take-le c.counts_at-t.result.writes c.args.writes.now (omega (arith, few c, c.requires.deciding.1))

-- a set at the front of an array
front : {A : Type 0} {n : ℕ} (xs ys : List A) → length xs ≡ n → (n ≤ length (xs ++ ys)) × (take n (xs ++ ys) ≡ xs)
front {n = n} xs ys e = (omega (arith, length-append xs ys), take-append-le n xs ys (omega arith) ∙ take_all n xs (omega arith))

pub slice_bounds-load_entries-end-then-is_validated : goal.slice_bounds-load_entries-end-then-is_validated
slice_bounds-load_entries-end-then-is_validated c = few (goal.at.slice_bounds-load_entries-end-then-is_validated c).After-counts_at-t

pub load_entries-requires : goal.load_entries-requires
load_entries-requires c =
    let s = c.requires.sane in
    let inside = writes_inside s.0 s.1 c.requires.deciding.0 c.row_at-at.ensures.exact c.counts_at-t.ensures refl in
    omega (arith, inside, lent (goal.at.load_entries-requires c).After-counts_at-t)

pub returns-then-is_validated : goal.returns-then-is_validated
returns-then-is_validated c =
    let s = c.requires.sane in
    let row = c.row_at-at.ensures.exact in
    let counts = c.counts_at-t.ensures in
    let es = c.load_entries.new.entries in
    let long = lent (goal.at.returns-then-is_validated c).After-counts_at-t in
    let there = front es _ (c.load_entries.auto.entries ∙ long) in
    record {
      decided = λ p. decided-as c.decided.ensures
          (decided-validated s.0 s.1 p row counts c.body_at-first.ensures.exact refl c.body_length.ensures c.is_validated.ensures c.if-is_validated.true there.0
          (there.1 ∙ writes-loaded s.0 s.1 p row counts refl es (c.load_entries.ensures ∙ ap (entries_in _ c.counts_at-t.result.reads) long)));
    }

-- ---- it is run again

pub run_again-again-requires-clause-rerunning : goal.run_again-again-requires-clause-rerunning
run_again-again-requires-clause-rerunning c =
    let s = c.requires.sane in
    let p = c.requires.deciding in
    (rerunning s.0 s.1 p.0 c.body_at-first.ensures.exact refl c.body_length.ensures, p.1)

pub returns : goal.returns
returns c =
    let s = c.requires.sane in
    record {
      decided = λ p. decided-as c.decided-2.ensures
          (decided-again s.0 s.1 p c.row_at-at.ensures.exact c.counts_at-t.ensures c.body_at-first.ensures.exact refl c.body_length.ensures c.is_validated.ensures c.if-is_validated.false
          c.run_again-again.ensures);
    }
