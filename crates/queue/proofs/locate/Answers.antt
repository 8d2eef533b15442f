-- The count is a cell of the record area, and the search runs over the part from the first row on.
use Rattle.std.proofs.Common.{◌≡◌, refl, ℕ, ◌*◌, ◌-◌, ◌∙◌, sym, ap, arith, eqb, length, take, drop}
use Rattle.cells.specs.Cells.{cells}
use Rattle.model.specs.Lists.{index}
use Rattle.model.specs.Replica.{Replica, has_key}
use Rattle.layout.specs.Holds.{Holds}
use Rattle.layout.specs.RowKeys.{keys}
use Rattle.layout.proofs.HoldsLaws.{holds-long}
use Rattle.layout.proofs.PrintableLaws.{few_pending}
use Rattle.layout.proofs.Reading.{count-read}
use Rattle.queue.proofs.PlaceLaws.{rows-room, position-of}
use Rattle.queue.proofs.locate.Goals as goal
use Rattle.queue.proofs.locate.Goals.{After-key_index}

pub get-count-requires : goal.get-count-requires
get-count-requires c =
    let H = c.requires.holding in
    omega (arith, holds-long c.args.l c.requires.sane c.args.records.now H.replica H.holds)

pub slice_bounds-key_index-count : goal.slice_bounds-key_index-count
slice_bounds-key_index-count c =
    let H = c.requires.holding in
    omega (arith, holds-long c.args.l c.requires.sane c.args.records.now H.replica H.holds)

pub slice_bounds-key_index-start : goal.slice_bounds-key_index-start
slice_bounds-key_index-start c =
    let H = c.requires.holding in
    omega (arith, holds-long c.args.l c.requires.sane c.args.records.now H.replica H.holds)

pub key_index-requires : goal.key_index-requires
key_index-requires c =
    let H = c.requires.holding in
    let s = c.args in
    let at = c.row_at-at.result * 8 in
    rows-room s.l c.requires.sane s.records.now H.replica H.holds at (length s.records.now - at) c.row_width.result c.get-count.result
    (ap (λ (i : ℕ). i * 8) c.row_at-at.ensures.exact) refl c.row_width.ensures
    (count-read s.l c.requires.sane s.records.now H.replica H.holds c.pending_at.result c.get-count.result c.get-count.ensures c.pending_at.ensures.exact)

-- the count, of whichever replica the area holds
the-count : (c : After-key_index) (u : Replica) → Holds c.args.l c.args.records.now u → c.get-count.result ≡ length u.pending
the-count c u h =
    count-read c.args.l c.requires.sane c.args.records.now u h c.pending_at.result c.get-count.result c.get-count.ensures c.pending_at.ensures.exact

-- what the search answers, of whichever replica the area holds
searched : (c : After-key_index) (u : Replica) → Holds c.args.l c.args.records.now u
    → (let b = c.args.records.now in let at = c.row_at-at.result * 8 in index (eqb c.key_cell-key.result) (keys c.row_width.result c.get-count.result (cells (take (length b - at) (drop at b)))))
    ≡ index (has_key c.args.client c.args.sequence) u.pending
searched c u h =
    let s = c.args in
    let at = c.row_at-at.result * 8 in
    position-of s.l c.requires.sane s.records.now u h at (length s.records.now - at) c.row_width.result c.get-count.result
    (ap (λ (i : ℕ). i * 8) c.row_at-at.ensures.exact) refl c.row_width.ensures (the-count c u h)
    s.client s.sequence c.key_cell-key.result (omega arith) c.key_cell-key.ensures

-- the position is below the limit, so that it fits
pub overflow_cast-position : goal.overflow_cast-position
overflow_cast-position c =
    let s = c.args in
    let H = c.requires.holding in
    omega (arith, c.in-Some.ensures.0, the-count (goal.at.overflow_cast-position c).After-key_index H.replica H.holds, few_pending s.l H.replica H.holds.fits, c.requires.sane.pending)

pub returns-in-Some : goal.returns-in-Some
returns-in-Some c =
    let k = (goal.at.returns-in-Some c).After-key_index in
    record {
      stands = λ u h. (c.in-Some.ensures.1 ∙ searched k u h, omega (arith, c.in-Some.ensures.0, the-count k u h));
      count = the-count k;
    }

pub returns-in-None : goal.returns-in-None
returns-in-None c =
    let k = (goal.at.returns-in-None c).After-key_index in
    record { stands = λ u h. sym (searched k u h) ∙ c.in-None.ensures ∙ the-count k u h; count = the-count k }
