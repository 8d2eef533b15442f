-- A run in its place stays there, else both moves are those of the laws.
use Rattle.std.proofs.Common.{ℕ, ◌*◌, refl, ap}
use Rattle.final_requeue.specs.RunsMoved.{moved_none, rows_inside, bodies-inside, run_moved}
use Rattle.final_requeue.proofs.move_run.Goals as goal

pub returns-then-from-to : goal.returns-then-from-to
returns-then-from-to c = record { both = λ p. moved_none p c.if-from-to.true }

pub move_places-requires : goal.move_places-requires
move_places-requires c =
    let row = ap (λ (x : ℕ). x * 8) c.row_at-row.ensures.exact in
    let width = ap (λ (x : ℕ). x * 8) c.row_width.ensures in
    rows_inside c.requires.sane c.requires.moving row refl width refl

pub move_places-requires-2 : goal.move_places-requires-2
move_places-requires-2 c =
    bodies-inside c.requires.sane c.requires.moving refl c.body_at-body.ensures.exact refl c.body_width.ensures

pub returns : goal.returns
returns c =
    let row = ap (λ (x : ℕ). x * 8) c.row_at-row.ensures.exact in
    let width = ap (λ (x : ℕ). x * 8) c.row_width.ensures in
    record { both = λ p. run_moved c.requires.sane p row c.body_at-body.ensures.exact width c.body_width.ensures c.move_places.ensures c.move_places-2.ensures }
