-- `replica_calls::open_reader` meets its contract: where the areas have the shape, `snapshots::open_reader`, which leaves the bodies alone.
use Rattle.std.proofs.Common.{sym, ◌∙◌, rules}
use Rattle.std.proofs.lemmas.Result.{err_from_is_err_and}
use Rattle.model.specs.Calls.{open_reader}
use Rattle.layout.proofs.ContractLaws.{holds-shaped, met-unfit}
use Rattle.replica_calls.proofs.open_reader.Goals as goal

pub returns-in_err-require_shape : goal.returns-in_err-require_shape
returns-in_err-require_shape c =
    let a = c.args in
    let e = c.in_err-require_shape.ensures in
    let p = err_from_is_err_and c.from_residual.result c.from_residual.ensures.1 in
    rw (p.1, p.2, e.0) (met-unfit a.l (open_reader a.reader) (a.records.now, a.bodies.now) (sym c.requires.shaped_value ∙ e.1))

pub open_reader-requires-clause-holds_shaped : goal.open_reader-requires-clause-holds_shaped
open_reader-requires-clause-holds_shaped c =
    let a = c.args in
    holds-shaped a.l c.requires.supported.sane (a.records.now, a.bodies.now) (search rules) (sym c.requires.shaped_value ∙ c.in_ok-require_shape.ensures)
