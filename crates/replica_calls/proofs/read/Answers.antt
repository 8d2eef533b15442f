-- `replica_calls::read` meets its contract: where the areas have the shape, `snapshots::read`, which changes nothing.
use Rattle.std.proofs.Common.{sym, ◌∙◌}
use Rattle.std.proofs.lemmas.Result.{err_from_is_err_and}
use Rattle.model.specs.Calls.{read}
use Rattle.layout.proofs.ContractLaws.{holds-shaped, met-unfit}
use Rattle.replica_calls.proofs.read.Goals as goal

pub returns-in_err-require_shape : goal.returns-in_err-require_shape
returns-in_err-require_shape c =
    let a = c.args in
    let e = c.in_err-require_shape.ensures in
    let p = err_from_is_err_and c.from_residual.result c.from_residual.ensures.1 in
    rw (p.1, p.2, e.0) (met-unfit a.l (read a.reader a.object) (a.records.now, a.bodies.now) (sym c.requires.shaped_value ∙ e.1))

pub read-requires-clause-holds_shaped : goal.read-requires-clause-holds_shaped
read-requires-clause-holds_shaped c =
    let a = c.args in
    holds-shaped a.l c.requires.supported.sane (a.records.now, a.bodies.now) (λ i. (c.type_inv.records i).fits) (sym c.requires.shaped_value ∙ c.in_ok-require_shape.ensures)
