-- `replica_calls::deliver_final` meets its contract: where the areas have the shape, `final_delivery::deliver_final`.
use Rattle.std.proofs.Common.{sym, ◌∙◌}
use Rattle.std.proofs.lemmas.Result.{err_from_is_err_and}
use Rattle.model.specs.Calls.{final}
use Rattle.layout.proofs.ContractLaws.{met-unfit}
use Rattle.replica_calls.proofs.deliver_final.Goals as goal

pub returns-in_err-require_shape : goal.returns-in_err-require_shape
returns-in_err-require_shape c =
    let a = c.args in
    let e = c.in_err-require_shape.ensures in
    let p = err_from_is_err_and c.from_residual.result c.from_residual.ensures.1 in
    rw (p.1, p.2, e.0) (met-unfit a.l (final a.client a.sequence) (a.records.now, a.bodies.now) (sym c.requires.shaped_value ∙ e.1))
