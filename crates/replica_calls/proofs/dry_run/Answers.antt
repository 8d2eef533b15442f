-- `replica_calls::dry_run` meets its contract: where the areas have the shape, `dry_run::dry_run`.
use Rattle.std.proofs.Common.{refl, sym, ◌∙◌}
use Rattle.std.proofs.lemmas.Result.{err_from_is_err_and}
use Rattle.model.specs.Calls.{dry_run}
use Rattle.layout.proofs.ContractLaws.{met-unfit}
use Rattle.dry_run.specs.Previews.{previews-refused}
use Rattle.replica_calls.proofs.dry_run.Goals as goal

pub returns-in_err-require_shape : goal.returns-in_err-require_shape
returns-in_err-require_shape c =
    let a = c.args in
    let e = c.in_err-require_shape.ensures in
    let p = err_from_is_err_and c.from_residual.result c.from_residual.ensures.1 in
    rw (p.1, p.2, e.0) (previews-refused refl (met-unfit a.l (dry_run a.client a.sequence) (a.records.now, a.bodies.now) (sym c.requires.shaped_value ∙ e.1)))
