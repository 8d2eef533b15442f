-- `replica_calls::show_body` meets its contract: where the areas have the shape, `queue::show_body`, else the empty part.
use Rattle.std.proofs.Common.{refl, sym, ◌∙◌}
use Rattle.replica_calls.specs.UnfitShown.{shown-unfit}
use Rattle.replica_calls.proofs.show_body.Goals as goal

pub returns-else-shaped : goal.returns-else-shaped
returns-else-shaped c =
    let a = c.args in
    shown-unfit a.l a.records.now a.bodies _ a.client a.sequence (sym c.requires.shaped_value ∙ c.if-shaped.false) refl refl
