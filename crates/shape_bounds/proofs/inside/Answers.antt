-- What is compared are the three signed numbers, as `told` says.
use Rattle.std.proofs.Common.{◌&&◌, sym, ap, ap₂, ◌∙◌, w64, to_z}
use Rattle.std.specs.Prelude.{int_le}
use Rattle.cells.specs.Signed.{told}
use Rattle.execution.specs.Bounds.{inside}
use Rattle.shape_bounds.proofs.inside.Goals as goal

pub returns-then-signed-v : goal.returns-then-signed-v
unfolding inside
returns-then-signed-v c =
    let a = c.args in
    let v = told c.signed-v.type_inv c.signed-v.ensures in
    let not-below = sym (ap₂ int_le (told c.signed.type_inv c.signed.ensures) v) ∙ c.if-signed-v.true in
    ap₂ int_le v (told c.signed-then-signed-v.type_inv c.signed-then-signed-v.ensures)
    ∙ sym (ap (◌&& int_le (to_z w64 a.value) (to_z w64 a.upper)) not-below)

pub returns-else-signed-v : goal.returns-else-signed-v
unfolding inside
returns-else-signed-v c =
    let a = c.args in
    let v = told c.signed-v.type_inv c.signed-v.ensures in
    let below = sym (ap₂ int_le (told c.signed.type_inv c.signed.ensures) v) ∙ c.if-signed-v.false in
    c.if-signed-v.false ∙ sym (ap (◌&& int_le (to_z w64 a.value) (to_z w64 a.upper)) below)
