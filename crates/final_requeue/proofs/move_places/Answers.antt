-- Both ways are the move by so many places.
use Rattle.std.proofs.Common.{◌≡◌, ℕ, ◌+◌, ◌*◌, ◌∙◌, sym, ap, take, drop, arith}
use Rattle.std.proofs.Math.Nat.{one-mul}
use Rattle.cells.specs.Cells.{splice}
use Rattle.final_requeue.specs.RunsMoved.{moved-splice}
use Rattle.final_requeue.proofs.move_places.Goals as goal

pub returns-then-step-eq1 : goal.returns-then-step-eq1
returns-then-step-eq1 c =
    let a = c.args in
    let near : a.step * a.width ≡ a.width = ap (λ (x : ℕ). x * a.width) c.if-step-eq1.true ∙ one-mul a.width in
    c.move_down.ensures
    ∙ ap (λ (x : ℕ). splice a.area.now a.at (take (a.n * a.width) (drop (a.at + x) a.area.now))) (sym near)
    ∙ sym (moved-splice a.area.now a.at (a.at + a.step * a.width) (omega arith) (a.n * a.width) c.requires)

pub returns-else-step-eq1 : goal.returns-else-step-eq1
returns-else-step-eq1 c =
    let a = c.args in
    c.move_down-else-step-eq1.ensures ∙ sym (moved-splice a.area.now a.at (a.at + a.step * a.width) (omega arith) (a.n * a.width) c.requires)
