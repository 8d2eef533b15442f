-- What `execution::is_finished` says of the two cells, as numbers.
use Rattle.std.proofs.Common.{◌||◌, ℕ, ltb, leb, ap₂, ◌∙◌}
use Rattle.operation.specs.Body.{size}
use Rattle.execution.proofs.Ended.{body_ended}
use Rattle.shape.proofs.is_finished.Goals as goal

pub returns : goal.returns
returns c =
    let y = c.args.place.now in
    let k = c.get-counter in
    let o = c.get-outcome in
    c.is_finished.ensures ∙ body_ended y k.result o.result ∙ ap₂ (λ (o k : ℕ). ltb 0 o || leb (size y) k) o.ensures k.ensures
