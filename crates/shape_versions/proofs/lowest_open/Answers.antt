-- One reader more, and the end: `lowest_step` and `lowest-end`.
use Rattle.std.proofs.Common.{ℕ, ◌+◌, drop, sym, ap, ◌∙◌, arith}
use Rattle.cells.specs.Cells.{cells}
use Rattle.versions.specs.Block.{lower, lowest}
use Rattle.shape_versions.specs.Lowest.{lowest_step, lowest-end}
use Rattle.shape_versions.proofs.lowest_open.Goals as goal

pub loop-i-preserved : goal.loop-i-preserved
loop-i-preserved c =
    let a = c.args in
    let xs = a.snapshots.now in
    let i = c.loop-i in
    let step = lowest_step a.readers i.i xs i.low c.requires (omega arith) in
    let lowered = ap (lower i.low) (sym c.get.ensures) ∙ sym c.lower_of-low.ensures in
    i.invariant ∙ step ∙ ap (λ (t : ℕ). lowest t (drop (i.i + 1) (cells xs))) lowered

pub returns : goal.returns
returns c =
    let a = c.args in
    let i = c.loop-i in
    sym (i.invariant ∙ lowest-end a.readers i.i a.snapshots.now i.low c.requires (omega arith))
