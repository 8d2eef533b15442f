-- A block that passes has one version; a law for each way out.
use Rattle.std.proofs.Common.{◌*◌, [], get_or, take, sym, ap, ◌∙◌, arith}
use Rattle.shape_block_quick.specs.Quick.{alone-count}
use Rattle.shape_bounds.specs.ObjectBounds.{block-part, block-length}
use Rattle.shape_versions_quick.specs.ObjectTests.{object-no, object-by}
use Rattle.shape_versions_quick.proofs.alone.Goals as goal

pub bounds_hold-requires-clause-versions : goal.bounds_hold-requires-clause-versions
bounds_hold-requires-clause-versions c =
    let a = c.args in
    let w = c.width-end in
    let xs = a.object.now in
    let ok = sym c.block_alone.ensures ∙ c.if-block_alone.true in
    let one = alone-count a.readers a.timestamp (take (w.result * 8) xs) (block-length a.readers xs w.result w.ensures c.requires) ok in
    (ap (λ x. get_or x 0 0) (sym (block-part a.readers xs w.result w.ensures)) ∙ one, omega arith, omega arith)

pub returns-then-block_alone : goal.returns-then-block_alone
returns-then-block_alone c =
    let a = c.args in
    let w = c.width-end in
    let ok = sym c.block_alone.ensures ∙ c.if-block_alone.true in
    c.bounds_hold.ensures ∙ sym (object-by a.readers a.object.now w.result w.ensures a.timestamp [] ok)

pub returns : goal.returns
returns c =
    let a = c.args in
    let w = c.width-end in
    sym (object-no a.readers a.object.now w.result w.ensures a.timestamp [] (sym c.block_alone.ensures ∙ c.if-block_alone.false))
