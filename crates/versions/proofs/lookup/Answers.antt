-- The version at the loop's head is the one that is seen, or one above it.
use Rattle.std.proofs.Common.{◌∙◌, sym, refl, ap, ℤ, arith}
use Rattle.cells.specs.Signed.{told}
use Rattle.cells.specs.Cells.{cells}
use Rattle.model.specs.Replica.{as_of}
use Rattle.model.specs.LookedAt.{seen_index}
use Rattle.model.proofs.LookedAtLaws.{looked_at-order}
use Rattle.versions.specs.Block.{block_versions}
use Rattle.versions.proofs.BlockLoops.{left-first, left-none, look-here, look-on}
use Rattle.versions.proofs.lookup.Goals as goal

pub loop-above-init : goal.loop-above-init
loop-above-init c =
    let a = c.args in
    let all = left-first c.get-count.result (cells a.block.now) c.get-count.ensures in
    record { seen = ap (as_of a.stamp) all; passed = omega (arith, ap (seen_index a.stamp) all) }

pub returns-then-s-stamp : goal.returns-then-s-stamp
returns-then-s-stamp c =
    let a = c.args in
    let i = c.loop-above in
    let here = look-here a.stamp c.get-count.result i.above (cells a.block.now) c.loop-above-test.true _ c.get-s.result refl c.get-s.ensures c.if-s-stamp.true in
    record {
      seen = ap (λ (v : ℤ). record { stamp = c.get-s.result; value = v }) (told c.get_signed.type_inv c.get_signed.ensures) ∙ sym (i.invariant.seen ∙ here.0);
      looked = omega (arith, looked_at-order a.stamp (block_versions (cells a.block.now)) c.requires.order, i.invariant.passed, here.1);
    }

pub loop-above-preserved : goal.loop-above-preserved
loop-above-preserved c =
    let a = c.args in
    let i = c.loop-above in
    let on = look-on a.stamp c.get-count.result i.above (cells a.block.now) c.loop-above-test.true _ c.get-s.result refl c.get-s.ensures c.if-s-stamp.false in
    record { seen = i.invariant.seen ∙ on.0; passed = omega (arith, i.invariant.passed, on.1) }

pub returns : goal.returns
returns c =
    let a = c.args in
    let i = c.loop-above in
    let none = left-none c.get-count.result i.above (cells a.block.now) c.loop-above-test.false in
    record {
      seen = sym (i.invariant.seen ∙ ap (as_of a.stamp) none);
      looked = omega (arith, looked_at-order a.stamp (block_versions (cells a.block.now)) c.requires.order, i.invariant.passed, ap (seen_index a.stamp) none, i.auto.above-end);
    }
