-- The block that is lent, a turn of the loop, and its end.
use Rattle.std.proofs.Common.{◌≡◌, ◌+◌, ◌*◌, ◌-◌, ◌≤◌, ◌<◌, List, ℕ, length, refl, ap, arith, length-drop}
use Rattle.std.proofs.Math.ListN.{length-take}
use Rattle.std.proofs.Math.Nat.{mul-le-mul_right}
use Rattle.cells.specs.Cells.{cells}
use Rattle.versions.specs.Block.{width}
use Rattle.versions_close.specs.Closing.{Beside, pruned}
use Rattle.versions_close.specs.ObjectLoop.{pruning_part, pruning_next, pruning_end}
use Rattle.versions_close.proofs.prune_objects.Goals as goal

-- object k ends within the objects
ends : (n k o : ℕ) → k < n → k * o + o ≤ n * o
ends n k o h = let j : k + 1 ≤ n = omega arith in omega (arith, mul-le-mul_right o j)

pub slice_bounds-close_block-end : goal.slice_bounds-close_block-end
slice_bounds-close_block-end c =
    let o = c.object_cells-step in
    omega (arith, o.ensures, c.width-w.ensures, ends c.args.n c.loop-k.k (o.result * 8) c.loop-k-test.true, ap (λ (i : ℕ). c.args.n * (i * 8)) o.ensures)

pub close_block-requires : goal.close_block-requires
close_block-requires c =
    let a = c.args in
    let k = c.loop-k in
    let o : ℕ = c.object_cells-step.result * 8 in
    let rc : List ℕ = cells a.snapshots.now in
    let some : 0 < a.n - k.k = omega arith in
    let w : k.k * o + c.width-w.result * 8 - k.k * o ≡ width a.readers * 8 = omega (arith, c.width-w.ensures) in
    let inside : k.k * o + c.width-w.result * 8 ≤ length k.blocks =
    omega (arith, c.object_cells-step.ensures, c.width-w.ensures, ends a.n k.k o c.loop-k-test.true, ap (λ (i : ℕ). a.n * (i * 8)) c.object_cells-step.ensures) in
    record {
      size = simp (length-take, length-drop) (omega arith);
      others = rc;
      beside = record { some = c.requires.open; upto = c.neighbours_of-beside.ensures.upto; above = c.neighbours_of-beside.ensures.above };
      checked = pruning_part a.readers a.c rc a.blocks.now k.blocks (k.k * o) (a.n - k.k) (pruned a.readers rc a.n a.blocks.now) k.invariant some _ w;
    }

pub loop-k-preserved : goal.loop-k-preserved
loop-k-preserved c =
    let a = c.args in
    let k = c.loop-k in
    let o : ℕ = c.object_cells-step.result * 8 in
    let rc : List ℕ = cells a.snapshots.now in
    let target : List ℕ = pruned a.readers rc a.n a.blocks.now in
    let near : Beside a.c c.neighbours_of-beside.result.upto c.neighbours_of-beside.result.above rc =
    record { some = c.requires.open; upto = c.neighbours_of-beside.ensures.upto; above = c.neighbours_of-beside.ensures.above } in
    let some : 0 < a.n - k.k = omega arith in
    let less : a.n - (k.k + 1) ≡ a.n - k.k - 1 = omega arith in
    let w : k.k * o + c.width-w.result * 8 - k.k * o ≡ width a.readers * 8 = omega (arith, c.width-w.ensures) in
    let part = pruning_part a.readers a.c rc a.blocks.now k.blocks (k.k * o) (a.n - k.k) target k.invariant some _ w in
    let fits : (k.k + 1) * o ≤ length k.blocks = omega (arith, ends a.n k.k o c.loop-k-test.true, ap (λ (i : ℕ). a.n * (i * 8)) c.object_cells-step.ensures) in
    rw less (pruning_next a.readers a.c rc a.blocks.now k.blocks (k.k * o) (a.n - k.k) target k.invariant some _ w c.close_block.new.block _ ((k.k + 1) * o)
    (omega (arith, c.object_cells-step.ensures)) fits (omega arith) (c.close_block.ensures rc near part) refl)

pub returns : goal.returns
returns c =
    let a = c.args in
    let k = c.loop-k in
    let rc : List ℕ = cells a.snapshots.now in
    pruning_end a.readers a.c rc a.blocks.now k.blocks (k.k * (c.object_cells-step.result * 8)) (a.n - k.k) (pruned a.readers rc a.n a.blocks.now) k.invariant (omega arith)
    (omega (arith, mul-le-mul_right (c.object_cells-step.result * 8) c.loop-k-test.false, ap (λ (i : ℕ). a.n * (i * 8)) c.object_cells-step.ensures))
