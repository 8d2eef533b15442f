-- A turn in which the version is held, one in which it is not, and the end.
use Rattle.std.proofs.Common.{◌≡◌, ◌∙◌, ◌+◌, ◌-◌, ◌*◌, ◌<◌, ◌≤◌, length, List, ℕ, arith}
use Rattle.cells.specs.Cells.{cells}
use Rattle.cells.specs.CellLaws.{length_cells-whole}
use Rattle.versions.specs.Block.{width}
use Rattle.versions_push.specs.Trimmed.{fronted}
use Rattle.versions_push.specs.Moving.{moving_keep, moving_drop, moving_end, moving_size}
use Rattle.versions_push.proofs.keep_held.Goals as goal
use Rattle.versions_push.proofs.keep_held.Goals.{then-some_between, else-some_between}

pub loop-k-preserved : goal.loop-k-preserved
loop-k-preserved c =
    let a = c.args in
    let k = c.loop-k in
    let rc : List ℕ = cells a.snapshots.now in
    let cs : List ℕ = cells a.block.now in
    let bs : List ℕ = cells k.block in
    let i : ℕ = a.start + 2 * k.k in
    let target : List ℕ = fronted rc cs a.stamp a.value a.start a.count in
    let long : length bs ≡ width a.readers = length_cells-whole (width a.readers) k.block (omega arith) in
    let room : k.j + 2 ≤ length bs = omega arith in
    let some : 0 < a.count - k.k = omega arith in
    let next : a.start + 2 * (k.k + 1) ≡ i + 2 = omega arith in
    let less : a.count - (k.k + 1) ≡ a.count - k.k - 1 = omega arith in
    elim c.if-some_between.branch [
      | then-some_between w ↦ rw (w.block-is, w.s-is, w.v-is, w.j-is, next, less) (record {
        from_1 = omega arith;
        behind = omega arith;
        moving = moving_keep rc cs bs k.upper k.s k.v i (a.count - k.k) k.j target k.invariant.moving some
            c.get-t.result c.get-t.ensures c.some_between.result c.some_between.ensures c.get-w.result c.get-w.ensures w.if-some_between.true
            (cells w.put_pair.new.block) w.put_pair.ensures.pair k.invariant.behind room;
      })
      | else-some_between w ↦ rw (w.block-is, w.s-is, w.v-is, w.j-is, next, less) (record {
        from_1 = omega arith;
        behind = omega arith;
        moving = moving_drop rc cs bs k.upper k.s k.v i (a.count - k.k) k.j target k.invariant.moving some
            c.get-t.result c.get-t.ensures c.some_between.result c.some_between.ensures w.if-some_between.false;
      })
    ]

pub put_pair-requires-2 : goal.put_pair-requires-2
put_pair-requires-2 c =
    let a = c.args in
    let k = c.loop-k in
    let none : a.count - k.k ≤ 0 = omega arith in
    let now : length (cells k.block) ≡ width a.readers = length_cells-whole (width a.readers) k.block (omega arith) in
    let was : length (cells a.block.now) ≡ width a.readers = length_cells-whole (width a.readers) a.block.now (omega arith) in
    omega (arith, moving_size (cells a.snapshots.now) (cells a.block.now) (cells k.block) k.upper k.s k.v (a.start + 2 * k.k) (a.count - k.k) k.j a.stamp a.value a.start a.count k.invariant.moving none (omega arith) (omega arith))

pub returns : goal.returns
returns c =
    let a = c.args in
    let k = c.loop-k in
    let p = c.put_pair-2 in
    let rc : List ℕ = cells a.snapshots.now in
    let cs : List ℕ = cells a.block.now in
    let bs : List ℕ = cells k.block in
    let i : ℕ = a.start + 2 * k.k in
    let none : a.count - k.k ≤ 0 = omega arith in
    let now : length bs ≡ width a.readers = length_cells-whole (width a.readers) k.block (omega arith) in
    let was : length cs ≡ width a.readers = length_cells-whole (width a.readers) a.block.now (omega arith) in
    let end = moving_size rc cs bs k.upper k.s k.v i (a.count - k.k) k.j a.stamp a.value a.start a.count k.invariant.moving none (omega arith) (omega arith) in
    record {
      end = end;
      front = moving_end rc cs bs k.upper k.s k.v i (a.count - k.k) k.j (fronted rc cs a.stamp a.value a.start a.count) k.invariant.moving none (cells p.new.block) p.ensures.pair (omega arith);
      size = p.ensures.size ∙ k.auto.block;
    }
