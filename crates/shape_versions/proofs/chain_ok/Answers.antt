-- One version more, held and not held, and the end: `chain_next`, `chain-loose` and `chain-end`.
use Rattle.std.proofs.Common.{◌≡◌, ◌+◌, ◌*◌, ◌-◌, sym, ◌∙◌, drop, arith}
use Rattle.cells.specs.Cells.{cells}
use Rattle.versions.proofs.BlockLoops.{chain-loose, chain_next, chain-end}
use Rattle.shape_versions.proofs.chain_ok.Goals as goal

pub loop-k-preserved : goal.loop-k-preserved
loop-k-preserved c =
    let a = c.args in
    let i = c.loop-k in
    let s = c.get-s in
    let b = c.some_between in
    let less : a.count - i.k - 1 ≡ a.count - (i.k + 1) = omega arith in
    let on : 1 + 2 * i.k + 2 ≡ 1 + 2 * (i.k + 1) = omega arith in
    let next = chain_next (cells a.b.snapshots.now) a.b.low i.upper (a.count - i.k) (1 + 2 * i.k) (cells a.block.now) s.result s.ensures (omega arith) b.result b.ensures c.if-not-some_between.false in
    i.invariant ∙ rw (less, on) at next

pub returns-then-not-some_between : goal.returns-then-not-some_between
returns-then-not-some_between c =
    let a = c.args in
    let i = c.loop-k in
    let s = c.get-s in
    let b = c.some_between in
    let loose = chain-loose (cells a.b.snapshots.now) a.b.low i.upper (a.count - i.k) (1 + 2 * i.k) (cells a.block.now) s.result s.ensures (omega arith) b.result b.ensures c.if-not-some_between.true in
    sym (i.invariant ∙ loose)

pub returns : goal.returns
returns c =
    let a = c.args in
    let i = c.loop-k in
    sym (i.invariant ∙ chain-end (cells a.b.snapshots.now) a.b.low i.upper (a.count - i.k) (drop (1 + 2 * i.k) (cells a.block.now)) (omega arith))
