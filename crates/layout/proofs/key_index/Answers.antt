use Rattle.std.proofs.Common.{◌≡◌, ◌∙◌, sym, arith}
use Rattle.cells.specs.Cells.{cells}
use Rattle.layout.proofs.RowKeysLaws.{first_key}
use Rattle.layout.proofs.key_index.Goals as goal

-- the block found begins with the key
pub returns-then-get-key : goal.returns-then-get-key
returns-then-get-key c =
    let s = c.args in
    let e = sym c.get.ensures ∙ c.if-get-key.true in
    (omega arith, first_key s.width s.count s.key (cells s.blocks.now) c.loop-i.i (omega arith) c.loop-i.invariant (λ h. e))

-- no block does
pub returns : goal.returns
returns c =
    let s = c.args in
    let i = c.loop-i.i in
    let e : i ≡ s.count = omega arith in
    sym (first_key s.width s.count s.key (cells s.blocks.now) i (omega arith) c.loop-i.invariant (λ h. absurd (omega arith))) ∙ e
