-- A turn of the loop over the entries, and its ends. What `absent` is lent are the cells behind the entry.
use Rattle.std.proofs.Common.{◌≡◌, ℕ, ◌+◌, ◌-◌, ◌*◌, List, length, take, drop, sym, ap, ap₂, ◌∙◌, arith}
use Rattle.cells.specs.Cells.{cells}
use Rattle.layout.specs.Rows.{chunks}
use Rattle.shape_names.specs.NameScan.{absent, names_in}
use Rattle.shape_names.specs.NameTests.{rest-cells, names-high, names-twice, names-on, names-end}
use Rattle.shape_names.proofs.many_names.Goals as goal

-- the blocks from a cell on
later : (xs : List ℕ) (o k j : ℕ) → absent o (chunks 2 k (cells (take (length xs - j * 8) (drop (j * 8) xs)))) ≡ absent o (chunks 2 k (drop j (cells xs)))
later xs o k j = ap (λ (ds : List ℕ). absent o (chunks 2 k ds)) (rest-cells xs j)

pub returns-then-n-object : goal.returns-then-n-object
returns-then-n-object c =
    let a = c.args in
    let i = c.loop-i.i in
    let g = c.get-object in
    sym (c.loop-i.invariant ∙ names-high a.n (a.count - i) (i * 2) (cells a.entries.now) (omega arith) g.result g.ensures c.if-n-object.true)

pub returns-then-not-absent : goal.returns-then-not-absent
returns-then-not-absent c =
    let a = c.args in
    let i = c.loop-i.i in
    let g = c.get-object in
    sym
    (c.loop-i.invariant
    ∙ names-twice a.n (a.count - i) (i * 2) (cells a.entries.now) (omega arith) g.result g.ensures c.if-n-object.false
    c.absent.result (c.absent.ensures ∙ later a.entries.now g.result (a.count - i - 1) (i * 2 + 2)) c.if-not-absent.true)

pub loop-i-preserved : goal.loop-i-preserved
loop-i-preserved c =
    let a = c.args in
    let i = c.loop-i.i in
    let g = c.get-object in
    let left : a.count - i - 1 ≡ a.count - (i + 1) = omega arith in
    let at : i * 2 + 2 ≡ (i + 1) * 2 = omega arith in
    c.loop-i.invariant
    ∙ names-on a.n (a.count - i) (i * 2) (cells a.entries.now) (omega arith) g.result g.ensures c.if-n-object.false
    c.absent.result (c.absent.ensures ∙ later a.entries.now g.result (a.count - i - 1) (i * 2 + 2)) c.if-not-absent.false
    ∙ ap₂ (λ (k j : ℕ). names_in a.n k (drop j (cells a.entries.now))) left at

pub returns : goal.returns
returns c =
    let a = c.args in
    let i = c.loop-i.i in
    sym (c.loop-i.invariant ∙ names-end a.n (a.count - i) (i * 2) (cells a.entries.now) (omega arith))
