-- A turn of the loop over the entries, and its ends. The bounds of an entry's object lie in what was lent.
use Rattle.std.proofs.Common.{◌≡◌, ◌+◌, ◌-◌, ◌*◌, ◌≤◌, length, drop, ℕ, sym, ap₂, ◌∙◌, arith}
use Rattle.cells.specs.Cells.{cells}
use Rattle.cells.specs.Signed.{told}
use Rattle.shape_row.specs.RowScan.{bound_cell, stores_in}
use Rattle.shape_row.specs.RowTests.{stores-no, stores-on, stores-end, bounds-lent, named_on}
use Rattle.shape_row.proofs.stores_ok.Goals as goal
use Rattle.shape_row.proofs.stores_ok.Goals.{After-get}

-- the cell of the entry's object's lower bound
abbrev lower : After-get → ℕ
lower c = c.get.result * c.object_cells-width.result + c.width-bounds.result

lower-is : (c : After-get) → lower c ≡ bound_cell c.args.readers c.get.result
lower-is c = ap₂ (λ (w b : ℕ). c.get.result * w + b) c.object_cells-width.ensures c.width-bounds.ensures

lower-lent : (c : After-get) → (lower c + 2) * 8 ≤ length c.args.objects.now
lower-lent c =
    let a = c.args in
    let i = c.loop-i.i in
    let b = bounds-lent a.readers (a.count - i) (i * 2) (cells a.entries.now) a.objects.now c.loop-i.invariant.named (omega arith) c.get.result c.get.ensures in
    omega (arith, lower-is c)

pub overflow_mul-lower : goal.overflow_mul-lower
overflow_mul-lower c = omega (arith, lower-lent (goal.at.overflow_mul-lower c).After-get)

pub overflow_add-lower : goal.overflow_add-lower
overflow_add-lower c = omega (arith, lower-lent (goal.at.overflow_add-lower c).After-get)

pub allows-requires : goal.allows-requires
allows-requires c = lower-lent (goal.at.allows-requires c).After-get

pub loop-i-preserved : goal.loop-i-preserved
loop-i-preserved c =
    let a = c.args in
    let i = c.loop-i.i in
    let v = c.loop-i.invariant in
    let g = (goal.at.loop-i-preserved c).After-get in
    let cs = cells a.entries.now in
    let left : a.count - i - 1 ≡ a.count - (i + 1) = omega arith in
    let at : i * 2 + 2 ≡ (i + 1) * 2 = omega arith in
    record {
      named = rw (← left, ← at) (named_on a.readers (a.count - i) (i * 2) cs a.objects.now v.named (omega arith));
      rest = v.rest
          ∙ stores-on a.readers (cells a.objects.now) (a.count - i) (i * 2) cs (omega arith) c.get.result c.get.ensures (lower g) (lower-is g)
          _ (told c.get_signed.type_inv c.get_signed.ensures) c.allows.result c.allows.ensures c.if-not-allows.false
          ∙ ap₂ (λ (k j : ℕ). stores_in a.readers (cells a.objects.now) k (drop j cs)) left at;
    }

pub returns-then-not-allows : goal.returns-then-not-allows
returns-then-not-allows c =
    let a = c.args in
    let i = c.loop-i.i in
    let g = (goal.at.returns-then-not-allows c).After-get in
    sym
    (c.loop-i.invariant.rest
    ∙ stores-no a.readers (cells a.objects.now) (a.count - i) (i * 2) (cells a.entries.now) (omega arith) c.get.result c.get.ensures (lower g) (lower-is g)
    _ (told c.get_signed.type_inv c.get_signed.ensures) c.allows.result c.allows.ensures c.if-not-allows.true)

pub returns : goal.returns
returns c =
    let a = c.args in
    let i = c.loop-i.i in
    sym (c.loop-i.invariant.rest ∙ stores-end a.readers (cells a.objects.now) (a.count - i) (i * 2) (cells a.entries.now) (omega arith))
