-- A law for each way through the tests. What is lent of the row are its cells from the reads on, or from the writes on.
use Rattle.std.proofs.Common.{◌≡◌, ◌+◌, ◌-◌, ◌*◌, ℕ, List, length, take, drop, sym, ap, ◌∙◌}
use Rattle.cells.specs.Cells.{cells}
use Rattle.shape_names.specs.NameScan.{names_in}
use Rattle.shape_names.specs.NameTests.{rest-cells}
use Rattle.shape_row.specs.RowScan.{stores_in}
use Rattle.shape_row.specs.RowTests.{sets-reads, sets-writes, sets-outside, sets_behind}
use Rattle.shape_row.proofs.sets_ok.Goals as goal
use Rattle.shape_row.proofs.sets_ok.Goals.{then-names_ok, else-names_ok, then-names_ok-2, else-names_ok-2}

-- the names and the stores from a cell on
names : (n k i : ℕ) (row : List ℕ) → names_in n k (cells (take (length row - i * 8) (drop (i * 8) row))) ≡ names_in n k (drop i (cells row))
names n k i row = ap (names_in n k) (rest-cells row i)

stores : (readers : ℕ) (os : List ℕ) (k i : ℕ) (row : List ℕ) → stores_in readers os k (cells (take (length row - i * 8) (drop (i * 8) row))) ≡ stores_in readers os k (drop i (cells row))
stores readers os k i row = ap (stores_in readers os k) (rest-cells row i)

pub returns-then-stores_ok : goal.returns-then-stores_ok
returns-then-stores_ok c =
    let a = c.args in
    let w = 9 + a.reads * 2 in
    let k = a.both - a.reads in
    elim c.if-names_ok-2.branch [
      | then-names_ok-2 v ↦ elim c.if-names_ok.branch [
        | then-names_ok u ↦
            sets_behind a.b.readers (cells a.b.objects.now) a.b.n a.reads a.both (cells a.row.now) c.names_ok.result (c.names_ok.ensures ∙ names a.b.n a.reads 9 a.row.now) u.if-names_ok.true
            u.names_ok-then-names_ok.result (u.names_ok-then-names_ok.ensures ∙ names a.b.n k w a.row.now) (sym u.value-is ∙ v.if-names_ok-2.true)
            v.stores_ok.result (v.stores_ok.ensures ∙ stores a.b.readers (cells a.b.objects.now) k w a.row.now) (sym v.value-is ∙ c.if-stores_ok.true)
            c.rest_zero.result c.rest_zero.ensures
        | else-names_ok u ↦ cc
      ]
      | else-names_ok-2 v ↦ cc
    ]

pub returns-else-stores_ok : goal.returns-else-stores_ok
returns-else-stores_ok c =
    let a = c.args in
    let w = 9 + a.reads * 2 in
    let k = a.both - a.reads in
    let reads = c.names_ok.ensures ∙ names a.b.n a.reads 9 a.row.now in
    c.if-stores_ok.false
    ∙ elim c.if-names_ok-2.branch [
      | then-names_ok-2 v ↦ elim c.if-names_ok.branch [
        | then-names_ok u ↦
            sets-outside a.b.readers (cells a.b.objects.now) a.b.n a.reads a.both (cells a.row.now) c.names_ok.result reads u.if-names_ok.true
            u.names_ok-then-names_ok.result (u.names_ok-then-names_ok.ensures ∙ names a.b.n k w a.row.now) (sym u.value-is ∙ v.if-names_ok-2.true)
            v.stores_ok.result (v.stores_ok.ensures ∙ stores a.b.readers (cells a.b.objects.now) k w a.row.now) (sym v.value-is ∙ c.if-stores_ok.false)
        | else-names_ok u ↦ cc
      ]
      | else-names_ok-2 v ↦ elim c.if-names_ok.branch [
        | then-names_ok u ↦
            sets-writes a.b.readers (cells a.b.objects.now) a.b.n a.reads a.both (cells a.row.now) c.names_ok.result reads u.if-names_ok.true
            u.names_ok-then-names_ok.result (u.names_ok-then-names_ok.ensures ∙ names a.b.n k w a.row.now) (sym u.value-is ∙ v.if-names_ok-2.false)
        | else-names_ok u ↦ sets-reads a.b.readers (cells a.b.objects.now) a.b.n a.reads a.both (cells a.row.now) c.names_ok.result reads u.if-names_ok.false
      ]
    ]
