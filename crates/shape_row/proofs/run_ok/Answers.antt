-- The tests, in the order of the code, are those of the definition.
use Rattle.std.proofs.Common.{◌≡◌, ◌≤◌, ◌&&◌, ◌||◌, Bool, true, eqb, sym, ◌∙◌, arith, le-leb}
use Rattle.cells.specs.Cells.{cells}
use Rattle.shape_row.specs.RowScan.{sets_in, run_in, cells_of}
use Rattle.shape_row.specs.RowTests.{zeros-rest, run-start, run-begun}
use Rattle.shape_row.proofs.run_ok.Goals as goal
use Rattle.shape_row.proofs.run_ok.Goals.{After-stopped_ok}

-- the tests before the last are passed
passed : (c : After-stopped_ok) → c.get-counter.result ≤ c.args.m → c.get-outcome.result ≤ 3 → c.get-both.result ≤ c.get-counter.result → c.get-reads.result ≤ c.get-both.result
    → run_in c.args.b.readers (cells c.args.b.objects.now) c.args.b.n c.args.m (cells c.args.row.now)
    ≡ (eqb c.get-outcome.result 0 || eqb c.get-reads.result c.get-both.result) && sets_in c.args.b.readers (cells c.args.b.objects.now) c.args.b.n c.get-reads.result c.get-both.result (cells c.args.row.now)
passed c body outcomes entries less =
    let k = c.get-counter.result in
    let o = c.get-outcome.result in
    let r = c.get-reads.result in
    let b = c.get-both.result in
    let a = c.args in
    let told = run-begun a.b.readers (cells a.b.objects.now) a.b.n a.m (cells a.row.now) k c.get-counter.ensures c.if-counter-eq0.false
    o r b c.get-outcome.ensures c.get-reads.ensures c.get-both.ensures in
    told ∙ rw (le-leb k a.m body, le-leb o 3 outcomes, le-leb b k entries, le-leb r b less)

last : (p a b : Bool) → p ≡ a && b → a ≡ true → (q : Bool) → q ≡ b → q ≡ p
last p a b e t q h = h ∙ sym (e ∙ rw t)

pub returns-then-counter-eq0 : goal.returns-then-counter-eq0
returns-then-counter-eq0 c =
    let a = c.args in
    let k = c.get-counter in
    let z = rw c.row_cells.ensures at c.cells_zero.ensures in
    z ∙ zeros-rest a.row.now (cells_of a.b.most) 2 c.requires.0 ∙ sym (run-start a.b.readers (cells a.b.objects.now) a.b.n a.m (cells a.row.now) k.result k.ensures c.if-counter-eq0.true)

pub returns-then-stopped_ok : goal.returns-then-stopped_ok
returns-then-stopped_ok c =
    last _ _ _ (passed (goal.at.returns-then-stopped_ok c).After-stopped_ok (omega arith) (omega arith) (omega arith) (omega arith)) (sym c.stopped_ok.ensures ∙ c.if-stopped_ok.true) c.sets_ok.result c.sets_ok.ensures

pub returns-else-stopped_ok : goal.returns-else-stopped_ok
returns-else-stopped_ok c =
    c.if-stopped_ok.false ∙ sym (passed (goal.at.returns-else-stopped_ok c).After-stopped_ok (omega arith) (omega arith) (omega arith) (omega arith) ∙ rw (sym c.stopped_ok.ensures ∙ c.if-stopped_ok.false))
