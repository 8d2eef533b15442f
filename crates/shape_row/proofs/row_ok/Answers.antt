-- A law for each way through the tests: the key, the body, the run.
use Rattle.std.proofs.Common.{sym, ◌∙◌, arith, rules}
use Rattle.cells.specs.Cells.{cells}
use Rattle.shape_row.specs.RowTests.{body-most, row-key, row-body, row-run}
use Rattle.shape_row.proofs.row_ok.Goals as goal
use Rattle.shape_row.proofs.row_ok.Goals.{then-key_ok, else-key_ok}

pub run_ok-requires : goal.run_ok-requires
run_ok-requires c =
    let a = c.args in
    elim c.if-key_ok.branch [
      | then-key_ok v ↦
          (search rules, omega (arith, c.small.ensures.0, body-most a.b.most a.b.n a.place.now (sym v.body_ok.ensures ∙ sym v.value-is ∙ c.if-body_ok.true)), c.requires.lent)
      | else-key_ok v ↦ cc
    ]

pub returns-then-body_ok : goal.returns-then-body_ok
returns-then-body_ok c =
    let a = c.args in
    elim c.if-key_ok.branch [
      | then-key_ok v ↦
          row-run a.b.most a.b.n a.b.readers (cells a.b.objects.now) (cells a.b.lasts.now) (cells a.row.now) a.place.now c.get.result c.get.ensures
          c.key_ok.result c.key_ok.ensures v.if-key_ok.true v.body_ok.result v.body_ok.ensures (sym v.value-is ∙ c.if-body_ok.true)
          c.small.result c.small.ensures.0 c.run_ok.result c.run_ok.ensures
      | else-key_ok v ↦ cc
    ]

pub returns-else-body_ok : goal.returns-else-body_ok
returns-else-body_ok c =
    let a = c.args in
    c.if-body_ok.false
    ∙ elim c.if-key_ok.branch [
      | then-key_ok v ↦
          row-body a.b.most a.b.n a.b.readers (cells a.b.objects.now) (cells a.b.lasts.now) (cells a.row.now) a.place.now c.get.result c.get.ensures
          c.key_ok.result c.key_ok.ensures v.if-key_ok.true v.body_ok.result v.body_ok.ensures (sym v.value-is ∙ c.if-body_ok.false)
      | else-key_ok v ↦
          row-key a.b.most a.b.n a.b.readers (cells a.b.objects.now) (cells a.b.lasts.now) (cells a.row.now) a.place.now c.get.result c.get.ensures
          c.key_ok.result c.key_ok.ensures v.if-key_ok.false
    ]
