-- Fresh counts and registers are the start of a run, and 16 operations are enough for any body.
use Rattle.std.proofs.Common.{arith, ◌∙◌}
use Rattle.cells.specs.Cells.{cells}
use Rattle.operation.specs.Body.{register_count, operations}
use Rattle.operation.proofs.BodyLaws.{formed, length-operations}
use Rattle.execution.specs.LentTable.{lent_table}
use Rattle.execution.specs.Run.{object_count, start}
use Rattle.execution.proofs.Counting.{whole-counted}
use Rattle.execution.specs.Arrays.{capacity}
use Rattle.execution_interpreter.specs.Budget.{run-whole}
use Rattle.execution_interpreter.proofs.run.Goals as goal

pub returns-clause-run : goal.returns-clause-run
unfolding start register_count
returns-clause-run c =
    let a = c.args in
    let b = a.body.now in
    let x = c.execute in
    let m = (formed capacity (object_count a.table.now) b c.requires.body_value.0).most in
    let k = length-operations b in
    run-whole (lent_table a.table.now a.objects (cells a.area.now)) (operations b) x.result.counts x.new.registers x.new.reads x.new.writes
    (omega arith) x.ensures.run.run

pub returns-clause-count : goal.returns-clause-count
unfolding start register_count
returns-clause-count c =
    let a = c.args in
    let b = a.body.now in
    let m = (formed capacity (object_count a.table.now) b c.requires.body_value.0).most in
    let k = length-operations b in
    c.execute.ensures.run.count ∙ whole-counted (lent_table a.table.now a.objects (cells a.area.now)) (operations b) capacity (omega arith)
