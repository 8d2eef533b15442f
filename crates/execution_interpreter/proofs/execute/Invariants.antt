-- The rest of the budget leads where all of it leads from the start (`Going`), with outcome 0.
use Rattle.std.proofs.Common.{◌≡◌, ◌-◌, ◌≤◌}
use Rattle.cells.specs.Cells.{cells}
use Rattle.operation.specs.Body.{operations}
use Rattle.execution.specs.LentTable.{lent_table}
use Rattle.execution.specs.Arrays.{capacity, run_of_arrays, Lent, Within}
use Rattle.execution_interpreter.specs.Budget.{Going}
use Rattle.execution_interpreter.proofs.execute.Given as goal

abbrev pub invariant-loop-t : goal.invariant-loop-t
invariant-loop-t l = record {
  going :
      Going (lent_table l.table l.objects (cells l.area)) (operations l.body) l.budget
      (run_of_arrays l.initial.t l.initial.registers l.initial.reads l.initial.writes) l.used
      (run_of_arrays l.t l.registers l.reads l.writes);
  outcome : l.t.outcome ≡ 0;
  lent : Lent l.t l.reads l.writes;
  within : Within l.initial.t → Within l.t;
  past : capacity ≤ l.initial.t.counter → l.t ≡ l.initial.t;
}

abbrev pub decreases-loop-t : goal.decreases-loop-t
decreases-loop-t l = l.budget - l.used
