-- The row is loaded, its run carried on and stored; the writes of a finished one go over the table.
use Rattle.std.proofs.Common.{refl}
use Rattle.speculative_turn.specs.Advance.{Ran, some-body, lent, ran, storable, overlays, leaves}
use Rattle.speculative_turn.specs.AreaRow.{area_row, beside_in}
use Rattle.speculative_turn.proofs.resume.Goals as goal
use Rattle.speculative_turn.proofs.resume.Goals.{After-execute-e}

-- the run after the operations, in the arrays
carried : (c : After-execute-e) → (let a = c.args in let x = c.execute-e in
    Ran (area_row a.records.now a.row a.next) a.body.now a.table.now (beside_in a.records.now a.objects a.table.now) a.budget
    x.result x.new.registers x.new.reads x.new.writes)
carried c = ran c.requires.ready_at.ready c.load_row-from.ensures c.execute-e.ensures.run c.execute-e.ensures.within c.execute-e.ensures.lent

pub load_row-from-requires : goal.load_row-from-requires
load_row-from-requires c = c.requires.ready_at.ready.readable

pub execute-e-requires-clause-lent_2 : goal.execute-e-requires-clause-lent_2
execute-e-requires-clause-lent_2 c = (lent c.requires.ready_at.ready c.load_row-from.ensures, c.requires.ready_at.bounded)

pub store_row-requires : goal.store_row-requires
store_row-requires c = storable c.requires.ready_at.ready (carried (goal.at.store_row-requires c).After-execute-e)

pub is_finished-finished-requires : goal.is_finished-finished-requires
is_finished-finished-requires c = some-body c.requires.ready_at.ready

pub overlay-requires : goal.overlay-requires
overlay-requires c = (overlays c.requires.ready_at.ready (carried (goal.at.overlay-requires c).After-execute-e)).1

pub returns-then-finished : goal.returns-then-finished
returns-then-finished c =
    let a = c.args in
    record {
      new_row = c.store_row.new.row;
      leaves =
          leaves c.requires.ready_at.ready (carried (goal.at.returns-then-finished c).After-execute-e) c.store_row.ensures c.is_finished-finished.ensures c.overlay.new.table
          (rw c.if-finished.true (c.overlay.ensures.table (beside_in a.records.now a.objects a.table.now)));
      back = refl;
    }

pub returns-else-finished : goal.returns-else-finished
returns-else-finished c =
    record {
      new_row = c.store_row.new.row;
      leaves = leaves c.requires.ready_at.ready (carried (goal.at.returns-else-finished c).After-execute-e) c.store_row.ensures c.is_finished-finished.ensures c.args.table.now (rw c.if-finished.false);
      back = refl;
    }
