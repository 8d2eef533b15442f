use Rattle.std.proofs.Common.{◌∙◌, pos, length-set, arith}
use Rattle.cells.specs.Cells.{cells}
use Rattle.cells.specs.Signed.{told}
use Rattle.operation.specs.Body.{register_count}
use Rattle.execution.proofs.Listed.{fill_next, all_listed}
use Rattle.rows.specs.RowRun.{register_in, registers_in}
use Rattle.rows.proofs.load_registers.Goals as goal

pub loop-i-preserved : goal.loop-i-preserved
loop-i-preserved c =
    let l = c.loop-i in
    record {
      size = length-set l.registers l.i _ ∙ l.invariant.size;
      passed = fill_next (register_in (cells c.args.row.now)) (pos 0) l.registers l.i _ (omega arith) l.invariant.passed (told c.get_signed.type_inv c.get_signed.ensures);
    }

pub returns : goal.returns
unfolding registers_in register_count
returns c =
    let l = c.loop-i in
    all_listed (register_in (cells c.args.row.now)) (pos 0) l.registers 4 l.invariant.size (λ k h. l.invariant.passed k (omega arith))
