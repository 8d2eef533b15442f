-- The value read is the one that the table has of this object.
use Rattle.std.proofs.Common.{ℕ, ap, arith, get_or}
use Rattle.cells.specs.Cells.{cells}
use Rattle.cells.specs.Signed.{told}
use Rattle.dry_run.specs.Values.{gathered_next}
use Rattle.dry_run.proofs.gather.Goals as goal

pub loop-o-preserved : goal.loop-o-preserved
loop-o-preserved c =
    let few = c.requires.laid.1.few in
    let at = ap (λ (x : ℕ). get_or (cells c.args.records.now) x 0) c.size_at.ensures.exact in
    gathered_next (omega (arith, c.get-n.ensures, at)) c.loop-o.invariant (told c.get_signed.type_inv c.get_signed.ensures)
