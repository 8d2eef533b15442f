-- One entry less is left, and it is laid.
use Rattle.std.proofs.Common.{subst, w64, rules, FitsSigned, to_z-of_z}
use Rattle.execution.proofs.TableLaws.{Laid, laid_one}
use Rattle.execution.proofs.overlay.Goals as goal

pub loop-e-preserved : goal.loop-e-preserved
loop-e-preserved c =
    let first = c.args.table.now in
    let writes = c.args.writes.now in
    let e = c.in-Some.e.now in
    let f : FitsSigned w64 e.value = search rules in
    rw (to_z-of_z f)
    (laid_one first writes c.next.new.self.iter.rest.now e c.loop-e.table (subst (λ r. Laid first writes r c.loop-e.table) c.in-Some.ensures.steps c.loop-e.invariant))
