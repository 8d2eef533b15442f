-- The one at i is restarted, and then all from i + 1 on; at the end nothing is left to restart.
use Rattle.std.proofs.Common.{sym, ◌∙◌, arith}
use Rattle.host.proofs.RestartLaws.{restart_step, restart_done}
use Rattle.host.proofs.jobstore_restart_from.Goals as goal

pub loop-i-preserved : goal.loop-i-preserved
loop-i-preserved c = rw c.not_begun.ensures (restart_step c.loop-i.rows c.loop-i.i _ (omega arith) ∙ c.loop-i.invariant)

pub returns : goal.returns
returns c = sym (restart_done c.loop-i.rows c.loop-i.i (omega arith)) ∙ c.loop-i.invariant
