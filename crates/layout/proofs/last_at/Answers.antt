-- `front-cell` also bounds the sum.
use Rattle.std.proofs.Common.{arith}
use Rattle.model.specs.Calls.{clients}
use Rattle.layout.proofs.OffsetLaws.{front-cell}
use Rattle.layout.proofs.last_at.Goals as goal

pub overflow_add-result : goal.overflow_add-result
unfolding clients
overflow_add-result c = omega arith

pub returns : goal.returns
unfolding clients
returns c = front-cell c.args.l c.requires.sane _ (omega arith)
