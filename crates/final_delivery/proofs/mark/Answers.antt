-- Two cells are stored, the second far in front of the objects.
use Rattle.std.proofs.Common.{arith}
use Rattle.layout.proofs.HoldsLaws.{holds-long}
use Rattle.final_delivery.specs.Commit.{few-clients, marked}
use Rattle.final_delivery.proofs.mark.Goals as goal

pub put-requires-2 : goal.put-requires-2
put-requires-2 c =
    let p = c.requires.marking in
    omega (arith, c.last_at.ensures.exact, holds-long c.args.l c.requires.sane c.args.records.now p.replica p.holds, few-clients p.client)

pub returns : goal.returns
returns c =
    marked c.requires.sane (omega arith) (omega arith) (rw c.from.ensures at c.put.ensures) c.last_at.ensures.exact (rw c.from-2.ensures at c.put-2.ensures)
