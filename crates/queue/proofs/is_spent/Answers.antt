-- The client's last number is a cell of the record area.
use Rattle.std.proofs.Common.{ap₂, arith, leb}
use Rattle.model.specs.Calls.{clients}
use Rattle.layout.proofs.HoldsLaws.{holds-long}
use Rattle.layout.proofs.Reading.{last-read}
use Rattle.queue.proofs.is_spent.Goals as goal

pub get-requires : goal.get-requires
unfolding clients
get-requires c =
    let H = c.requires.holding in
    omega (arith, c.requires.sane.1, c.last_at.ensures.exact, holds-long c.args.l c.requires.sane.0 c.args.records.now H.replica H.holds)

pub returns : goal.returns
returns c =
    record {
      test = λ u h. ap₂ leb c.from.ensures (last-read c.args.l c.requires.sane.0 c.args.records.now u h c.last_at.result c.get.result c.get.ensures c.args.client c.requires.sane.1 c.last_at.ensures.exact);
    }
