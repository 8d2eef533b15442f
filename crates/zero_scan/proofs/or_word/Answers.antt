-- What `words::load` ensures.
use Rattle.std.proofs.Common.{ap, bit_or}
use Rattle.zero_scan.specs.Totals.{with_word}
use Rattle.zero_scan.proofs.or_word.Goals as goal

pub returns : goal.returns
unfolding with_word
returns c = ap (bit_or c.args.seen) c.load.ensures
