-- By arithmetic.
use Rattle.std.proofs.Common.{rules}
use Rattle.shape_keys.specs.Keys.{mark}
use Rattle.shape_keys.proofs.mark_of.Goals as goal

pub returns : goal.returns
unfolding mark
returns c = search rules
