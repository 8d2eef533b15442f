-- The space stands behind what was there, and the number behind the space.
use Rattle.std.proofs.Common.{to_z-of_z}
use Rattle.text.specs.NumeralLaws.{puts-follows, follows-both}
use Rattle.text.proofs.buffer.Text.put_next.Goals as goal

pub returns : goal.returns
returns c = follows-both (puts-follows c.put.ensures) (rw (to_z-of_z c.ranges.v) at c.put_signed.ensures)
