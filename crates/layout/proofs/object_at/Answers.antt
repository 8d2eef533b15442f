use Rattle.layout.proofs.OffsetLaws.{object-cell}
use Rattle.layout.proofs.object_at.Goals as goal

pub returns : goal.returns
returns c =
    object-cell c.args.l c.requires.sane c.args.i c.requires.i_le_objects _ _ c.size_at.ensures.exact c.object_width.ensures
