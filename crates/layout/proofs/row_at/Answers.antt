use Rattle.layout.proofs.OffsetLaws.{row-cell}
use Rattle.layout.proofs.row_at.Goals as goal

pub returns : goal.returns
returns c =
    row-cell c.args.l c.requires.sane c.args.i c.requires.i_le_pending _ _ c.pending_at.ensures.exact c.row_width.ensures
