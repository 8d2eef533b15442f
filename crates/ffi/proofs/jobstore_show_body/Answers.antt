-- `ffi::jobstore_show_body` meets its contract: the part that Find's answer names.
use Rattle.model.specs.Limits.{standard}
use Rattle.layout.proofs.OffsetLaws.{standard-sane}
use Rattle.ffi.specs.ExportedPart.{low, shown-part}
use Rattle.ffi.proofs.jobstore_show_body.Goals as goal

pub finding_part-requires : goal.finding_part-requires
finding_part-requires c =
    let a = c.args in
    low standard standard-sane (a.records.now, a.bodies.now) (λ i. (c.type_inv.records i).fits) a.client a.sequence c.find.result c.find.ensures.answers

pub returns : goal.returns
returns c =
    let a = c.args in
    shown-part standard standard-sane (a.records.now, a.bodies.now) (λ i. (c.type_inv.records i).fits)
    a.client a.sequence c.find.result _ _ c.find.ensures.answers c.finding_part.ensures
