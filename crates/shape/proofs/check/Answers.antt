-- Areas of wrong lengths fail it, and on others the scan's three parts are the whole check.
use Rattle.std.proofs.Common.{sym, ◌∙◌, rules}
use Rattle.cells.specs.Cells.{cells}
use Rattle.shape.specs.ScanIsShape.{fit-other, header-timestamp, objects-few, fit-header, fit-objects, fit-pending}
use Rattle.shape.proofs.check.Goals as goal
use Rattle.shape.proofs.check.Goals.{then-header_ok, else-header_ok}

pub returns-then-records-record_length : goal.returns-then-records-record_length
returns-then-records-record_length c =
    let a = c.args in
    sym (fit-other a.l (a.records.now, a.bodies.now) (λ e f. c.if-records-record_length.true (e ∙ sym c.record_length.ensures)))

pub returns-then-bodies-bodies_length : goal.returns-then-bodies-bodies_length
returns-then-bodies-bodies_length c =
    let a = c.args in
    sym (fit-other a.l (a.records.now, a.bodies.now) (λ e f. c.if-bodies-bodies_length.true (f ∙ sym c.bodies_length.ensures)))

pub objects_ok-requires : goal.objects_ok-requires
objects_ok-requires c =
    let a = c.args in (
      record { sane = c.requires.0; few = c.requires.1; whole = c.if-records-record_length.false ∙ c.record_length.ensures },
      header-timestamp a.l (cells a.records.now) (sym c.header_ok.ensures ∙ c.if-header_ok.true),
    )

pub pending_ok-requires : goal.pending_ok-requires
pending_ok-requires c =
    let a = c.args in
    elim c.if-header_ok.branch [
      | then-header_ok v ↦ (search rules, search rules, objects-few a.l (cells a.records.now) (sym v.objects_ok.ensures ∙ sym v.value-is ∙ c.if-objects_ok.true))
      | else-header_ok v ↦ cc
    ]

pub returns-then-objects_ok : goal.returns-then-objects_ok
returns-then-objects_ok c =
    let a = c.args in
    let p = c.header_ok in
    elim c.if-header_ok.branch [
      | then-header_ok v ↦
          fit-pending a.l c.requires.0 (a.records.now, a.bodies.now) (λ i. (c.type_inv.records i).fits)
          (c.if-records-record_length.false ∙ c.record_length.ensures) (c.if-bodies-bodies_length.false ∙ c.bodies_length.ensures)
          p.result p.ensures v.if-header_ok.true v.objects_ok.result v.objects_ok.ensures (sym v.value-is ∙ c.if-objects_ok.true) c.pending_ok.result c.pending_ok.ensures
      | else-header_ok v ↦ cc
    ]

pub returns-else-objects_ok : goal.returns-else-objects_ok
returns-else-objects_ok c =
    let a = c.args in
    let p = c.header_ok in
    c.if-objects_ok.false
    ∙ elim c.if-header_ok.branch [
      | then-header_ok v ↦
          fit-objects a.l c.requires.0 (a.records.now, a.bodies.now) (λ i. (c.type_inv.records i).fits)
          (c.if-records-record_length.false ∙ c.record_length.ensures) (c.if-bodies-bodies_length.false ∙ c.bodies_length.ensures)
          p.result p.ensures v.if-header_ok.true v.objects_ok.result v.objects_ok.ensures (sym v.value-is ∙ c.if-objects_ok.false)
      | else-header_ok v ↦
          fit-header a.l c.requires.0 (a.records.now, a.bodies.now) (λ i. (c.type_inv.records i).fits)
          (c.if-records-record_length.false ∙ c.record_length.ensures) (c.if-bodies-bodies_length.false ∙ c.bodies_length.ensures)
          p.result p.ensures v.if-header_ok.false
    ]
