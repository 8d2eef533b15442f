-- `replica_calls::open` meets its contract: each way out is a law of specs/OpeningAnswers.antt.
use Rattle.std.proofs.Common.{◌∙◌, sym}
use Rattle.std.proofs.lemmas.Bool.{not-true, not-false}
use Rattle.replica_calls.specs.OpeningAnswers.{wrong-record, wrong-bodies, wrong-counts, start_outside, filled}
use Rattle.replica_calls.proofs.open.Goals as goal
use Rattle.replica_calls.proofs.open.Goals.{then-records-record_length-via-then-records-record_length, then-records-record_length-via-else-records-record_length+then-bodies-bodies_length}

pub returns-then-records-record_length : goal.returns-then-records-record_length
returns-then-records-record_length c =
    let a = c.args in
    elim c.then-records-record_length.branch [
      | then-records-record_length-via-then-records-record_length w ↦
          wrong-record a.l a.n a.values.now a.lower.now a.upper.now a.timestamp (a.records.now, a.bodies.now)
          (λ e. w.if-records-record_length.true (e ∙ sym c.record_length.ensures))
      | then-records-record_length-via-else-records-record_length+then-bodies-bodies_length w ↦
          wrong-bodies a.l a.n a.values.now a.lower.now a.upper.now a.timestamp (a.records.now, a.bodies.now)
          (λ e. w.if-bodies-bodies_length.true (e ∙ sym w.bodies_length.ensures))
    ]

pub returns-then-not-counts_ok : goal.returns-then-not-counts_ok
returns-then-not-counts_ok c =
    let a = c.args in
    wrong-counts a.l a.n a.values.now a.lower.now a.upper.now a.timestamp (a.records.now, a.bodies.now)
    (c.if-records-record_length.false ∙ c.record_length.ensures) (c.if-bodies-bodies_length.false ∙ c.bodies_length.ensures)
    (not-false _ (sym c.counts_ok.ensures ∙ c.if-not-counts_ok.true))

pub returns-then-not-starts_inside : goal.returns-then-not-starts_inside
returns-then-not-starts_inside c =
    let a = c.args in
    start_outside a.l a.n a.values.now a.lower.now a.upper.now a.timestamp (a.records.now, a.bodies.now)
    (c.if-records-record_length.false ∙ c.record_length.ensures) (c.if-bodies-bodies_length.false ∙ c.bodies_length.ensures)
    (not-true _ (sym c.counts_ok.ensures ∙ c.if-not-counts_ok.false)) (sym c.starts_inside.ensures ∙ c.if-not-starts_inside.true)

pub returns : goal.returns
returns c =
    let a = c.args in
    filled a.l a.n a.values.now a.lower.now a.upper.now a.timestamp (a.records.now, a.bodies.now)
    (c.if-records-record_length.false ∙ c.record_length.ensures) (c.if-bodies-bodies_length.false ∙ c.bodies_length.ensures)
    c.requires.sane (not-true _ (sym c.counts_ok.ensures ∙ c.if-not-counts_ok.false)) (sym c.starts_inside.ensures ∙ c.if-not-starts_inside.false) _ c.fill.ensures
