-- A law for each answer. The number of pending transactions was read from its cell.
use Rattle.std.proofs.Common.{◌≡◌, ℕ, get_or, ap, sym, ◌∙◌, arith}
use Rattle.cells.specs.Cells.{cells}
use Rattle.layout.specs.Unchecked.{pending_in}
use Rattle.shape.specs.PendingParts.{pending-many, pending-rows, pending-behind, pending-bodies}
use Rattle.shape.proofs.pending_ok.Goals as goal
use Rattle.shape.proofs.pending_ok.Goals.{After-get-count, then-used_ok, else-used_ok}

pending : (c : After-get-count) → c.get-count.result ≡ pending_in c.args.l (cells c.args.records.now)
pending c = c.get-count.ensures ∙ ap (λ (i : ℕ). get_or (cells c.args.records.now) i 0) c.pending_at.ensures.exact

pub returns-then-l-count : goal.returns-then-l-count
returns-then-l-count c =
    let a = c.args in
    pending-many a.l a.records.now a.bodies.now c.get-count.result (pending (goal.at.returns-then-l-count c).After-get-count) c.if-l-count.true

pub returns-then-all_zero : goal.returns-then-all_zero
returns-then-all_zero c =
    let a = c.args in
    let k = c.get-count in
    let g = c.row_at-end in
    let t = c.row_at-tail in
    let b = c.body_at-last in
    let p = c.used_ok in
    let z = c.all_zero-then-all_zero in
    elim c.if-used_ok.branch [
      | then-used_ok v ↦
          pending-bodies a.l a.records.now a.bodies.now k.result (pending (goal.at.returns-then-all_zero c).After-get-count) c.if-l-count.false p.result p.ensures v.if-used_ok.true
          g.result t.result (omega (arith, t.ensures.inside, c.requires.0.whole)) g.ensures.exact t.ensures.exact v.all_zero.result v.all_zero.ensures (sym v.value-is ∙ c.if-all_zero.true)
          b.result b.ensures.exact z.result z.ensures
      | else-used_ok v ↦ cc
    ]

pub returns-else-all_zero : goal.returns-else-all_zero
returns-else-all_zero c =
    let a = c.args in
    let k = c.get-count in
    let g = c.row_at-end in
    let t = c.row_at-tail in
    let p = c.used_ok in
    let count = pending (goal.at.returns-else-all_zero c).After-get-count in
    c.if-all_zero.false
    ∙ elim c.if-used_ok.branch [
      | then-used_ok v ↦
          pending-behind a.l a.records.now a.bodies.now k.result count c.if-l-count.false p.result p.ensures v.if-used_ok.true
          g.result t.result (omega (arith, t.ensures.inside, c.requires.0.whole)) g.ensures.exact t.ensures.exact v.all_zero.result v.all_zero.ensures (sym v.value-is ∙ c.if-all_zero.false)
      | else-used_ok v ↦ pending-rows a.l a.records.now a.bodies.now k.result count c.if-l-count.false p.result p.ensures v.if-used_ok.false
    ]
