-- Each write leaves what the contract says.
use Rattle.std.proofs.Common.{ℕ, ◌+◌, ◌-◌, ◌∙◌, ap, subst, arith, length}
use Rattle.cells.specs.Cells.{Put, splice}
use Rattle.cells.specs.Splice.{splice-back}
use Rattle.optimistic_delivery.proofs.append.Goals as goal

pub returns : goal.returns
returns c =
    let s = c.args in
    let at = c.body_at-at.result in
    record {
      between = c.put.new.area;
      row = subst (λ (i : ℕ). Put s.records.now c.put.new.area i s.key) c.row_at.ensures.exact c.put.ensures;
      counted = subst (λ (i : ℕ). Put c.put.new.area c.put-2.new.area i (s.count + 1)) c.pending_at.ensures.exact c.put-2.ensures;
      body =
          splice-back s.bodies.now c.copy_from_slice.new.self s.body.now at (at + length s.body.now - at) c.copy_from_slice.ensures.after (omega arith)
          ∙ ap (λ (i : ℕ). splice s.bodies.now i s.body.now) c.body_at-at.ensures.exact;
    }
