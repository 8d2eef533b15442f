-- Refused above 4,096; else the answer is what the pass over the pending transactions comes to.
use Rattle.std.proofs.Common.{refl, sym, ap, ◌≤◌, get_or, Fits, w8, rules}
use Rattle.cells.specs.Cells.{Below}
use Rattle.model.specs.Calls.{Answer, most_work}
use Rattle.layout.specs.Layout.{Areas}
use Rattle.layout.proofs.ContractLaws.{met_by}
use Rattle.speculative_execution.specs.Answer.{Asked, too_many, readable, sorted_blocks, begun, answered}
use Rattle.speculative_execution.proofs.execute.Goals as goal
use Rattle.speculative_execution.proofs.execute.Goals.{Else-count-gt-MOST_WORK}

-- ---- what is known of a count that is not refused, and after the turns

asked : (c : Else-count-gt-MOST_WORK) → Asked c.args.l c.args.records.now c.args.bodies.now
asked c = let p = c.requires.supported in record { sane = p.sane; objects = p.objects; few = p.operations; fit = c.requires.bodies_value }

bytes : (c : Else-count-gt-MOST_WORK) → Below 256 c.args.records.now
bytes c i = let h : Fits w8 (get_or c.args.records.now i 0) = search rules in h.fits

low : (c : Else-count-gt-MOST_WORK) → c.args.count ≤ most_work
unfolding most_work
low c = c.if-count-gt-MOST_WORK.false

-- ---- the goals

pub returns-then-count-gt-MOST_WORK : goal.returns-then-count-gt-MOST_WORK
unfolding most_work
returns-then-count-gt-MOST_WORK c =
    let a = c.args in
    let e = too_many a.l a.records.now a.bodies.now a.count c.requires.bodies_value c.if-count-gt-MOST_WORK.true in
    record { answers = sym (ap (λ (x : Answer × Areas). x.0) e); areas = sym (ap (λ (x : Answer × Areas). x.1) e) }

pub committed_values-n-requires : goal.committed_values-n-requires
committed_values-n-requires c =
    let p = (goal.at.committed_values-n-requires c).Else-count-gt-MOST_WORK in
    (c.requires.supported.sane, readable (asked p) (bytes p), sorted_blocks (asked p) (bytes p), refl)

pub execute_pending-requires : goal.execute_pending-requires
execute_pending-requires c =
    let p = (goal.at.execute_pending-requires c).Else-count-gt-MOST_WORK in
    begun (asked p) (bytes p) c.committed_values-n.ensures c.args.count (low p)

pub returns : goal.returns
returns c =
    let p = (goal.at.returns c).Else-count-gt-MOST_WORK in
    met_by (answered (asked p) (bytes p) c.args.count (low p) c.execute_pending.ensures)
