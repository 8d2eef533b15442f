-- The count read is that of the pending transactions; a turn clears one row.
use Rattle.std.proofs.Common.{arith}
use Rattle.layout.proofs.HoldsLaws.{holds-long}
use Rattle.layout.proofs.Reading.{count-read}
use Rattle.final_walk.specs.RestartFrom.{restart_start, restart_end, row-there, restart_inside, restart_step}
use Rattle.final_walk.proofs.restart_from.Goals as goal

pub get-pending-requires : goal.get-pending-requires
get-pending-requires c =
    let p = c.requires.holding in
    omega (arith, c.pending_at.ensures, holds-long c.args.l c.requires.sane c.args.records.now p.replica p.holds)

pub loop-i-init : goal.loop-i-init
loop-i-init c =
    let s = c.args in
    λ p. restart_start _ p
    (count-read s.l c.requires.sane s.records.now p.replica p.holds c.pending_at.result c.get-pending.result c.get-pending.ensures c.pending_at.ensures.exact)

pub row_at-row-requires-clause-i_le_pending : goal.row_at-row-requires-clause-i_le_pending
row_at-row-requires-clause-i_le_pending c =
    omega (arith, row-there c.requires.sane (c.loop-i.invariant c.requires.holding) c.loop-i-test.true)

pub row_at-next-requires-clause-i_le_pending : goal.row_at-next-requires-clause-i_le_pending
row_at-next-requires-clause-i_le_pending c =
    omega (arith, row-there c.requires.sane (c.loop-i.invariant c.requires.holding) c.loop-i-test.true)

pub fill_zero-requires : goal.fill_zero-requires
fill_zero-requires c =
    restart_inside c.requires.sane (c.loop-i.invariant c.requires.holding) c.loop-i-test.true c.row_at-row.ensures.exact c.row_at-next.ensures.exact

pub loop-i-preserved : goal.loop-i-preserved
loop-i-preserved c =
    λ p. restart_step c.requires.sane (c.loop-i.invariant p) c.loop-i-test.true c.row_at-row.ensures.exact c.row_at-next.ensures.exact c.fill_zero.ensures

pub returns : goal.returns
returns c = record { holds = λ p. restart_end c.requires.sane (c.loop-i.invariant p) c.loop-i-test.false }
