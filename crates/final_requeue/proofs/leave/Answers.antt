-- Those that stay are closed up, and the places behind them cleared.
use Rattle.std.proofs.Common.{arith}
use Rattle.layout.proofs.HoldsLaws.{holds-long}
use Rattle.layout.proofs.Reading.{count-read}
use Rattle.final_requeue.specs.Leave.{counted}
use Rattle.final_requeue.specs.Clear.{closed_clearing, closed}
use Rattle.final_requeue.proofs.leave.Goals as goal

pub get-count-requires : goal.get-count-requires
get-count-requires c =
    let p = c.requires.paired in
    omega (arith, c.pending_at.ensures, holds-long c.args.l c.requires.sane c.args.records.now p.replica p.holds)

pub close_up-staying-requires-clause-counted : goal.close_up-staying-requires-clause-counted
close_up-staying-requires-clause-counted c =
    let s = c.args in
    let p = c.requires.paired in
    counted c.get-count.result p
    (count-read s.l c.requires.sane s.records.now p.replica p.holds c.pending_at.result c.get-count.result c.get-count.ensures c.pending_at.ensures.exact)

pub clear_from-requires-clause-clearing : goal.clear_from-requires-clause-clearing
clear_from-requires-clause-clearing c =
    let s = c.args in
    let p = c.requires.paired in
    closed_clearing
    (c.close_up-staying.ensures.closing
    (counted c.get-count.result p
    (count-read s.l c.requires.sane s.records.now p.replica p.holds c.pending_at.result c.get-count.result c.get-count.ensures c.pending_at.ensures.exact)))

pub returns : goal.returns
returns c =
    let s = c.args in
    record {
      both = λ p. let n = count-read s.l c.requires.sane s.records.now p.replica p.holds c.pending_at.result c.get-count.result c.get-count.ensures c.pending_at.ensures.exact in
          let r = c.close_up-staying.ensures.closing (counted c.get-count.result p n) in
          closed r (c.clear_from.ensures.both (closed_clearing r));
    }
