-- The count read is that of the pending transactions; a row is what the laws of the walk say.
use Rattle.std.proofs.Common.{◌≡◌, arith}
use Rattle.layout.proofs.Reading.{count-read}
use Rattle.final_walk.specs.Walk.{walk-long, walk-few, walked_start, walked_all, walk-there, walk-lying, walk-reads, walk-writes, walked-stale, walked_next}
use Rattle.final_walk.proofs.first_stale.Goals as goal

pub get-count-requires : goal.get-count-requires
get-count-requires c = omega (arith, c.pending_at.ensures, walk-long c.requires.sane c.requires.walking)

pub loop-i-init : goal.loop-i-init
loop-i-init c =
    let s = c.args in
    λ p. walked_start c.requires.sane p c.get-count.result
    (count-read s.l c.requires.sane s.records.now p.replica p.holds c.pending_at.result c.get-count.result c.get-count.ensures c.pending_at.ensures.exact)

pub row_at-row-requires-clause-i_le_pending : goal.row_at-row-requires-clause-i_le_pending
row_at-row-requires-clause-i_le_pending c =
    omega (arith, walk-there c.requires.sane c.requires.walking (c.loop-i.invariant c.requires.walking) c.loop-i-test.true)

-- what the row on record lies in, and where its reads and writes have their places
pub reads_match-requires-clause-lying : goal.reads_match-requires-clause-lying
reads_match-requires-clause-lying c =
    let p = c.requires.walking in
    walk-lying c.requires.sane p (c.loop-i.invariant p) c.loop-i-test.true c.row_at-row.ensures.exact

pub reads_match-requires-clause-reaching : goal.reads_match-requires-clause-reaching
reads_match-requires-clause-reaching c =
    let p = c.requires.walking in
    walk-reads c.requires.sane p (c.loop-i.invariant p) c.loop-i-test.true c.row_at-row.ensures.exact

pub lay_writes-requires-clause-lying : goal.lay_writes-requires-clause-lying
lay_writes-requires-clause-lying c =
    let p = c.requires.walking in
    walk-lying c.requires.sane p (c.loop-i.invariant p) c.loop-i-test.true c.row_at-row.ensures.exact

pub lay_writes-requires-clause-reaching : goal.lay_writes-requires-clause-reaching
lay_writes-requires-clause-reaching c =
    let p = c.requires.walking in
    walk-writes c.requires.sane p (c.loop-i.invariant p) c.loop-i-test.true c.row_at-row.ensures.exact

pub loop-i-preserved : goal.loop-i-preserved
loop-i-preserved c =
    λ p. walked_next c.requires.sane p (c.loop-i.invariant p) c.loop-i-test.true c.row_at-row.ensures.exact c.reads_match.ensures c.if-reads_match.true
    c.lay_writes.ensures

pub returns-else-reads_match : goal.returns-else-reads_match
returns-else-reads_match c =
    record {
      walked = λ p. walked-stale c.requires.sane p (c.loop-i.invariant p) c.loop-i-test.true c.row_at-row.ensures.exact c.reads_match.ensures c.if-reads_match.false;
    }

pub overflow_cast-result-2 : goal.overflow_cast-result-2
overflow_cast-result-2 c =
    let p = c.requires.walking in
    let k = c.loop-i.invariant p in
    omega (arith, k.within, k.count, walk-few c.requires.sane p)

pub returns : goal.returns
returns c =
    record {
      walked = λ p. let all : c.loop-i.i ≡ c.get-count.result = omega arith in
          rw (← all) (walked_all c.requires.sane p (c.loop-i.invariant p) c.loop-i-test.false);
    }
