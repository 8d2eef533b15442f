-- Both tails are filled with 0, and the count says how many stay.
use Rattle.std.proofs.Common.{arith}
use Rattle.final_requeue.specs.Clear.{clearing_sizes, clear-rows_inside, clear-bodies_inside, clear_both}
use Rattle.final_requeue.proofs.clear_from.Goals as goal

pub fill_zero-requires : goal.fill_zero-requires
fill_zero-requires c =
    clear-rows_inside c.requires.sane c.requires.clearing c.row_at.ensures.exact c.row_at-2.ensures.exact

pub put-requires : goal.put-requires
put-requires c = omega (arith, (clearing_sizes c.requires.sane c.requires.clearing).0)

pub fill_zero-requires-2 : goal.fill_zero-requires-2
fill_zero-requires-2 c =
    clear-bodies_inside c.requires.sane c.requires.clearing c.body_at.ensures.exact c.body_at-2.ensures.exact

pub returns : goal.returns
returns c =
    record {
      both = λ p. clear_both c.requires.sane p c.row_at.ensures.exact c.row_at-2.ensures.exact c.pending_at.ensures.exact
          c.body_at.ensures.exact c.body_at-2.ensures.exact c.fill_zero.ensures c.put.ensures c.fill_zero-2.ensures;
    }
