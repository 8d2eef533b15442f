-- A law for each way out and for a turn, all by the difference of the bounds.
use Rattle.std.proofs.Common.{◌-◌, drop, sym, ◌∙◌, arith}
use Rattle.cells.specs.Cells.{cells}
use Rattle.shape_bounds.specs.Difference.{Spanned, inside-next, inside-no, inside-all, inside-end}
use Rattle.shape_bounds.proofs.older_inside.Goals as goal
use Rattle.shape_bounds.proofs.older_inside.Goals.{After-wrapping_sub_u64-span}

-- the difference of the bounds is what the laws ask
spanned : (c : After-wrapping_sub_u64-span) → Spanned c.args.lower c.args.upper c.wrapping_sub_u64-span.result
spanned c = record { lower_fits = omega arith; span_fits = omega arith; distance = c.wrapping_sub_u64-span.ensures.value; order = c.requires.order }

pub returns-then-span : goal.returns-then-span
returns-then-span c =
    let a = c.args in
    let s = spanned (goal.at.returns-then-span c).After-wrapping_sub_u64-span in
    sym (inside-all a.lower a.upper c.wrapping_sub_u64-span.result s c.if-span.true (a.count - 1) (drop 3 (cells a.block.now)))

pub returns-then-span-wrapping_sub_u64 : goal.returns-then-span-wrapping_sub_u64
returns-then-span-wrapping_sub_u64 c =
    let a = c.args in
    let s = spanned (goal.at.returns-then-span-wrapping_sub_u64 c).After-wrapping_sub_u64-span in
    let i = c.loop-i in
    let v = c.get-v in
    let d = c.wrapping_sub_u64 in
    let no = inside-no a.lower a.upper c.wrapping_sub_u64-span.result s a.count i.i (cells a.block.now) v.result d.result in
    sym (i.invariant ∙ no v.ensures (omega arith) (omega arith) (omega arith) d.ensures.value (omega arith))

pub loop-i-preserved : goal.loop-i-preserved
loop-i-preserved c =
    let a = c.args in
    let s = spanned (goal.at.loop-i-preserved c).After-wrapping_sub_u64-span in
    let i = c.loop-i in
    let v = c.get-v in
    let d = c.wrapping_sub_u64 in
    let next = inside-next a.lower a.upper c.wrapping_sub_u64-span.result s a.count i.i (cells a.block.now) v.result d.result in
    i.invariant ∙ next v.ensures (omega arith) (omega arith) (omega arith) d.ensures.value (omega arith)

pub returns : goal.returns
returns c =
    let a = c.args in
    let i = c.loop-i in
    sym (i.invariant ∙ inside-end a.lower a.upper a.count i.i (cells a.block.now) (omega arith))
