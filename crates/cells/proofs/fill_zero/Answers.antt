-- A turn of the fill, and its end: those of a loop that copies a list of zeros.
use Rattle.std.proofs.Common.{ℕ, ◌≡◌, ◌+◌, ◌-◌, ◌<◌, ◌∙◌, List, length, get_or, set, replicate, sym, ap, arith}
use Rattle.std.proofs.lemmas.List.{length-replicate, get_or-replicate}
use Rattle.std.proofs.Math.Seq.{paste}
use Rattle.cells.specs.BlockMoves.{copy_step, copy_done}
use Rattle.cells.proofs.fill_zero.Goals as goal

pub loop-i-preserved : goal.loop-i-preserved
loop-i-preserved c =
    let l = c.loop-i in
    let a = c.args in
    let s : List ℕ = replicate (a.to - a.from) 0 in
    let k : ℕ = l.i - a.from in
    let less : k < length s = rw length-replicate (omega arith) in
    let zero : 0 ≡ get_or s k 0 = sym (get_or-replicate (a.to - a.from) k 0 0 (omega arith)) in
    let here : l.i ≡ a.from + k = omega arith in
    let next : k + 1 ≡ l.i + 1 - a.from = omega arith in
    ap (λ (j : ℕ). set l.area j 0) here
    ∙ copy_step a.area.now s l.area a.from k l.invariant 0 (omega arith) less zero
    ∙ ap (paste a.area.now a.from s) next

pub returns : goal.returns
returns c =
    let l = c.loop-i in
    let a = c.args in
    copy_done a.area.now (replicate (a.to - a.from) 0) l.area a.from (l.i - a.from) l.invariant (rw length-replicate (omega arith))
