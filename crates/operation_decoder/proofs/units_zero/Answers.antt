-- A turn is the one law `unit_turn`, the end `seen_all`.
use Rattle.std.proofs.Common.{◌≡◌, ◌+◌, ◌*◌, ◌∙◌, refl, sym, arith, rules}
use Rattle.std.proofs.Math.Seq.{slice}
use Rattle.zero_scan.specs.Totals.{rest-zero}
use Rattle.operation_decoder.specs.Tail.{unit_turn, seen_all}
use Rattle.operation_decoder.proofs.units_zero.Goals as goal

pub loop-k-init : goal.loop-k-init
loop-k-init c =
    let a = c.args in
    let e : a.from + 11 * 0 ≡ a.from = omega arith in
    rw e (sym (rest-zero 0 (slice a.from (a.from + 11 * a.units) a.place.now) refl))

pub loop-k-preserved : goal.loop-k-preserved
loop-k-preserved c =
    let a = c.args in
    let l = c.loop-k in
    let at = a.from + 11 * l.k in
    let e : a.from + 11 * (l.k + 1) ≡ at + 11 = omega arith in
    rw (e, c.or_word-seen-in-loop-k.ensures, c.or_word-seen.ensures)
    (l.invariant ∙ unit_turn a.place.now (a.from + 11 * a.units) (search rules) at (omega arith) l.seen)

pub returns : goal.returns
returns c =
    let a = c.args in
    let l = c.loop-k in
    sym (l.invariant ∙ seen_all a.place.now (a.from + 11 * a.units) (search rules) (a.from + 11 * l.k) (omega arith) l.seen)
