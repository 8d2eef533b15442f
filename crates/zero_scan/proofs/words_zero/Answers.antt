-- The start, a turn and the end of the scan by words: `rest-zero` and `word-turn`.
use Rattle.std.proofs.Common.{ℕ, ◌≡◌, ◌+◌, ◌-◌, ◌*◌, ◌/◌, ◌∙◌, refl, sym, ap, arith}
use Rattle.std.proofs.Math.Seq.{slice}
use Rattle.cells.specs.Zeros.{zeros}
use Rattle.zero_scan.specs.Totals.{word-turn, rest-zero}
use Rattle.zero_scan.proofs.words_zero.Goals as goal

pub loop-k-init : goal.loop-k-init
loop-k-init c =
    let a = c.args in
    let e : a.from + 0 * 8 ≡ a.from = omega arith in
    rw e (sym (rest-zero 0 (slice a.from a.to a.area.now) refl))

pub loop-k-preserved : goal.loop-k-preserved
loop-k-preserved c =
    let l = c.loop-k in
    let a = c.args in
    let i = a.from + l.k * 8 in
    let e : a.from + (l.k + 1) * 8 ≡ i + 8 = omega arith in
    rw (e, c.or_word-seen.ensures) (l.invariant ∙ word-turn a.area.now a.to (omega arith) l.seen i (omega arith))

pub returns-then-seen-eq0 : goal.returns-then-seen-eq0
returns-then-seen-eq0 c =
    let l = c.loop-k in
    let a = c.args in
    let e : (a.to - a.from) / 8 ≡ l.k = omega arith in
    c.bytes_zero.ensures
    ∙ ap (λ (k : ℕ). zeros (slice (a.from + k * 8) a.to a.area.now)) e
    ∙ sym (l.invariant ∙ rest-zero l.seen (slice (a.from + l.k * 8) a.to a.area.now) c.if-seen-eq0.true)
