-- The start, a turn and the end of the scan by eight words: `rest-zero`, `eight-turn`, `eight-zero` and `eight-seen`.
use Rattle.std.proofs.Common.{ℕ, ◌≡◌, ◌+◌, ◌-◌, ◌*◌, ◌/◌, ◌∙◌, refl, sym, ap, arith, ne_eqb}
use Rattle.std.proofs.Math.Seq.{slice}
use Rattle.cells.specs.Zeros.{zeros}
use Rattle.zero_scan.specs.Totals.{eight, rest-zero, eight-turn, eight-zero, eight-seen}
use Rattle.zero_scan.proofs.all_zero.Goals as goal

pub loop-k-init : goal.loop-k-init
unfolding eight
loop-k-init c =
    let a = c.args in
    let e : a.from + 0 * 64 ≡ a.from = omega arith in
    rw e (sym (rest-zero 0 (slice a.from a.to a.area.now) refl))

pub loop-k-preserved : goal.loop-k-preserved
loop-k-preserved c =
    let l = c.loop-k in
    let x = c.args in
    let i = x.from + l.k * 64 in
    let e : x.from + (l.k + 1) * 64 ≡ i + 64 = omega arith in
    rw (
      e,
      c.or_word-a.ensures,
      c.or_word-b.ensures,
      c.or_word-c.ensures,
      c.or_word-d.ensures,
      c.or_word-e.ensures,
      c.or_word-f.ensures,
      c.or_word-g.ensures,
      c.or_word-h.ensures,
    )
    (l.invariant ∙ eight-turn l.a l.b l.c l.d l.e l.f l.g l.h x.area.now x.to (omega arith) i (omega arith))

pub returns-then-seen-eq0 : goal.returns-then-seen-eq0
returns-then-seen-eq0 c =
    let l = c.loop-k in
    let x = c.args in
    let e : (x.to - x.from) / 64 ≡ l.k = omega arith in
    c.words_zero.ensures
    ∙ ap (λ (k : ℕ). zeros (slice (x.from + k * 64) x.to x.area.now)) e
    ∙ sym (l.invariant ∙ eight-zero l.a l.b l.c l.d l.e l.f l.g l.h c.if-seen-eq0.true (slice (x.from + l.k * 64) x.to x.area.now))

pub returns-else-seen-eq0 : goal.returns-else-seen-eq0
returns-else-seen-eq0 c =
    let l = c.loop-k in
    let x = c.args in
    ne_eqb _ 0 c.if-seen-eq0.false
    ∙ sym (l.invariant ∙ eight-seen l.a l.b l.c l.d l.e l.f l.g l.h c.if-seen-eq0.false (slice (x.from + l.k * 64) x.to x.area.now))
