-- The word at hand is the one, or one that is passed: it is not empty, and so leads on.
use Rattle.std.proofs.Common.{◌≡◌, length, sym, ◌∙◌, arith}
use Rattle.std.proofs.lemmas.Bool.Decides.{Decides-eqb}
use Rattle.std.proofs.lemmas.Slice.Eq.{slice_eq-Decides}
use Rattle.text.specs.WordLaws.{found, none_left, pass, first-of_none, first-empty}
use Rattle.text.proofs.line_words.place.Goals as goal

pub returns-then-w : goal.returns-then-w
returns-then-w c =
    none_left _ _ _ _ c.loop-k.invariant.passed (first-empty _ _ _ c.next-w.ensures c.if-w.true)

pub returns-then-eq : goal.returns-then-eq
returns-then-eq c =
    let told = slice_eq-Decides Decides-eqb _ _ _ c.eq.ensures in
    found _ _ _ _ c.loop-k.invariant.passed _ c.next-w.ensures (told.0 c.if-eq.true)

pub loop-k-preserved : goal.loop-k-preserved
loop-k-preserved c =
    let on = c.next-w.ensures.forward (omega arith) in
    let told = slice_eq-Decides Decides-eqb _ _ _ c.eq.ensures in
    record {
      passed = pass _ _ _ _ c.loop-k.invariant.passed _ c.next-w.ensures (λ e. let z = sym (told.1 e) ∙ c.if-eq.false in cc);
      forward = omega arith;
    }

pub returns : goal.returns
returns c =
    let all : c.loop-k.k ≡ length c.args.line.now = omega arith in
    rw all at (none_left _ _ _ _ c.loop-k.invariant.passed (first-of_none c.args.line.now c.loop-k.at (omega arith)))
