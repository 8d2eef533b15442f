-- The word is the first from the index on, and from the end on where the index is past it.
use Rattle.std.proofs.Common.{◌≡◌, drop, ap, ◌∙◌, arith, rules}
use Rattle.std.proofs.Math.Nat.{min-eq_left}
use Rattle.text.specs.WordLaws.{from-least, word-is, rest-is}
use Rattle.text.proofs.line_words.next.Goals as goal

pub returns : goal.returns
returns c =
    let line = c.args.line.now in
    let at = c.args.at in
    let start = c.min-start.result in
    let same : drop start line ≡ drop at line = ap (λ k. drop k line) c.min-start.ensures ∙ from-least at line in
    record {
      ordered = search rules;
      within = search rules;
      forward = λ l. omega (arith, min-eq_left l);
      is = word-is line at start _ _ same c.run_end-from.ensures.0 c.run_end-to.ensures.0;
      behind = rest-is line at start _ _ same c.run_end-from.ensures.0 c.run_end-to.ensures.0;
    }
