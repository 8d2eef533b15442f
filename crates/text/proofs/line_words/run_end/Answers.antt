-- One more byte of the run, or its end.
use Rattle.std.proofs.Common.{arith}
use Rattle.text.specs.WordLaws.{stops, goes_on, ends}
use Rattle.text.proofs.line_words.run_end.Goals as goal

pub returns-then-is_blank-blank : goal.returns-then-is_blank-blank
returns-then-is_blank-blank c =
    let z = stops c.args.blank c.loop-i.i c.args.line.now (omega arith) c.is_blank.result c.is_blank.ensures c.if-is_blank-blank.true in
    (omega arith, omega arith, omega arith)

pub loop-i-preserved : goal.loop-i-preserved
loop-i-preserved c =
    let z = goes_on c.args.blank c.loop-i.i c.args.line.now (omega arith) c.is_blank.result c.is_blank.ensures c.if-is_blank-blank.false in
    omega arith

pub returns : goal.returns
returns c =
    let z = ends c.args.blank c.loop-i.i c.args.line.now (omega arith) in
    (omega arith, omega arith, omega arith)
