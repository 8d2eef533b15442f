-- Each digit by a law of reading on.
use Rattle.std.proofs.Common.{◌∙◌, sym, arith, refl}
use Rattle.std.proofs.lemmas.Bool.{eqb-true, eqb-false}
use Rattle.text.specs.NumberLaws.{nothing, begins, stops, exceeds, goes_on, ends}
use Rattle.text.proofs.numbers.unsigned.Goals as goal

pub returns-then-is_empty : goal.returns-then-is_empty
returns-then-is_empty c = nothing _ c.args.word.now (eqb-true _ _ (sym c.is_empty.ensures ∙ c.if-is_empty.true))

pub loop-byte-init : goal.loop-byte-init
loop-byte-init c =
    let some = eqb-false _ _ (sym c.is_empty.ensures ∙ c.if-is_empty.false) in
    record { small = omega arith; read = begins c.args.most c.args.word.now (omega (arith, some)) }

pub returns-in_err-d : goal.returns-in_err-d
returns-in_err-d c =
    c.from_residual.ensures
    ∙ stops c.args.most c.loop-byte.n c.loop-byte.byte-index _ c.args.word.now (omega arith) refl (omega (arith, c.in_err-d.ensures))
    ∙ c.loop-byte.invariant.read

pub returns-then-most-d : goal.returns-then-most-d
returns-then-most-d c =
    exceeds c.args.most c.loop-byte.n c.loop-byte.byte-index _ c.args.word.now (omega arith) c.in_ok-d.ensures.0 (omega arith)
    ∙ c.loop-byte.invariant.read

pub loop-byte-preserved : goal.loop-byte-preserved
loop-byte-preserved c =
    record {
      small = omega arith;
      read = goes_on c.args.most c.loop-byte.n c.loop-byte.byte-index _ c.args.word.now (omega arith) c.in_ok-d.ensures.0 (omega arith) ∙ c.loop-byte.invariant.read;
    }

pub returns : goal.returns
returns c =
    ends c.args.most c.loop-byte.n c.loop-byte.byte-index c.args.word.now (omega arith) (omega arith) ∙ c.loop-byte.invariant.read
