-- Behind a minus sign the rest of the word, else the whole.
use Rattle.std.proofs.Common.{◌≢◌, ◌-◌, length, drop, slice_index, pos, Some, ap, ◌∙◌, arith, length-drop, take_all, w64}
use Rattle.std.proofs.lemmas.Bool.{ltb-true}
use Rattle.std.proofs.lemmas.Int.{to_z_pos}
use Rattle.cells.specs.Signed.{told}
use Rattle.text.specs.Numbers.{integer_of, negative_of}
use Rattle.text.specs.NumberLaws.{at_most, signed-minus, short-plain, signed-plain}
use Rattle.text.proofs.numbers.signed.Goals as goal
use Rattle.text.proofs.numbers.signed.Goals.{then-word-lt1, else-word-lt1+in_default-1}

pub returns-in-45 : goal.returns-in-45
returns-in-45 c =
    let w = c.args.word.now in
    c.negative.ensures ∙ ap negative_of (take_all (length w - 1) (drop 1 w) (simp length-drop (omega arith))) ∙ signed-minus w (omega arith)

pub returns-in_err-n : goal.returns-in_err-n
returns-in_err-n c =
    let plain : slice_index c.args.word.now 0 ≢ 45 = elim c.if-word-lt1.branch [ then-word-lt1 w ↦ short-plain c.args.word.now (omega (arith, ltb-true)) | else-word-lt1+in_default-1 w ↦ λ e. omega arith ] in
    c.from_residual.ensures ∙ ap (integer_of pos) c.in_err-n.ensures ∙ signed-plain c.args.word.now plain

pub returns : goal.returns
returns c =
    let e = c.in_ok-n.ensures in
    let plain : slice_index c.args.word.now 0 ≢ 45 = elim c.if-word-lt1.branch [ then-word-lt1 w ↦ short-plain c.args.word.now (omega (arith, ltb-true)) | else-word-lt1+in_default-1 w ↦ λ e. omega arith ] in
    ap Some (told c.cast_signed.type_inv (c.cast_signed.ensures ∙ to_z_pos w64 _ (omega (arith, at_most 9223372036854775807 _ c.args.word.now e))))
    ∙ ap (integer_of pos) e
    ∙ signed-plain c.args.word.now plain
