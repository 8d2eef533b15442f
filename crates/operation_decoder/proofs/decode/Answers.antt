-- Each refusal is one of the parts of `is_well_formed`, in their order; past them the operations decide.
use Rattle.std.proofs.Common.{◌∙◌, ◌+◌, ◌*◌, arith, length, le-leb, eq-eqb, ne_eqb}
use Rattle.std.proofs.Math.Bool.{and-false}
use Rattle.std.proofs.lemmas.Bool.{lt-leb}
use Rattle.operation.specs.Body.{size, is_well_formed, decoded}
use Rattle.operation.proofs.ColumnsLaws.{nothing}
use Rattle.operation_decoder.proofs.First.{size_first, no_first}
use Rattle.operation_decoder.proofs.decode.Goals as goal

pub returns-in_err-first : goal.returns-in_err-first
unfolding decoded
returns-in_err-first c =
    let b = c.args.body.now in
    rw (nothing c.args.most c.args.objects b (no_first b c.in_err-first.ensures.value)) c.from_residual.ensures

pub returns-then-m-lt1 : goal.returns-then-m-lt1
unfolding decoded is_well_formed
returns-then-m-lt1 c = rw (lt-leb 1 (size c.args.body.now) (omega (arith, size_first c.args.body.now _ c.in_ok-first.ensures.value)))

pub returns-then-most-m : goal.returns-then-most-m
unfolding decoded is_well_formed
returns-then-most-m c =
    rw (lt-leb (size c.args.body.now) c.args.most (omega (arith, size_first c.args.body.now _ c.in_ok-first.ensures.value)), and-false)

pub returns-then-body-body_length : goal.returns-then-body-body_length
unfolding decoded is_well_formed
returns-then-body-body_length c =
    let b = c.args.body.now in
    rw (ne_eqb (length b) (1 + 11 * size b) (λ e. omega (arith, size_first b _ c.in_ok-first.ensures.value, c.body_length.ensures)), and-false)

pub returns-then-all_allowed : goal.returns-then-all_allowed
unfolding decoded is_well_formed
returns-then-all_allowed c =
    let a = c.args in
    let b = a.body.now in
    let m = c.small-m.ensures.0 ∙ size_first b _ c.in_ok-first.ensures.value in
    let l = c.body_length.ensures in
    rw (le-leb 1 (size b) (omega arith), le-leb (size b) a.most (omega arith), eq-eqb (length b) (1 + 11 * size b) (omega arith), ← m, ← c.all_allowed.ensures, c.if-all_allowed.true)

pub returns-else-all_allowed : goal.returns-else-all_allowed
unfolding decoded is_well_formed
returns-else-all_allowed c =
    let a = c.args in
    let b = a.body.now in
    let m = c.small-m.ensures.0 ∙ size_first b _ c.in_ok-first.ensures.value in
    let l = c.body_length.ensures in
    rw (le-leb 1 (size b) (omega arith), le-leb (size b) a.most (omega arith), eq-eqb (length b) (1 + 11 * size b) (omega arith), ← m, ← c.all_allowed.ensures, c.if-all_allowed.false)
