-- A law for each answer: the body's first byte says where it ends, and what `decode` says of it is that it is well formed, or is not.
use Rattle.std.proofs.Common.{◌≡◌, refl, true, false, Option, Some, None, ◌+◌, ◌-◌, ◌*◌, length, sym, ap₂, ◌∙◌, ℕ, arith}
use Rattle.std.proofs.Math.Seq.{slice}
use Rattle.std.specs.Option.{is_some}
use Rattle.cells.specs.Zeros.{zeros}
use Rattle.shape_row.specs.RowTests.{body-short, body-bad, body-good}
use Rattle.shape_row.proofs.body_ok.Goals as goal

well_formed : (o : Option ℕ) → is_some o ≡ true → (k : ℕ) × (o ≡ Some k)
well_formed (Some k) e = (k, refl)
well_formed None e = cc

malformed : (o : Option ℕ) → is_some o ≡ false → o ≡ None
malformed (Some k) e = cc
malformed None e = refl

pub returns-then-place-end : goal.returns-then-place-end
returns-then-place-end c =
    let a = c.args in
    let m = c.small-m in
    sym (body-short a.most a.n m.result a.place.now m.ensures.0 (omega (arith, c.body_length-end.ensures)))

pub returns-then-is_some : goal.returns-then-is_some
returns-then-is_some c =
    let a = c.args in
    let m = c.small-m in
    let end = c.body_length-end in
    let d = rw end.ensures at c.decode.ensures in
    let f = well_formed c.decode.result (sym c.is_some.ensures ∙ c.if-is_some.true) in
    let e : end.result + 11 * (a.most - m.result) ≡ length a.place.now = omega (arith, end.ensures) in
    body-good a.most a.n m.result a.place.now m.ensures.0 (omega (arith, end.ensures)) f.0 (sym d ∙ f.1) c.units_zero.result
    (c.units_zero.ensures ∙ ap₂ (λ (f t : ℕ). zeros (slice f t a.place.now)) end.ensures e)

pub returns-else-is_some : goal.returns-else-is_some
returns-else-is_some c =
    let a = c.args in
    let m = c.small-m in
    let d = rw c.body_length-end.ensures at c.decode.ensures in
    let f = malformed c.decode.result (sym c.is_some.ensures ∙ c.if-is_some.false) in
    c.if-is_some.false ∙ sym (body-bad a.most a.n m.result a.place.now m.ensures.0 (omega (arith, c.body_length-end.ensures)) (sym d ∙ f))
