-- A turn of the loop over the entries, and its end.
use Rattle.std.proofs.Common.{◌≡◌, Bool, true, false, ◌&&◌, ◌+◌, ◌-◌, ◌*◌, ℕ, drop, ltb, refl, sym, ap, ap₂, ◌∙◌, arith}
use Rattle.std.proofs.Math.Bool.{and-true}
use Rattle.cells.specs.Cells.{cells}
use Rattle.layout.specs.Rows.{chunks}
use Rattle.shape_names.specs.NameScan.{absent, names_in}
use Rattle.shape_names.specs.NameTests.{names-next, names-end}
use Rattle.shape_names.proofs.few_names.Goals as goal

grouped : (f a b r : Bool) → (f && (a && (b && r))) ≡ ((f && (a && b)) && r)
grouped true true b r = refl
grouped true false b r = refl
grouped false a b r = refl

pub loop-i-preserved : goal.loop-i-preserved
loop-i-preserved g c =
    let a = c.args in
    let i = c.loop-i.i in
    let n = g.row.N in
    let cs = cells a.entries.now in
    let left : n - i - 1 ≡ n - (i + 1) = omega arith in
    let at : i * 2 + 2 ≡ (i + 1) * 2 = omega arith in
    c.loop-i.invariant
    ∙ ap (λ (t : Bool). c.loop-i.fine && t)
    (names-next a.n (n - i) (i * 2) cs (omega arith)
    ∙ ap (λ (o : ℕ). ltb o a.n && (absent o (chunks 2 (n - i - 1) (drop (i * 2 + 2) cs)) && names_in a.n (n - i - 1) (drop (i * 2 + 2) cs))) (sym c.get-object.ensures)
    ∙ ap₂ (λ (k j : ℕ). ltb c.get-object.result a.n && (absent c.get-object.result (chunks 2 k (drop j cs)) && names_in a.n k (drop j cs))) left at
    ∙ ap (λ (t : Bool). ltb c.get-object.result a.n && (t && names_in a.n (n - (i + 1)) (drop ((i + 1) * 2) cs))) (sym c.no_other.ensures))
    ∙ grouped c.loop-i.fine (ltb c.get-object.result a.n) c.no_other.result (names_in a.n (n - (i + 1)) (drop ((i + 1) * 2) cs))

pub returns : goal.returns
returns g c =
    let a = c.args in
    let i = c.loop-i.i in
    let n = g.row.N in
    sym
    (c.loop-i.invariant
    ∙ ap (λ (t : Bool). c.loop-i.fine && t) (names-end a.n (n - i) (i * 2) (cells a.entries.now) (omega arith))
    ∙ and-true c.loop-i.fine)
