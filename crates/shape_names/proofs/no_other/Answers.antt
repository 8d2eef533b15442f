-- A turn of the loop over the entries, and its end.
use Rattle.std.proofs.Common.{◌≡◌, Bool, true, false, not, ◌&&◌, ◌+◌, ◌-◌, ◌*◌, ℕ, List, drop, eqb, refl, sym, ap, ap₂, ◌∙◌, arith}
use Rattle.std.proofs.Math.Bool.{and-true}
use Rattle.cells.specs.Cells.{cells}
use Rattle.layout.specs.Rows.{chunks}
use Rattle.shape_names.specs.NameScan.{absent}
use Rattle.shape_names.specs.NameTests.{absent-next}
use Rattle.shape_names.proofs.no_other.Goals as goal

and_assoc : (a b c : Bool) → (a && (b && c)) ≡ ((a && b) && c)
and_assoc true b c = refl
and_assoc false b c = refl

none_left : (o k : ℕ) (cs : List ℕ) → k ≡ 0 → absent o (chunks 2 k cs) ≡ true
unfolding chunks
none_left o k cs e = ap (λ (j : ℕ). absent o (chunks 2 j cs)) e

pub loop-i-preserved : goal.loop-i-preserved
loop-i-preserved c =
    let a = c.args in
    let i = c.loop-i.i in
    let cs = cells a.entries.now in
    let left : a.to - i - 1 ≡ a.to - (i + 1) = omega arith in
    let at : i * 2 + 2 ≡ (i + 1) * 2 = omega arith in
    c.loop-i.invariant
    ∙ ap (λ (t : Bool). c.loop-i.none && t)
    (absent-next 2 (a.to - i) (i * 2) a.object cs (omega arith) (omega arith)
    ∙ ap (λ (v : ℕ). not (eqb v a.object) && absent a.object (chunks 2 (a.to - i - 1) (drop (i * 2 + 2) cs))) (sym c.get.ensures)
    ∙ ap₂ (λ (k j : ℕ). not (eqb c.get.result a.object) && absent a.object (chunks 2 k (drop j cs))) left at)
    ∙ and_assoc c.loop-i.none (not (eqb c.get.result a.object)) (absent a.object (chunks 2 (a.to - (i + 1)) (drop ((i + 1) * 2) cs)))

pub returns : goal.returns
returns c =
    let a = c.args in
    let i = c.loop-i.i in
    sym
    (c.loop-i.invariant
    ∙ ap (λ (t : Bool). c.loop-i.none && t) (none_left a.object (a.to - i) (drop (i * 2) (cells a.entries.now)) (omega arith))
    ∙ and-true c.loop-i.none)
