use Rattle.std.proofs.Common.{◌≡◌, sym, ap₂, ◌∙◌, subst, List, ℕ, ◌+◌, ◌*◌, ◌^◌, ◌<◌, ℤ, pos, length, get_or, set, to_z, of_z, arith}
use Rattle.std.specs.Int.{w64}
use Rattle.std.specs.Int.Signed.{mag}
use Rattle.arith.proofs.IntegerLaws.{read_back}
use Rattle.cells.specs.Cells.{cells}
use Rattle.cells.specs.CellLaws.{length-cells}
use Rattle.execution.specs.Entries.{entry}
use Rattle.rows.specs.Storing.{Storing, storing_next, storing_all}
use Rattle.rows.proofs.store_entries.Goals as goal

pub loop-i-preserved : goal.loop-i-preserved
loop-i-preserved c =
    let a = c.args in
    let l = c.loop-i in
    let es = a.entries.now in
    let d = entry 0 (pos 0) in
    let at = 9 + (a.from + l.i) * 2 in
    let v = (get_or es l.i d).value in
    let small : mag v < 2 ^ 63 = omega arith in
    let back : to_z w64 (of_z w64 v) ≡ v = read_back small in
    let two : cells c.put_signed.new.area ≡ set (set (cells l.row) at (get_or es l.i d).object) (at + 1) (of_z w64 v) =
    c.put_signed.ensures.cell ∙ ap₂ (λ (cs : List ℕ) (z : ℤ). set cs (at + 1) (of_z w64 z)) c.put.ensures.cell back in
    subst (Storing (cells a.row.now) a.from es (l.i + 1)) (sym two)
    (storing_next (cells a.row.now) a.from es d l.i (cells l.row) (omega (arith, length-cells a.row.now, c.requires)) (omega arith) l.invariant)

pub returns : goal.returns
returns c =
    let a = c.args in
    let l = c.loop-i in
    let all : l.i ≡ length a.entries.now = omega arith in
    storing_all (cells a.row.now) a.from a.entries.now (cells l.row) (subst (λ (i : ℕ). Storing (cells a.row.now) a.from a.entries.now i (cells l.row)) all l.invariant)
