use Rattle.std.proofs.Common.{◌≡◌, sym, ap, ◌∙◌, subst, ◌+◌, ◌^◌, ◌<◌, ℤ, pos, get_or, set, to_z, of_z, arith}
use Rattle.std.specs.Int.{w64}
use Rattle.std.specs.Int.Signed.{mag}
use Rattle.arith.proofs.IntegerLaws.{read_back}
use Rattle.cells.specs.Cells.{cells}
use Rattle.cells.specs.CellLaws.{length-cells}
use Rattle.operation.specs.Body.{register_count}
use Rattle.layout.specs.Offsets.{register_at}
use Rattle.rows.specs.Storing.{Registers, registers-next, registers-all}
use Rattle.rows.proofs.store_registers.Goals as goal

pub loop-i-preserved : goal.loop-i-preserved
unfolding register_count
loop-i-preserved c =
    let s = c.args in
    let l = c.loop-i in
    let g = s.registers.now in
    let row = cells s.row.now in
    let z = get_or g l.i (pos 0) in
    let small : mag z < 2 ^ 63 = omega arith in
    let back : to_z w64 (of_z w64 z) ≡ z = read_back small in
    let stored : cells c.put_signed.new.area ≡ set (cells l.row) (register_at l.i) (of_z w64 z) =
    c.put_signed.ensures.cell ∙ ap (λ (y : ℤ). set (cells l.row) (register_at l.i) (of_z w64 y)) back in
    subst (Registers row g (l.i + 1)) (sym stored)
    (registers-next row g l.i (cells l.row) (omega (arith, length-cells s.row.now)) (omega arith) l.invariant)

pub returns : goal.returns
returns c =
    let s = c.args in
    let l = c.loop-i in
    registers-all (cells s.row.now) s.registers.now l.i (cells l.row) (omega arith) l.invariant
