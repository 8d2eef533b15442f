-- Each number read is one of 64 bits, so it comes back from its bits as it was.
use Rattle.std.proofs.Common.{◌≡◌, ◌+◌, ◌*◌, ℕ, ap, rules, arith, get_or, pos, w64, of_z, FitsSigned, to_z-of_z}
use Rattle.opening.specs.Opening.{Filling, filling-start, filling-room, filling-next, filling-end}
use Rattle.opening.proofs.put_objects.Goals as goal

pub loop-i-init : goal.loop-i-init
loop-i-init c =
    let a = c.args in
    let none : 0 * (c.width-width.result + 2) ≡ 0 = omega arith in
    let f = filling-start a.readers a.timestamp a.values.now a.lower.now a.upper.now a.objects.now c.requires.zeros in
    rw none (record { filling = f; room = filling-room a.readers a.timestamp a.values.now a.lower.now a.upper.now a.objects.now 0 0 f })

pub loop-i-preserved : goal.loop-i-preserved
loop-i-preserved c =
    let a = c.args in
    let k = c.loop-i in
    let i = k.i in
    let value : FitsSigned w64 (get_or a.values.now i (pos 0)) = search rules in
    let low : FitsSigned w64 (get_or a.lower.now i (pos 0)) = search rules in
    let high : FitsSigned w64 (get_or a.upper.now i (pos 0)) = search rules in
    let ys = c.put_signed-in-loop-i-2.new.area in
    let w : ℕ = c.width-width.result in
    let at : ℕ = i * (w + 2) + w in
    let next : (i + 1) * (w + 2) ≡ at + 2 = omega arith in
    let f : Filling a.readers a.timestamp a.values.now a.lower.now a.upper.now ys (at + 2) (i + 1) =
    filling-next a.readers a.timestamp a.values.now a.lower.now a.upper.now k.objects (i * (w + 2)) i k.invariant.filling c.loop-i-test.true
    c.put.new.area c.put-in-loop-i.new.area c.put_signed.new.area c.put_signed-in-loop-i.new.area ys _ _ _ at (omega (arith, c.width-width.ensures))
    c.put.ensures c.put-in-loop-i.ensures c.put_signed.ensures c.put_signed-in-loop-i.ensures c.put_signed-in-loop-i-2.ensures
    (ap (of_z w64) (to_z-of_z value)) (ap (of_z w64) (to_z-of_z low)) (ap (of_z w64) (to_z-of_z high)) (omega arith) (omega arith)
    (record { sfits = value.sfits }) (record { sfits = low.sfits }) (record { sfits = high.sfits }) in
    rw next (record { filling = f; room = filling-room a.readers a.timestamp a.values.now a.lower.now a.upper.now ys (at + 2) (i + 1) f })

pub returns : goal.returns
returns c =
    let a = c.args in
    filling-end a.readers a.timestamp a.values.now a.lower.now a.upper.now c.loop-i.objects (c.loop-i.i * (c.width-width.result + 2)) c.loop-i.i c.loop-i.invariant.filling
    c.requires.lowers c.requires.uppers (omega arith)
