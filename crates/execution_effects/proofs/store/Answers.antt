-- Each way out is a law of specs/OneOperation; a value read back from its bits is itself.
use Rattle.std.proofs.Common.{◌≡◌, Bool, sym, ◌∙◌, ℕ, ◌<◌, List, ℤ, arith, rules, w64, pos, get_or, FitsSigned, to_z, of_z, to_z-of_z}
use Rattle.cells.specs.Cells.{cells}
use Rattle.execution.specs.declared.ObjectsAt.{ObjectsAt}
use Rattle.execution.specs.Bounds.{inside}
use Rattle.execution.specs.Entries.{entry}
use Rattle.execution.specs.Run.{table_of}
use Rattle.execution.specs.LentTable.{object_bounds, lent_allowed, lent_beside}
use Rattle.execution.proofs.LentTableLaws.{allowed_at}
use Rattle.execution_effects.specs.OneOperation.{store_again, store_new}
use Rattle.execution_effects.proofs.store.Goals as goal

-- the test asks what the table asks of the register's value
tested : (n : ℕ) (p : ObjectsAt) (cs : List ℕ) (o : ℕ) (v : ℤ) {a t : Bool} → o < n → FitsSigned w64 v
    → a ≡ inside (object_bounds p cs o) (to_z w64 (of_z w64 v)) → a ≡ t → lent_allowed n p cs o v ≡ t
tested n p cs o v h f e g = allowed_at n p cs o h v ∙ sym (rw (to_z-of_z f) at e) ∙ g

pub returns-in-Some-clause-run : goal.returns-in-Some-clause-run
returns-in-Some-clause-run c n vs reads h =
    let a = c.args in
    let v : ℤ = get_or a.registers.now a.r (pos 0) in
    let f : FitsSigned w64 (get_or a.registers.now a.r (pos 0)) = search rules in
    rw (to_z-of_z f)
    (store_again (table_of vs (lent_beside n a.objects (cells a.area.now))) a.c a.registers.now reads a.writes.now a.o v
    (tested n a.objects (cells a.area.now) a.o v h f c.allows.ensures c.if-not-allows.false) c.advance.result c.advance.ensures (entry 0 (pos 0)) c.in-Some.j c.in-Some.ensures)

pub returns-clause-run : goal.returns-clause-run
returns-clause-run c n vs reads h =
    let a = c.args in
    let p = c.requires in
    let v : ℤ = get_or a.registers.now a.r (pos 0) in
    let f : FitsSigned w64 (get_or a.registers.now a.r (pos 0)) = search rules in
    rw (to_z-of_z f)
    (store_new (table_of vs (lent_beside n a.objects (cells a.area.now))) a.c a.registers.now reads a.writes.now a.o v
    (tested n a.objects (cells a.area.now) a.o v h f c.allows.ensures c.if-not-allows.false) c.advance-2.result c.advance-2.ensures c.in_default.ensures
    (omega (arith, p.0.0.writes, p.0.1)) p.2)
