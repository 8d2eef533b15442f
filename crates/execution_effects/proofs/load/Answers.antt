-- Each way out is a law of specs/OneOperation; a value read back from its bits is itself.
use Rattle.std.proofs.Common.{arith, rules, w64, pos, get_or, FitsSigned, to_z-of_z}
use Rattle.execution.specs.Entries.{entry}
use Rattle.execution.specs.Run.{table_of}
use Rattle.execution_effects.specs.OneOperation.{load_own, load_read, load_new}
use Rattle.execution_effects.proofs.load.Goals as goal

pub returns-in-Some-clause-run : goal.returns-in-Some-clause-run
returns-in-Some-clause-run c b =
    let a = c.args in
    let d = entry 0 (pos 0) in
    let j = c.in-Some in
    let e : FitsSigned w64 (get_or a.writes.now j.j d).value = search rules in
    load_own (table_of a.table.now b) a.c a.registers.now a.reads.now a.writes.now d a.r a.o j.j j.ensures
    c.assign.result c.assign.new.registers c.assign.ensures.counts (rw (to_z-of_z e) at c.assign.ensures.registers)

pub returns-in-Some-find-clause-run : goal.returns-in-Some-find-clause-run
returns-in-Some-find-clause-run c b =
    let a = c.args in
    let d = entry 0 (pos 0) in
    let k = c.in-Some-find in
    let s = c.assign-in-Some-find in
    let e : FitsSigned w64 (get_or a.reads.now k.k d).value = search rules in
    load_read (table_of a.table.now b) a.c a.registers.now a.reads.now a.writes.now d a.r a.o c.in_default.ensures k.k k.ensures
    s.result s.new.registers s.ensures.counts (rw (to_z-of_z e) at s.ensures.registers)

pub returns-clause-run : goal.returns-clause-run
returns-clause-run c b =
    let a = c.args in
    let p = c.requires in
    let e : FitsSigned w64 (get_or a.table.now a.o (pos 0)) = search rules in
    rw (to_z-of_z e)
    (load_new (table_of a.table.now b) a.c a.registers.now a.reads.now a.writes.now (entry 0 (pos 0)) a.r a.o c.in_default.ensures c.in_default-find.ensures
    (omega (arith, p.0.0.reads, p.0.1)) p.2 c.advance.result c.advance.ensures)
