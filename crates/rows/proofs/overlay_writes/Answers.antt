use Rattle.std.proofs.Common.{◌≡◌, ap, ◌∙◌, subst, List, [], ◌∷◌, ◌++◌, ℕ, ◌+◌, ◌-◌, ◌<◌, ℤ, arith}
use Rattle.cells.specs.Cells.{cells}
use Rattle.cells.specs.Signed.{told}
use Rattle.operation.specs.Body.{listed}
use Rattle.execution.specs.Entries.{Entry}
use Rattle.execution.specs.Run.{object_count}
use Rattle.execution.proofs.TableLaws.{Laid, in_table, laid_one, laid-all}
use Rattle.rows.specs.RowRun.{entry_in, entries_in, run_in}
use Rattle.rows.specs.Loading.{entries_in-next}
use Rattle.rows.proofs.overlay_writes.Goals as goal

-- of the entries from r up to i the last is due
last-due : (cs : List ℕ) (first table : List ℤ) (writes : List Entry) (r i : ℕ) → r < i → Laid first writes (entries_in cs r (i - r)) table
    → Laid first writes (entries_in cs r (i - 1 - r) ++ entry_in cs (i - 1) ∷ []) table
last-due cs first table writes r i h k =
    let n : i - r ≡ i - 1 - r + 1 = omega arith in
    let m : r + (i - 1 - r) ≡ i - 1 = omega arith in
    subst (λ (es : List Entry). Laid first writes es table)
    (ap (entries_in cs r) n ∙ entries_in-next cs r (i - 1 - r) ∙ ap (λ (j : ℕ). entries_in cs r (i - 1 - r) ++ entry_in cs j ∷ []) m) k

due : (c : goal.After-get_signed) → c.get-reads.result < c.loop-i.i → Laid c.args.table.now (run_in (cells c.args.row.now)).writes
    (entries_in (cells c.args.row.now) c.get-reads.result (c.loop-i.i - 1 - c.get-reads.result) ++ entry_in (cells c.args.row.now) (c.loop-i.i - 1) ∷ []) c.loop-i.table
due c h =
    let cs = cells c.args.row.now in
    last-due cs c.args.table.now c.loop-i.table (run_in cs).writes c.get-reads.result c.loop-i.i h c.loop-i.invariant

-- its object is one of the table's
object : (c : goal.After-get_signed) → c.get-reads.result < c.loop-i.i → c.get-o.result < object_count c.loop-i.table
object c l =
    let cs = cells c.args.row.now in
    let h = in_table c.args.table.now (run_in cs).writes (entries_in cs c.get-reads.result (c.loop-i.i - 1 - c.get-reads.result)) (entry_in cs (c.loop-i.i - 1)) c.loop-i.table (due c l) in
    omega (arith, h, c.get-o.ensures)

pub offset_bounds-table-o : goal.offset_bounds-table-o
offset_bounds-table-o c = omega (arith, object c (omega arith))

pub bounds-table-o : goal.bounds-table-o
bounds-table-o c = object c (omega arith)

pub loop-i-preserved : goal.loop-i-preserved
loop-i-preserved c =
    let cs = cells c.args.row.now in
    rw (c.get-o.ensures, told c.get_signed.type_inv c.get_signed.ensures)
    (laid_one c.args.table.now (run_in cs).writes (entries_in cs c.get-reads.result (c.loop-i.i - 1 - c.get-reads.result)) (entry_in cs (c.loop-i.i - 1)) c.loop-i.table (due c (omega arith)))

pub returns-clause-table : goal.returns-clause-table
unfolding entries_in listed
returns-clause-table c =
    let cs = cells c.args.row.now in
    let r = c.get-reads.result in
    let none_left : c.loop-i.i - r ≡ 0 = omega arith in
    let w = (run_in cs).writes in
    laid-all c.args.table.now w c.loop-i.table (subst (λ (n : ℕ). Laid c.args.table.now w (entries_in cs r n) c.loop-i.table) none_left c.loop-i.invariant)
