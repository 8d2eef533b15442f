-- The front, both sets and the zeros, one after another; the bytes follow from the cells.
use Rattle.std.proofs.Common.{◌≡◌, ap, ◌∙◌, ℕ, ◌+◌, ◌*◌, ◌-◌, length, get_or, Fits, w8, arith, rules}
use Rattle.cells.specs.Cells.{cells, splice}
use Rattle.cells.specs.BlockMoves.{cells-fill}
use Rattle.cells.specs.CellLaws.{length_cells-whole}
use Rattle.layout.specs.Rows.{blank}
use Rattle.layout.specs.Layout.{run}
use Rattle.layout.specs.Offsets.{entry_at}
use Rattle.execution.specs.Arrays.{run_of_arrays}
use Rattle.rows.specs.Storing.{row-stored, row_bytes}
use Rattle.rows.proofs.store_row.Goals as goal

pub returns : goal.returns
returns c =
    let a = c.args in
    let t = a.t in
    let k = entry_at (t.reads + t.writes) in
    let before = a.row.now in
    let b3 = c.store_entries-2.new.row in
    let b4 = c.fill_zero.new.area in
    let len3 : length b3 ≡ length before = omega arith in
    let len4 : length b4 ≡ length before = omega arith in
    let bytes : (i : ℕ) → Fits w8 (get_or before i 0) = search rules in
    record {
      whole = λ m n.
          let e4 : b4 ≡ splice b3 (k * 8) (blank (entry_at m * 8 - k * 8)) = c.fill_zero.ensures ∙ ap (λ (x : ℕ). splice b3 (k * 8) (blank (x - k * 8))) (len3 ∙ n) in
          let room = c.requires.long in
          let c4 = ap cells e4 ∙ cells-fill b3 k (entry_at m) (omega arith) (omega arith) in
          row_bytes before b4 (entry_at m) ((run m).enc (run_of_arrays t a.registers.now a.reads.now a.writes.now))
          (λ i. (bytes i).fits) (λ i. (c.type_inv.row i).fits) n (len4 ∙ n)
          (row-stored t a.registers.now c.requires.registers a.reads.now a.writes.now (omega arith) (omega arith) m (cells before) (length_cells-whole (entry_at m) before n) (omega arith)
          (cells c.store_front.new.row) (cells c.store_entries.new.row) (cells b3) (cells b4)
          c.store_front.ensures c.store_entries.ensures c.store_entries-2.ensures c4);
    }
