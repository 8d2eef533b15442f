-- The read set and the write set of a row, in the cells of the area from its first one on. Assumes nothing.
use Rattle.std.specs.Prelude.{◌≡◌, Bool, true, false, cond, List, ℕ, suc, ◌+◌, ◌*◌, ◌-◌, ◌≤◌, ◌<◌, ℤ, eqb, ltb, length, set, drop}
use Rattle.std.proofs.Math.Path.{refl, ap, ap₂, fun_ext}
use Rattle.std.proofs.Common.{sym, ◌∙◌, mul-le-mul_right, get_or-set_same, get_or-set_other}
use Rattle.std.proofs.Math.Option
use Rattle.std.proofs.Math.Option.{some, none}
use native.Mathlib.Omega.{arith}
use Rattle.std.proofs.Math.ListN.{get_or, length-set, length-append}
use mir.Syntax.{w64}
use mir.Val.{to_z}
use borrow.Author.Tests.{eqb-true, eqb-false, ltb-true}
use Rattle.cells.specs.Cells.{cells}
use Rattle.arith.specs.Integer.{fits}
use Rattle.operation.specs.Body.{listed}
use Rattle.execution.specs.Entries.{Entry, entry, lookup}
use Rattle.execution.specs.Run.{Table, Run, matches, over}
use Rattle.execution.proofs.ReadAgreement.{both}
use Rattle.execution.specs.RunShape.{sound}
use Rattle.execution.proofs.TableLaws.{all-match, one-differs, drop-next, drop-end, every-at}
use Rattle.model.specs.declared.Limits.{Limits}
use Rattle.model.specs.Replica.{Pending, Replica, pending_of}
use Rattle.layout.specs.Layout.{row, row_of}
use Rattle.layout.specs.Offsets.{Sane, row_width, row_at, counter_at, outcome_at, reads_at, entries_at, entry_at}
use Rattle.layout.specs.Printable.{RowFits}
use Rattle.layout.proofs.PrintableLaws.{few_pending}
use Rattle.layout.specs.Holds.{Holds}
use Rattle.layout.proofs.HoldsLaws.{holds-long}
use Rattle.layout.proofs.Reading.{get-row}
use Rattle.layout.proofs.RowCells.{row_reads, row-entries}
use Rattle.rows.specs.RowRun.{entry_in, entries_in, run_in}
use Rattle.rows.specs.Loading.{run-back}
use Rattle.execution.proofs.Listed.{listed_same}
use Rattle.final_commit.specs.Positions.{at, fits-at}
use Rattle.final_walk.specs.Places.{table_in, Inside, Reaching}

-- entry i of the row that begins at cell a
abbrev pub entry_from : List ℕ → ℕ → ℕ → Entry
entry_from cs a i = entry (get_or cs (a + entry_at i) 0) (to_z w64 (get_or cs (a + entry_at i + 1) 0))

-- its reads, and behind them its writes
unfoldable pub reads_from : List ℕ → ℕ → List Entry
reads_from cs a = listed (entry_from cs a) (get_or cs (a + reads_at) 0)

unfoldable pub writes_from : List ℕ → ℕ → List Entry
writes_from cs a = listed (λ i. entry_from cs a (get_or cs (a + reads_at) 0 + i)) (get_or cs (a + entries_at) 0 - get_or cs (a + reads_at) 0)

-- the row's entries lie in the area b
pub record Lying (b : List ℕ) (a : ℕ) : Type 0 where
  pub reads : get_or (cells b) (a + reads_at) 0 ≤ get_or (cells b) (a + entries_at) 0
  pub long : (a + entry_at (get_or (cells b) (a + entries_at) 0)) * 8 ≤ length b

-- ---- the reads beside a table

module _ {b ps : List ℕ} {a : ℕ} (y : Lying b a) (r : Reaching b ps (reads_from (cells b) a)) where
  abbrev T : Table
  T = table_in (cells b) ps

  abbrev f : ℕ → Entry
  f = entry_from (cells b) a

  abbrev n : ℕ
  n = get_or (cells b) (a + reads_at) 0

  -- the object of entry i, and its place
  pub read-there : (i : ℕ) → i < n → ((f i).object < 128) × (get_or ps (f i).object 0 * 8 + 8 ≤ length b)
  unfolding reads_from fits
  read-there i h =
      let e = every-at (sound r.count) f n i h r.sound in
      let low = ltb-true (f i).object r.count (both (ltb (f i).object r.count) (fits (f i).value) e).0 in
      (omega (arith, low, r.inside.few), r.inside.inside (f i).object low)

  pub reads_all : ((k : ℕ) → k < n → T.look (f k).object ≡ (f k).value) → matches T (reads_from (cells b) a) ≡ true
  unfolding reads_from
  reads_all h = all-match T f n h

  pub reads-differ : (i : ℕ) → i < n → (T.look (f i).object ≡ (f i).value → ⊥) → matches T (reads_from (cells b) a) ≡ false
  unfolding reads_from
  reads-differ i l h = one-differs T f n i l h

-- ---- the writes laid over a table

-- the places ps have become qs
pub record LaidOver (b : List ℕ) (a : ℕ) (ps qs : List ℕ) : Type 0 where
  pub table : table_in (cells b) qs ≡ over (writes_from (cells b) a) (table_in (cells b) ps)
  pub inside : (n : ℕ) → Inside b n ps → Inside b n qs

-- those from entry i on are laid over it
pub record Laying (b : List ℕ) (a : ℕ) (ps qs : List ℕ) (i : ℕ) : Type 0 where
  pub within : i ≤ get_or (cells b) (a + entries_at) 0 - get_or (cells b) (a + reads_at) 0
  pub room : length qs ≡ 128
  pub values : (o : ℕ) → (table_in (cells b) qs).look o ≡ (over (drop i (writes_from (cells b) a)) (table_in (cells b) ps)).look o
  pub inside : (n : ℕ) → Inside b n ps → Inside b n qs

module _ {b ps : List ℕ} {a : ℕ} (y : Lying b a) (r : Reaching b ps (writes_from (cells b) a)) where
  abbrev reads : ℕ
  reads = get_or (cells b) (a + reads_at) 0

  abbrev many : ℕ
  many = get_or (cells b) (a + entries_at) 0 - get_or (cells b) (a + reads_at) 0

  abbrev g : ℕ → Entry
  g i = entry_from (cells b) a (get_or (cells b) (a + reads_at) 0 + i)

  pub laying_start : Laying b a ps ps many
  unfolding writes_from
  laying_start =
      record { within = omega arith; room = r.inside.room; values = λ o. rw (drop-end g many); inside = λ n h. h }

  pub write-there : (i : ℕ) → i < many → (g i).object < 128
  unfolding writes_from fits
  write-there i h =
      let e = every-at (sound r.count) g many i h r.sound in
      let low = ltb-true (g i).object r.count (both (ltb (g i).object r.count) (fits (g i).value) e).0 in
      omega (arith, low, r.inside.few)

  pub laying_end : {qs : List ℕ} {i : ℕ} → i ≡ 0 → Laying b a ps qs i → LaidOver b a ps qs
  laying_end {qs} {i} z k =
      record {
        table = ap looking (fun_ext k.values) ∙ ap (λ (j : ℕ). over (drop j (writes_from (cells b) a)) (table_in (cells b) ps)) z;
        inside = k.inside;
      }
    where
      looking : (ℕ → ℤ) → Table
      looking h = record { look = h; stamp = λ o. 0; allow = λ o v. true }

  -- entry i, the one before those laid
  module _ {qs : List ℕ} {i c : ℕ} (low : i < many) (k : Laying b a ps qs (suc i)) (ec : c ≡ a + entry_at (reads + i)) where
    abbrev o : ℕ
    o = (g i).object

    pub cell-inside : (c + 1) * 8 + 8 ≤ length b
    cell-inside = omega (arith, y.long)

    pub laying_next : Laying b a ps (set qs o (c + 1)) i
    unfolding writes_from
    laying_next =
        let there = write-there i low in
        record {
          within = omega arith;
          room = length-set qs o (c + 1) ∙ k.room;
          values = λ x. rw (drop-next g many i low) (at-object x (eqb o x) refl);
          inside = λ n h. let q = k.inside n h in
              record { room = length-set qs o (c + 1) ∙ k.room; few = q.few; inside = λ x m. lies x m q (eqb o x) refl };
        }
      where
        value : to_z w64 (get_or (cells b) (c + 1) 0) ≡ (g i).value
        value = ap (λ (x : ℕ). to_z w64 (get_or (cells b) (x + 1) 0)) ec

        roomy : o < length qs
        roomy = omega (arith, write-there i low, k.room)

        at-object : (x : ℕ) (t : Bool) → eqb o x ≡ t → to_z w64 (get_or (cells b) (get_or (set qs o (c + 1)) x 0) 0) ≡ Option.get_or (cond t (some (g i).value) (lookup (drop (suc i) (listed g many)) x)) ((table_in (cells b) ps).look x)
        at-object x true e = rw (← (eqb-true o x e)) (ap (λ (z : ℕ). to_z w64 (get_or (cells b) z 0)) (get_or-set_same qs o (c + 1) 0 roomy) ∙ value)
        at-object x false e =
            ap (λ (z : ℕ). to_z w64 (get_or (cells b) z 0)) (get_or-set_other qs o x (c + 1) 0 (λ q. eqb-false o x e (sym q))) ∙ k.values x

        lies : {n : ℕ} (x : ℕ) → x < n → Inside b n qs → (t : Bool) → eqb o x ≡ t → get_or (set qs o (c + 1)) x 0 * 8 + 8 ≤ length b
        lies x m q true e = rw (← (eqb-true o x e), get_or-set_same qs o (c + 1) 0 roomy) cell-inside
        lies x m q false e = rw (get_or-set_other qs o x (c + 1) 0 (λ z. eqb-false o x e (sym z))) (q.inside x m)

-- ---- of an area that holds a replica: row i

module _ (l : Limits) (s : Sane l) (b : List ℕ) (u : Replica) (h : Holds l b u) (i : ℕ) (low : i < length u.pending) where
  abbrev j : Pending
  j = at u.pending i

  abbrev cs : List ℕ
  cs = (row l.operations).enc (row_of j)

  row_fits : RowFits l.operations (row_of j)
  row_fits = fits-at row_of (RowFits l.operations) u.pending i low h.fits.rows.1

  cell : (k : ℕ) → k < row_width l → get_or (cells b) (row_at l i + k) 0 ≡ get_or cs k 0
  cell k m = get-row l s b u h i low (pending_of none) k m

  -- its numbers of reads, and of reads and writes
  read_count : get_or (cells b) (row_at l i + reads_at) 0 ≡ length j.run.reads
  read_count = cell reads_at (omega arith) ∙ row_reads l.operations (row_of j) row_fits

  entry-count : get_or (cells b) (row_at l i + entries_at) 0 ≡ length j.run.reads + length j.run.writes
  entry-count = cell entries_at (omega arith) ∙ row-entries l.operations (row_of j) row_fits ∙ length-append j.run.reads j.run.writes

  few : length j.run.reads + length j.run.writes ≤ l.operations
  few = row_fits.1.1.1.1.0

  pub row-few : get_or (cells b) (row_at l i + entries_at) 0 ≤ l.operations
  row-few = omega (arith, entry-count, few)

  pub row-lying : Lying b (row_at l i)
  row-lying =
      let m = few_pending l u h.fits in
      let k : i < l.pending = omega arith in
      record { reads = omega (arith, read_count, entry-count); long = omega (arith, entry-count, few, mul-le-mul_right (row_width l) k, holds-long l s b u h) }

  same-entry : (x : ℕ) → x < l.operations → entry_from (cells b) (row_at l i) x ≡ entry_in cs x
  same-entry x m =
      let e = cell (entry_at x) (omega arith) in
      let z : row_at l i + entry_at x + 1 ≡ row_at l i + (entry_at x + 1) = omega arith in
      let v = ap (λ (w : ℕ). to_z w64 (get_or (cells b) w 0)) z ∙ ap (to_z w64) (cell (entry_at x + 1) (omega arith)) in
      λ t. entry (e t) (v t)

  back : run_in cs ≡ j.run
  back = run-back l.operations (row_of j) row_fits

  pub row_reads-from : reads_from (cells b) (row_at l i) ≡ j.run.reads
  unfolding reads_from entries_in
  row_reads-from =
      ap (listed (entry_from (cells b) (row_at l i))) (cell reads_at (omega arith))
      ∙ listed_same (entry_from (cells b) (row_at l i)) (λ x. entry_in cs (0 + x)) (get_or cs reads_at 0)
      (λ x m. let z : x ≡ 0 + x = omega arith in
      same-entry x (omega (arith, row_reads l.operations (row_of j) row_fits, few)) ∙ ap (entry_in cs) z)
      ∙ ap (λ (p : Run). p.reads) back

  pub row-writes_from : writes_from (cells b) (row_at l i) ≡ j.run.writes
  unfolding writes_from entries_in
  row-writes_from =
      let r = cell reads_at (omega arith) in
      let e = cell entries_at (omega arith) in
      ap₂ (λ (x y : ℕ). listed (λ k. entry_from (cells b) (row_at l i) (x + k)) (y - x)) r e
      ∙ listed_same (λ x. entry_from (cells b) (row_at l i) (get_or cs reads_at 0 + x)) (λ x. entry_in cs (get_or cs reads_at 0 + x)) (get_or cs entries_at 0 - get_or cs reads_at 0)
      (λ x m. same-entry (get_or cs reads_at 0 + x) (omega (arith, row_reads l.operations (row_of j) row_fits, row-entries l.operations (row_of j) row_fits, length-append j.run.reads j.run.writes, few)))
      ∙ ap (λ (p : Run). p.writes) back

  pub row-counter : get_or (cells b) (row_at l i + counter_at) 0 ≡ j.run.counter
  row-counter = cell counter_at (omega arith) ∙ ap (λ (p : Run). p.counter) back

  pub row-outcome : get_or (cells b) (row_at l i + outcome_at) 0 ≡ j.run.outcome
  row-outcome = cell outcome_at (omega arith) ∙ ap (λ (p : Run). p.outcome) back
