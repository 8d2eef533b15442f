-- A row and an object's block, cell by cell. Assumes nothing.
use Rattle.std.specs.Prelude.{◌≡◌, refl, ℕ, suc, ◌+◌, ◌-◌, ◌*◌, ◌<◌, pos, get_or}
use Rattle.std.proofs.Common.{sym, ◌∙◌, arith, not-suc-le-zero, get_or-append-add, of_z}
use Rattle.std.proofs.Math.Path.{ap}
use mathlib.Core.List.{List, [], ◌∷◌, ◌++◌, map, append_assoc}
use Rattle.std.proofs.Math.ListN.{length, length-map, length-append, get_or-map, get_or-append}
use Rattle.std.specs.Int.{w64}
use Rattle.operation.specs.Body.{register_count}
use Rattle.execution.specs.Entries.{Entry}
use Rattle.execution.specs.Run.{Run, start, register}
use Rattle.model.specs.declared.Limits.{Limits}
use Rattle.model.specs.Serial.{Version}
use Rattle.model.specs.Replica.{newest}
use Rattle.model.specs.ListLaws.{All}
use Rattle.model.proofs.ListLaws.{all_join, get_or_map-in}
use Rattle.versions.specs.Block as versions
use Rattle.layout.specs.Rows.{flat, table, blank}
use Rattle.layout.proofs.RowLaws.{blanks, table-full, row_read}
use Rattle.layout.specs.Codec.{Codec}
use Rattle.layout.specs.Layout.{of_key, entry, Row, row}
use Rattle.layout.specs.Layout as layout
use Rattle.layout.specs.Offsets.{row_cells, stamp_at, value_at, register_at, reads_at, entries_at, entry_at}
use Rattle.layout.proofs.LawfulLaws.{sized, uniform}
use Rattle.layout.specs.Lawful.{Lawful}
use Rattle.layout.specs.Printable.{EntryFits, RowFits}
use Rattle.layout.proofs.PrintableLaws.{lawful_entry}
use Rattle.layout.specs.Field.{mid_at}

-- ---- rows of one cell

flat-cells : {A : Type 0} (f : A → ℕ) (xs : List A) → flat (map (λ x. f x ∷ []) xs) ≡ map f xs
unfolding flat
flat-cells f [] = refl
flat-cells f (x ∷ xs) = ap (f x ∷◌) (flat-cells f xs)

pub array-cells : {A : Type 0} (f : A → ℕ) (n : ℕ) (xs : List A) → length xs ≡ n → table n 1 (map (λ x. f x ∷ []) xs) ≡ map f xs
array-cells f n xs h =
    table-full 1 (map (λ x. f x ∷ []) xs) n (length-map xs (λ x. f x ∷ []) ∙ h) ∙ flat-cells f xs

-- ---- cell k of row j of a table behind x
module _ {A : Type 0} {c : Codec A} {P : A → Type 0} {K : ℕ → Type 0} (u : Lawful K c P) (p : ℕ) (x : List ℕ) (xs : List A) (g : All P xs) (j : ℕ) (h : j < length xs) (d : A) where
  pub table-cell : (k : ℕ) → k < c.size → get_or (x ++ table p c.size (map c.enc xs)) (length x + j * c.size + k) 0 ≡ get_or (c.enc (get_or xs j d)) k 0
  table-cell k low =
      sym (mid_at (x ++ table p c.size (map c.enc xs)) (length x + j * c.size) c.size k low)
      ∙ ap (λ (z : List ℕ). get_or z k 0)
      (row_read p c.size x (map c.enc xs) (uniform (sized u) xs g) j (omega (arith, length-map xs c.enc)) ∙ get_or_map-in c.enc xs j d [] h)

-- ---- an object's block

-- its newest version: stamp and value
pub block-newest : (l : Limits) (vs : List Version) → 0 < length vs
    → (get_or ((layout.versions l).enc vs) (stamp_at 0) 0 ≡ (newest vs).stamp) × (get_or ((layout.versions l).enc vs) (value_at 0) 0 ≡ of_z w64 (newest vs).value)
unfolding versions.block versions.flat
block-newest l [] h = absurd (not-suc-le-zero h)
block-newest l (v ∷ vs) h = (refl, refl)

-- ---- a row

module _ (m : ℕ) (r : Row) (g : RowFits m r) where
  abbrev p : Run
  p = r.1

  abbrev es : List Entry
  es = r.1.reads ++ r.1.writes

  outright : (row m).enc r ≡ of_key r.0 ∷ p.counter ∷ p.outcome ∷ (map (of_z w64) p.registers ++ (length p.reads ∷ length es ∷ table m 2 (map entry.enc es)))
  outright =
      ap (λ (x : List ℕ). of_key r.0 ∷ p.counter ∷ p.outcome ∷ (x ++ (length p.reads ∷ length es ∷ table m 2 (map entry.enc es))))
      (array-cells (of_z w64) register_count p.registers g.1.1.1.0.0)

  -- the cells before the entries
  front : List ℕ
  front =
      of_key r.0 ∷ p.counter ∷ p.outcome ∷ (map (of_z w64) p.registers ++ (length p.reads ∷ length es ∷ []))

  four : length (map (of_z w64) p.registers) ≡ 4
  unfolding register_count
  four = length-map p.registers (of_z w64) ∙ g.1.1.1.0.0

  split : (row m).enc r ≡ front ++ table m 2 (map entry.enc es)
  unfolding front
  split =
      outright
      ∙ ap (λ (x : List ℕ). of_key r.0 ∷ p.counter ∷ p.outcome ∷ x)
      (sym (append_assoc (map (of_z w64) p.registers) (length p.reads ∷ length es ∷ []) (table m 2 (map entry.enc es))))

  front_length : length front ≡ entry_at 0
  unfolding front
  front_length =
      omega (arith, four, length-append (map (of_z w64) p.registers) (length p.reads ∷ length es ∷ []))

  pub row-register : (k : ℕ) → k < register_count → get_or ((row m).enc r) (register_at k) 0 ≡ of_z w64 (register p.registers k)
  row-register k low =
      let z : ℕ = 0 in
      let rest = length p.reads ∷ length es ∷ table m 2 (map entry.enc es) in
      let n : length (map (of_z w64) p.registers) ≡ register_count = length-map p.registers (of_z w64) ∙ g.1.1.1.0.0 in
      ap (λ (x : List ℕ). get_or x (register_at k) 0) outright
      ∙ passed (of_key r.0) p.counter p.outcome (map (of_z w64) p.registers ++ rest) k
      ∙ get_or-append (map (of_z w64) p.registers) rest z k (omega arith)
      ∙ get_or-map (of_z w64) p.registers k (pos 0)
    where
      passed : (a b c : ℕ) (x : List ℕ) (k : ℕ) → get_or (a ∷ b ∷ c ∷ x) (register_at k) 0 ≡ get_or x k 0
      passed a b c x k = let e : register_at k ≡ suc (suc (suc k)) = omega arith in ap (λ (i : ℕ). get_or (a ∷ b ∷ c ∷ x) i 0) e

  -- behind the registers
  behind : (k : ℕ) → get_or ((row m).enc r) (reads_at + k) 0 ≡ get_or (length p.reads ∷ length es ∷ table m 2 (map entry.enc es)) k 0
  behind k =
      let x = of_key r.0 ∷ p.counter ∷ p.outcome ∷ map (of_z w64) p.registers in
      let rest = length p.reads ∷ length es ∷ table m 2 (map entry.enc es) in
      let n : reads_at + k ≡ length x + k = omega (arith, four) in
      ap (λ (x : List ℕ). get_or x (reads_at + k) 0) outright ∙ ap (λ (i : ℕ). get_or (x ++ rest) i 0) n ∙ get_or-append-add x rest k 0

  -- how many reads, and how many entries
  pub row_reads : get_or ((row m).enc r) reads_at 0 ≡ length p.reads
  row_reads = behind 0

  pub row-entries : get_or ((row m).enc r) entries_at 0 ≡ length es
  row-entries = behind 1

  -- entry j: the reads, and then the writes
  module _ (j : ℕ) (h : j < length es) (d : Entry) where
    entry-cell : (k : ℕ) → k < 2 → get_or ((row m).enc r) (entry_at j + k) 0 ≡ get_or (entry.enc (get_or es j d)) k 0
    entry-cell k low =
        ap (λ (x : List ℕ). get_or x (entry_at j + k) 0) split
        ∙ ap (λ (n : ℕ). get_or (front ++ table m 2 (map entry.enc es)) (n + j * 2 + k) 0) (sym front_length)
        ∙ table-cell lawful_entry m front es (all_join EntryFits p.reads p.writes g.1.1.1.1.1 g.1.1.1.1.2) j h d k low

    pub row-object : get_or ((row m).enc r) (entry_at j) 0 ≡ (get_or es j d).object
    row-object =
        let e : entry_at j ≡ entry_at j + 0 = omega arith in
        ap (λ (i : ℕ). get_or ((row m).enc r) i 0) e ∙ entry-cell 0 (omega arith)

    pub row-value : get_or ((row m).enc r) (entry_at j + 1) 0 ≡ of_z w64 (get_or es j d).value
    row-value = entry-cell 1 (omega arith)

-- a transaction at its start: its key, and zeros
pub row-start : (m : ℕ) (k : ℕ × ℕ) → (row m).enc (k, start) ≡ of_key k ∷ blank (row_cells m - 1)
unfolding start register_count table flat
row-start m k =
    let e : (m - 0) * 2 ≡ 2 * m = omega arith in
    ap (of_key k ∷◌) (blanks 8 ((m - 0) * 2) (row_cells m - 1) (omega arith))
