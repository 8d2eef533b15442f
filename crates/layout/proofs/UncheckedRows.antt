-- A row that is not checked yet: what is read from its cells, and what the layout's check asks of it. Assumes nothing.
use Rattle.std.specs.Prelude.{◌≡◌, refl, Bool, true, ◌&&◌, List, [], ◌∷◌, map, ℕ, ◌+◌, ◌-◌, ◌*◌, ◌≤◌, ℤ, length, take, drop, get_or, leb}
use Rattle.std.proofs.Math.Path.{sym, ap}
use Rattle.std.proofs.Common.{ap₂, ◌∙◌, arith, take_all, get_or-take, get_or-drop, length-take-le, to_z}
use Rattle.std.proofs.Math.Bool.{and-true}
use Rattle.std.proofs.Math.ListN.{length-drop}
use Rattle.std.proofs.lemmas.List.{length-map}
use Rattle.std.proofs.Math.Seq.{drop-drop}
use Rattle.std.specs.Int.{w64}
use Rattle.cells.specs.Zeros.{zeros}
use Rattle.operation.specs.Body.{register_count}
use Rattle.execution.specs.Entries.{Entry}
use Rattle.model.specs.Lists.{all}
use Rattle.layout.specs.Rows.{chunks}
use Rattle.layout.specs.RowLaws.{length-chunks}
use Rattle.layout.specs.Codec.{cell, pair, via, array, counted}
use Rattle.layout.specs.Layout.{signed, key_of, entry, entry_of, of_entry, two, row}
use Rattle.layout.specs.Offsets.{counter_at, outcome_at, register_at, reads_at, entries_at, entry_at}
use Rattle.layout.proofs.UncheckedLaws.{chunks-take, chunks-one, array_ok, counted-dec, counted-ok}

number : (x : List ℕ) (i : ℕ) → get_or (take 1 (drop i x)) 0 0 ≡ get_or x i 0
number x i =
    let z : i + 0 ≡ i = omega arith in
    get_or-take 1 (drop i x) 0 0 (omega arith) ∙ get_or-drop i x 0 0 ∙ ap (λ (k : ℕ). get_or x k 0) z

-- a pair of a number and a value is never refused
all-okay : {A : Type 0} (f : ℕ × ℤ → A) (g : A → ℕ × ℤ) (rs : List (List ℕ)) → all (via f g (λ y. true) (pair cell signed)).ok rs ≡ true
all-okay f g [] = refl
all-okay f g (r ∷ rs) = all-okay f g rs

-- ---- a row of m entries

-- the entries: reads, and right behind them writes
abbrev pub entries_in : List ℕ → List Entry
entries_in x = map entry.dec (chunks 2 (get_or x entries_at 0) (drop (entry_at 0) x))

module _ (m : ℕ) (x : List ℕ) (e : length x ≡ (row m).size) where
  pub dec-key : ((row m).dec x).0 ≡ key_of (get_or x 0 0)
  dec-key = ap key_of (number x 0)

  pub dec-counter : ((row m).dec x).1.counter ≡ get_or x counter_at 0
  dec-counter = number x counter_at

  pub dec-outcome : ((row m).dec x).1.outcome ≡ get_or x outcome_at 0
  dec-outcome = ap (λ (y : List ℕ). get_or (take 1 y) 0 0) (drop-drop 1 1 x) ∙ number x outcome_at

  -- behind the outcome, and behind the registers
  third : drop 1 (drop 1 (drop 1 x)) ≡ drop (register_at 0) x
  third = drop-drop 1 1 (drop 1 x) ∙ drop-drop 2 1 x

  seventh : drop (register_count * 1) (drop 1 (drop 1 (drop 1 x))) ≡ drop reads_at x
  unfolding register_count
  seventh = ap (drop 4) third ∙ drop-drop 4 3 x

  pub dec-registers : ((row m).dec x).1.registers ≡ map (to_z w64) (take register_count (drop (register_at 0) x))
  dec-registers =
      let n : register_count * 1 ≡ register_count = omega arith in
      ap₂ (λ (k : ℕ) (y : List ℕ). map (λ r. to_z w64 (get_or r 0 0)) (chunks 1 register_count (take k y))) n third
      ∙ ap (map (λ r. to_z w64 (get_or r 0 0))) (chunks-take 1 register_count register_count (drop (register_at 0) x) (omega arith))
      ∙ chunks-one (to_z w64) register_count (drop (register_at 0) x) (omega (arith, length-drop (register_at 0) x))

  -- the table of entries, with its count
  entry-part : drop 1 (drop reads_at x) ≡ take (1 + m * 2) (drop entries_at x)
  unfolding register_count
  entry-part = drop-drop 1 reads_at x ∙ sym (take_all (1 + m * 2) (drop entries_at x) (omega (arith, length-drop entries_at x)))

  module _ (h : get_or x entries_at 0 ≤ m) where
    decoded : (counted m entry).dec (drop 1 (drop reads_at x)) ≡ entries_in x
    decoded = ap (counted m entry).dec entry-part ∙ counted-dec entry m entries_at x h

    pub dec-reads : ((row m).dec x).1.reads ≡ take (get_or x reads_at 0) (entries_in x)
    dec-reads =
        ap (λ (z : List ℕ). take (get_or (take 1 z) 0 0) ((counted m entry).dec (drop 1 z))) seventh ∙ ap₂ (λ (k : ℕ) (y : List Entry). take k y) (number x reads_at) decoded

    pub dec-writes : ((row m).dec x).1.writes ≡ drop (get_or x reads_at 0) (entries_in x)
    dec-writes =
        ap (λ (z : List ℕ). drop (get_or (take 1 z) 0 0) ((counted m entry).dec (drop 1 z))) seventh ∙ ap₂ (λ (k : ℕ) (y : List Entry). drop k y) (number x reads_at) decoded

  behind : (n : ℕ) → length (drop (entry_at n) x) ≤ m * 2 - n * 2
  unfolding register_count
  behind n = omega (arith, length-drop (entry_at n) x)

  -- the check: the entries within their limit, zeros behind them, and no more reads than entries
  pub row_ok : (row m).ok x ≡ (leb (get_or x entries_at 0) m && zeros (drop (entry_at (get_or x entries_at 0)) x)) && leb (get_or x reads_at 0) (get_or x entries_at 0)
  row_ok =
      let n = get_or x entries_at 0 in
      let y = drop 1 (drop 1 (drop 1 x)) in
      let size : length y ≡ register_count * 1 + (1 + (1 + m * 2)) = omega (arith, length-drop 1 x, length-drop 1 (drop 1 x), length-drop 1 (drop 1 (drop 1 x))) in
      let registers : (array register_count signed).ok (take (register_count * 1) y) ≡ true =
      array_ok signed register_count (take (register_count * 1) y) (λ r. refl) (length-take-le (register_count * 1) y (omega arith)) in
      let tail : take (m * 2 - n * 2) (drop (n * 2) (drop (entry_at 0) x)) ≡ drop (entry_at n) x =
      ap (take (m * 2 - n * 2)) (drop-drop (n * 2) (entry_at 0) x) ∙ take_all (m * 2 - n * 2) (drop (entry_at n) x) (behind n) in
      let table : (counted m entry).ok (drop 1 (drop reads_at x)) ≡ leb n m && zeros (drop (entry_at n) x) =
      ap (counted m entry).ok entry-part ∙ counted-ok entry m entries_at x ∙ ap₂ (λ (t : Bool) (z : List ℕ). leb n m && (t && zeros z)) (all-okay entry_of of_entry (chunks 2 n (drop (entry_at 0) x))) tail in
      let count : length ((counted m entry).dec (drop 1 (drop reads_at x))) ≡ n =
      length-map (chunks 2 (get_or (drop 1 (drop reads_at x)) 0 0) (drop 1 (drop 1 (drop reads_at x)))) entry.dec
      ∙ length-chunks 2 (get_or (drop 1 (drop reads_at x)) 0 0) (drop 1 (drop 1 (drop reads_at x)))
      ∙ ap (λ (z : List ℕ). get_or z 0 0) (drop-drop 1 reads_at x) ∙ get_or-drop entries_at x 0 0 in
      and-true ((array register_count signed).ok (take (register_count * 1) y) && (two m entry).ok (drop (register_count * 1) y))
      ∙ ap₂ (λ (t : Bool) (z : List ℕ). t && (two m entry).ok z) registers seventh
      ∙ ap₂ ◌&&◌ table (ap₂ leb (number x reads_at) count)
