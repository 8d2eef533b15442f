-- What follows from `specs/RowLaws`. Assumes nothing.
use Rattle.std.specs.Prelude.{◌≡◌, true, take, drop, get_or, set}
use Rattle.std.proofs.Math.Path.{refl, ap}
use Rattle.std.proofs.Common.{sym, ◌∙◌, not-suc-le-zero, le_of_suc-le-suc, add-mul, length-set, take-append-drop, take-add}
use mathlib.Core.List.{List, [], ◌∷◌, ◌++◌, append_assoc, append-nil}
use Prim.Native.Nat.{ℕ, zero, suc, ◌+◌, ◌-◌, ◌*◌, ◌≤◌, ◌<◌}
use Rattle.std.proofs.Math.Nat.{zero-mul, suc-mul, zero-sub, sub-zero, suc-sub-suc}
use native.Mathlib.Omega.{arith}
use Rattle.std.proofs.Math.ListN.{length, length-append, length-drop, length-replicate}
use Rattle.std.proofs.lemmas.List.{replicate-append-replicate}
use Rattle.std.proofs.Math.Seq.{take_at, drop_at, length-take-le, split_at, set_split}
use borrow.Rule.Slice.PartMut.{put_mid, mid_of}
use Rattle.layout.specs.Rows.{flat, chunks, blank, table}
use Rattle.cells.specs.Zeros.{zeros, zeros-replicate, zeros-true}
use Rattle.layout.specs.RowLaws.{length-chunks, Uniform}

-- p rows are n rows and the others
pub split_rows : (p n w : ℕ) → n ≤ p → p * w ≡ n * w + (p - n) * w
split_rows p n w h =
    let e : p ≡ n + (p - n) = omega arith in
    ap (λ (k : ℕ). k * w) e ∙ add-mul n (p - n) w

module _ (w : ℕ) where
  pub flat-length : (rs : List (List ℕ)) → Uniform w rs → length (flat rs) ≡ length rs * w
  unfolding flat
  flat-length [] u = omega arith
  flat-length (r ∷ rs) u = omega (arith, length-append r (flat rs), u.0, flat-length rs u.1)

  pub row-length : (rs : List (List ℕ)) (i : ℕ) → Uniform w rs → i < length rs → length (get_or rs i []) ≡ w
  row-length [] i u h = absurd (not-suc-le-zero h)
  row-length (r ∷ rs) zero u h = u.0
  row-length (r ∷ rs) (suc i) u h = row-length rs i u.1 (le_of_suc-le-suc h)

  pub uniform-take : (i : ℕ) (rs : List (List ℕ)) → Uniform w rs → Uniform w (take i rs)
  uniform-take zero rs u = tt
  uniform-take (suc i) [] u = tt
  uniform-take (suc i) (r ∷ rs) u = (u.0, uniform-take i rs u.1)

  pub uniform-drop : (i : ℕ) (rs : List (List ℕ)) → Uniform w rs → Uniform w (drop i rs)
  uniform-drop zero rs u = u
  uniform-drop (suc i) [] u = tt
  uniform-drop (suc i) (r ∷ rs) u = uniform-drop i rs u.1

  pub uniform-chunks : (n : ℕ) (b : List ℕ) → n * w ≤ length b → Uniform w (chunks w n b)
  unfolding chunks
  uniform-chunks zero b h = tt
  uniform-chunks (suc n) b h =
      (length-take-le w b (omega (arith, suc-mul n w)), uniform-chunks n (drop w b) (omega (arith, length-drop w b, suc-mul n w)))

  pub flat-chunks : (n : ℕ) (b : List ℕ) → flat (chunks w n b) ≡ take (n * w) b
  unfolding flat chunks
  flat-chunks zero b = rw zero-mul
  flat-chunks (suc n) b =
      let e : suc n * w ≡ w + n * w = omega arith in
      rw (e, take-add) (ap (take w b ++◌) (flat-chunks n (drop w b)))

  pub chunks-flat : (rs : List (List ℕ)) (z : List ℕ) → Uniform w rs → chunks w (length rs) (flat rs ++ z) ≡ rs
  unfolding flat chunks
  chunks-flat [] z u = refl
  chunks-flat (r ∷ rs) z u =
      rw (append_assoc, take_at r (flat rs ++ z) w u.0, drop_at r (flat rs ++ z) w u.0)
      (ap (r ∷◌) (chunks-flat rs z u.1))

pub flat_append : (xs ys : List (List ℕ)) → flat (xs ++ ys) ≡ flat xs ++ flat ys
unfolding flat
flat_append [] ys = refl
flat_append (x ∷ xs) ys = rw (append_assoc, ← flat_append xs ys)

-- ---- zeros

pub blanks : (m n k : ℕ) → m + n ≡ k → blank m ++ blank n ≡ blank k
blanks m n k e = replicate-append-replicate m n 0 ∙ ap blank e

pub drop-blank : (i n : ℕ) → drop i (blank n) ≡ blank (n - i)
drop-blank zero n = rw sub-zero
drop-blank (suc i) zero = rw zero-sub
drop-blank (suc i) (suc n) = rw suc-sub-suc (drop-blank i n)

-- ---- a part of a list that is read or replaced

pub put-seam : (a k : ℕ) (x m z r : List ℕ) → length x ≡ a → length m ≡ k → put_mid a k (x ++ (m ++ z)) r ≡ x ++ (r ++ z)
put-seam a k x m z r h e = rw (take_at x (m ++ z) a h, drop_at x (m ++ z) a h, drop_at m z k e)

pub mid_seam : (a k : ℕ) (x m z : List ℕ) → length x ≡ a → length m ≡ k → mid_of a k (x ++ (m ++ z)) ≡ m
mid_seam a k x m z h e = rw (drop_at x (m ++ z) a h, take_at m z k e)

-- ---- a table read from a list and back

pub table-chunks : (p w n : ℕ) (t : List ℕ) → length t ≡ p * w → n ≤ p → zeros (drop (n * w) t) ≡ true → table p w (chunks w n t) ≡ t
unfolding table
table-chunks p w n t h k z =
    let l : length (drop (n * w) t) ≡ (p - n) * w = length-drop (n * w) t ∙ omega (arith, split_rows p n w k) in
    let e : drop (n * w) t ≡ blank ((p - n) * w) = zeros-true (drop (n * w) t) z ∙ ap blank l in
    rw (length-chunks, flat-chunks, ← e) (take-append-drop (n * w) t)

module _ (p w : ℕ) (rs : List (List ℕ)) (u : Uniform w rs) (k : length rs ≤ p) where
  pub table-length : length (table p w rs) ≡ p * w
  unfolding table
  table-length =
      omega (arith, length-append (flat rs) (blank ((p - length rs) * w)), length-replicate {A = ℕ} ((p - length rs) * w) 0, flat-length w rs u, split_rows p (length rs) w k)

  pub table-pad : zeros (drop (length rs * w) (table p w rs)) ≡ true
  unfolding table
  table-pad =
      rw (drop_at (flat rs) (blank ((p - length rs) * w)) (length rs * w) (flat-length w rs u)) (zeros-replicate ((p - length rs) * w))

  pub chunks-table : chunks w (length rs) (table p w rs) ≡ rs
  unfolding table
  chunks-table = chunks-flat w rs (blank ((p - length rs) * w)) u

-- ---- one row of a table that stands behind x

module _ (p w : ℕ) (x : List ℕ) (rs : List (List ℕ)) (u : Uniform w rs) (i : ℕ) (k : i < length rs) where
  row-split : x ++ table p w rs ≡ (x ++ flat (take i rs)) ++ (get_or rs i [] ++ (flat (drop (suc i) rs) ++ blank ((p - length rs) * w)))
  unfolding table flat
  row-split =
      ap (λ (z : List (List ℕ)). x ++ (flat z ++ blank ((p - length rs) * w))) (split_at rs i [] k) ∙ rw flat_append (simp append_assoc)

  row_before : length (x ++ flat (take i rs)) ≡ length x + i * w
  row_before =
      omega (arith, length-append x (flat (take i rs)), flat-length w (take i rs) (uniform-take w i rs u), ap (λ (j : ℕ). j * w) (length-take-le i rs (omega arith)))

  pub row_read : mid_of (length x + i * w) w (x ++ table p w rs) ≡ get_or rs i []
  row_read =
      rw row-split
      (mid_seam (length x + i * w) w (x ++ flat (take i rs)) (get_or rs i []) (flat (drop (suc i) rs) ++ blank ((p - length rs) * w)) row_before (row-length w rs i u k))

  pub row_write : (r : List ℕ) → put_mid (length x + i * w) w (x ++ table p w rs) r ≡ x ++ table p w (set rs i r)
  unfolding table flat
  row_write r =
      rw row-split
      (put-seam (length x + i * w) w (x ++ flat (take i rs)) (get_or rs i []) (flat (drop (suc i) rs) ++ blank ((p - length rs) * w)) r row_before (row-length w rs i u k)
      ∙ rw (length-set rs i r, set_split rs i r k, flat_append) (simp append_assoc))

-- ---- the places from i up to q, which hold all rows from i on; o numbers stand before the table. One law for all that changes a table's end:
-- rows behind the last, and other rows in the place of the last ones

module _ (p w o : ℕ) (x : List ℕ) (rs : List (List ℕ)) (h : length x ≡ o) (u : Uniform w rs) (i q : ℕ) (low : i ≤ length rs) (few : length rs ≤ q) (most : q ≤ p) where
  split_table : x ++ table p w rs ≡ (x ++ flat (take i rs)) ++ (table (q - i) w (drop i rs) ++ blank ((p - q) * w))
  unfolding table
  split_table =
      let n = length rs in
      let d : q - i - length (drop i rs) ≡ q - n = omega (arith, length-drop i rs) in
      let e : blank ((q - n) * w) ++ blank ((p - q) * w) ≡ blank ((p - n) * w) =
      blanks ((q - n) * w) ((p - q) * w) ((p - n) * w) (omega (arith, split_rows p n w (omega arith), split_rows p q w most, split_rows q n w few)) in
      ap (λ (r : List (List ℕ)). x ++ (flat r ++ blank ((p - n) * w))) (sym (take-append-drop i rs)) ∙ rw (flat_append, d, ← e) (simp append_assoc)

  before-length : length (x ++ flat (take i rs)) ≡ o + i * w
  before-length =
      omega (arith, length-append x (flat (take i rs)), flat-length w (take i rs) (uniform-take w i rs u), ap (λ (j : ℕ). j * w) (length-take-le i rs low))

  part_length : length (table (q - i) w (drop i rs)) ≡ (q - i) * w
  part_length =
      table-length (q - i) w (drop i rs) (uniform-drop w i rs u) (omega (arith, length-drop i rs))

  pub places-read : mid_of (o + i * w) ((q - i) * w) (x ++ table p w rs) ≡ table (q - i) w (drop i rs)
  places-read =
      rw (split_table, mid_seam (o + i * w) ((q - i) * w) (x ++ flat (take i rs)) (table (q - i) w (drop i rs)) (blank ((p - q) * w)) before-length part_length)

  pub places-write : (ys : List (List ℕ)) → length ys ≤ q - i → put_mid (o + i * w) ((q - i) * w) (x ++ table p w rs) (table (q - i) w ys) ≡ x ++ table p w (take i rs ++ ys)
  unfolding table
  places-write ys m =
      let y = length ys in
      let c : length (take i rs ++ ys) ≡ i + y = omega (arith, length-append (take i rs) ys, length-take-le i rs low) in
      let e : blank ((q - i - y) * w) ++ blank ((p - q) * w) ≡ blank ((p - (i + y)) * w) =
      blanks ((q - i - y) * w) ((p - q) * w) ((p - (i + y)) * w) (omega (arith, split_rows p q w most, split_rows p (i + y) w (omega arith), split_rows (q - i) y w m, split_rows q i w (omega arith))) in
      rw (split_table, put-seam (o + i * w) ((q - i) * w) (x ++ flat (take i rs)) (table (q - i) w (drop i rs)) (blank ((p - q) * w)) (table (q - i) w ys) before-length part_length, c, flat_append, ← e)
      (simp append_assoc)

-- a table with no place unused
pub table-full : (w : ℕ) (rs : List (List ℕ)) (n : ℕ) → length rs ≡ n → table n w rs ≡ flat rs
unfolding table
table-full w rs n e =
    let z : (n - length rs) * w ≡ 0 = ap (λ (k : ℕ). k * w) (zero_of n (length rs) e) ∙ omega arith in
    rw (z, append-nil)
  where
    zero_of : (a b : ℕ) → b ≡ a → a - b ≡ 0
    zero_of a b e = omega arith
