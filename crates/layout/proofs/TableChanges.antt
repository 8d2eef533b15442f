-- The end of a table of values, and changes to it: rows behind the last, or others in the place of the last ones (taken out, closed up).
-- Assumes nothing.
use Rattle.std.specs.Prelude.{◌≡◌, refl, List, [], ◌∷◌, ◌++◌, map, ℕ, ◌+◌, ◌-◌, ◌*◌, ◌≤◌, length, take, drop, set}
use Rattle.std.proofs.Common.{sym, ap, ap₂, ◌∙◌, arith, mul_assoc, mul-le-mul_right, length-append, length-take-le}
use Rattle.std.proofs.lemmas.List.{map-append, length-map}
use Rattle.std.proofs.lemmas.Simd.{map-map}
use borrow.Rule.Slice.PartMut.{put_mid, mid_of}
use Rattle.cells.specs.Cells.{uncells}
use Rattle.cells.specs.Uncells.{uncells-append, uncells-zeros}
use Rattle.model.specs.ListLaws.{All}
use Rattle.model.proofs.ListLaws.{map-take, map-drop}
use Rattle.layout.specs.Rows.{flat, table, blank}
use Rattle.layout.proofs.RowLaws.{split_rows, places-read, places-write}
use Rattle.layout.specs.Codec.{Codec, counted, bytewise}
use Rattle.layout.specs.Lawful.{Sized}
use Rattle.layout.proofs.LawfulLaws.{uniform}
use Rattle.layout.specs.Field.{Field}
use Rattle.layout.proofs.FieldLaws.{mid_mid}

-- ---- cells in bytes: a table of rows of cells is one of rows of bytes

uncells-flat : (rs : List (List ℕ)) → uncells (flat rs) ≡ flat (map uncells rs)
unfolding flat
uncells-flat [] = refl
uncells-flat (r ∷ rs) = uncells-append r (flat rs) ∙ ap (uncells r ++◌) (uncells-flat rs)

uncells-table : (p w : ℕ) (rs : List (List ℕ)) → uncells (table p w rs) ≡ table p (w * 8) (map uncells rs)
unfolding table
uncells-table p w rs =
    let e : (p - length rs) * w * 8 ≡ (p - length (map uncells rs)) * (w * 8) =
    ap (λ (j : ℕ). (p - j) * w * 8) (sym (length-map rs uncells)) ∙ mul_assoc (p - length (map uncells rs)) w 8 in
    uncells-append (flat rs) (blank ((p - length rs) * w))
    ∙ ap₂ ◌++◌ (uncells-flat rs) (uncells-zeros ((p - length rs) * w) ∙ ap blank e)

pub bytes-table : {A : Type 0} (c : Codec A) (p : ℕ) (xs : List A) → uncells (table p c.size (map c.enc xs)) ≡ table p (c.size * 8) (map (bytewise c).enc xs)
bytes-table c p xs =
    uncells-table p c.size (map c.enc xs) ∙ ap (table p (c.size * 8)) (map-map uncells c.enc xs)

-- ---- the places from i up to q, which hold all rows from i on

module _ {A : Type 0} {c : Codec A} {P : A → Type 0} (u : Sized c P) (p : ℕ) (xs : List A) (g : All P xs) (i q : ℕ) (low : i ≤ length xs) (few : length xs ≤ q) (most : q ≤ p) where
  count : length (map c.enc xs) ≡ length xs
  count = length-map xs c.enc

  -- with o numbers in front
  module _ (o : ℕ) (x : List ℕ) (h : length x ≡ o) where
    pub rows-places : mid_of (o + i * c.size) ((q - i) * c.size) (x ++ table p c.size (map c.enc xs)) ≡ table (q - i) c.size (map c.enc (drop i xs))
    rows-places =
        places-read p c.size o x (map c.enc xs) h (uniform u xs g) i q (omega (arith, count)) (omega (arith, count)) most
        ∙ ap (table (q - i) c.size) (sym (map-drop c.enc i xs))

    pub rows-replace : (ys : List A) → length ys ≤ q - i
        → put_mid (o + i * c.size) ((q - i) * c.size) (x ++ table p c.size (map c.enc xs)) (table (q - i) c.size (map c.enc ys)) ≡ x ++ table p c.size (map c.enc (take i xs ++ ys))
    rows-replace ys m =
        places-write p c.size o x (map c.enc xs) h (uniform u xs g) i q (omega (arith, count)) (omega (arith, count)) most (map c.enc ys) (omega (arith, length-map ys c.enc))
        ∙ ap (λ (r : List (List ℕ)). x ++ table p c.size r) (sym (map-append c.enc (take i xs) ys ∙ ap (◌++ map c.enc ys) (map-take c.enc i xs)))

  -- of a table with a count: the rows, and then the count
  pub counted-replace : (ys : List A) → length ys ≤ q - i
      → set (put_mid (1 + i * c.size) ((q - i) * c.size) ((counted p c).enc xs) (table (q - i) c.size (map c.enc ys))) 0 (i + length ys) ≡ (counted p c).enc (take i xs ++ ys)
  counted-replace ys m =
      let t : i + length ys ≡ length (take i xs ++ ys) = omega (arith, length-append (take i xs) ys, length-take-le i xs low) in
      ap (λ (z : List ℕ). set z 0 (i + length ys)) (rows-replace 1 (length xs ∷ []) refl ys m)
      ∙ ap (λ (j : ℕ). j ∷ table p c.size (map c.enc (take i xs ++ ys))) t

-- of a table that is a field
module _ {A B : Type 0} {d : Codec B} {K : B → Type 0} {c : Codec A} {P : A → Type 0} {n : ℕ} (z : Sized c P) (F : Field d K (counted n c) (λ xs. (length xs ≤ n) × All P xs))
    (a : B) (p : K a) (i q : ℕ) (low : i ≤ length (F.get a)) (few : length (F.get a) ≤ q) (most : q ≤ n) where
  pub field_places : mid_of (F.at + (1 + i * c.size)) ((q - i) * c.size) (d.enc a) ≡ table (q - i) c.size (map c.enc (drop i (F.get a)))
  field_places =
      let xs = F.get a in
      let t : 1 + i * c.size + (q - i) * c.size ≤ 1 + n * c.size =
      omega (arith, split_rows q i c.size (omega arith), mul-le-mul_right c.size most) in
      sym (mid_mid F.at (1 + n * c.size) (1 + i * c.size) ((q - i) * c.size) (d.enc a) t)
      ∙ ap (mid_of (1 + i * c.size) ((q - i) * c.size)) (F.read a p)
      ∙ rows-places z n xs (F.got a p).1 i q low few most 1 (length xs ∷ []) refl
