-- Areas of the right lengths that are not checked yet: what `parse` reads from them and what the check asks, cell by cell, table by table.
-- The shape check's code is proved against these laws. Assumes nothing.
use Rattle.std.specs.Prelude.{◌≡◌, refl, Bool, true, false, ℕ, zero, suc, ◌+◌, ◌-◌, ◌*◌, ◌≤◌, length, get_or, leb}
use Rattle.std.proofs.Common.{sym, ◌∙◌, not-suc-le-zero, mul-le-mul_right, drop_of_length-le, take-take, get_or-take, get_or-drop, length-take-le, le-leb, leb-true}
use Rattle.std.proofs.Math.Path.{ap, ap₂}
use Rattle.std.proofs.Math.Bool.{◌&&◌, and-true}
use mathlib.Core.List.{List, [], ◌∷◌, map, map-id}
use native.Mathlib.Omega.{arith}
use Rattle.std.proofs.Math.ListN.{take, drop, length-drop}
use Rattle.std.proofs.lemmas.List.{length-map}
use Rattle.std.proofs.Math.Seq.{drop-drop}
use Rattle.cells.specs.Cells.{cells}
use Rattle.cells.specs.CellLaws.{length-cells}
use Rattle.cells.specs.Zeros.{zeros}
use Rattle.model.specs.declared.Limits.{Limits}
use Rattle.model.specs.Lists.{all}
use Rattle.model.specs.Calls.{clients}
use Rattle.layout.specs.Rows.{chunks}
use Rattle.layout.specs.RowLaws.{length-chunks}
use Rattle.layout.specs.Codec.{Codec, cell, array, counted}
use Rattle.layout.specs.Layout.{reader_of, reader, Row, row, Stored, object, versions_of, bounds_in, front, tail, record_cells, body, body_area, all_from, Areas, row_count, parse, laid}
use Rattle.layout.specs.Offsets.{last_at, reader_at, size_at, object_width, object_at, pending_at, row_width, row_at, record_length, body_width, body_at}
use Rattle.layout.specs.Field.{drop-take}
use Rattle.layout.specs.Fields.{sizes}
use Rattle.layout.specs.Unchecked.{size_in, pending_in, blocks_in, rows_in, objects_laid, rows_laid}

-- ---- rows of a list

pub chunks-take : (w n m : ℕ) (b : List ℕ) → n * w ≤ m → chunks w n (take m b) ≡ chunks w n b
unfolding chunks
chunks-take w zero m b h = refl
chunks-take w (suc n) m b h =
    ap₂ ◌∷◌ (take-take w m b (omega arith)) (ap (chunks w n) (drop-take w m b) ∙ chunks-take w n (m - w) (drop w b) (omega arith))

pub chunks-one : {A : Type 0} (f : ℕ → A) (n : ℕ) (b : List ℕ) → n ≤ length b → map (λ r. f (get_or r 0 0)) (chunks 1 n b) ≡ map f (take n b)
unfolding chunks
chunks-one f zero b h = refl
chunks-one f (suc n) [] h = absurd (not-suc-le-zero h)
chunks-one f (suc n) (x ∷ b) h = ap (f x ∷◌) (chunks-one f n b (omega arith))

-- a table with its count, which begins at the a-th number
module _ {A : Type 0} (c : Codec A) (p a : ℕ) (w : List ℕ) where
  abbrev pub table_in : List ℕ
  table_in = take (1 + p * c.size) (drop a w)

  abbrev pub count_in : ℕ
  count_in = get_or w a 0

  first : get_or table_in 0 0 ≡ count_in
  first =
      let z : a + 0 ≡ a = omega arith in
      get_or-take (1 + p * c.size) (drop a w) 0 0 (omega arith) ∙ get_or-drop a w 0 0 ∙ ap (λ (i : ℕ). get_or w i 0) z

  rest : drop 1 table_in ≡ take (p * c.size) (drop (1 + a) w)
  rest =
      let m : 1 + p * c.size - 1 ≡ p * c.size = omega arith in
      let z : a + 1 ≡ 1 + a = omega arith in
      drop-take 1 (1 + p * c.size) (drop a w)
      ∙ ap₂ (λ (k : ℕ) (x : List ℕ). take k x) m (drop-drop 1 a w ∙ ap (λ (i : ℕ). drop i w) z)

  table-rows : count_in ≤ p → chunks c.size (get_or table_in 0 0) (drop 1 table_in) ≡ chunks c.size count_in (drop (1 + a) w)
  table-rows h =
      ap₂ (chunks c.size) first rest ∙ chunks-take c.size count_in (p * c.size) (drop (1 + a) w) (mul-le-mul_right c.size h)

  pub counted-dec : count_in ≤ p → (counted p c).dec table_in ≡ map c.dec (chunks c.size count_in (drop (1 + a) w))
  counted-dec h = ap (map c.dec) (table-rows h)

  -- whether the count is within its limit is asked first
  pub counted-ok : (counted p c).ok table_in ≡ leb count_in p && (all c.ok (chunks c.size count_in (drop (1 + a) w)) && zeros (take (p * c.size - count_in * c.size) (drop (count_in * c.size) (drop (1 + a) w))))
  counted-ok = go' (leb count_in p) refl
    where
      go' : (b : Bool) → leb count_in p ≡ b → (counted p c).ok table_in ≡ b && (all c.ok (chunks c.size count_in (drop (1 + a) w)) && zeros (take (p * c.size - count_in * c.size) (drop (count_in * c.size) (drop (1 + a) w))))
      go' true e =
          ap₂ ◌&&◌ (ap (λ (k : ℕ). leb k p) first ∙ e)
          (ap₂ ◌&&◌ (ap (all c.ok) (table-rows (leb-true count_in p e)))
          (ap zeros (ap₂ (λ (k : ℕ) (x : List ℕ). drop (k * c.size) x) first rest ∙ drop-take (count_in * c.size) (p * c.size) (drop (1 + a) w))))
      go' false e = ap (λ (t : Bool). t && (all c.ok (chunks c.size (get_or table_in 0 0) (drop 1 table_in)) && zeros (drop (get_or table_in 0 0 * c.size) (drop 1 table_in)))) (ap (λ (k : ℕ). leb k p) first ∙ e)

-- an array of cells has no unused place
pub array_ok : {A : Type 0} (c : Codec A) (n : ℕ) (b : List ℕ) → ((r : List ℕ) → c.ok r ≡ true) → length b ≡ n * c.size → (array n c).ok b ≡ true
array_ok c n b h e =
    ap₂ ◌&&◌ (le-leb n n (omega arith)) (ap₂ ◌&&◌ (each (chunks c.size n b)) (ap zeros (drop_of_length-le b {i = n * c.size} (omega arith))))
  where
    each : (rs : List (List ℕ)) → all c.ok rs ≡ true
    each [] = refl
    each (r ∷ rs) = rw (h r) (each rs)

-- ---- the record area, as cells

module _ (l : Limits) (w : List ℕ) (e : length w ≡ (record_cells l).size) where
  abbrev object_table : Codec (List Stored)
  object_table = counted l.objects (object l)

  abbrev row_table : Codec (List Row)
  row_table = counted l.pending (row l.operations)

  -- the cells of the front
  abbrev f : List ℕ
  f = take (front l).size w

  in_front : (a n : ℕ) → a + n ≤ (front l).size → take n (drop a f) ≡ take n (drop a w)
  in_front a n h =
      ap (take n) (drop-take a (front l).size w) ∙ take-take n ((front l).size - a) (drop a w) (omega arith)

  -- the two tables of the front
  to_tables : drop (l.readers * 1) (drop (clients * 1) (drop 1 f)) ≡ take (object_table.size + row_table.size) (drop (size_at l) w)
  unfolding clients
  to_tables =
      drop-drop (l.readers * 1) (16 * 1) (drop 1 f) ∙ drop-drop (16 * 1 + l.readers * 1) 1 f
      ∙ ap (λ (k : ℕ). drop k f) (sums l.readers) ∙ drop-take (size_at l) (front l).size w
      ∙ ap (λ (k : ℕ). take k (drop (size_at l) w)) (rest_of l.readers (object_table.size + row_table.size))
    where
      sums : (r : ℕ) → 1 + (16 * 1 + r * 1) ≡ reader_at r
      sums r = omega arith

      rest_of : (r n : ℕ) → 1 + (16 * 1 + (r * 1 + n)) - reader_at r ≡ n
      rest_of r n = omega arith

  to_objects : take object_table.size (drop (l.readers * 1) (drop (clients * 1) (drop 1 f))) ≡ take object_table.size (drop (size_at l) w)
  to_objects =
      ap (take object_table.size) to_tables ∙ take-take object_table.size (object_table.size + row_table.size) (drop (size_at l) w) (omega arith)

  to_rows : drop object_table.size (drop (l.readers * 1) (drop (clients * 1) (drop 1 f))) ≡ take row_table.size (drop (pending_at l) w)
  unfolding clients
  to_rows =
      let a : size_at l + object_table.size ≡ pending_at l = omega arith in
      let b : object_table.size + row_table.size - object_table.size ≡ row_table.size = omega arith in
      ap (drop object_table.size) to_tables ∙ drop-take object_table.size (object_table.size + row_table.size) (drop (size_at l) w)
      ∙ ap₂ (λ (k : ℕ) (x : List ℕ). take k x) b (drop-drop object_table.size (size_at l) w ∙ ap (λ (k : ℕ). drop k w) a)

  pub timestamp-in : ((record_cells l).dec w).0.0 ≡ get_or w 0 0
  timestamp-in = get_or-take 1 f 0 0 (omega arith) ∙ get_or-take (front l).size w 0 0 (omega arith)

  pub lasts-in : ((record_cells l).dec w).0.1.0 ≡ take clients (drop (last_at 0) w)
  lasts-in =
      let m : clients * 1 ≡ clients = omega arith in
      ap (λ (x : List ℕ). map (λ r. get_or r 0 0) (chunks 1 clients x)) (in_front 1 (clients * 1) (omega arith))
      ∙ ap (λ (k : ℕ). map (λ r. get_or r 0 0) (chunks 1 clients (take k (drop 1 w)))) m
      ∙ ap (map (λ r. get_or r 0 0)) (chunks-take 1 clients clients (drop 1 w) (omega arith))
      ∙ chunks-one (λ x. x) clients (drop 1 w) (omega (arith, length-drop 1 w))
      ∙ map-id (take clients (drop 1 w))

  pub readers-in : ((record_cells l).dec w).0.1.1.0 ≡ map reader_of (take l.readers (drop (reader_at 0) w))
  unfolding clients
  readers-in =
      let m : l.readers * 1 ≡ l.readers = omega arith in
      ap (λ (x : List ℕ). map (λ r. reader_of (get_or r 0 0)) (chunks 1 l.readers x)) (ap (take (l.readers * 1)) (drop-drop 16 1 f) ∙ in_front (reader_at 0) (l.readers * 1) (omega arith))
      ∙ ap (λ (k : ℕ). map (λ r. reader_of (get_or r 0 0)) (chunks 1 l.readers (take k (drop (reader_at 0) w)))) m
      ∙ ap (map (λ r. reader_of (get_or r 0 0))) (chunks-take 1 l.readers l.readers (drop (reader_at 0) w) (omega arith))
      ∙ chunks-one reader_of l.readers (drop (reader_at 0) w) (omega (arith, length-drop (reader_at 0) w))

  pub objects_in : size_in l w ≤ l.objects → ((record_cells l).dec w).0.1.1.1.0 ≡ map (object l).dec (blocks_in l w)
  objects_in h =
      let a : 1 + size_at l ≡ object_at l 0 = omega arith in
      ap object_table.dec to_objects
      ∙ counted-dec (object l) l.objects (size_at l) w h
      ∙ ap₂ (λ (k i : ℕ). map (object l).dec (chunks k (size_in l w) (drop i w))) (sizes l).0 a

  pub rows-are_in : pending_in l w ≤ l.pending → ((record_cells l).dec w).0.1.1.1.1 ≡ map (row l.operations).dec (rows_in l w)
  rows-are_in h =
      let a : 1 + pending_at l ≡ row_at l 0 = omega arith in
      ap row_table.dec to_rows
      ∙ counted-dec (row l.operations) l.pending (pending_at l) w h
      ∙ ap₂ (λ (k i : ℕ). map (row l.operations).dec (chunks k (pending_in l w) (drop i w))) (sizes l).1 a

  -- the number of rows, whatever it is
  pub row_count-in : row_count ((record_cells l).dec w) ≡ pending_in l w
  row_count-in =
      ap (λ (x : List ℕ). length (row_table.dec x)) to_rows
      ∙ length-map (chunks (row l.operations).size (get_or (take row_table.size (drop (pending_at l) w)) 0 0) (drop 1 (take row_table.size (drop (pending_at l) w)))) (row l.operations).dec
      ∙ length-chunks (row l.operations).size (get_or (take row_table.size (drop (pending_at l) w)) 0 0) (drop 1 (take row_table.size (drop (pending_at l) w)))
      ∙ first (row l.operations) l.pending (pending_at l) w

  -- the check: each table's count, its rows, and zeros behind them
  objects-ok : object_table.ok (take object_table.size (drop (size_at l) w)) ≡ objects_laid l w
  objects-ok =
      let n = size_in l w in
      let k = object_width l in
      let a : 1 + size_at l ≡ object_at l 0 = omega arith in
      let d : l.objects * k - n * k ≡ pending_at l - object_at l n = omega arith in
      let g : object_at l 0 + n * k ≡ object_at l n = omega arith in
      counted-ok (object l) l.objects (size_at l) w
      ∙ ap₂ (λ (k i : ℕ). leb n l.objects && (all (object l).ok (chunks k n (drop i w)) && zeros (take (l.objects * k - n * k) (drop (n * k) (drop i w))))) (sizes l).0 a
      ∙ ap (λ (x : List ℕ). leb n l.objects && (all (object l).ok (blocks_in l w) && zeros x))
      (ap₂ (λ (i : ℕ) (x : List ℕ). take i x) d (drop-drop (n * k) (object_at l 0) w ∙ ap (λ (i : ℕ). drop i w) g) ∙ sym (drop-take (object_at l n) (pending_at l) w))

  rows_ok : row_table.ok (take row_table.size (drop (pending_at l) w)) ≡ rows_laid l w
  rows_ok =
      let n = pending_in l w in
      let k = row_width l in
      let a : 1 + pending_at l ≡ row_at l 0 = omega arith in
      let d : l.pending * k - n * k ≡ row_at l l.pending - row_at l n = omega arith in
      let g : row_at l 0 + n * k ≡ row_at l n = omega arith in
      counted-ok (row l.operations) l.pending (pending_at l) w
      ∙ ap₂ (λ (k i : ℕ). leb n l.pending && (all (row l.operations).ok (chunks k n (drop i w)) && zeros (take (l.pending * k - n * k) (drop (n * k) (drop i w))))) (sizes l).1 a
      ∙ ap (λ (x : List ℕ). leb n l.pending && (all (row l.operations).ok (rows_in l w) && zeros x))
      (ap₂ (λ (i : ℕ) (x : List ℕ). take i x) d (drop-drop (n * k) (row_at l 0) w ∙ ap (λ (i : ℕ). drop i w) g) ∙ sym (drop-take (row_at l n) (row_at l l.pending) w))

  front-ok : (front l).ok f ≡ objects_laid l w && rows_laid l w
  front-ok =
      let len : length f ≡ (front l).size = length-take-le (front l).size w (omega arith) in
      let a : length (take (clients * 1) (drop 1 f)) ≡ clients * 1 = length-take-le (clients * 1) (drop 1 f) (omega (arith, length-drop 1 f)) in
      let b : length (take (l.readers * 1) (drop (clients * 1) (drop 1 f))) ≡ l.readers * 1 = length-take-le (l.readers * 1) (drop (clients * 1) (drop 1 f)) (omega (arith, length-drop 1 f, length-drop (clients * 1) (drop 1 f))) in
      ap₂ ◌&&◌ (array_ok cell clients (take (clients * 1) (drop 1 f)) (λ r. refl) a)
      (ap₂ ◌&&◌ (array_ok reader l.readers (take (l.readers * 1) (drop (clients * 1) (drop 1 f))) (λ r. refl) b)
      (ap₂ ◌&&◌ (ap object_table.ok to_objects ∙ objects-ok) (ap row_table.ok to_rows ∙ rows_ok)))

  -- the tail is empty, and says nothing
  tail-ok : (tail l).ok (drop (front l).size w) ≡ true
  tail-ok = array_ok cell 0 (drop (front l).size w) (λ r. refl) (omega (arith, length-drop (front l).size w))

  pub record_ok : (record_cells l).ok w ≡ objects_laid l w && rows_laid l w
  record_ok = ap₂ ◌&&◌ front-ok tail-ok ∙ and-true (objects_laid l w && rows_laid l w)

-- ---- both areas

module _ (l : Limits) (a : Areas) (e : length a.0 ≡ record_length l) where
  abbrev w : List ℕ
  w = cells a.0

  pub cells_whole : length (cells a.0) ≡ (record_cells l).size
  cells_whole = omega (arith, length-cells a.0, (sizes l).2)

  abbrev bodies_in : List (List ℕ)
  bodies_in = chunks (body_width l) (pending_in l (cells a.0)) a.1

  -- the layout's check
  pub laid-is : laid l a
      ≡ (objects_laid l w && rows_laid l w)
      && (leb (pending_in l w) l.pending && (all (body l.operations).ok bodies_in && zeros (drop (body_at l (pending_in l w)) a.1)))
  unfolding laid
  laid-is =
      ap₂ ◌&&◌ (record_ok l w cells_whole) (ap (λ (k : ℕ). (body_area l k).ok a.1) (row_count-in l w cells_whole))

  -- what is parsed
  pub parsed-timestamp : (parse l a).timestamp ≡ get_or w 0 0
  unfolding parse
  parsed-timestamp = timestamp-in l w cells_whole

  pub parsed-lasts : (parse l a).lasts ≡ take clients (drop (last_at 0) w)
  unfolding parse
  parsed-lasts = lasts-in l w cells_whole

  pub parsed-readers : (parse l a).readers ≡ map reader_of (take l.readers (drop (reader_at 0) w))
  unfolding parse
  parsed-readers = readers-in l w cells_whole

  pub parsed-objects : size_in l w ≤ l.objects → (parse l a).objects ≡ map versions_of (map (object l).dec (blocks_in l w))
  unfolding parse
  parsed-objects h = ap (map versions_of) (objects_in l w cells_whole h)

  pub parsed-bounds : size_in l w ≤ l.objects → (parse l a).bounds ≡ map bounds_in (map (object l).dec (blocks_in l w))
  unfolding parse
  parsed-bounds h = ap (map bounds_in) (objects_in l w cells_whole h)

  pub parsed-pending : pending_in l w ≤ l.pending → (parse l a).pending ≡ all_from (map (row l.operations).dec (rows_in l w)) (map (body l.operations).dec bodies_in)
  unfolding parse
  parsed-pending h =
      ap₂ (λ (rs : List Row) (k : ℕ). all_from rs (map (body l.operations).dec (chunks (body_width l) k a.1))) (rows-are_in l w cells_whole h) (row_count-in l w cells_whole)
