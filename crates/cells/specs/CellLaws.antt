-- The laws of `cells`: a word and its bytes, the cells of an area through `++`, parts, splices and stores, and both round trips.
-- Assumes nothing.
use Rattle.std.specs.Prelude.{ℕ, zero, suc, ◌+◌, ◌*◌, ◌/◌, ◌%◌, ◌^◌, ◌≤◌, ◌<◌, ◌≡◌, length, take, drop, set, get_or, replicate}
use Rattle.std.proofs.Math.Path.{refl, sym, ap}
use Rattle.std.proofs.Common.{◌∙◌, subst, div-lt_iff_lt-mul, pow-suc, zero-add, le_of_suc-le-suc, add-one, length-append, length-drop, drop_of_length-le, take-append-drop, drop-cons, drop-drop, take_at, length-take-le, get_or-drop, take-add, take_all}
use Rattle.std.proofs.Math.Logic.{dite}
use mathlib.Core.List.{List, [], ◌∷◌, ◌++◌}
use Rattle.std.proofs.Math.Nat.{mod-add-div}
use Rattle.std.proofs.Math.Decide.{dec_le}
use native.Mathlib.Omega.{arith, not-le}
use Rattle.std.proofs.Math.ListN.{get_or-eq_default}
use Rattle.std.proofs.Math.Seq.{take-nil, drop_at, slice}
use Rattle.std.proofs.lemmas.List.{take-append-le, drop-append-le}
use Rattle.words.specs.Words.{word, bytes, loaded}
use Rattle.cells.specs.Cells.{first_cells, cells, uncells, splice, cell_put, Put, Below}
use Rattle.cells.specs.Splice.{splice-one}
use Rattle.cells.specs.Uncells.{eight-more, length-uncells, uncells-zeros}

-- ---- a word and its bytes

word-step : (n : ℕ) (xs : List ℕ) (i j : ℕ) → j ≡ suc i → word (take (suc n) (drop i xs)) ≡ get_or xs i 0 + 256 * word (take n (drop j xs))
word-step n [] zero j e = rw (e, take-nil)
word-step n [] (suc i) j e = rw (e, take-nil)
word-step n (x ∷ xs) zero j e = rw e
word-step n (x ∷ xs) (suc i) j e = rw e (word-step n xs i (suc i) refl)

pub word-loaded : (xs : List ℕ) (i : ℕ) → word (take 8 (drop i xs)) ≡ loaded xs i
word-loaded xs i =
    omega (
      arith,
      word-step 7 xs i (i + 1) (omega arith),
      word-step 6 xs (i + 1) (i + 2) (omega arith),
      word-step 5 xs (i + 2) (i + 3) (omega arith),
      word-step 4 xs (i + 3) (i + 4) (omega arith),
      word-step 3 xs (i + 4) (i + 5) (omega arith),
      word-step 2 xs (i + 5) (i + 6) (omega arith),
      word-step 1 xs (i + 6) (i + 7) (omega arith),
      word-step 0 xs (i + 7) (i + 8) (omega arith),
    )

pub word_bytes : (n v : ℕ) → v < 256 ^ n → word (bytes n v) ≡ v
word_bytes zero v h = omega arith
word_bytes (suc n) v h =
    let h' : v < 256 ^ n * 256 = rw pow-suc at h in
    rw (word_bytes n (v / 256) ((div-lt_iff_lt-mul (omega arith)).1 h')) (mod-add-div v 256)

pub bytes_word : (bs : List ℕ) → Below 256 bs → bytes (length bs) (word bs) ≡ bs
bytes_word [] h = refl
bytes_word (b ∷ bs) h =
    let l : b < 256 = h 0 in
    let m : (b + 256 * word bs) % 256 ≡ b = omega arith in
    let d : (b + 256 * word bs) / 256 ≡ word bs = omega arith in
    rw (m, d, bytes_word bs (λ i. h (suc i)))

-- ---- the cells of an area, one by one

length-first_cells : (n : ℕ) (xs : List ℕ) → length (first_cells n xs) ≡ n
length-first_cells zero xs = refl
length-first_cells (suc n) xs = ap suc (length-first_cells n (drop 8 xs))

get_or-first_cells : (n k : ℕ) (xs : List ℕ) → k < n → get_or (first_cells n xs) k 0 ≡ word (take 8 (drop (k * 8) xs))
get_or-first_cells zero k xs h = omega arith
get_or-first_cells (suc n) zero xs h = refl
get_or-first_cells (suc n) (suc k) xs h =
    rw (eight-more k, ← drop-drop (k * 8) 8 xs) (get_or-first_cells n k (drop 8 xs) (le_of_suc-le-suc h))

pub length-cells : (xs : List ℕ) → length (cells xs) ≡ length xs / 8
unfolding cells
length-cells xs = length-first_cells (length xs / 8) xs

pub get_or-cells : (xs : List ℕ) (k : ℕ) → k * 8 + 8 ≤ length xs → get_or (cells xs) k 0 ≡ loaded xs (k * 8)
unfolding cells
get_or-cells xs k h = get_or-first_cells (length xs / 8) k xs (omega arith) ∙ word-loaded xs (k * 8)

-- a walk over an area of n cells
module _ (n : ℕ) (xs : List ℕ) (e : length xs ≡ n * 8) where
  pub length_cells-whole : length (cells xs) ≡ n
  length_cells-whole = omega (arith, length-cells xs)

  pub cells-next : (i : ℕ) → i < n → drop i (cells xs) ≡ get_or (cells xs) i 0 ∷ drop (i + 1) (cells xs)
  cells-next i h = rw add-one (drop-cons (cells xs) i 0 (rw length_cells-whole h))

  pub cells-end : (i : ℕ) → n ≤ i → drop i (cells xs) ≡ []
  cells-end i h = drop_of_length-le (cells xs) {i = i} (rw length_cells-whole h)

  pub cells_rest : (i : ℕ) → slice i n (cells xs) ≡ drop i (cells xs)
  cells_rest i = ap (drop i) (take_all n (cells xs) (omega (arith, length_cells-whole)))

-- ---- cells go through `++`, parts and a splice at whole cells

first_cells-append : (m n : ℕ) (a b : List ℕ) → length a ≡ m * 8 → first_cells (m + n) (a ++ b) ≡ first_cells m a ++ first_cells n b
first_cells-append zero n [] b e = rw zero-add
first_cells-append zero n (x ∷ a) b e = absurd (omega arith)
first_cells-append (suc m) n a b e =
    let s : suc m + n ≡ suc (m + n) = omega arith in
    let l : 8 ≤ length a = omega arith in
    rw (s, take-append-le 8 a b l, drop-append-le 8 a b l, first_cells-append m n (drop 8 a) b (rw length-drop (omega arith)))

pub cells-append : (m : ℕ) (a b : List ℕ) → length a ≡ m * 8 → cells (a ++ b) ≡ cells a ++ cells b
unfolding cells
cells-append m a b e =
    let f : length a / 8 ≡ m = omega arith in
    let g : length (a ++ b) / 8 ≡ m + length b / 8 = rw length-append (omega arith) in
    rw (f, g) (first_cells-append m (length b / 8) a b e)

module _ (m : ℕ) (xs : List ℕ) where
  module _ (h : m * 8 ≤ length xs) where
    cut : cells xs ≡ cells (take (m * 8) xs) ++ cells (drop (m * 8) xs)
    cut = ap cells (sym (take-append-drop (m * 8) xs)) ∙ cells-append m (take (m * 8) xs) (drop (m * 8) xs) (length-take-le (m * 8) xs h)

    front : length (cells (take (m * 8) xs)) ≡ m
    front = length_cells-whole m (take (m * 8) xs) (length-take-le (m * 8) xs h)

  -- where the area ends before cell m
  module _ (g : m * 8 ≤ length xs → ⊥) where
    short : length xs ≤ m * 8
    short = omega (arith, not-le (m * 8) (length xs) g)

    few : length (cells xs) ≤ m
    few = omega (arith, length-cells xs, short)

  pub cells-take : cells (take (m * 8) xs) ≡ take m (cells xs)
  cells-take =
      dite (dec_le (m * 8) (length xs))
      (λ h. sym (ap (take m) (cut h) ∙ take_at (cells (take (m * 8) xs)) (cells (drop (m * 8) xs)) m (front h)))
      (λ g. ap cells (take_all (m * 8) xs (short g)) ∙ sym (take_all m (cells xs) (few g)))

  pub cells-drop : cells (drop (m * 8) xs) ≡ drop m (cells xs)
  unfolding cells
  cells-drop =
      dite (dec_le (m * 8) (length xs))
      (λ h. sym (ap (drop m) (cut h) ∙ drop_at (cells (take (m * 8) xs)) (cells (drop (m * 8) xs)) m (front h)))
      (λ g. ap cells (drop_of_length-le xs (short g)) ∙ sym (drop_of_length-le (cells xs) (few g)))

pub cells-slice : (f t : ℕ) (xs : List ℕ) → cells (slice (f * 8) (t * 8) xs) ≡ slice f t (cells xs)
cells-slice f t xs = cells-drop f (take (t * 8) xs) ∙ ap (drop f) (cells-take t xs)

pub cells-splice : (xs : List ℕ) (k n : ℕ) (vs : List ℕ) → length vs ≡ n * 8 → k * 8 + n * 8 ≤ length xs → cells (splice xs (k * 8) vs) ≡ splice (cells xs) k (cells vs)
unfolding splice
cells-splice xs k n vs e h =
    let d : k * 8 + length vs ≡ (k + n) * 8 = omega arith in
    rw (
      d,
      length_cells-whole n vs e,
      cells-append k (take (k * 8) xs) (vs ++ drop ((k + n) * 8) xs) (length-take-le (k * 8) xs (omega arith)),
      cells-append n vs (drop ((k + n) * 8) xs) e,
      cells-take,
      cells-drop,
    )

-- a put of v to cell k stores v there, and leaves the other cells as they were
module _ (xs : List ℕ) (k v : ℕ) (h : k * 8 + 8 ≤ length xs) (b : v < 2 ^ 64) where
  pub cells-put : cells (cell_put xs k v) ≡ set (cells xs) k v
  unfolding cells
  cells-put =
      let one : cells (bytes 8 v) ≡ v ∷ [] = ap (λ (w : ℕ). w ∷ []) (word_bytes 8 v b) in
      cells-splice xs k 1 (bytes 8 v) refl h ∙ ap (splice (cells xs) k) one ∙ splice-one (cells xs) k v (omega (arith, length-cells xs))

  pub put_whole : (ys : List ℕ) → ys ≡ cell_put xs k v → Put xs ys k v
  put_whole ys e = record { whole = e; cell = ap cells e ∙ cells-put }

-- ---- bounds on every element

pub below-append : (b : ℕ) (xs ys : List ℕ) → Below b xs → Below b ys → Below b (xs ++ ys)
below-append b [] ys f g i = g i
below-append b (x ∷ xs) ys f g zero = f 0
below-append b (x ∷ xs) ys f g (suc i) = below-append b xs ys (λ j. f (suc j)) g i

pub below-take : (b n : ℕ) (xs : List ℕ) → Below b xs → Below b (take n xs)
below-take b zero xs h i = omega (arith, h 0)
below-take b (suc n) [] h i = h i
below-take b (suc n) (x ∷ xs) h zero = h 0
below-take b (suc n) (x ∷ xs) h (suc i) = below-take b n xs (λ j. h (suc j)) i

pub below-drop : (b n : ℕ) (xs : List ℕ) → Below b xs → Below b (drop n xs)
below-drop b n xs h i = rw get_or-drop (h (n + i))

pub below-zeros : (b n : ℕ) → 0 < b → Below b (replicate n 0)
below-zeros b zero h i = h
below-zeros b (suc n) h zero = h
below-zeros b (suc n) h (suc i) = below-zeros b n h i

bytes_below : (n v : ℕ) → Below 256 (bytes n v)
bytes_below zero v i = omega arith
bytes_below (suc n) v zero = omega arith
bytes_below (suc n) v (suc i) = bytes_below n (v / 256) i

pub uncells-below : (ws : List ℕ) → Below 256 (uncells ws)
uncells-below [] i = omega arith
uncells-below (w ∷ ws) i = below-append 256 (bytes 8 w) (uncells ws) (bytes_below 8 w) (uncells-below ws) i

pub cells-below : (xs : List ℕ) → Below 256 xs → Below (2 ^ 64) (cells xs)
cells-below xs h k =
    dite (dec_le (k * 8 + 8) (length xs))
    (λ l. let i : ℕ = k * 8 in
    rw (get_or-cells xs k l) (omega (arith, h i, h (i + 1), h (i + 2), h (i + 3), h (i + 4), h (i + 5), h (i + 6), h (i + 7))))
    (λ g.
    let z : length (cells xs) ≤ k = omega (arith, length-cells xs, not-le (k * 8 + 8) (length xs) g) in
    rw (get_or-eq_default (cells xs) 0 z) (omega arith))

-- ---- round trips: where each byte is a byte and each cell is whole, cells and bytes say each other

uncells-first_cells : (n : ℕ) (xs : List ℕ) → Below 256 xs → n * 8 ≤ length xs → uncells (first_cells n xs) ≡ take (n * 8) xs
uncells-first_cells zero xs h l = refl
uncells-first_cells (suc n) xs h l =
    let t : length (take 8 xs) ≡ 8 = length-take-le 8 xs (omega arith) in
    let w : bytes 8 (word (take 8 xs)) ≡ take 8 xs = subst (λ (k : ℕ). bytes k (word (take 8 xs)) ≡ take 8 xs) t (bytes_word (take 8 xs) (below-take 256 8 xs h)) in
    let d : n * 8 ≤ length (drop 8 xs) = simp length-drop (omega arith) in
    ap (λ (l : List ℕ). l ++ uncells (first_cells n (drop 8 xs))) w
    ∙ ap (λ (l : List ℕ). take 8 xs ++ l) (uncells-first_cells n (drop 8 xs) (below-drop 256 8 xs h) d)
    ∙ sym (take-add 8 (n * 8) xs)
    ∙ ap (λ (k : ℕ). take k xs) (sym (eight-more n))

pub uncells-cells : (xs : List ℕ) (n : ℕ) → Below 256 xs → length xs ≡ n * 8 → uncells (cells xs) ≡ xs
unfolding cells
uncells-cells xs n h e =
    let q : length xs / 8 * 8 ≡ length xs = omega arith in
    rw (uncells-first_cells (length xs / 8) xs h (omega arith), q) (take_all (length xs) xs (omega arith))

first_cells-uncells : (ws : List ℕ) → Below (2 ^ 64) ws → first_cells (length ws) (uncells ws) ≡ ws
first_cells-uncells [] h = refl
first_cells-uncells (w ∷ ws) h = rw (word_bytes 8 w (h 0), first_cells-uncells ws (λ i. h (suc i)))

pub cells-uncells : (ws : List ℕ) → Below (2 ^ 64) ws → cells (uncells ws) ≡ ws
unfolding cells
cells-uncells ws h =
    let q : length (uncells ws) / 8 ≡ length ws = omega (arith, length-uncells ws) in
    rw q (first_cells-uncells ws h)

pub cells-zeros : (n : ℕ) → cells (replicate (n * 8) 0) ≡ replicate n 0
cells-zeros n = ap cells (sym (uncells-zeros n)) ∙ cells-uncells (replicate n 0) (below-zeros (2 ^ 64) n (omega arith))
