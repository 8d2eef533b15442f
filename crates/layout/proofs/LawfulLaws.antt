-- What follows from `specs/Lawful`. Assumes nothing.
use Rattle.std.specs.Prelude.{◌≡◌, refl, Bool, true, ◌&&◌, take, get_or, leb}
use Rattle.std.proofs.Math.Path.{sym, ap}
use Rattle.std.proofs.Common.{ap₂, ◌∙◌, subst, not-suc-le-zero, mul-le-mul_right, take-append-drop, take_at, get_or-take}
use mathlib.Core.List.{List, [], ◌∷◌, ◌++◌, map}
use Prim.Native.Nat.{ℕ, zero, suc, ◌+◌, ◌-◌, ◌*◌, ◌^◌, ◌≤◌, ◌<◌}
use native.Mathlib.Omega.{arith}
use Rattle.std.proofs.Math.ListN.{length, drop, length-append, length-drop, length-replicate}
use Rattle.std.proofs.lemmas.List.{length-map}
use Rattle.std.proofs.Math.Seq.{drop_at, length-take-le}
use borrow.Author.Tests.{le-leb, leb-true}
use Rattle.cells.specs.Cells.{cells, uncells, Below}
use Rattle.cells.specs.Uncells.{length-uncells}
use Rattle.cells.specs.CellLaws.{length-cells, uncells-cells, cells-uncells, cells-below, uncells-below}
use Rattle.execution.proofs.ReadAgreement.{both}
use Rattle.model.specs.Lists.{all}
use Rattle.model.specs.ListLaws.{All}
use Rattle.model.proofs.ListLaws.{all_join, all_take, all_drop}
use Rattle.cells.specs.Zeros.{zeros, zeros-replicate, zeros-true}
use Rattle.layout.specs.Rows.{flat, chunks, table, blank, pad_to}
use Rattle.layout.specs.RowLaws.{Uniform, length-chunks}
use Rattle.layout.proofs.RowLaws.{uniform-chunks, table-chunks, table-length, table-pad, chunks-table}
use Rattle.layout.specs.Codec.{Codec, cell, pair, via, rows, counted, padded, bytewise}
use Rattle.layout.specs.Lawful.{Lawful, Sized, Turns, Padded, Byte, Word}

pub sized : {K : ℕ → Type 0} {A : Type 0} {c : Codec A} {P : A → Type 0} → Lawful K c P → Sized c P
sized u = record { len = u.len }

-- ---- every element
module _ (K : ℕ → Type 0) where
  all-blank : K 0 → (n : ℕ) → All K (blank n)
  all-blank z zero = tt
  all-blank z (suc n) = (z, all-blank z n)

  all-flat : (rs : List (List ℕ)) → All (All K) rs → All K (flat rs)
  unfolding flat
  all-flat [] g = tt
  all-flat (r ∷ rs) g = all_join K r (flat rs) g.0 (all-flat rs g.1)

  all-chunks : (w n : ℕ) (b : List ℕ) → All K b → All (All K) (chunks w n b)
  unfolding chunks
  all-chunks w zero b h = tt
  all-chunks w (suc n) b h = (all_take K w b h, all-chunks w n (drop w b) (all_drop K w b h))

-- the same, said by index
pub below_all : (m : ℕ) (xs : List ℕ) → Below m xs → All (λ n. n < m) xs
below_all m [] h = tt
below_all m (x ∷ xs) h = (h 0, below_all m xs (λ i. h (suc i)))

pub all-below : (m : ℕ) (xs : List ℕ) → 0 < m → All (λ n. n < m) xs → Below m xs
all-below m [] z h i = z
all-below m (x ∷ xs) z h zero = h.0
all-below m (x ∷ xs) z h (suc i) = all-below m xs z h.1 i

-- ---- one number
one : (b : List ℕ) → length b ≡ 1 → get_or b 0 0 ∷ [] ≡ b
one [] h = absurd (omega arith)
one (x ∷ []) h = refl
one (x ∷ y ∷ b) h = absurd (omega arith)

one-all : (K : ℕ → Type 0) (b : List ℕ) → length b ≡ 1 → All K b → K (get_or b 0 0)
one-all K [] h g = absurd (omega arith)
one-all K (x ∷ b) h g = g.0

pub lawful_cell : {K : ℕ → Type 0} → Lawful K cell K
lawful_cell {K} = record { len = λ a h. refl; small = λ a h. (h, tt); back = λ a h. refl; okay = λ a h. refl; forth = λ b h s e. one b h; good = λ b h s e. one-all K b h s }

-- ---- one after the other
module _ {K : ℕ → Type 0} {A B : Type 0} {c : Codec A} {d : Codec B} {P : A → Type 0} {Q : B → Type 0} (u : Lawful K c P) (v : Lawful K d Q) where
  pub lawful_pair : Lawful K (pair c d) (λ x. P x.0 × Q x.1)
  lawful_pair = record {
    len = λ x h. omega (arith, length-append (c.enc x.0) (d.enc x.1), u.len x.0 h.0, v.len x.1 h.1);
    small = λ x h. all_join K (c.enc x.0) (d.enc x.1) (u.small x.0 h.0) (v.small x.1 h.1);
    back = λ x h. rw (take_at (c.enc x.0) (d.enc x.1) c.size (u.len x.0 h.0), drop_at (c.enc x.0) (d.enc x.1) c.size (u.len x.0 h.0), u.back x.0 h.0, v.back x.1 h.1);
    okay = λ x h. rw (take_at (c.enc x.0) (d.enc x.1) c.size (u.len x.0 h.0), drop_at (c.enc x.0) (d.enc x.1) c.size (u.len x.0 h.0), u.okay x.0 h.0, v.okay x.1 h.1);
    forth = λ b h s e. let t = both _ _ e in rw (u.forth (take c.size b) (low b h) (all_take K c.size b s) t.0, v.forth (drop c.size b) (high b h) (all_drop K c.size b s) t.1) (take-append-drop c.size b);
    good = λ b h s e. let t = both _ _ e in (u.good (take c.size b) (low b h) (all_take K c.size b s) t.0, v.good (drop c.size b) (high b h) (all_drop K c.size b s) t.1);
  }
    where
      low : (b : List ℕ) → length b ≡ c.size + d.size → length (take c.size b) ≡ c.size
      low b h = length-take-le c.size b (omega arith)

      high : (b : List ℕ) → length b ≡ c.size + d.size → length (drop c.size b) ≡ d.size
      high b h = omega (arith, length-drop c.size b)

module _ {K : ℕ → Type 0} {A B : Type 0} {c : Codec A} {P : A → Type 0} (u : Lawful K c P) {Q : B → Type 0} (f : A → B) (g : B → A) (q : A → Bool) (t : Turns P Q f g q) where
  pub lawful_via : Lawful K (via f g q c) Q
  lawful_via = record {
    len = λ y h. u.len (g y) (t.there y h);
    small = λ y h. u.small (g y) (t.there y h);
    back = λ y h. ap f (u.back (g y) (t.there y h)) ∙ t.round y h;
    okay = λ y h. rw (u.okay (g y) (t.there y h), u.back (g y) (t.there y h)) (t.fine y h);
    forth = λ b h s e. let k = both _ _ e in ap c.enc (t.again (c.dec b) (u.good b h s k.0) k.1) ∙ u.forth b h s k.0;
    good = λ b h s e. let k = both _ _ e in t.onto (c.dec b) (u.good b h s k.0) k.1;
  }

-- a change of view that loses nothing
pub lawful_iso : {K : ℕ → Type 0} {A B : Type 0} {c : Codec A} {P : A → Type 0} → Lawful K c P → (f : A → B) (g : B → A) → ((y : B) → f (g y) ≡ y) → ((x : A) → g (f x) ≡ x) → Lawful K (via f g (λ x. true) c) (λ y. P (g y))
lawful_iso {P} u f g r s = lawful_via u f g (λ x. true) (record { there = λ y h. h; round = λ y h. r y; fine = λ y h. refl; again = λ x h e. s x; onto = λ x h e. subst P (sym (s x)) h })

-- ---- rows
module _ {A : Type 0} {c : Codec A} {P : A → Type 0} (u : Sized c P) where
  pub uniform : (xs : List A) → All P xs → Uniform c.size (map c.enc xs)
  uniform [] h = tt
  uniform (x ∷ xs) h = (u.len x h.0, uniform xs h.1)

module _ {K : ℕ → Type 0} {A : Type 0} {c : Codec A} {P : A → Type 0} (u : Lawful K c P) (pos : K 0) where
  below-enc : (xs : List A) → All P xs → All (All K) (map c.enc xs)
  below-enc [] h = tt
  below-enc (x ∷ xs) h = (u.small x h.0, below-enc xs h.1)

  map_back : (xs : List A) → All P xs → map c.dec (map c.enc xs) ≡ xs
  map_back [] h = refl
  map_back (x ∷ xs) h = ap₂ ◌∷◌ (u.back x h.0) (map_back xs h.1)

  all-okay : (xs : List A) → All P xs → all c.ok (map c.enc xs) ≡ true
  all-okay [] h = refl
  all-okay (x ∷ xs) h = rw (u.okay x h.0) (all-okay xs h.1)

  map-forth : (rs : List (List ℕ)) → Uniform c.size rs → All (All K) rs → all c.ok rs ≡ true → map c.enc (map c.dec rs) ≡ rs
  map-forth [] h s e = refl
  map-forth (r ∷ rs) h s e = let t = both _ _ e in ap₂ ◌∷◌ (u.forth r h.0 s.0 t.0) (map-forth rs h.1 s.1 t.1)

  all-good : (rs : List (List ℕ)) → Uniform c.size rs → All (All K) rs → all c.ok rs ≡ true → All P (map c.dec rs)
  all-good [] h s e = tt
  all-good (r ∷ rs) h s e = let t = both _ _ e in (u.good r h.0 s.0 t.0, all-good rs h.1 s.1 t.1)

  module _ (p : ℕ) where
    below_rows : (xs : List A) → All P xs → All K (table p c.size (map c.enc xs))
    unfolding table
    below_rows xs h = all_join K (flat (map c.enc xs)) (blank ((p - length (map c.enc xs)) * c.size)) (all-flat K (map c.enc xs) (below-enc xs h)) (all-blank K pos ((p - length (map c.enc xs)) * c.size))

    module _ (k : ℕ) (low : k ≤ p) where
      split : (b : List ℕ) → length b ≡ p * c.size → Uniform c.size (chunks c.size k b)
      split b h = uniform-chunks c.size k b (omega (arith, mul-le-mul_right c.size low))

      parts : (b : List ℕ) → (rows k p c).ok b ≡ true → (all c.ok (chunks c.size k b) ≡ true) × (zeros (drop (k * c.size) b) ≡ true)
      parts b e = both (all c.ok (chunks c.size k b)) (zeros (drop (k * c.size) b)) (both (leb k p) (all c.ok (chunks c.size k b) && zeros (drop (k * c.size) b)) e).1

      pub lawful_rows : Lawful K (rows k p c) (λ xs. (length xs ≡ k) × All P xs)
      lawful_rows = record {
        len = λ xs h. table-length p c.size (map c.enc xs) (uniform (sized u) xs h.1) (omega (arith, h.0, length-map xs c.enc));
        small = λ xs h. below_rows xs h.1;
        back = λ xs h. rw (sym (length-map xs c.enc ∙ h.0), chunks-table p c.size (map c.enc xs) (uniform (sized u) xs h.1) (omega (arith, h.0, length-map xs c.enc))) (map_back xs h.1);
        okay = λ xs h.
            let l : length (map c.enc xs) ≤ p = omega (arith, h.0, length-map xs c.enc) in
            rw (le-leb k p low, sym (length-map xs c.enc ∙ h.0), chunks-table p c.size (map c.enc xs) (uniform (sized u) xs h.1) l, all-okay xs h.1) (table-pad p c.size (map c.enc xs) (uniform (sized u) xs h.1) l);
        forth = λ b h s e.
            let t = parts b e in
            rw (map-forth (chunks c.size k b) (split b h) (all-chunks K c.size k b s) t.0) (table-chunks p c.size k b h low t.1);
        good = λ b h s e.
            let t = parts b e in
            (length-map (chunks c.size k b) c.dec ∙ length-chunks c.size k b, all-good (chunks c.size k b) (split b h) (all-chunks K c.size k b s) t.0);
      }

    first : (b : List ℕ) → 1 ≤ length b → get_or b 0 0 ∷ drop 1 b ≡ b
    first [] h = absurd (not-suc-le-zero h)
    first (x ∷ b) h = refl

    module _ (room : (n : ℕ) → n ≤ p → K n) where
      rest : (b : List ℕ) → length b ≡ 1 + p * c.size → length (drop 1 b) ≡ p * c.size
      rest b h = length-drop 1 b ∙ omega arith

      few : (b : List ℕ) → (rows (get_or b 0 0) p c).ok (drop 1 b) ≡ true → get_or b 0 0 ≤ p
      few b e = leb-true (get_or b 0 0) p (both (leb (get_or b 0 0) p) (all c.ok (chunks c.size (get_or b 0 0) (drop 1 b)) && zeros (drop (get_or b 0 0 * c.size) (drop 1 b))) e).0

      pub lawful_counted : Lawful K (counted p c) (λ xs. (length xs ≤ p) × All P xs)
      lawful_counted = record {
        len = λ xs h. let l = (lawful_rows (length xs) h.0).len xs (refl, h.1) in omega arith;
        small = λ xs h. (room (length xs) h.0, (lawful_rows (length xs) h.0).small xs (refl, h.1));
        back = λ xs h. (lawful_rows (length xs) h.0).back xs (refl, h.1);
        okay = λ xs h. (lawful_rows (length xs) h.0).okay xs (refl, h.1);
        forth = λ b h s e.
            let k = few b e in
            let n = length-map (chunks c.size (get_or b 0 0) (drop 1 b)) c.dec ∙ length-chunks c.size (get_or b 0 0) (drop 1 b) in
            ap₂ ◌∷◌ n ((lawful_rows (get_or b 0 0) k).forth (drop 1 b) (rest b h) (all_drop K 1 b s) e) ∙ first b (omega arith);
        good = λ b h s e.
            let k = few b e in
            let g = (lawful_rows (get_or b 0 0) k).good (drop 1 b) (rest b h) (all_drop K 1 b s) e in
            (omega (arith, g.0), g.1);
      }

module _ (K : ℕ → Type 0) (p : ℕ) (f : ℕ → ℕ) (pos : K 0) (first : (n : ℕ) → 0 < f n) where
  head_pad : (a z : List ℕ) → 0 < length a → get_or (a ++ z) 0 0 ≡ get_or a 0 0
  head_pad [] z h = absurd (not-suc-le-zero h)
  head_pad (x ∷ a) z h = refl

  pub lawful_padded : Lawful K (padded p f) (Padded K p f)
  unfolding pad_to
  lawful_padded = record {
    len = λ a h. omega (arith, length-append a (blank (p - length a)), length-replicate {A = ℕ} (p - length a) 0, h.1);
    small = λ a h. all_join K a (blank (p - length a)) h.2 (all-blank K pos (p - length a));
    back = λ a h. rw (head_pad a (blank (p - length a)) (rw h.0 (first (get_or a 0 0)))) (take_at a (blank (p - length a)) (f (get_or a 0 0)) h.0);
    okay = λ a h. rw (head_pad a (blank (p - length a)) (rw h.0 (first (get_or a 0 0))), drop_at a (blank (p - length a)) (f (get_or a 0 0)) h.0, le-leb (f (get_or a 0 0)) p (omega (arith, h.0, h.1))) (zeros-replicate (p - length a));
    forth = λ b h s e.
        let t = both _ _ e in
        let k = leb-true (f (get_or b 0 0)) p t.0 in
        let l : length (take (f (get_or b 0 0)) b) ≡ f (get_or b 0 0) = length-take-le (f (get_or b 0 0)) b (omega arith) in
        let d : length (drop (f (get_or b 0 0)) b) ≡ p - f (get_or b 0 0) = length-drop (f (get_or b 0 0)) b ∙ omega arith in
        let z : blank (p - f (get_or b 0 0)) ≡ drop (f (get_or b 0 0)) b = sym (zeros-true (drop (f (get_or b 0 0)) b) t.1 ∙ ap blank d) in
        rw (l, z) (take-append-drop (f (get_or b 0 0)) b);
    good = λ b h s e.
        let t = both _ _ e in
        let k = leb-true (f (get_or b 0 0)) p t.0 in
        let l : length (take (f (get_or b 0 0)) b) ≡ f (get_or b 0 0) = length-take-le (f (get_or b 0 0)) b (omega arith) in
        (l ∙ ap f (sym (get_or-take (f (get_or b 0 0)) b 0 0 (first (get_or b 0 0)))), omega arith, all_take K (f (get_or b 0 0)) b s);
  }

pub uncells-byte : (ws : List ℕ) → All Byte (uncells ws)
uncells-byte ws = below_all 256 (uncells ws) (uncells-below ws)

module _ {A : Type 0} {c : Codec A} {P : A → Type 0} (u : Lawful Word c P) where
  cells-length : (b : List ℕ) → length b ≡ c.size * 8 → length (cells b) ≡ c.size
  cells-length b h = omega (arith, length-cells b)

  cells_same : (a : A) → P a → cells (uncells (c.enc a)) ≡ c.enc a
  cells_same a h = cells-uncells (c.enc a) (all-below (2 ^ 64) (c.enc a) (omega arith) (u.small a h))

  cells-word : (b : List ℕ) → All Byte b → All Word (cells b)
  cells-word b s = below_all (2 ^ 64) (cells b) (cells-below b (all-below 256 b (omega arith) s))

  pub lawful_bytes : Lawful Byte (bytewise c) P
  lawful_bytes = record {
    len = λ a h. omega (arith, length-uncells (c.enc a), u.len a h);
    small = λ a h. uncells-byte (c.enc a);
    back = λ a h. ap c.dec (cells_same a h) ∙ u.back a h;
    okay = λ a h. ap c.ok (cells_same a h) ∙ u.okay a h;
    forth = λ b h s e. ap uncells (u.forth (cells b) (cells-length b h) (cells-word b s) e) ∙ uncells-cells b c.size (all-below 256 b (omega arith) s) h;
    good = λ b h s e. u.good (cells b) (cells-length b h) (cells-word b s) e;
  }
