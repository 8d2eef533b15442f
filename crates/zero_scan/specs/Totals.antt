-- Zeros by sums: a list is of zeros exactly if its elements add up to 0, and an OR is 0 exactly if the sum is. A turn of a scan is then arithmetic.
-- Assumes nothing.
use Rattle.std.specs.Prelude.{ℕ, zero, suc, ◌+◌, ◌*◌, ◌≤◌, ◌<◌, ◌≡◌, Bool, true, false, List, [], ◌∷◌, eqb, length, get_or}
use Rattle.std.proofs.Math.Path.{refl}
use Rattle.std.proofs.Common.{sym, ap, ◌∙◌, eqb-true, eq-eqb, ne_eqb}
use native.Mathlib.Omega.{arith}
use Rattle.std.proofs.Math.Numerals.{add-one}
use Rattle.std.specs.Int.Bits.{bit_or, or_add_and}
use Rattle.std.proofs.lemmas.Nat.{and_le_l, and_le_r}
use Rattle.std.proofs.Math.Dec.{eqb-suc-zero}
use Rattle.std.proofs.Math.Seq.{slice, slice-cons, slice_empty}
use Rattle.std.proofs.lemmas.Bool.{eqb-false}
use Rattle.words.specs.Words.{loaded}
use Rattle.cells.specs.Zeros.{zeros}

unfoldable pub total : List ℕ → ℕ
total [] = 0
total (x ∷ xs) = x + total xs

-- two numbers of which neither is 0 alone
pub same-zero : (a b : ℕ) → (a ≡ 0 → b ≡ 0) → (b ≡ 0 → a ≡ 0) → eqb a 0 ≡ eqb b 0
same-zero a b f g = go (eqb a 0) refl
  where
    go : (t : Bool) → eqb a 0 ≡ t → t ≡ eqb b 0
    go true e = sym (eq-eqb b 0 (f (eqb-true a 0 e)))
    go false e = sym (ne_eqb b 0 (λ z. eqb-false a 0 e (g z)))

pub zeros-total : (l : List ℕ) → zeros l ≡ eqb (total l) 0
unfolding total
zeros-total [] = refl
zeros-total (zero ∷ l) =
    let e : total l ≡ 0 + total l = omega arith in
    zeros-total l ∙ ap (λ (n : ℕ). eqb n 0) e
zeros-total (suc x ∷ l) = rw eqb-suc-zero (sym (ne_eqb (suc x + total l) 0 (λ e. omega arith)))

-- ---- an OR between its parts and their sum

pub record Most (r a b : ℕ) : Type 0 where
  pub most : r ≤ a + b

pub record Or (a b r : ℕ) : Type 0 where
  pub left : a ≤ r
  pub right : b ≤ r
  pub sum : Most r a b

pub or_of : (a b : ℕ) → Or a b (bit_or a b)
or_of a b =
    let l = or_add_and a b in
    let m = and_le_l a b in
    let n = and_le_r a b in
    record { left = omega arith; right = omega arith; sum = record { most = omega arith } }

-- what was seen, with the word from byte i on
unfoldable pub with_word : List ℕ → ℕ → ℕ → ℕ
with_word xs i s = bit_or s (loaded xs i)

-- ---- what a scan passes: w is 0 exactly if what it adds to the sum is

pub record Clear (before w rest : ℕ) : Type 0 where
  pub none : before ≡ 0 → w + rest ≡ 0

pub record Passed (before w rest : ℕ) : Type 0 where
  pub low : Most before w rest
  pub up : Clear before w rest

bounded : (a b : ℕ) → a ≤ 72057594037927936 * b → b ≡ 0 → a ≡ 0
bounded a b h z = omega arith

module _ (xs : List ℕ) (to : ℕ) (l : to ≤ length xs) where
  pub total-end : (i : ℕ) → i ≡ to → total (slice i to xs) ≡ 0
  unfolding total
  total-end i e = rw (e, slice_empty)

  pub total-next : (i j : ℕ) → j ≡ i + 1 → i < to → total (slice i to xs) ≡ get_or xs i 0 + total (slice j to xs)
  unfolding total
  total-next i j e h = rw (e, add-one, slice-cons i to xs 0 h l)

  pub passed-word : (i j : ℕ) → j ≡ i + 8 → j ≤ to → Passed (total (slice i to xs)) (loaded xs i) (total (slice j to xs))
  passed-word i j q h =
      let a = total-next i (i + 1) refl (omega arith) in
      let b = total-next (i + 1) (i + 2) (omega arith) (omega arith) in
      let c = total-next (i + 2) (i + 3) (omega arith) (omega arith) in
      let d = total-next (i + 3) (i + 4) (omega arith) (omega arith) in
      let e = total-next (i + 4) (i + 5) (omega arith) (omega arith) in
      let f = total-next (i + 5) (i + 6) (omega arith) (omega arith) in
      let g = total-next (i + 6) (i + 7) (omega arith) (omega arith) in
      let k = total-next (i + 7) j (omega arith) (omega arith) in
      record { low = record { most = omega arith }; up = record { none = bounded (loaded xs i + total (slice j to xs)) (total (slice i to xs)) (omega arith) } }

-- ---- turns: s was seen before

pub word-turn : (xs : List ℕ) (to : ℕ) → to ≤ length xs → (s i : ℕ) → i + 8 ≤ to → eqb (s + total (slice i to xs)) 0 ≡ eqb (with_word xs i s + total (slice (i + 8) to xs)) 0
unfolding with_word
word-turn xs to l s i h = go (passed-word xs to l i (i + 8) refl h) (or_of s (loaded xs i))
  where
    go : {w r n m : ℕ} → Passed n w m → Or s w r → eqb (s + n) 0 ≡ eqb (r + m) 0
    go {w} {r} {n} {m} p o = same-zero (s + n) (r + m) (λ e. omega (arith, p.up.none (omega arith))) (λ e. omega arith)

-- the end of a scan whose rest another scan looks at
module _ (s : ℕ) (xs : List ℕ) where
  pub rest-zero : s ≡ 0 → eqb (s + total xs) 0 ≡ zeros xs
  rest-zero e =
      let f : s + total xs ≡ total xs = omega arith in
      rw f (sym (zeros-total xs))

  pub rest-seen : (s ≡ 0 → ⊥) → eqb (s + total xs) 0 ≡ false
  rest-seen n = ne_eqb (s + total xs) 0 (λ e. n (omega arith))

-- ---- eight words a turn

unfoldable pub eight : ℕ → ℕ → ℕ → ℕ → ℕ → ℕ → ℕ → ℕ → ℕ
eight a b c d e f g h = a + b + c + d + e + f + g + h

-- each part at most another's is the sum at most the other's
eight-le : {a b c d e f g h a' b' c' d' e' f' g' h' : ℕ} → a ≤ a' → b ≤ b' → c ≤ c' → d ≤ d' → e ≤ e' → f ≤ f' → g ≤ g' → h ≤ h' → eight a b c d e f g h ≤ eight a' b' c' d' e' f' g' h'
unfolding eight
eight-le k₁ k₂ k₃ k₄ k₅ k₆ k₇ k₈ = omega arith

eight-most : {a b c d e f g h p q r s t u v w a' b' c' d' e' f' g' h' : ℕ}
    → Most a' a p → Most b' b q → Most c' c r → Most d' d s → Most e' e t → Most f' f u → Most g' g v → Most h' h w
    → eight a' b' c' d' e' f' g' h' ≤ eight a b c d e f g h + eight p q r s t u v w
unfolding eight
eight-most k₁ k₂ k₃ k₄ k₅ k₆ k₇ k₈ = omega arith

eight-low : {p q r s t u v w n₀ n₁ n₂ n₃ n₄ n₅ n₆ n₇ n₈ : ℕ}
    → Most n₀ p n₁ → Most n₁ q n₂ → Most n₂ r n₃ → Most n₃ s n₄ → Most n₄ t n₅ → Most n₅ u n₆ → Most n₆ v n₇ → Most n₇ w n₈
    → n₀ ≤ eight p q r s t u v w + n₈
unfolding eight
eight-low k₁ k₂ k₃ k₄ k₅ k₆ k₇ k₈ = omega arith

parts : (a b : ℕ) → a + b ≡ 0 → (a ≡ 0) × (b ≡ 0)
parts a b e = (omega arith, omega arith)

eight-high : {p q r s t u v w n₀ n₁ n₂ n₃ n₄ n₅ n₆ n₇ n₈ : ℕ}
    → Clear n₀ p n₁ → Clear n₁ q n₂ → Clear n₂ r n₃ → Clear n₃ s n₄ → Clear n₄ t n₅ → Clear n₅ u n₆ → Clear n₆ v n₇ → Clear n₇ w n₈
    → n₀ ≡ 0 → eight p q r s t u v w + n₈ ≡ 0
unfolding eight
eight-high {p} {q} {r} {s} {t} {u} {v} {w} {n₁ = n₁} {n₂ = n₂} {n₃ = n₃} {n₄ = n₄} {n₅ = n₅} {n₆ = n₆} {n₇ = n₇} k₁ k₂ k₃ k₄ k₅ k₆ k₇ k₈ z =
    let (a, z₁) = parts p n₁ (k₁.none z) in
    let (b, z₂) = parts q n₂ (k₂.none z₁) in
    let (c, z₃) = parts r n₃ (k₃.none z₂) in
    let (d, z₄) = parts s n₄ (k₄.none z₃) in
    let (e, z₅) = parts t n₅ (k₅.none z₄) in
    let (f, z₆) = parts u n₆ (k₆.none z₅) in
    let (g, z₇) = parts v n₇ (k₇.none z₆) in
    omega (arith, k₈.none z₇)

-- what was seen and what is to come, before and after a turn
turned : (s s' w n m : ℕ) → s ≤ s' → w ≤ s' → s' ≤ s + w → n ≤ w + m → (n ≡ 0 → w + m ≡ 0) → eqb (s + n) 0 ≡ eqb (s' + m) 0
turned s s' w n m h k l p q = same-zero (s + n) (s' + m) (λ z. omega (arith, q (omega arith))) (λ z. omega arith)

module _ (a b c d e f g h : ℕ) where
  eight-words : {a' b' c' d' e' f' g' h' p q r s t u v w n₀ n₁ n₂ n₃ n₄ n₅ n₆ n₇ n₈ : ℕ}
      → Or a p a' → Or b q b' → Or c r c' → Or d s d' → Or e t e' → Or f u f' → Or g v g' → Or h w h'
      → Passed n₀ p n₁ → Passed n₁ q n₂ → Passed n₂ r n₃ → Passed n₃ s n₄ → Passed n₄ t n₅ → Passed n₅ u n₆ → Passed n₆ v n₇ → Passed n₇ w n₈
      → eqb (eight a b c d e f g h + n₀) 0 ≡ eqb (eight a' b' c' d' e' f' g' h' + n₈) 0
  eight-words {a'} {b'} {c'} {d'} {e'} {f'} {g'} {h'} {p} {q} {r} {s} {t} {u} {v} {w} {n₀ = n₀} {n₈ = n₈} k₁ k₂ k₃ k₄ k₅ k₆ k₇ k₈ l₁ l₂ l₃ l₄ l₅ l₆ l₇ l₈ =
      turned (eight a b c d e f g h) (eight a' b' c' d' e' f' g' h') (eight p q r s t u v w) n₀ n₈
      (eight-le k₁.left k₂.left k₃.left k₄.left k₅.left k₆.left k₇.left k₈.left)
      (eight-le k₁.right k₂.right k₃.right k₄.right k₅.right k₆.right k₇.right k₈.right)
      (eight-most k₁.sum k₂.sum k₃.sum k₄.sum k₅.sum k₆.sum k₇.sum k₈.sum)
      (eight-low l₁.low l₂.low l₃.low l₄.low l₅.low l₆.low l₇.low l₈.low)
      (eight-high l₁.up l₂.up l₃.up l₄.up l₅.up l₆.up l₇.up l₈.up)

  pub eight-turn : (xs : List ℕ) (to : ℕ) → to ≤ length xs → (i : ℕ) → i + 64 ≤ to
      → eqb (eight a b c d e f g h + total (slice i to xs)) 0
      ≡ eqb (eight (with_word xs i a) (with_word xs (i + 8) b) (with_word xs (i + 16) c) (with_word xs (i + 24) d)
      (with_word xs (i + 32) e) (with_word xs (i + 40) f) (with_word xs (i + 48) g) (with_word xs (i + 56) h) + total (slice (i + 64) to xs)) 0
  unfolding with_word
  eight-turn xs to l i k =
      eight-words (or_of a (loaded xs i)) (or_of b (loaded xs (i + 8))) (or_of c (loaded xs (i + 16))) (or_of d (loaded xs (i + 24)))
      (or_of e (loaded xs (i + 32))) (or_of f (loaded xs (i + 40))) (or_of g (loaded xs (i + 48))) (or_of h (loaded xs (i + 56)))
      (passed-word xs to l i (i + 8) refl (omega arith))
      (passed-word xs to l (i + 8) (i + 16) (omega arith) (omega arith))
      (passed-word xs to l (i + 16) (i + 24) (omega arith) (omega arith))
      (passed-word xs to l (i + 24) (i + 32) (omega arith) (omega arith))
      (passed-word xs to l (i + 32) (i + 40) (omega arith) (omega arith))
      (passed-word xs to l (i + 40) (i + 48) (omega arith) (omega arith))
      (passed-word xs to l (i + 48) (i + 56) (omega arith) (omega arith))
      (passed-word xs to l (i + 56) (i + 64) (omega arith) (omega arith))

  abbrev seen : ℕ
  seen = bit_or (bit_or (bit_or a b) (bit_or c d)) (bit_or (bit_or e f) (bit_or g h))

  joined : {p q r s t u v : ℕ} → Or a b p → Or c d q → Or e f r → Or g h s → Or p q t → Or r s u → Or t u v → (v ≡ 0 → eight a b c d e f g h ≡ 0) × (eight a b c d e f g h ≡ 0 → v ≡ 0)
  unfolding eight
  joined k₁ k₂ k₃ k₄ k₅ k₆ k₇ = (λ z. omega arith, λ z. omega arith)

  all : (seen ≡ 0 → eight a b c d e f g h ≡ 0) × (eight a b c d e f g h ≡ 0 → seen ≡ 0)
  all =
      joined (or_of a b) (or_of c d) (or_of e f) (or_of g h) (or_of (bit_or a b) (bit_or c d)) (or_of (bit_or e f) (bit_or g h)) (or_of (bit_or (bit_or a b) (bit_or c d)) (bit_or (bit_or e f) (bit_or g h)))

  pub eight-zero : seen ≡ 0 → (xs : List ℕ) → eqb (eight a b c d e f g h + total xs) 0 ≡ zeros xs
  eight-zero z xs = rest-zero (eight a b c d e f g h) xs (all.0 z)

  pub eight-seen : (seen ≡ 0 → ⊥) → (xs : List ℕ) → eqb (eight a b c d e f g h + total xs) 0 ≡ false
  eight-seen z xs = rest-seen (eight a b c d e f g h) xs (λ y. z (all.1 y))
