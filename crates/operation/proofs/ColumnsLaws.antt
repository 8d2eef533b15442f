-- What follows from `specs/Columns`. Assumes nothing.
use Prim.Native.Nat.{ℕ, zero, suc, ◌+◌, ◌-◌, ◌*◌, ◌^◌, ◌<◌, ◌≤◌}
use Rattle.std.specs.Prelude.{◌≡◌, refl, List, [], ◌∷◌, Bool, true, false, ◌&&◌, length, ltb}
use Rattle.std.proofs.Common.{sym, ◌∙◌, ⊎_elim, eq-or-lt_of_le, le_of_suc-le-suc}
use Rattle.std.proofs.Math.Bool.{and-true, and-false, and_assoc}
use native.Mathlib.Omega.{arith}
use Rattle.std.proofs.Math.ListN.{get_or-eq_default}
use Rattle.std.proofs.Math.Dec.{leb, eqb, leb-zero, leb-suc-zero, leb-suc-suc, eqb-suc-zero}
use borrow.Author.Tests.{leb-true, leb-false, le-leb, lt-leb}
use Rattle.words.specs.Words.{loaded}
use Rattle.operation.specs.Body.{register_count, longest_skip, most_divisor, size, kind_byte, first_byte, second_byte, rules, allowed, allowed_at, each, is_well_formed}
use Rattle.operation.specs.Columns.{most_operations, least_second, tested}

-- two tests that hold of the same numbers
same : (a b c d : ℕ) → (a ≤ b → c ≤ d) → (b < a → d < c) → leb a b ≡ leb c d
same a b c d f g = go (leb a b) refl
  where
    go : (t : Bool) → leb a b ≡ t → t ≡ leb c d
    go true e = sym (le-leb c d (f (leb-true a b e)))
    go false e = sym (lt-leb c d (g (leb-false a b e)))

no_more : (k : ℕ) → leb k 0 ≡ eqb k 0
no_more zero = refl
no_more (suc k) = leb-suc-zero k ∙ sym (eqb-suc-zero k)

below_one : (k : ℕ) → ltb k 1 ≡ eqb k 0
below_one k = leb-suc-suc k 0 ∙ no_more k

-- a second that is no skip's
second : (a : Bool) (x i s : ℕ) → (a && leb 0 s && ltb (s + 0 * i) x) ≡ (a && ltb s x)
second a x i s =
    let e : s + 0 * i ≡ s = omega arith in
    rw (leb-zero s, e, and-true a)

-- and no constant
plain : (a : Bool) (x i s c : ℕ) → (a && leb 0 s && ltb (s + 0 * i) x && leb 0 c && leb c 0) ≡ (a && ltb s x && eqb c 0)
plain a x i s c = rw (second a x i s, leb-zero c, and-true (a && ltb s x), no_more c)

-- where a skip may end
reach : (m i s : ℕ) → i < m → m ≤ most_operations → ltb (s + 1 * i) m ≡ (leb s 15 && leb s (m - (i + 1)))
reach m i s h g =
    same (suc (s + 1 * i)) m s (m - (i + 1)) (λ l. omega arith) (λ l. omega arith) ∙ go (leb s (m - (i + 1))) refl
  where
    go : (t : Bool) → leb s (m - (i + 1)) ≡ t → t ≡ (leb s 15 && t)
    go true e = sym (rw (le-leb s 15 (omega (arith, leb-true s (m - (i + 1)) e))))
    go false e = sym (and-false (leb s 15))

-- the columns say what the eight rules say
module _ (n m i f s c : ℕ) (inside : i < m) (most : m ≤ most_operations) (bits : c < 2 ^ 64) where
  pub tested-allowed : (kind : ℕ) → kind < 8 → tested n m i kind f s c ≡ allowed n (m - (i + 1)) kind f s c
  unfolding tested allowed register_count longest_skip most_divisor
  tested-allowed zero k = plain (ltb f 4) n i s c
  tested-allowed (suc zero) k = plain (ltb f 4) n i s c
  tested-allowed (suc (suc zero)) k =
      rw (second (ltb f 4) 1 i s, below_one s, leb-zero c, le-leb c 18446744073709551615 (omega arith), and-true (ltb f 4 && eqb s 0), and-true (ltb f 4 && eqb s 0))
  tested-allowed (suc (suc (suc zero))) k = plain (ltb f 4) 4 i s c
  tested-allowed (suc (suc (suc (suc zero)))) k = plain (ltb f 4) 4 i s c
  tested-allowed (suc (suc (suc (suc (suc zero))))) k =
      rw (reach m i s inside most, leb-zero c, no_more c, ← and_assoc (ltb f 4 && leb 1 s) (leb s 15) (leb s (m - (i + 1))), and_assoc (ltb f 4) (leb 1 s) (leb s 15), and-true (ltb f 4 && (leb 1 s && leb s 15) && leb s (m - (i + 1))))
  tested-allowed (suc (suc (suc (suc (suc (suc zero)))))) k =
      plain (ltb f 1) 1 i s c ∙ rw (below_one f, below_one s)
  tested-allowed (suc (suc (suc (suc (suc (suc (suc zero))))))) k =
      rw (second (ltb f 4) 1 i s, below_one s, and_assoc (ltb f 4 && eqb s 0) (leb 1 c) (leb c 1000000))
  tested-allowed (suc (suc (suc (suc (suc (suc (suc (suc kind)))))))) k = absurd (past kind k)
    where
      past : (k : ℕ) → suc (suc (suc (suc (suc (suc (suc (suc k))))))) < 8 → ⊥
      past k h = omega arith

-- the same of an operation's fields as they were read
pub tested_at :
    (b : List ℕ) (n m i kind f s c : ℕ) → m ≡ size b → kind ≡ kind_byte b i → f ≡ first_byte b i → s ≡ second_byte b i → c ≡ loaded b (1 + 3 * m + 8 * i) → i < m → m ≤ most_operations → c < 2 ^ 64 → kind < 8
    → allowed_at n b i ≡ tested n m i kind f s c
tested_at b n m i kind f s c e p q r w inside most bits k =
    sym (tested-allowed n m i f s c inside most bits kind k ∙ rw (w, p, q, r, e))

-- ---- what the check's loop needs

-- a skip's 1, or 0, of i
pub times : (kind i : ℕ) → least_second kind * i ≤ i
times zero i = omega arith
times (suc zero) i = omega arith
times (suc (suc zero)) i = omega arith
times (suc (suc (suc zero))) i = omega arith
times (suc (suc (suc (suc zero)))) i = omega arith
times (suc (suc (suc (suc (suc zero))))) i = omega arith
times (suc (suc (suc (suc (suc (suc zero)))))) i = omega arith
times (suc (suc (suc (suc (suc (suc (suc zero))))))) i = omega arith
times (suc (suc (suc (suc (suc (suc (suc (suc kind)))))))) i = omega arith

pub no_kind : (n left kind f s c : ℕ) → 8 ≤ kind → allowed n left kind f s c ≡ false
unfolding allowed
no_kind n left kind f s c h = get_or-eq_default (rules n left f s c) false {n = kind} h

-- one operation that is not allowed
pub stops : (q : ℕ → Bool) (i m : ℕ) → i < m → q i ≡ false → each q m ≡ false
unfolding each
stops q i zero h e = absurd (nowhere i h)
  where
    nowhere : (i : ℕ) → i < 0 → ⊥
    nowhere i h = omega arith
stops q i (suc m) h e =
    ⊎_elim (λ z. rw (← z, e, and-false (each q i))) (λ l. rw (stops q i m l e)) (eq-or-lt_of_le (le_of_suc-le-suc h))

-- a body of no bytes
pub nothing : (most n : ℕ) (b : List ℕ) → length b ≡ 0 → is_well_formed most n b ≡ false
unfolding is_well_formed
nothing most n [] h = refl
nothing most n (x ∷ b) h = absurd (some (length b) h)
  where
    some : (k : ℕ) → suc k ≡ 0 → ⊥
    some k h = omega arith
