-- The readers beside the one that closes: the greatest that is not above it, and the least above it. Assumes nothing.
use Rattle.std.specs.Prelude.{◌≡◌, ◌⊎◌, Bool, ◌&&◌, ◌||◌, List, ℕ, ◌+◌, ◌*◌, ◌^◌, ◌≤◌, ◌<◌, max, min, length, get_or, drop}
use Rattle.std.proofs.Math.Path.{refl}
use Rattle.std.proofs.Common.{sym, ◌∙◌, inl, inr, arith, lt-ltb, le-ltb, le-leb}
use Rattle.std.proofs.Math.Bool.{true, false, and-false, or-false}
use Rattle.std.proofs.Math.Dec.{leb, ltb}
use Rattle.std.proofs.Math.Nat.{max-eq_left, max-eq_right, min-eq_left, min-eq_right}
use Rattle.std.proofs.lemmas.Bool.{lt-leb}
use Rattle.cells.specs.Cells.{cells}
use Rattle.cells.specs.CellLaws.{cells-next, cells-end}
use Rattle.model.specs.Lists.{any}
use Rattle.versions.specs.Block.{between}
use Rattle.versions.proofs.OnePass.{le_or_lt}

pub greater_yes : (p x c : ℕ) → x ≤ c → p < x → (s : ℕ) → ltb s x ≡ ltb s p || (ltb s x && leb x c)
greater_yes p x c h l s = rw (le-leb x c h) (go' (le_or_lt p s) (le_or_lt x s))
  where
    go' : (p ≤ s) ⊎ (s < p) → (x ≤ s) ⊎ (s < x) → ltb s x ≡ ltb s p || (ltb s x && true)
    go' a (inl b) = rw (le-ltb s x b, le-ltb s p (omega arith))
    go' (inl a) (inr b) = rw (lt-ltb s x b, le-ltb s p a)
    go' (inr a) (inr b) = rw (lt-ltb s x b, lt-ltb s p a)

pub greater_no : (p x c : ℕ) → x ≤ p → (s : ℕ) → ltb s p ≡ ltb s p || (ltb s x && leb x c)
greater_no p x c l s = go' (le_or_lt p s)
  where
    go' : (p ≤ s) ⊎ (s < p) → ltb s p ≡ ltb s p || (ltb s x && leb x c)
    go' (inl a) = rw (le-ltb s p a, le-ltb s x (omega arith))
    go' (inr a) = rw (lt-ltb s p a)

pub greater_high : (p x c : ℕ) → c < x → (s : ℕ) → ltb s p ≡ ltb s p || (ltb s x && leb x c)
greater_high p x c h s = rw (lt-leb x c h, and-false (ltb s x), or-false (ltb s p))

pub smaller_yes : (q x c : ℕ) → c < x → x < q → (u : ℕ) → leb x u ≡ leb q u || (ltb c x && leb x u)
smaller_yes q x c h l u = rw (lt-ltb c x h) (go' (le_or_lt x u) (le_or_lt q u))
  where
    go' : (x ≤ u) ⊎ (u < x) → (q ≤ u) ⊎ (u < q) → leb x u ≡ leb q u || leb x u
    go' (inl a) (inl b) = rw (le-leb x u a, le-leb q u b)
    go' (inl a) (inr b) = rw (le-leb x u a, lt-leb q u b)
    go' (inr a) b = rw (lt-leb x u a, lt-leb q u (omega arith))

pub smaller_no : (q x c : ℕ) → q ≤ x → (u : ℕ) → leb q u ≡ leb q u || (ltb c x && leb x u)
smaller_no q x c l u = go' (le_or_lt q u)
  where
    go' : (q ≤ u) ⊎ (u < q) → leb q u ≡ leb q u || (ltb c x && leb x u)
    go' (inl a) = rw (le-leb q u a)
    go' (inr a) = rw (lt-leb q u a, lt-leb x u (omega arith)) (sym (and-false (ltb c x)))

pub smaller_low : (q x c : ℕ) → x ≤ c → (u : ℕ) → leb q u ≡ leb q u || (ltb c x && leb x u)
smaller_low q x c h u = rw (le-ltb c x h) (sym (or-false (leb q u)))

-- the greatest so far takes a cell that is not above c, and the least so far one that is
pub max-taken : (p x c : ℕ) → x ≤ c → (s : ℕ) → ltb s (max p x) ≡ ltb s p || (ltb s x && leb x c)
max-taken p x c h s = go' (le_or_lt x p)
  where
    go' : (x ≤ p) ⊎ (p < x) → ltb s (max p x) ≡ ltb s p || (ltb s x && leb x c)
    go' (inl l) = rw max-eq_left (greater_no p x c l s)
    go' (inr l) = let k : p ≤ x = omega arith in rw max-eq_right (greater_yes p x c h l s)

pub min-taken : (q x c : ℕ) → c < x → (u : ℕ) → leb (min q x) u ≡ leb q u || (ltb c x && leb x u)
min-taken q x c h u = go' (le_or_lt q x)
  where
    go' : (q ≤ x) ⊎ (x < q) → leb (min q x) u ≡ leb q u || (ltb c x && leb x u)
    go' (inl l) = rw min-eq_left (smaller_no q x c l u)
    go' (inr l) = let k : x ≤ q = omega arith in rw min-eq_right (smaller_yes q x c h l u)

-- each starts from a number beside which no reader was seen yet: 0 from below, the greatest cell from above
pub lower-start : (cs : List ℕ) (s c : ℕ) → between cs s c ≡ ltb s 0 || between cs s c
lower-start cs s c = rw (le-ltb s 0 (omega arith))

pub upper-start : (cs : List ℕ) (c u : ℕ) → u < 2 ^ 63 → between cs c u ≡ leb 18446744073709551615 u || between cs c u
upper-start cs c u h = rw (lt-leb 18446744073709551615 u (omega arith))

-- a turn for either, and the loop's end: the readers from i on are left
module _ (n i : ℕ) (xs : List ℕ) (e : length xs ≡ n * 8) (s u : ℕ) (whole a : Bool) (w : whole ≡ a || between (drop i (cells xs)) s u) where
  pub beside-next : i < n → (x : ℕ) → x ≡ get_or (cells xs) i 0 → (b : Bool) → b ≡ a || (ltb s x && leb x u) → whole ≡ b || between (drop (i + 1) (cells xs)) s u
  unfolding between
  beside-next h x ex b eb = w ∙ rw (cells-next n xs e i h, ← ex, eb) (split a (ltb s x && leb x u) (any (λ c. ltb s c && leb c u) (drop (i + 1) (cells xs))))
    where
      split : (a b c : Bool) → a || (b || c) ≡ (a || b) || c
      split true b c = refl
      split false b c = refl

  pub beside_end : n ≤ i → whole ≡ a
  unfolding between
  beside_end h = w ∙ rw (cells-end n xs e i h) (or-false a)
