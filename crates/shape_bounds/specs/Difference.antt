-- A value is inside the bounds exactly if its difference to the lower one is not above theirs, all taken modulo 2^64 on the bits. Assumes nothing.
-- lower, upper and v are bits, read as signed numbers by `to_z w64`; span and d are the differences of upper and of v to lower, modulo 2^64.
use Rattle.std.specs.Prelude.{◌≡◌, ℕ, zero, suc, ◌+◌, ◌-◌, ◌*◌, ◌%◌, ◌^◌, ◌<◌, ◌≤◌, Bool, true, false, ◌&&◌, ◌⊎◌, List, drop, pos, negsuc, int_le, nat_le, slice_index}
use Rattle.std.proofs.Math.Path.{refl, ap₂}
use Rattle.std.proofs.Common.{sym, ap, ◌∙◌, inl, inr, to_z}
use native.Mathlib.Omega.{arith}
use Rattle.std.specs.Int.{w64}
use borrow.Author.Tests.{le-ltb, lt-ltb, le-leb, lt-leb, leb-true}
use Rattle.execution.specs.Bounds.{Bounds, ordered, inside}
use Rattle.execution.proofs.ReadAgreement.{both}
use Rattle.model.specs.Shape.{versions_inside}
use Rattle.versions.specs.Block.{versions_in, block_versions}
use Rattle.versions.proofs.OnePass.{le_or_lt}
use Rattle.versions.proofs.BlockLoops.{versions-step}

-- the bounds whose bits these are
abbrev pub bounds_of : ℕ → ℕ → Bounds
bounds_of lower upper = record { lower = to_z w64 lower; upper = to_z w64 upper }

-- ---- the signed order on bits

-- the bits with the sign turned: in their order the signed numbers stand
turned : ℕ → ℕ
turned a = (a + 2 ^ 63) % 2 ^ 64

same_test : (a b c d : ℕ) → (a ≤ b → c ≤ d) → (b < a → d < c) → nat_le a b ≡ nat_le c d
same_test a b c d f g = by (le_or_lt a b)
  where
    by : (a ≤ b) ⊎ (b < a) → nat_le a b ≡ nat_le c d
    by (inl h) = rw (le-leb a b h, le-leb c d (f h))
    by (inr h) = rw (lt-leb a b h, lt-leb c d (g h))

from_zero : (a : ℕ) → a < 2 ^ 63 → to_z w64 a ≡ pos a
from_zero a h = rw (lt-ltb a (2 ^ 63) h)

below-zero : (a : ℕ) → 2 ^ 63 ≤ a → to_z w64 a ≡ negsuc (2 ^ 64 - suc a)
below-zero a h = rw (le-ltb a (2 ^ 63) h)

signed-order : (a b : ℕ) → a < 2 ^ 64 → b < 2 ^ 64 → int_le (to_z w64 a) (to_z w64 b) ≡ nat_le (turned a) (turned b)
unfolding turned
signed-order a b ha hb = by (le_or_lt (2 ^ 63) a) (le_or_lt (2 ^ 63) b)
  where
    by : (2 ^ 63 ≤ a) ⊎ (a < 2 ^ 63) → (2 ^ 63 ≤ b) ⊎ (b < 2 ^ 63) → int_le (to_z w64 a) (to_z w64 b) ≡ nat_le ((a + 2 ^ 63) % 2 ^ 64) ((b + 2 ^ 63) % 2 ^ 64)
    by (inl p) (inl q) =
        ap₂ int_le (below-zero a p) (below-zero b q)
        ∙ same_test (2 ^ 64 - suc b) (2 ^ 64 - suc a) ((a + 2 ^ 63) % 2 ^ 64) ((b + 2 ^ 63) % 2 ^ 64) (λ h. omega arith) (λ h. omega arith)
    by (inl p) (inr q) =
        ap₂ int_le (below-zero a p) (from_zero b q) ∙ sym (le-leb ((a + 2 ^ 63) % 2 ^ 64) ((b + 2 ^ 63) % 2 ^ 64) (omega arith))
    by (inr p) (inl q) =
        ap₂ int_le (from_zero a p) (below-zero b q) ∙ sym (lt-leb ((a + 2 ^ 63) % 2 ^ 64) ((b + 2 ^ 63) % 2 ^ 64) (omega arith))
    by (inr p) (inr q) =
        ap₂ int_le (from_zero a p) (from_zero b q) ∙ same_test a b ((a + 2 ^ 63) % 2 ^ 64) ((b + 2 ^ 63) % 2 ^ 64) (λ h. omega arith) (λ h. omega arith)

-- ---- the test of one value

-- s is the difference of x to lower: where x is not below lower it is that of the signed numbers, else it goes round
module _ (lower s x : ℕ) (fl : lower < 2 ^ 64) (fs : s < 2 ^ 64) (e : (s + lower) % 2 ^ 64 ≡ x) where
  apart : turned lower ≤ turned x → turned lower + s ≡ turned x
  unfolding turned
  apart h = omega arith

  round : turned x < turned lower → turned lower + s ≡ turned x + 2 ^ 64
  unfolding turned
  round h = omega arith

small : (a : ℕ) → turned a < 2 ^ 64
unfolding turned
small a = omega arith

-- span is the difference of bounds in order
pub record Spanned (lower upper span : ℕ) : Type 0 where
  pub lower_fits : lower < 2 ^ 64
  pub span_fits : span < 2 ^ 64
  pub distance : (span + lower) % 2 ^ 64 ≡ upper
  pub order : ordered (bounds_of lower upper) ≡ true

module _ (lower upper span : ℕ) (s : Spanned lower upper span) where
  whole : turned lower + span ≡ turned upper
  whole =
      let rising : turned lower ≤ turned upper = leb-true (turned lower) (turned upper) (sym (signed-order lower upper s.lower_fits (omega arith)) ∙ s.order) in
      apart lower span upper s.lower_fits s.span_fits s.distance rising

  pub difference : (v d : ℕ) → v < 2 ^ 64 → d < 2 ^ 64 → (d + lower) % 2 ^ 64 ≡ v → inside (bounds_of lower upper) (to_z w64 v) ≡ nat_le d span
  unfolding inside
  difference v d fv fd e =
      ap₂ ◌&&◌ (signed-order lower v s.lower_fits fv) (signed-order v upper fv (omega arith)) ∙ by (le_or_lt (turned lower) (turned v)) (le_or_lt (turned v) (turned upper))
    where
      by : (turned lower ≤ turned v) ⊎ (turned v < turned lower) → (turned v ≤ turned upper) ⊎ (turned upper < turned v) → nat_le (turned lower) (turned v) && nat_le (turned v) (turned upper) ≡ nat_le d span
      by (inl p) (inl q) =
          let part = apart lower d v s.lower_fits fd e p in
          rw (le-leb (turned lower) (turned v) p, le-leb (turned v) (turned upper) q, le-leb d span (omega (arith, whole)))
      by (inl p) (inr q) =
          let part = apart lower d v s.lower_fits fd e p in
          rw (le-leb (turned lower) (turned v) p, lt-leb (turned v) (turned upper) q, lt-leb d span (omega (arith, whole)))
      by (inr p) q =
          let part = round lower d v s.lower_fits fd e p in
          rw (lt-leb (turned lower) (turned v) p, lt-leb d span (omega (arith, whole, small upper)))

  -- bounds as far apart as 64 bits allow hold every number that bits can say
  pub widest-inside : span ≡ 2 ^ 64 - 1 → (v : ℕ) → inside (bounds_of lower upper) (to_z w64 v) ≡ true
  widest-inside w v = by (le_or_lt (2 ^ 64) v)
    where
      of-64_bits : (v : ℕ) → v < 2 ^ 64 → inside (bounds_of lower upper) (to_z w64 v) ≡ true
      of-64_bits v h =
          let d = (v + (2 ^ 64 - lower)) % 2 ^ 64 in
          difference v d h (omega arith) (omega arith) ∙ le-leb d span (omega arith)

      by : (2 ^ 64 ≤ v) ⊎ (v < 2 ^ 64) → inside (bounds_of lower upper) (to_z w64 v) ≡ true
      by (inl h) =
          let e : 2 ^ 64 - suc v ≡ 0 = omega arith in
          ap (inside (bounds_of lower upper)) (below-zero v (omega arith) ∙ ap negsuc e) ∙ of-64_bits (2 ^ 64 - 1) (omega arith)
      by (inr h) = of-64_bits v h

-- ---- bounds in order

-- is the value whose bits are v inside?
abbrev pub bits_inside : ℕ → ℕ → ℕ → Bool
bits_inside lower upper v = inside (bounds_of lower upper) (to_z w64 v)

-- where one value is inside, the lower bound is not above the upper one
pub order-by : (lower upper v : ℕ) → lower < 2 ^ 64 → upper < 2 ^ 64 → v < 2 ^ 64 → bits_inside lower upper v ≡ true → ordered (bounds_of lower upper) ≡ true
unfolding inside
order-by lower upper v fl fu fv e =
    let (above, below) = both (int_le (to_z w64 lower) (to_z w64 v)) (int_le (to_z w64 v) (to_z w64 upper)) e in
    let a = leb-true (turned lower) (turned v) (sym (signed-order lower v fl fv) ∙ above) in
    let b = leb-true (turned v) (turned upper) (sym (signed-order v upper fv fu) ∙ below) in
    signed-order lower upper fl fu ∙ le-leb (turned lower) (turned upper) (omega arith)

-- ---- the values of versions

-- those from the k-th on, of count
abbrev pub rest_inside : ℕ → ℕ → ℕ → ℕ → List ℕ → Bool
rest_inside lower upper count k bc = versions_inside (bounds_of lower upper) (versions_in (count - k) (drop (1 + 2 * k) bc))

module _ (lower upper span : ℕ) (s : Spanned lower upper span) where
  -- d is the difference of the k-th value
  module _ (count k : ℕ) (bc : List ℕ) (v d : ℕ) (g : v ≡ slice_index bc (2 + 2 * k)) (h : k < count) (fv : v < 2 ^ 64) (fd : d < 2 ^ 64) (e : (d + lower) % 2 ^ 64 ≡ v) where
    one : rest_inside lower upper count k bc ≡ nat_le d span && rest_inside lower upper count (k + 1) bc
    one =
        let at : 1 + 2 * k + 1 ≡ 2 + 2 * k = omega arith in
        let m : count - k - 1 ≡ count - (k + 1) = omega arith in
        let j : 1 + 2 * k + 2 ≡ 1 + 2 * (k + 1) = omega arith in
        rw (versions-step (count - k) (1 + 2 * k) bc (omega arith), at, ← g, difference lower upper span s v d fv fd e, m, j)

    pub inside-next : d ≤ span → rest_inside lower upper count k bc ≡ rest_inside lower upper count (k + 1) bc
    inside-next l = one ∙ rw (le-leb d span l)

    pub inside-no : span < d → rest_inside lower upper count k bc ≡ false
    inside-no l = one ∙ rw (lt-leb d span l)

  pub inside-all : span ≡ 2 ^ 64 - 1 → (n : ℕ) (cs : List ℕ) → versions_inside (bounds_of lower upper) (versions_in n cs) ≡ true
  unfolding versions_in
  inside-all w zero cs = refl
  inside-all w (suc n) cs = rw (widest-inside lower upper span s w (slice_index cs 1), inside-all w n (drop 2 cs))

pub inside-end : (lower upper count k : ℕ) (bc : List ℕ) → count ≤ k → rest_inside lower upper count k bc ≡ true
unfolding versions_in
inside-end lower upper count k bc h = let z : count - k ≡ 0 = omega arith in rw z

-- of a block's count versions the newest is asked first
pub newest-first : (lower upper count : ℕ) (bc : List ℕ) → slice_index bc 0 ≡ count → 1 ≤ count → versions_inside (bounds_of lower upper) (block_versions bc) ≡ bits_inside lower upper (slice_index bc 2) && rest_inside lower upper count 1 bc
unfolding block_versions
newest-first lower upper count bc e h = rw (e, versions-step count 1 bc h)
