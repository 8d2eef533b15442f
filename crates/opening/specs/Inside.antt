-- Start values beside their bounds, one after another. Assumes nothing.
use Rattle.std.specs.Prelude.{◌≡◌, ℕ, suc, ◌+◌, ◌-◌, ◌%◌, ◌^◌, ◌<◌, ◌≤◌, Bool, true, false, not, ◌&&◌, List, [], ◌∷◌, length, drop, ℤ, pos, FitsSigned, bit_or, int_lt, slice_index_or, refl}
use Rattle.std.proofs.Common.{sym, ap, ◌∙◌, arith, add-one, drop_of_length-le, drop-cons, to_z, of_z, to_z-of_z}
use Rattle.std.proofs.Math.Bool.{and-false}
use Rattle.std.specs.Int.Bits.{or_add_and}
use Rattle.std.proofs.lemmas.Nat.{and_le_l, and_le_r}
use Rattle.std.specs.Int.{w64}
use Rattle.arith.proofs.IntegerLaws.{SFits→fits}
use Rattle.execution.specs.Bounds.{Bounds, widest, ordered, inside}
use Rattle.execution.proofs.BoundsLaws.{most-not, inside-ordered}
use Rattle.model.specs.Lists.{all₂}
use Rattle.model.specs.Calls.{bounds_from, starts_inside}
use Rattle.model.proofs.Refusals.{widest-inside}

-- a lower and an upper bound for each value
abbrev pub BoundsEach : List ℤ → List ℤ → List ℤ → Type 0
BoundsEach vs los his = (length los ≡ length vs) × (length his ≡ length vs)

-- ---- one value

-- as the code compares: not below the lower bound, and the upper one not below it
starts_is : (b : Bounds) (v : ℤ) → starts_inside b v ≡ not (int_lt v b.lower) && not (int_lt b.upper v)
unfolding inside
starts_is b v = rw (← (most-not b.lower v), ← (most-not v b.upper)) (by (inside b v) refl)
  where
    by : (t : Bool) → inside b v ≡ t → ordered b && t ≡ t
    by true e = rw (inside-ordered b v e)
    by false e = and-false (ordered b)

-- ---- those from i on

module _ (vs los his : List ℤ) (lows : length los ≡ length vs) (highs : length his ≡ length vs) where
  abbrev pub inside_from : ℕ → Bool
  inside_from i = all₂ starts_inside (bounds_from (drop i los) (drop i his)) (drop i vs)

  module _ (i : ℕ) (h : i < length vs) where
    abbrev v : ℤ
    v = slice_index_or vs i (pos 0)

    abbrev lo : ℤ
    lo = slice_index_or los i (pos 0)

    abbrev hi : ℤ
    hi = slice_index_or his i (pos 0)

    step : inside_from i ≡ (not (int_lt v lo) && not (int_lt hi v)) && inside_from (i + 1)
    step =
        rw (drop-cons vs i (pos 0) h, drop-cons los i (pos 0) (omega arith), drop-cons his i (pos 0) (omega arith), add-one)
        (ap (λ (t : Bool). t && all₂ starts_inside (bounds_from (drop (suc i) los) (drop (suc i) his)) (drop (suc i) vs)) (starts_is (record { lower = lo; upper = hi }) v))

    pub starts_below : int_lt v lo ≡ true → inside_from i ≡ false
    starts_below e = step ∙ rw e

    pub starts_above : int_lt v lo ≡ false → int_lt hi v ≡ true → inside_from i ≡ false
    starts_above e f = step ∙ rw (e, f)

    pub starts_next : int_lt v lo ≡ false → int_lt hi v ≡ false → inside_from i ≡ inside_from (i + 1)
    starts_next e f = step ∙ rw (e, f)

  pub starts_end : (i : ℕ) → length vs ≤ i → inside_from i ≡ true
  starts_end i h = rw (drop_of_length-le los {i = i} (omega arith))

-- ---- the widest bounds

-- an OR is 0 where both are
pub none_of : (a b : ℕ) → bit_or a b ≡ 0 → (a ≡ 0) × (b ≡ 0)
none_of a b e = let s = or_add_and a b in (omega (arith, and_le_r a b), omega (arith, and_le_l a b))

-- of a bound, by its bits, from which d is missing to the widest
pub lower-widest : (z : ℤ) → FitsSigned w64 z → (b d : ℕ) → b ≡ of_z w64 z → d ≡ 0 → (d + 2 ^ 63) % 2 ^ 64 ≡ b → z ≡ widest.lower
lower-widest z f b d e o h =
    let bits : b ≡ 9223372036854775808 = omega (arith, h) in
    sym (to_z-of_z f) ∙ ap (to_z w64) (sym e ∙ bits)

pub upper-widest : (z : ℤ) → FitsSigned w64 z → (b d : ℕ) → b < 2 ^ 64 → b ≡ of_z w64 z → d ≡ 0 → (d + b) % 2 ^ 64 ≡ 2 ^ 63 - 1 → z ≡ widest.upper
upper-widest z f b d l e o h =
    let bits : b ≡ 9223372036854775807 = omega (arith, h) in
    sym (to_z-of_z f) ∙ ap (to_z w64) (sym e ∙ bits)

-- nothing of 64 bits is outside
pub in_widest : (v lo hi : ℤ) → FitsSigned w64 v → lo ≡ widest.lower → hi ≡ widest.upper → starts_inside (record { lower = lo; upper = hi }) v ≡ true
in_widest v lo hi f a b = rw (a, b) (widest-inside v (SFits→fits f))

-- value i beside its bounds
abbrev pub inside_at : List ℤ → List ℤ → List ℤ → ℕ → Bool
inside_at vs los his i = starts_inside (record { lower = slice_index_or los i (pos 0); upper = slice_index_or his i (pos 0) }) (slice_index_or vs i (pos 0))

-- where each is inside, all are
pub each-inside : (vs los his : List ℤ) → length los ≡ length vs → length his ≡ length vs → ((i : ℕ) → i < length vs → inside_at vs los his i ≡ true)
    → all₂ starts_inside (bounds_from los his) vs ≡ true
each-inside [] [] [] a b w = refl
each-inside [] (lo ∷ los) his a b w = absurd (omega arith)
each-inside [] [] (hi ∷ his) a b w = absurd (omega arith)
each-inside (v ∷ vs) [] his a b w = absurd (omega arith)
each-inside (v ∷ vs) (lo ∷ los) [] a b w = absurd (omega arith)
each-inside (v ∷ vs) (lo ∷ los) (hi ∷ his) a b w =
    rw (w 0 (omega arith)) (each-inside vs los his (omega arith) (omega arith) (λ i h. w (suc i) (omega arith)))
