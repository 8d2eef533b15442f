-- Zeros by units of 11 bytes, an operation's: two words that overlap, from the first byte and from the fourth. Assumes nothing.
use Rattle.std.specs.Prelude.{ℕ, ◌+◌, ◌≤◌, ◌≡◌, List, eqb, length}
use Rattle.std.proofs.Math.Path.{refl}
use Rattle.std.proofs.Common.{arith}
use Rattle.std.proofs.Math.Seq.{slice}
use Rattle.words.specs.Words.{loaded}
use Rattle.zero_scan.specs.Totals.{total, total-end, same-zero, Or, or_of, with_word, Passed, total-next, passed-word}

-- t₀, t₃, t₈ and t₁₁ are left from the bytes of these numbers on
turned : {s w v r r' t₀ t₃ t₈ t₁₁ : ℕ} → Or s w r → Or r v r' → Passed t₀ w t₈ → Passed t₃ v t₁₁ → t₃ ≤ t₀ → t₈ ≤ t₃ → eqb (s + t₀) 0 ≡ eqb (r' + t₁₁) 0
turned {s} {r' = r'} {t₀ = t₀} {t₁₁ = t₁₁} o p q u k l =
    same-zero (s + t₀) (r' + t₁₁) (λ e. omega (arith, q.up.none (omega arith), u.up.none (omega arith))) (λ e. omega arith)

module _ (xs : List ℕ) (to : ℕ) (l : to ≤ length xs) (i : ℕ) (h : i + 11 ≤ to) where
  three : total (slice (i + 3) to xs) ≤ total (slice i to xs)
  three =
      let a = total-next xs to l i (i + 1) refl (omega arith) in
      let b = total-next xs to l (i + 1) (i + 2) (omega arith) (omega arith) in
      let c = total-next xs to l (i + 2) (i + 3) (omega arith) (omega arith) in
      omega arith

  five : total (slice (i + 8) to xs) ≤ total (slice (i + 3) to xs)
  five =
      let a = total-next xs to l (i + 3) (i + 4) (omega arith) (omega arith) in
      let b = total-next xs to l (i + 4) (i + 5) (omega arith) (omega arith) in
      let c = total-next xs to l (i + 5) (i + 6) (omega arith) (omega arith) in
      let d = total-next xs to l (i + 6) (i + 7) (omega arith) (omega arith) in
      let e = total-next xs to l (i + 7) (i + 8) (omega arith) (omega arith) in
      omega arith

  pub unit_turn : (s : ℕ) → eqb (s + total (slice i to xs)) 0 ≡ eqb (with_word xs (i + 3) (with_word xs i s) + total (slice (i + 11) to xs)) 0
  unfolding with_word
  unit_turn s =
      turned (or_of s (loaded xs i)) (or_of (with_word xs i s) (loaded xs (i + 3)))
      (passed-word xs to l i (i + 8) refl (omega arith))
      (passed-word xs to l (i + 3) (i + 11) (omega arith) (omega arith))
      three five

-- the end of a scan
pub seen_all : (xs : List ℕ) (to : ℕ) → to ≤ length xs → (i : ℕ) → i ≡ to → (s : ℕ) → eqb (s + total (slice i to xs)) 0 ≡ eqb s 0
seen_all xs to l i e s =
    let z = total-end xs to l i e in
    let f : s + total (slice i to xs) ≡ s = omega arith in
    rw f
