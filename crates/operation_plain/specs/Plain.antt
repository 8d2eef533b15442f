-- Operations of the plain kinds, load to subtract: a turn of the loop that looks at these alone. Assumes nothing.
use Prim.Native.Nat.{ℕ, zero, suc, ◌+◌, ◌-◌, ◌*◌, ◌<◌}
use Rattle.std.specs.Prelude.{◌≡◌, List, [], ◌∷◌, Bool, false, cond, eqb, get_or}
use Rattle.std.proofs.Math.Bool.{true}
use Rattle.std.proofs.Common.{add-one}
use native.Mathlib.Omega.{arith}
use Rattle.std.specs.Int.Bits.{bit_or}
use borrow.Author.Tests.{lt-ltb, eq-eqb}
use Rattle.words.specs.Words.{loaded}
use Rattle.zero_scan.specs.Totals.{or_of}
use Rattle.operation.specs.Body.{register_count, size, kind_byte, first_byte, second_byte, allowed, allowed_at, each}

-- an answer that is right where it is true
abbrev pub Sound : Bool → Bool → Type 0
Sound r b = r ≡ true → b ≡ true

pub sound-false : (b : Bool) → Sound false b
sound-false b e = cc

abbrev pub plain_below : ℕ → ℕ → ℕ
plain_below n kind = get_or (n ∷ n ∷ 1 ∷ 4 ∷ 4 ∷ []) kind 0

-- what is to be 0 of a constant: all of it, but for a set's
abbrev pub forbidden_in : ℕ → ℕ → ℕ
forbidden_in kind c = cond (eqb kind 2) 0 c

module _ (n left f s c : ℕ) (first : f < 4) where
  pub plain-allowed : (kind : ℕ) → kind < 5 → s < plain_below n kind → forbidden_in kind c ≡ 0 → allowed n left kind f s c ≡ true
  unfolding allowed register_count
  plain-allowed zero k h e = rw (lt-ltb f 4 first, lt-ltb s n h, eq-eqb c 0 e)
  plain-allowed (suc zero) k h e = rw (lt-ltb f 4 first, lt-ltb s n h, eq-eqb c 0 e)
  plain-allowed (suc (suc zero)) k h e = rw (lt-ltb f 4 first, eq-eqb s 0 (omega arith))
  plain-allowed (suc (suc (suc zero))) k h e = rw (lt-ltb f 4 first, lt-ltb s 4 h, eq-eqb c 0 e)
  plain-allowed (suc (suc (suc (suc zero)))) k h e = rw (lt-ltb f 4 first, lt-ltb s 4 h, eq-eqb c 0 e)
  plain-allowed (suc (suc (suc (suc (suc kind))))) k h e = absurd (past kind k)
    where
      past : (k : ℕ) → suc (suc (suc (suc (suc k)))) < 5 → ⊥
      past k h = omega arith

-- a turn: the operations before i are allowed if no register was too high and nothing was seen, and then those up to i are
module _ (b : List ℕ) (n m i : ℕ) (e : m ≡ size b) (firsts seen : ℕ) (inv : firsts < 4 → seen ≡ 0 → each (allowed_at n b) i ≡ true) where
  pub plain_turn : (kind f s c : ℕ) → kind ≡ kind_byte b i → f ≡ first_byte b i → s ≡ second_byte b i → c ≡ loaded b (1 + 3 * m + 8 * i)
      → kind < 5 → s < plain_below n kind → bit_or firsts f < 4 → bit_or seen (forbidden_in kind c) ≡ 0
      → each (allowed_at n b) (i + 1) ≡ true
  unfolding each
  plain_turn kind f s c p q r w k l h z =
      let fs = or_of firsts f in
      let cs = or_of seen (forbidden_in kind c) in
      let t : allowed_at n b i ≡ true = rw (← e, ← p, ← q, ← r, ← w) (plain-allowed n (m - (i + 1)) f s c (omega arith) kind k l (omega arith)) in
      rw (add-one, inv (omega arith) (omega arith), t)
