-- Which version the closed reader saw, and that no other can go. Assumes nothing.
-- n is the number of readers, c the closed reader's cell, rc the cells of all readers without it, bc the cells of one block.
use Rattle.std.specs.Prelude.{◌≡◌, ◌⊎◌, Bool, ◌&&◌, ◌||◌, eqb, leb, length, drop}
use Rattle.std.proofs.Math.Path.{refl}
use Rattle.std.proofs.Common.{sym, ap, ap₂, ◌∙◌, inl, inr, arith, drop-drop, get_or-drop}
use Rattle.std.proofs.Math.Bool.{true, false, cond, and-false, or-false}
use mathlib.Core.List.{List, [], ◌∷◌}
use Prim.Native.Nat.{ℕ, zero, suc, ◌+◌, ◌*◌, ◌-◌, ◌≤◌, ◌<◌, ◌^◌}
use Rattle.std.proofs.Math.Dec.{ltb}
use Rattle.std.proofs.Math.ListN.{get_or}
use mir.Val.{bool_byte}
use borrow.Author.Tests.{lt-ltb, le-ltb, le-leb, lt-leb, ltb-true, eqb-true}
use Rattle.execution.proofs.ReadAgreement.{both}
use Rattle.cells.specs.Zeros.{zeros}
use Rattle.model.specs.Lists.{any}
use Rattle.model.specs.Serial.{Version}
use Rattle.versions.specs.Block.{versions_in, block_versions, between, chain, trim}
use Rattle.versions.proofs.OnePass.{le_or_lt, falls}
use Rattle.versions_close.specs.Closing.{seen, Beside}

-- ---- not_seen

-- a turn: the test as a number
pub byte_le : (t : Bool) → bool_byte t ≤ 1
byte_le true = omega arith
byte_le false = omega arith

pub seen_step : (c n k : ℕ) (cs : List ℕ) → 0 < n → (s : ℕ) → s ≡ get_or cs k 0 → seen c n (drop k cs) ≡ bool_byte (leb c s) + seen c (n - 1) (drop (k + 2) cs)
unfolding seen
seen_step c zero k cs h s e = absurd (omega arith)
seen_step c (suc n) k cs h s e =
    let a : k + 0 ≡ k = omega arith in
    let b : suc n - 1 ≡ n = omega arith in
    rw (get_or-drop k cs 0 0, a, drop-drop 2 k cs, b, ← e) (go' (leb c s))
  where
    go' : (t : Bool) → cond t (suc (seen c n (drop (k + 2) cs))) (seen c n (drop (k + 2) cs)) ≡ bool_byte t + seen c n (drop (k + 2) cs)
    go' true = omega arith
    go' false = omega arith

pub seen_next : (c n i j : ℕ) (cs : List ℕ) (whole : ℕ) → whole ≡ j + seen c (n - i) (drop (1 + 2 * i) cs) → i < n → (s : ℕ) → s ≡ get_or cs (1 + 2 * i) 0 → whole ≡ j + bool_byte (leb c s) + seen c (n - (i + 1)) (drop (1 + 2 * (i + 1)) cs)
seen_next c n i j cs whole w h s e =
    let a : n - i - 1 ≡ n - (i + 1) = omega arith in
    let d : 1 + 2 * i + 2 ≡ 1 + 2 * (i + 1) = omega arith in
    let t : seen c (n - i) (drop (1 + 2 * i) cs) ≡ bool_byte (leb c s) + seen c (n - (i + 1)) (drop (1 + 2 * (i + 1)) cs) = seen_step c (n - i) (1 + 2 * i) cs (omega arith) s e ∙ rw (a, d) in
    omega arith

pub seen_end : (c n : ℕ) (cs : List ℕ) → n ≤ 0 → seen c n cs ≡ 0
unfolding seen
seen_end c zero cs h = refl
seen_end c (suc n) cs h = absurd (omega arith)

-- ---- the version that c saw

-- the list without element j
unfoldable pub without : ℕ → List Version → List Version
without j [] = []
without zero (v ∷ vs) = vs
without (suc j) (v ∷ vs) = v ∷ without j vs

abbrev pub stamp_at : List Version → ℕ → ℕ
stamp_at [] j = 0
stamp_at (v ∷ vs) zero = v.stamp
stamp_at (v ∷ vs) (suc j) = stamp_at vs j

-- element j is the first that c sees
abbrev pub First : ℕ → List Version → ℕ → Type 0
First c [] j = ⊥
First c (v ∷ vs) zero = v.stamp < c
First c (v ∷ vs) (suc j) = (c ≤ v.stamp) × First c vs j

pub first-in : (c : ℕ) (vs : List Version) (j : ℕ) → First c vs j → j < length vs
first-in c [] j f = absurd f
first-in c (v ∷ vs) zero f = omega arith
first-in c (v ∷ vs) (suc j) f = let h = first-in c vs j f.1 in omega arith

pub stamp-cells : (k j : ℕ) (cs : List ℕ) → j < k → stamp_at (versions_in k cs) j ≡ get_or cs (2 * j) 0
unfolding versions_in
stamp-cells zero j cs h = absurd (omega arith)
stamp-cells (suc k) zero cs h = refl
stamp-cells (suc k) (suc j) cs h =
    let e : 2 + 2 * j ≡ 2 * suc j = omega arith in
    stamp-cells k j (drop 2 cs) (omega arith) ∙ get_or-drop 2 cs (2 * j) 0 ∙ ap (λ (i : ℕ). get_or cs i 0) e

pub block-stamp : (bc : List ℕ) (i : ℕ) → i < get_or bc 0 0 → stamp_at (block_versions bc) i ≡ get_or bc (1 + 2 * i) 0
unfolding block_versions
block-stamp bc i h = stamp-cells (get_or bc 0 0) i (drop 1 bc) h ∙ get_or-drop 1 bc (2 * i) 0

-- readers on either side of c
sides : (rc : List ℕ) (s c u : ℕ) → s < c → c ≤ u → between rc s u ≡ between rc s c || between rc c u
unfolding between
sides [] s c u a b = refl
sides (x ∷ rc) s c u a b =
    ap₂ ◌||◌ (one (le_or_lt x c)) (sides rc s c u a b)
    ∙ swap (ltb s x && leb x c) (ltb c x && leb x u) (any (λ y. ltb s y && leb y c) rc) (any (λ y. ltb c y && leb y u) rc)
  where
    one : (x ≤ c) ⊎ (c < x) → ltb s x && leb x u ≡ (ltb s x && leb x c) || (ltb c x && leb x u)
    one (inl h) = rw (le-leb x u (omega arith), le-leb x c h, le-ltb c x h) (sym (or-false (ltb s x && true)))
    one (inr h) = rw (lt-ltb s x (omega arith), lt-leb x c h, lt-ltb c x h)

    swap : (a b d e : Bool) → (a || b) || (d || e) ≡ (a || d) || (b || e)
    swap true b d e = refl
    swap false true true e = refl
    swap false true false e = refl
    swap false false d e = refl

module _ (c : ℕ) (rc : List ℕ) (low : ℕ) where
  -- a version that c does not see is held as before
  still : (s u : ℕ) → (c ≤ s) ⊎ (u < c) → between (c ∷ rc) s u ≡ true → between rc s u ≡ true
  unfolding between
  still s u (inl h) e = rw (le-ltb s c h) at e
  still s u (inr h) e = rw (lt-leb c u h, and-false (ltb s c)) at e

  -- those older than the one that c saw stay
  pub trim-all : (u : ℕ) (vs : List Version) → u < c → falls u vs ≡ true → chain (c ∷ rc) low u vs ≡ true → trim rc u vs ≡ vs
  unfolding falls chain trim
  trim-all u [] l f h = refl
  trim-all u (v ∷ vs) l f h =
      let k = both (ltb v.stamp u) (falls v.stamp vs) f in
      let b = both (between (c ∷ rc) v.stamp u) (chain (c ∷ rc) low v.stamp vs) h in
      let m : v.stamp < u = ltb-true v.stamp u k.0 in
      rw (still v.stamp u (inr l) b.0, trim-all v.stamp vs (omega arith) k.1 b.1)

  module _ (p q : ℕ) (x : Beside c p q rc) where
    -- another reader sees the version that c saw
    seen_by : (s u : ℕ) → s < c → c ≤ u → u < 2 ^ 63 → between rc s u ≡ ltb s p || leb q u
    seen_by s u a b l = sides rc s c u a b ∙ ap₂ ◌||◌ (x.upto s) (x.above u l)

    one_out : (v : Version) (vs : List Version) (u : ℕ) → v.stamp < c → c ≤ u → u < 2 ^ 63
        → cond (between rc v.stamp u) (v ∷ vs) vs ≡ cond (leb p v.stamp && ltb u q) vs (v ∷ vs)
    one_out v vs u a b l = rw (seen_by v.stamp u a b l) (go' (le_or_lt p v.stamp) (le_or_lt q u))
      where
        go' : (p ≤ v.stamp) ⊎ (v.stamp < p) → (q ≤ u) ⊎ (u < q) → cond (ltb v.stamp p || leb q u) (v ∷ vs) vs ≡ cond (leb p v.stamp && ltb u q) vs (v ∷ vs)
        go' (inl h) (inl k) = rw (le-ltb v.stamp p h, le-leb q u k, le-leb p v.stamp h, le-ltb u q k)
        go' (inl h) (inr k) = rw (le-ltb v.stamp p h, lt-leb q u k, le-leb p v.stamp h, lt-ltb u q k)
        go' (inr h) k = rw (lt-ltb v.stamp p h, lt-leb p v.stamp h)

    -- the law prune-one: w is the version before vs
    pub trim-one : (w : Version) (vs : List Version) (j : ℕ) → falls w.stamp vs ≡ true → chain (c ∷ rc) low w.stamp vs ≡ true → c ≤ w.stamp → w.stamp < 2 ^ 63 → First c vs j
        → trim rc w.stamp vs ≡ cond (leb p (stamp_at vs j) && ltb (stamp_at (w ∷ vs) j) q) (without j vs) vs
    unfolding falls chain trim without
    trim-one w [] j f h l m g = absurd g
    trim-one w (v ∷ vs) zero f h l m g =
        let k = both (ltb v.stamp w.stamp) (falls v.stamp vs) f in
        let b = both (between (c ∷ rc) v.stamp w.stamp) (chain (c ∷ rc) low v.stamp vs) h in
        rw (trim-all v.stamp vs g k.1 b.1) (one_out v vs w.stamp g l m)
    trim-one w (v ∷ vs) (suc j) f h l m g =
        let k = both (ltb v.stamp w.stamp) (falls v.stamp vs) f in
        let b = both (between (c ∷ rc) v.stamp w.stamp) (chain (c ∷ rc) low v.stamp vs) h in
        let n : v.stamp < w.stamp = ltb-true v.stamp w.stamp k.0 in
        rw (still v.stamp w.stamp (inl g.0) b.0, trim-one v vs j k.1 b.1 g.0 (omega arith) g.1) (go' (leb p (stamp_at vs j) && ltb (stamp_at (v ∷ vs) j) q))
      where
        go' : (t : Bool) → v ∷ cond t (without j vs) vs ≡ cond t (v ∷ without j vs) (v ∷ vs)
        go' true = refl
        go' false = refl

  -- ---- where it stands

  zeros-first : (cs : List ℕ) → zeros cs ≡ true → (get_or cs 0 0 ≡ 0) × (zeros (drop 2 cs) ≡ true)
  zeros-first [] h = (refl, refl)
  zeros-first (x ∷ []) h = (eqb-true x 0 (both (eqb x 0) true h).0, refl)
  zeros-first (x ∷ y ∷ cs) h =
      let k = both (eqb x 0) (eqb y 0 && zeros cs) h in (eqb-true x 0 k.0, (both (eqb y 0) (zeros cs) k.1).1)

  two-more : (k : ℕ) (cs : List ℕ) → drop (2 * suc k) cs ≡ drop (2 * k) (drop 2 cs)
  two-more k cs = let e : 2 * suc k ≡ 2 + 2 * k = omega arith in rw (e, drop-drop (2 * k) 2 cs)

  seen_none : 0 < c → (n k : ℕ) (cs : List ℕ) (u : ℕ) → falls u (versions_in k cs) ≡ true → u ≤ c → zeros (drop (2 * k) cs) ≡ true → seen c n cs ≡ 0
  unfolding falls versions_in seen
  seen_none a zero k cs u f l z = refl
  seen_none a (suc n) zero cs u f l z =
      let h = zeros-first cs z in
      rw (lt-leb c (get_or cs 0 0) (omega arith)) (seen_none a n 0 (drop 2 cs) u refl l h.1)
  seen_none a (suc n) (suc k) cs u f l z =
      let h = both (ltb (get_or cs 0 0) u) (falls (get_or cs 0 0) (versions_in k (drop 2 cs))) f in
      let m : get_or cs 0 0 < u = ltb-true (get_or cs 0 0) u h.0 in
      rw (lt-leb c (get_or cs 0 0) (omega arith)) (seen_none a n k (drop 2 cs) (get_or cs 0 0) h.1 (omega arith) (rw two-more at z))

  pub seen_first : 0 < c → low ≤ c → (n k : ℕ) (cs : List ℕ) (u : ℕ) → falls u (versions_in k cs) ≡ true → chain (c ∷ rc) low u (versions_in k cs) ≡ true → c ≤ u
      → zeros (drop (2 * k) cs) ≡ true → k ≤ suc n → First c (versions_in k cs) (seen c n cs)
  unfolding falls versions_in chain seen
  seen_first a b n zero cs u f h l z m = absurd (omega (arith, ltb-true u low h))
  seen_first a b n (suc k) cs u f h l z m = go' n m (le_or_lt c (get_or cs 0 0)) (λ n' m' d. seen_first a b n' k (drop 2 cs) (get_or cs 0 0) F H d (rw two-more at z) m')
    where
      s : ℕ
      s = get_or cs 0 0

      F : falls s (versions_in k (drop 2 cs)) ≡ true
      F = (both (ltb s u) (falls s (versions_in k (drop 2 cs))) f).1

      H : chain (c ∷ rc) low s (versions_in k (drop 2 cs)) ≡ true
      H = (both (between (c ∷ rc) s u) (chain (c ∷ rc) low s (versions_in k (drop 2 cs))) h).1

      go' : (n : ℕ) → suc k ≤ suc n → (c ≤ s) ⊎ (s < c) → ((n' : ℕ) → k ≤ suc n' → c ≤ s → First c (versions_in k (drop 2 cs)) (seen c n' (drop 2 cs))) → First c (versions_in (suc k) cs) (seen c n cs)
      go' n m (inr d) i = rw (seen_none a n (suc k) cs (suc s) (rw (lt-ltb s (suc s) (omega arith)) F) (omega arith) z) d
      go' zero m (inl d) i = absurd (last k (omega arith) H)
        where
          last : (k : ℕ) → k ≤ 0 → chain (c ∷ rc) low s (versions_in k (drop 2 cs)) ≡ true → ⊥
          last zero e h = omega (arith, ltb-true s low h)
          last (suc k) e h = omega arith
      go' (suc n) m (inl d) i = rw (le-leb c s d) (d, i n (omega arith) d)
