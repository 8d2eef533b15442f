-- The quick test of an object's versions is sound. Assumes nothing.
-- n is the number of readers, rc are their cells, d the cells of the open ones beside cells that are 0, bc the cells of one block.
use Rattle.std.specs.Prelude.{◌≡◌, ◌⊎◌, ◌≢◌, Bool, true, false, cond, ◌&&◌, ◌||◌, eqb, length, drop}
use Rattle.std.proofs.Math.Path.{refl, sym}
use Rattle.std.proofs.Common.{ap, ◌∙◌, inl, inr, true≢false, arith}
use mathlib.Core.List.{List, [], ◌∷◌}
use Prim.Native.Nat.{ℕ, ◌+◌, ◌*◌, ◌-◌, ◌≤◌, ◌<◌}
use Rattle.std.proofs.Math.Dec.{leb, ltb}
use Rattle.std.proofs.Math.ListN.{get_or}
use Rattle.std.proofs.Math.Seq.{slice}
use borrow.Author.Tests.{lt-ltb, le-leb, ltb-true, leb-true, leb-false, eq-eqb, eqb-true, eqb-false}
use Rattle.execution.proofs.ReadAgreement.{both}
use Rattle.cells.specs.Cells.{cells}
use Rattle.cells.specs.Zeros.{zeros}
use Rattle.model.specs.Lists.{any}
use Rattle.model.proofs.ListLaws.{any-has, or_left, or_right}
use Rattle.versions.specs.Block.{width, versions_in, block_ok, between, lower, lowest, chain, chained}
use Rattle.versions.proofs.OnePass.{le_or_lt, lowest-le}
use Rattle.versions.proofs.BlockLoops.{ok-none, ok-many, ok-late, ok-used, ok-chain, ok-single, ok_single-no, chain_next, chain-loose, chain-end}
use Rattle.shape_readers.specs.OpenReaders.{Open, Known, open_in}

-- ---- what contracts say

-- the answer true is sound, whichever readers' cells d has
abbrev pub Sound : ℕ → ℕ → ℕ → List ℕ → List ℕ → Bool → Type 0
Sound n timestamp low d bs t = (rc : List ℕ) → Known rc d → low ≡ lowest (timestamp + 1) rc → t ≡ true → block_ok n timestamp rc (cells bs) ≡ true

-- ---- a version held

module _ (rc : List ℕ) where
  -- the law member-between
  pub held_by : (c s upper : ℕ) → Open rc c → s < c → c ≤ upper → between rc s upper ≡ true
  unfolding between
  held_by c s upper o a b =
      any-has (λ c. ltb s c && leb c upper) c rc (o (omega arith)) (rw (lt-ltb s c a, le-leb c upper b))

-- the smallest is one of them, where it is below top
lowest-any : (top : ℕ) (rc : List ℕ) → lowest top rc < top → any (eqb (lowest top rc)) rc ≡ true
unfolding lowest
lowest-any top [] h = absurd (omega arith)
lowest-any top (c ∷ rc) h = go' (ltb 0 c && ltb c top) h (lowest-any (lower top c) rc) (lowest-le (lower top c) rc)
  where
    go' : (b : Bool) → lowest (cond b c top) rc < top → (lowest (cond b c top) rc < cond b c top → any (eqb (lowest (cond b c top) rc)) rc ≡ true) → lowest (cond b c top) rc ≤ cond b c top
        → eqb (lowest (cond b c top) rc) c || any (eqb (lowest (cond b c top) rc)) rc ≡ true
    go' true h i l = cases (le_or_lt c (lowest c rc))
      where
        cases : (c ≤ lowest c rc) ⊎ (lowest c rc < c) → eqb (lowest c rc) c || any (eqb (lowest c rc)) rc ≡ true
        cases (inl k) = or_left (eqb (lowest c rc) c) (any (eqb (lowest c rc)) rc) (eq-eqb (lowest c rc) c (omega arith))
        cases (inr k) = or_right (eqb (lowest c rc) c) (any (eqb (lowest c rc)) rc) (i k)
    go' false h i l = or_right (eqb (lowest top rc) c) (any (eqb (lowest top rc)) rc) (i h)

-- ---- quick: the versions from the k-th on are left, after one of stamp upper

abbrev pub Walked : List ℕ → List ℕ → ℕ → ℕ → ℕ → ℕ → Type 0
Walked d bc low count upper k =
    (rc : List ℕ) → Known rc d → chained rc low count bc ≡ chain rc low upper (versions_in (count - k) (drop (1 + 2 * k) bc))

-- the k-th version is held by c
held_next : (rc : List ℕ) (low upper n k : ℕ) (cs : List ℕ) (s c : ℕ) → s ≡ get_or cs k 0 → 0 < n → Open rc c → s < c → c ≤ upper
    → chain rc low upper (versions_in n (drop k cs)) ≡ chain rc low s (versions_in (n - 1) (drop (k + 2) cs))
held_next rc low upper n k cs s c e h o a b =
    chain_next rc low upper n k cs s e h true (sym (held_by rc c s upper o a b)) refl

open_at : (rc d : List ℕ) → Known rc d → (i : ℕ) → Open rc (get_or d i 0)
open_at rc d k i = open_in rc d k.each i

pub walked_next : (d bc : List ℕ) (low count upper k s i : ℕ) → Walked d bc low count upper k → k < count → s ≡ get_or bc (1 + 2 * k) 0 → s < get_or d i 0 → get_or d i 0 ≤ upper → Walked d bc low count s (k + 1)
walked_next d bc low count upper k s i w h e a b rc o =
    let m : count - k - 1 ≡ count - (k + 1) = omega arith in
    let j : 1 + 2 * k + 2 ≡ 1 + 2 * (k + 1) = omega arith in
    w rc o ∙ held_next rc low upper (count - k) (1 + 2 * k) bc s (get_or d i 0) e (omega arith) (open_at rc d o i) a b ∙ rw (m, j)

module _ (n timestamp : ℕ) (xs : List ℕ) (ex : length xs ≡ width n * 8) (count : ℕ) (g : get_or (cells xs) 0 0 ≡ count) (two : 2 ≤ count) (most : count ≤ n + 1)
    (newest : ℕ) (gn : newest ≡ get_or (cells xs) 1 0) (t : Bool) (z : t ≡ zeros (slice (1 + 2 * count) (width n) (cells xs))) (d : List ℕ) (low : ℕ) where
  -- the frame and the newest version; the chain is left
  framed-chain : (rc : List ℕ) → low ≡ lowest (timestamp + 1) rc → t ≡ true → leb newest timestamp ≡ true → block_ok n timestamp rc (cells xs) ≡ chained rc low count (cells xs)
  framed-chain rc el a b =
      ok-chain n timestamp rc xs ex count (sym g) (omega arith) (omega arith) newest gn t z a (leb-true newest timestamp b) low el

  -- the last version is held by the earliest open reader, or by none
  pub walked_end : (upper k s : ℕ) → Walked d (cells xs) low count upper k → k + 1 ≡ count → upper ≤ newest → s ≡ get_or (cells xs) (1 + 2 * k) 0 → Sound n timestamp low d xs (((ltb s low && leb low upper) && leb newest timestamp) && t)
  walked_end upper k s w l u es rc o el ok =
      let a = both ((ltb s low && leb low upper) && leb newest timestamp) t ok in
      let b = both (ltb s low && leb low upper) (leb newest timestamp) a.0 in
      let e = both (ltb s low) (leb low upper) b.0 in
      let below : s < low = ltb-true s low e.0 in
      let above : low ≤ upper = leb-true low upper e.1 in
      let bound : newest ≤ timestamp = leb-true newest timestamp b.1 in
      let lowest-open : any (eqb low) rc ≡ true = rw el (lowest-any (timestamp + 1) rc (omega arith)) in
      framed-chain rc el a.1 b.1
      ∙ w rc o
      ∙ held_next rc low upper (count - k) (1 + 2 * k) (cells xs) s low es (omega arith) (λ _. lowest-open) below above
      ∙ chain-end rc low s (count - k - 1) (drop (1 + 2 * k + 2) (cells xs)) (omega arith)
      ∙ lt-ltb s low below

-- ---- full: t says whether the reader at place i of d sees the k-th version, and not the one before it

abbrev pub Sees : List ℕ → List ℕ → ℕ → ℕ → Bool → Type 0
Sees d bc i k t = t ≡ ltb (get_or bc (1 + 2 * k) 0) (get_or d i 0) && leb (get_or d i 0) (get_or bc (2 * k - 1) 0)

-- where all readers asked so far see their versions, those before the k-th are held
abbrev pub Climbed : List ℕ → List ℕ → ℕ → ℕ → Bool → ℕ → Type 0
Climbed d bc low count held k = held ≡ true → Walked d bc low count (get_or bc (2 * k - 1) 0) k

module _ (d bc : List ℕ) (low count k : ℕ) (held : Bool) (w : Climbed d bc low count held k) where
  pub climbed_next : k < count → (i : ℕ) (t : Bool) → Sees d bc i k t → Climbed d bc low count (held && t) (k + 1)
  climbed_next h i t e ok =
      let a = both held t ok in
      let s = get_or bc (1 + 2 * k) 0 in
      let u = get_or bc (2 * k - 1) 0 in
      let c = get_or d i 0 in
      let b = both (ltb s c) (leb c u) (sym e ∙ a.1) in
      let j : 2 * (k + 1) - 1 ≡ 1 + 2 * k = omega arith in
      rw j (walked_next d bc low count u k s i (w a.0) h refl (ltb-true s c b.0) (leb-true c u b.1))

module _ (n timestamp : ℕ) (xs : List ℕ) (ex : length xs ≡ width n * 8) (count : ℕ) (g : get_or (cells xs) 0 0 ≡ count) (two : 2 ≤ count) (most : count ≤ n + 1)
    (d : List ℕ) (low : ℕ) where
  -- all are held, and the oldest serves every open reader
  pub climbed_end : (held : Bool) (k : ℕ) → k ≡ count → Climbed d (cells xs) low count held k → (last newest : ℕ) → last ≡ get_or (cells xs) (2 * count - 1) 0 → newest ≡ get_or (cells xs) 1 0
      → (t : Bool) → t ≡ zeros (slice (1 + 2 * count) (width n) (cells xs)) → Sound n timestamp low d xs (((held && ltb last low) && leb newest timestamp) && t)
  climbed_end held k ek w last newest el en t z rc o lo ok =
      let a = both ((held && ltb last low) && leb newest timestamp) t ok in
      let b = both (held && ltb last low) (leb newest timestamp) a.0 in
      let h = both held (ltb last low) b.0 in
      framed-chain n timestamp xs ex count g two most newest en t z d low rc lo a.1 b.1
      ∙ (rw ek at (w h.0)) rc o
      ∙ chain-end rc low (get_or (cells xs) (2 * count - 1) 0) (count - count) (drop (1 + 2 * count) (cells xs)) (omega arith)
      ∙ ap (λ (x : ℕ). ltb x low) (sym el)
      ∙ h.1

-- ---- single, and no test passed

module _ (n : ℕ) (xs : List ℕ) (ex : length xs ≡ width n * 8) (g : get_or (cells xs) 0 0 ≡ 1) (f : ℕ) (gf : f ≡ get_or (cells xs) 1 0) (low : ℕ) where
  pub single_sound : f < low → (t : Bool) → t ≡ zeros (slice 3 (width n) (cells xs)) → (timestamp : ℕ) (d : List ℕ) → Sound n timestamp low d xs t
  single_sound h t z timestamp d rc o el ok =
      ok-single n timestamp rc xs ex 1 (sym g) (omega arith) (omega arith) f gf refl low el h t z ∙ ok

pub none-sound : (n timestamp low : ℕ) (d xs : List ℕ) → Sound n timestamp low d xs false
none-sound n timestamp low d xs rc o el ok = absurd (true≢false (sym ok))

-- ---- no reader is open

module _ (n timestamp : ℕ) (xs : List ℕ) (ex : length xs ≡ width n * 8) (k : ℕ) (g : k ≡ get_or (cells xs) 0 0) where
  module _ (o : k ≡ 1) (f : ℕ) (gf : f ≡ get_or (cells xs) 1 0) where
    pub alone-one : f ≤ timestamp → (t : Bool) → t ≡ zeros (slice 3 (width n) (cells xs)) → t ≡ block_ok n timestamp [] (cells xs)
    unfolding lowest
    alone-one h t z =
        sym (ok-single n timestamp [] xs ex k g (omega arith) (omega arith) f gf o (timestamp + 1) refl (omega arith) t z)

    pub alone-late : timestamp < f → false ≡ block_ok n timestamp [] (cells xs)
    unfolding lowest
    alone-late h =
        sym (ok_single-no n timestamp [] xs ex k g (omega arith) (omega arith) f gf o (timestamp + 1) refl (omega arith))

  -- no reader holds a second version
  pub alone-many : k ≢ 1 → false ≡ block_ok n timestamp [] (cells xs)
  unfolding between
  alone-many h = sym (count (le_or_lt k 0) (le_or_lt k (n + 1)))
    where
      f : ℕ
      f = get_or (cells xs) 1 0

      chained : 2 ≤ k → k ≤ n + 1 → (a t : Bool) → leb f timestamp ≡ a → t ≡ zeros (slice (1 + 2 * k) (width n) (cells xs)) → block_ok n timestamp [] (cells xs) ≡ false
      chained p q false t ea z = ok-late n timestamp [] xs ex k g (omega arith) q f refl (leb-false f timestamp ea)
      chained p q true false ea z = ok-used n timestamp [] xs ex k g (omega arith) q f refl false z refl
      chained p q true true ea z =
          ok-chain n timestamp [] xs ex k g (omega arith) q f refl true z refl (leb-true f timestamp ea) (lowest (timestamp + 1) []) refl
          ∙ chain-loose [] (lowest (timestamp + 1) []) f (k - 1) 3 (cells xs) (get_or (cells xs) 3 0) refl (omega arith) false refl refl

      count : (k ≤ 0) ⊎ (0 < k) → (k ≤ n + 1) ⊎ (n + 1 < k) → block_ok n timestamp [] (cells xs) ≡ false
      count (inl a) b = ok-none n timestamp [] xs ex k g (omega arith)
      count (inr a) (inl b) = chained (omega arith) b (leb f timestamp) (zeros (slice (1 + 2 * k) (width n) (cells xs))) refl refl
      count (inr a) (inr b) = ok-many n timestamp [] xs ex k g b

-- so that a block that passes has one version
pub alone-count : (n timestamp : ℕ) (xs : List ℕ) → length xs ≡ width n * 8 → block_ok n timestamp [] (cells xs) ≡ true → get_or (cells xs) 0 0 ≡ 1
alone-count n timestamp xs ex ok = by (eqb (get_or (cells xs) 0 0) 1) refl
  where
    by : (t : Bool) → eqb (get_or (cells xs) 0 0) 1 ≡ t → get_or (cells xs) 0 0 ≡ 1
    by true e = eqb-true (get_or (cells xs) 0 0) 1 e
    by false e = absurd (true≢false (sym ok ∙ sym (alone-many n timestamp xs ex (get_or (cells xs) 0 0) refl (eqb-false (get_or (cells xs) 0 0) 1 e))))
