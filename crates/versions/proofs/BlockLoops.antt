-- A turn of each loop that only reads, and the cases of the block check. Assumes nothing.
use Rattle.std.specs.Prelude.{◌≡◌, refl, Bool, true, false, ◌&&◌, ◌||◌, leb, ltb, length, get_or, drop, take}
use Rattle.std.proofs.Math.Path.{sym, ap}
use Rattle.std.proofs.Common.{◌∙◌, get_or-drop}
use Rattle.std.proofs.Math.Bool.{and-true, and-false}
use mathlib.Core.List.{List, [], ◌∷◌}
use Prim.Native.Nat.{ℕ, zero, suc, ◌+◌, ◌*◌, ◌-◌, ◌≤◌, ◌<◌}
use native.Mathlib.Omega.{arith}
use Rattle.std.proofs.Math.Numerals.{add-one}
use Rattle.std.proofs.Math.Seq.{drop-drop, slice}
use borrow.Author.Tests.{lt-ltb, le-ltb, le-leb, lt-leb, leb-false}
use Rattle.cells.specs.Cells.{cells}
use Rattle.cells.specs.CellLaws.{cells-next, cells-end, cells_rest, cells-take, cells-drop}
use Rattle.cells.specs.Zeros.{zeros}
use Rattle.model.specs.Replica.{as_of}
use Rattle.model.specs.LookedAt.{seen_index}
use Rattle.model.specs.Serial.{Version}
use Rattle.model.specs.ShapeCheck.{versions_shaped}
use Rattle.versions.specs.Block.{width, object_cells, version_of, versions_in, block_versions, stamps, chunks, framed, block_ok, object_ok, blocks_ok, between, lowest, chain, chained}
use Rattle.versions.proofs.OnePass.{versions-chain, lowest-below}

-- ---- some_between

pub inside-yes : (t : Bool) (s c upper : ℕ) → s < c → t ≡ leb c upper → t ≡ ltb s c && leb c upper
inside-yes t s c upper a e = rw (lt-ltb s c a) e

pub inside-no : (s c upper : ℕ) → c ≤ s → false ≡ ltb s c && leb c upper
inside-no s c upper a = rw (le-ltb s c a)

module _ (n i : ℕ) (xs : List ℕ) (e : length xs ≡ n * 8) (h : i < n) (s upper : ℕ) (t : Bool) (g : t ≡ ltb s (get_or (cells xs) i 0) && leb (get_or (cells xs) i 0) upper) where
  one : between (drop i (cells xs)) s upper ≡ t || between (drop (i + 1) (cells xs)) s upper
  unfolding between
  one = rw (cells-next n xs e i h, g)

  pub between-hit : t ≡ true → between (drop i (cells xs)) s upper ≡ true
  between-hit a = one ∙ rw a

  pub between-miss : t ≡ false → between (drop i (cells xs)) s upper ≡ between (drop (i + 1) (cells xs)) s upper
  between-miss a = one ∙ rw a

pub between-end : (n i : ℕ) (xs : List ℕ) (s upper : ℕ) → length xs ≡ n * 8 → n ≤ i → between (drop i (cells xs)) s upper ≡ false
unfolding between
between-end n i xs s upper e h = rw (cells-end n xs e i h)

-- ---- the versions from cell k on

pub versions-step : (n k : ℕ) (cs : List ℕ) → 0 < n → versions_in n (drop k cs) ≡ version_of (get_or cs k 0) (get_or cs (k + 1) 0) ∷ versions_in (n - 1) (drop (k + 2) cs)
unfolding versions_in
versions-step zero k cs h = absurd (omega arith)
versions-step (suc n) k cs h =
    let a : k + 0 ≡ k = omega arith in
    let b : suc n - 1 ≡ n = omega arith in
    rw (get_or-drop k cs 0 0, get_or-drop k cs 1 0, a, drop-drop 2 k cs, b)

-- ---- lookup

-- the versions of count that are left, behind those that are above the stamp
abbrev pub left : ℕ → ℕ → List ℕ → List Version
left count above cs = versions_in (count - above) (drop (1 + 2 * above) cs)

pub left-first : (count : ℕ) (cs : List ℕ) → count ≡ get_or cs 0 0 → block_versions cs ≡ left count 0 cs
unfolding block_versions
left-first count cs e = let n : count - 0 ≡ count = omega arith in rw (n, e)

pub left-none : (count above : ℕ) (cs : List ℕ) → count ≤ above → left count above cs ≡ []
unfolding versions_in
left-none count above cs h = let n : count - above ≡ 0 = omega arith in rw n

-- s is the next one's stamp, in cell k
module _ (r count above : ℕ) (cs : List ℕ) (h : above < count) (k s : ℕ) (ek : k ≡ 1 + 2 * above) (g : s ≡ get_or cs k 0) where
  next : left count above cs ≡ version_of s (get_or cs (k + 1) 0) ∷ left count (above + 1) cs
  next =
      let n : count - above - 1 ≡ count - (above + 1) = omega arith in
      let m : k + 2 ≡ 1 + 2 * (above + 1) = omega arith in
      rw (← ek, g, ← m, ← n) (versions-step (count - above) k cs (omega arith))

  -- it is the one that is seen
  pub look-here : s ≤ r → (as_of r (left count above cs) ≡ version_of s (get_or cs (k + 1) 0)) × (seen_index r (left count above cs) ≡ 0)
  look-here l = rw (next, le-leb s r l) (refl, refl)

  -- it is above
  pub look-on : r < s → (as_of r (left count above cs) ≡ as_of r (left count (above + 1) cs)) × (seen_index r (left count above cs) ≡ suc (seen_index r (left count (above + 1) cs)))
  look-on l = rw (next, lt-leb s r l) (refl, refl)

-- ---- chain_ok

module _ (rc : List ℕ) (low upper n k : ℕ) (cs : List ℕ) (s : ℕ) (g : s ≡ get_or cs k 0) (h : 0 < n) (t : Bool) (b : t ≡ between rc s upper) where
  link : chain rc low upper (versions_in n (drop k cs)) ≡ t && chain rc low s (versions_in (n - 1) (drop (k + 2) cs))
  unfolding chain
  link = rw (versions-step n k cs h, ← g, ← b)

  pub chain-loose : t ≡ false → chain rc low upper (versions_in n (drop k cs)) ≡ false
  chain-loose e = link ∙ rw e

  pub chain_next : t ≡ true → chain rc low upper (versions_in n (drop k cs)) ≡ chain rc low s (versions_in (n - 1) (drop (k + 2) cs))
  chain_next e = link ∙ rw e

pub chain-end : (rc : List ℕ) (low upper n : ℕ) (cs : List ℕ) → n ≤ 0 → chain rc low upper (versions_in n cs) ≡ ltb upper low
unfolding chain versions_in
chain-end rc low upper zero cs h = refl
chain-end rc low upper (suc n) cs h = absurd (omega arith)

-- ---- block_ok, by its branches

versions-none : (timestamp : ℕ) (rs : List ℕ) → versions_shaped timestamp rs [] ≡ false
unfolding versions_shaped
versions-none timestamp rs = refl

-- k is the count, f the newest version's stamp
module _ (n timestamp : ℕ) (rc : List ℕ) (xs : List ℕ) (ex : length xs ≡ width n * 8) (k : ℕ) (g : k ≡ get_or (cells xs) 0 0) where
  pub ok-none : k ≡ 0 → block_ok n timestamp rc (cells xs) ≡ false
  unfolding block_ok block_versions versions_in
  ok-none z = rw (← g, z, versions-none) (and-false (framed n (cells xs)))

  pub ok-many : n + 1 < k → block_ok n timestamp rc (cells xs) ≡ false
  unfolding block_ok framed
  ok-many h = rw (← g, lt-leb k (suc n) (omega arith))

  module _ (p : 0 < k) (q : k ≤ n + 1) (f : ℕ) (gf : f ≡ get_or (cells xs) 1 0) where
    rules : versions_shaped timestamp (stamps rc) (block_versions (cells xs)) ≡ leb f timestamp && chain rc (lowest (suc timestamp) rc) f (versions_in (k - 1) (drop 3 (cells xs)))
    unfolding block_versions
    rules = rw (← g, versions-step k 1 (cells xs) p, ← gf) (versions-chain timestamp rc (version_of f (get_or (cells xs) 2 0)) (versions_in (k - 1) (drop 3 (cells xs))))

    pub ok-late : timestamp < f → block_ok n timestamp rc (cells xs) ≡ false
    unfolding block_ok
    ok-late h = rw (rules, lt-leb f timestamp h) (and-false (framed n (cells xs)))

    -- t: the unused cells are 0
    module _ (t : Bool) (z : t ≡ zeros (slice (1 + 2 * k) (width n) (cells xs))) where
      frame : framed n (cells xs) ≡ t
      unfolding framed
      frame = rw (← g, le-leb k (suc n) (omega arith)) (ap zeros (sym (cells_rest (width n) xs ex (1 + 2 * k))) ∙ sym z)

      pub ok-used : t ≡ false → block_ok n timestamp rc (cells xs) ≡ false
      unfolding block_ok
      ok-used h = rw (frame, h)

      pub ok-chain : t ≡ true → f ≤ timestamp → (low : ℕ) → low ≡ lowest (timestamp + 1) rc → block_ok n timestamp rc (cells xs) ≡ chained rc low k (cells xs)
      unfolding block_ok
      ok-chain h l low w = rw (rules, frame, h, le-leb f timestamp l, w, add-one, gf)

    -- one version: it is not above the timestamp and serves every open reader exactly if it is below low
    module _ (o : k ≡ 1) (low : ℕ) (w : low ≡ lowest (timestamp + 1) rc) where
      single : versions_shaped timestamp (stamps rc) (block_versions (cells xs)) ≡ ltb f low
      single =
          let z : k - 1 ≤ 0 = omega arith in
          rules ∙ ap (leb f timestamp &&◌) (chain-end rc (lowest (suc timestamp) rc) f (k - 1) (drop 3 (cells xs)) z) ∙ go' (leb f timestamp) refl ∙ rw (w, add-one)
        where
          go' : (b : Bool) → leb f timestamp ≡ b → b && ltb f (lowest (suc timestamp) rc) ≡ ltb f (lowest (suc timestamp) rc)
          go' true e = refl
          go' false e = sym (lowest-below rc f (suc timestamp) ∙ rw (le-ltb f (suc timestamp) (leb-false f timestamp e)))

      pub ok_single-no : low ≤ f → block_ok n timestamp rc (cells xs) ≡ false
      unfolding block_ok
      ok_single-no h = rw (single, le-ltb f low h) (and-false (framed n (cells xs)))

      pub ok-single : f < low → (t : Bool) → t ≡ zeros (slice 3 (width n) (cells xs)) → block_ok n timestamp rc (cells xs) ≡ t
      unfolding block_ok
      ok-single h t z =
          let e : 3 ≡ 1 + 2 * k = omega arith in
          rw (single, lt-ltb f low h, frame t (z ∙ ap (λ (i : ℕ). zeros (slice i (width n) (cells xs))) e)) (and-true t)

-- ---- objects_ok: m objects are left, from byte at on; the part lent is k bytes long

module _ (n timestamp : ℕ) (rc : List ℕ) (m at : ℕ) (xs : List ℕ) (h : 0 < m) (k : ℕ) (e : k ≡ object_cells n * 8) (t : Bool) (g : t ≡ object_ok n timestamp rc (cells (take k (drop at xs)))) where
  split : blocks_ok n timestamp rc m (cells (drop at xs)) ≡ t && blocks_ok n timestamp rc (m - 1) (cells (drop (at + object_cells n * 8) xs))
  unfolding blocks_ok chunks
  split = rw (← drop-drop (object_cells n * 8) at xs, g, e) (go' m h (drop at xs))
    where
      go' : (m : ℕ) → 0 < m → (ys : List ℕ) → blocks_ok n timestamp rc m (cells ys) ≡ object_ok n timestamp rc (cells (take (object_cells n * 8) ys)) && blocks_ok n timestamp rc (m - 1) (cells (drop (object_cells n * 8) ys))
      go' zero h ys = absurd (omega arith)
      go' (suc m) h ys = let b : suc m - 1 ≡ m = omega arith in rw (b, cells-take (object_cells n) ys, cells-drop (object_cells n) ys)

  pub blocks-no : t ≡ false → blocks_ok n timestamp rc m (cells (drop at xs)) ≡ false
  blocks-no a = split ∙ rw a

  pub blocks-next : t ≡ true → blocks_ok n timestamp rc m (cells (drop at xs)) ≡ blocks_ok n timestamp rc (m - 1) (cells (drop (at + object_cells n * 8) xs))
  blocks-next a = split ∙ rw a

pub blocks_end : (n timestamp : ℕ) (rc : List ℕ) (m : ℕ) (cs : List ℕ) → m ≤ 0 → blocks_ok n timestamp rc m cs ≡ true
unfolding blocks_ok chunks
blocks_end n timestamp rc zero cs h = refl
blocks_end n timestamp rc (suc m) cs h = absurd (omega arith)

-- ---- a walk over m blocks of w bytes

pub less_times : (m w : ℕ) → 0 < m → (m - 1) * w + w ≡ m * w
less_times zero w h = absurd (omega arith)
less_times (suc m) w h = let e : suc m - 1 ≡ m = omega arith in rw e (omega arith)

pub none-times : (m w : ℕ) → m ≤ 0 → m * w ≡ 0
none-times zero w h = omega arith
none-times (suc m) w h = absurd (omega arith)
