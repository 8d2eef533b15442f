-- One object as a reader closes: a law for each way out. Assumes nothing.
-- n is the number of readers, c the closed reader's cell, rc the cells of all readers without it, bc the cells of one block.
use Rattle.std.specs.Prelude.{◌≡◌, ◌⊎◌, ◌&&◌, leb, length}
use Rattle.std.proofs.Math.Path.{refl, sym, ap, ap₂}
use Rattle.std.proofs.Common.{◌∙◌, inl, inr, drop-drop}
use Rattle.std.proofs.Math.Bool.{true, cond, and-false}
use mathlib.Core.List.{List, ◌∷◌}
use Prim.Native.Nat.{ℕ, zero, suc, ◌+◌, ◌*◌, ◌-◌, ◌≤◌, ◌<◌}
use native.Mathlib.Omega.{arith}
use Rattle.std.proofs.Math.Dec.{ltb}
use Rattle.std.proofs.Math.ListN.{get_or, drop}
use Rattle.std.proofs.Math.Seq.{get_or-drop}
use borrow.Author.Tests.{lt-ltb, le-ltb, le-leb, lt-leb, ltb-true, leb-true}
use Rattle.execution.proofs.ReadAgreement.{both}
use Rattle.cells.specs.Cells.{cells, uncells, Below}
use Rattle.cells.specs.CellLaws.{cells-below, uncells-cells, length_cells-whole}
use Rattle.cells.specs.Zeros.{zeros}
use Rattle.model.specs.Serial.{Version}
use Rattle.model.specs.Replica.{prune}
use Rattle.model.specs.Shape.{falling}
use Rattle.model.specs.ShapeCheck.{versions_shaped}
use Rattle.versions.specs.Block.{width, version_of, versions_in, block_versions, stamps, block, block_ok, framed, lowest, chain, trim}
use Rattle.versions.proofs.OnePass.{le_or_lt, lowest-le, falls, falling-falls, prune-trim, versions-chain}
use Rattle.versions.proofs.BlockLoops.{versions-step}
use Rattle.versions.proofs.Round.{count-few, unused_zero, ok-framed, ok-versions, block_of-versions, length_block-versions}
use Rattle.versions_close.specs.Closing.{seen, less_one, Checked, Beside, pruned_block}
use Rattle.versions_close.specs.Seen.{First, stamp_at, without, first-in, stamp-cells, block-stamp, trim-all, trim-one, seen_step, seen_first}
use Rattle.versions_close.specs.Dropped.{less_block}

-- what the check says of one block, whatever readers have opened or closed since
record Ordered (n : ℕ) (bc : List ℕ) : Type 0 where
  least : 0 < get_or bc 0 0
  frame : framed n bc ≡ true
  order : falling (block_versions bc) ≡ true

ok-ordered : (n timestamp : ℕ) (rc bc : List ℕ) → block_ok n timestamp rc bc ≡ true → Ordered n bc
ok-ordered n timestamp rc bc ok = record {
  least = rw length_block-versions at (ok-versions n timestamp rc bc ok).least;
  frame = ok-framed n timestamp rc bc ok;
  order = (ok-versions n timestamp rc bc ok).order;
}

lowest-low : (top c : ℕ) (rc : List ℕ) → 0 < c → lowest top (c ∷ rc) ≤ c
unfolding lowest
lowest-low top c rc h = rw (lt-ltb 0 c h) (go' (le_or_lt top c))
  where
    go' : (top ≤ c) ⊎ (c < top) → lowest (cond (ltb c top) c top) rc ≤ c
    go' (inl k) = rw (le-ltb c top k) (omega (arith, lowest-le top rc))
    go' (inr k) = rw (lt-ltb c top k) (lowest-le c rc)

-- one object's block as the reader c closes, and the readers beside it
pub record Case (n c p q : ℕ) (rc xs : List ℕ) : Type 0 where
  pub size : length xs ≡ width n * 8
  pub bytes : Below 256 xs
  pub beside : Beside c p q rc
  pub checked : Checked n c rc (cells xs)

module _ {n c p q : ℕ} {rc xs : List ℕ} (g : Case n c p q rc xs) where
  abbrev k : Checked n c rc (cells xs)
  k = g.checked

  w : Version
  w = version_of (get_or (cells xs) 1 0) (get_or (cells xs) 2 0)

  vs : List Version
  vs = versions_in (get_or (cells xs) 0 0 - 1) (drop 3 (cells xs))

  low : ℕ
  low = lowest (suc k.timestamp) (c ∷ rc)

  o : Ordered n (cells xs)
  o = ok-ordered n k.timestamp (c ∷ rc) (cells xs) k.ok

  cut : block_versions (cells xs) ≡ w ∷ vs
  unfolding block_versions w vs
  cut = versions-step (get_or (cells xs) 0 0) 1 (cells xs) o.least

  fall : falls w.stamp vs ≡ true
  fall = sym (falling-falls w vs) ∙ ap falling (sym cut) ∙ o.order

  rules : (leb w.stamp k.timestamp ≡ true) × (chain (c ∷ rc) low w.stamp vs ≡ true)
  unfolding block_ok low
  rules =
      both (leb w.stamp k.timestamp) (chain (c ∷ rc) (lowest (suc k.timestamp) (c ∷ rc)) w.stamp vs)
      (sym (versions-chain k.timestamp (c ∷ rc) w vs) ∙ ap (versions_shaped k.timestamp (stamps (c ∷ rc))) (sym cut)
      ∙ (both (framed n (cells xs)) (versions_shaped k.timestamp (stamps (c ∷ rc)) (block_versions (cells xs))) k.ok).1)

  pruned-is : (us : List Version) → trim rc w.stamp vs ≡ us → prune (stamps rc) (block_versions (cells xs)) ≡ w ∷ us
  pruned-is us e = ap (prune (stamps rc)) cut ∙ prune-trim rc w vs fall ∙ ap (λ (l : List Version). w ∷ l) e

  same : trim rc w.stamp vs ≡ vs → xs ≡ pruned_block n rc xs
  same e =
      sym
      (ap (λ (l : List Version). uncells (block n l)) (pruned-is vs e ∙ sym cut)
      ∙ ap uncells (block_of-versions n (cells xs) (length_cells-whole (width n) xs g.size) (cells-below xs g.bytes) o.frame)
      ∙ uncells-cells xs (width n) g.bytes g.size)

  -- c saw the newest
  pub close_newest : (s : ℕ) → s ≡ get_or (cells xs) 1 0 → s < c → xs ≡ pruned_block n rc xs
  unfolding w
  close_newest s e h = same (trim-all c rc low w.stamp vs (omega arith) fall rules.1)

  -- c did not see the newest
  module _ (top : c ≤ get_or (cells xs) 1 0) where
    lowest-is : low ≤ c
    unfolding low
    lowest-is = lowest-low (suc k.timestamp) c rc g.beside.some

    older : 0 < get_or (cells xs) 0 0 - 1
    unfolding w vs chain versions_in
    older = go' (get_or (cells xs) 0 0 - 1) rules.1
      where
        go' : (m : ℕ) → chain (c ∷ rc) low (get_or (cells xs) 1 0) (versions_in m (drop 3 (cells xs))) ≡ true → 0 < m
        go' zero h = absurd (omega (arith, ltb-true (get_or (cells xs) 1 0) low h, lowest-is))
        go' (suc m) h = omega arith

    few : get_or (cells xs) 0 0 ≤ n + 1
    few = count-few n (cells xs) o.frame

    j' : ℕ
    j' = seen c (n - 1) (drop 3 (cells xs))

    place : seen c n (drop 1 (cells xs)) ≡ suc j'
    unfolding j'
    place =
        seen_step c n 1 (cells xs) (omega (arith, older, few)) (get_or (cells xs) 1 0) refl ∙ rw (le-leb c (get_or (cells xs) 1 0) top) (omega arith)

    first : First c vs j'
    unfolding w vs j'
    first =
        let m : ℕ = get_or (cells xs) 0 0 - 1 in
        let e : 3 + 2 * m ≡ 1 + 2 * get_or (cells xs) 0 0 = omega (arith, o.least) in
        let behind : zeros (drop (2 * m) (drop 3 (cells xs))) ≡ true = ap zeros (drop-drop (2 * m) 3 (cells xs) ∙ ap (λ (i : ℕ). drop i (cells xs)) e) ∙ unused_zero n (cells xs) o.frame in
        seen_first c rc low g.beside.some lowest-is (n - 1) m (drop 3 (cells xs)) (get_or (cells xs) 1 0) fall rules.1 top behind (omega (arith, older, few))

    length-vs : suc (length vs) ≡ get_or (cells xs) 0 0
    length-vs = ap length (sym cut) ∙ length_block-versions (cells xs)

    module _ (j : ℕ) (ej : j ≡ seen c n (drop 1 (cells xs))) where
      is : j ≡ suc j'
      is = ej ∙ place

      pub behind-newest : 1 ≤ j
      behind-newest = omega (arith, is)

      pub inside : j < get_or (cells xs) 0 0
      inside = omega (arith, is, length-vs, first-in c vs j' first)

      one : (s u : ℕ) → s ≡ get_or (cells xs) (1 + 2 * j) 0 → u ≡ get_or (cells xs) (2 * j - 1) 0 → trim rc w.stamp vs ≡ cond (leb p s && ltb u q) (without j' vs) vs
      unfolding w vs
      one s u es eu =
          let m : ℕ = get_or (cells xs) 0 0 in
          let h = inside in
          let i = is in
          let a : 3 + 2 * j' ≡ 1 + 2 * j = omega arith in
          let d : 1 + 2 * j' ≡ 2 * j - 1 = omega arith in
          let at-s : stamp_at vs j' ≡ s = stamp-cells (m - 1) j' (drop 3 (cells xs)) (omega arith) ∙ get_or-drop 3 (cells xs) (2 * j') 0 ∙ ap (λ (i : ℕ). get_or (cells xs) i 0) a ∙ sym es in
          let at-u : stamp_at (w ∷ vs) j' ≡ u = ap (λ (l : List Version). stamp_at l j') (sym cut) ∙ block-stamp (cells xs) j' (omega arith) ∙ ap (λ (i : ℕ). get_or (cells xs) i 0) d ∙ sym eu in
          trim-one c rc low p q g.beside w vs j' fall rules.1 top (omega (arith, k.few, leb-true w.stamp k.timestamp rules.0)) first
          ∙ ap₂ (λ (s u : ℕ). cond (leb p s && ltb u q) (without j' vs) vs) at-s at-u

      pub close_above : (u : ℕ) → u ≡ get_or (cells xs) (2 * j - 1) 0 → q ≤ u → xs ≡ pruned_block n rc xs
      close_above u eu h =
          same (one (get_or (cells xs) (1 + 2 * j) 0) u refl eu ∙ rw (le-ltb u q h, and-false (leb p (get_or (cells xs) (1 + 2 * j) 0))))

      pub close_below : (s : ℕ) → s ≡ get_or (cells xs) (1 + 2 * j) 0 → s < p → xs ≡ pruned_block n rc xs
      close_below s es h = same (one s (get_or (cells xs) (2 * j - 1) 0) es refl ∙ rw (lt-leb p s h))

      pub close_out : (s u : ℕ) → s ≡ get_or (cells xs) (1 + 2 * j) 0 → u ≡ get_or (cells xs) (2 * j - 1) 0 → p ≤ s → u < q → (ys : List ℕ) → ys ≡ uncells (less_one n j (cells xs)) → ys ≡ pruned_block n rc xs
      unfolding without
      close_out s u es eu a d ys ey =
          let h = inside in
          let out : prune (stamps rc) (block_versions (cells xs)) ≡ without j (block_versions (cells xs)) = pruned-is (without j' vs) (one s u es eu ∙ rw (le-leb p s a, lt-ltb u q d)) ∙ sym (ap₂ without is cut) in
          let printed : block n (block_versions (cells xs)) ≡ cells xs = block_of-versions n (cells xs) (length_cells-whole (width n) xs g.size) (cells-below xs g.bytes) o.frame in
          ey ∙ ap uncells (ap (less_one n j) (sym printed) ∙ less_block n j (block_versions (cells xs)) (omega (arith, length_block-versions (cells xs))) (omega (arith, length_block-versions (cells xs), few)) ∙ ap (block n) (sym out))
