-- A block rewritten: the cells left are those of the versions that pruning leaves, and they have room. Assumes nothing.
use Rattle.std.specs.Prelude.{◌≡◌, refl, Bool, true, false, cond, ℤ, get_or, take, drop, set}
use Rattle.std.proofs.Math.Path.{sym, ap}
use Rattle.std.proofs.Common.{◌∙◌, of_z}
use Rattle.std.proofs.Math.Option.{some}
use mathlib.Core.List.{List, [], ◌∷◌, ◌++◌, append_assoc, append-nil}
use Prim.Native.Nat.{ℕ, zero, suc, ◌+◌, ◌*◌, ◌-◌, ◌/◌, ◌^◌, ◌≤◌, ◌<◌}
use native.Mathlib.Omega.{arith}
use Rattle.std.proofs.Math.Dec.{leb, ltb}
use Rattle.std.proofs.Math.ListN.{length, replicate, length-replicate, drop_of_length-le}
use Rattle.std.specs.Int.{w64}
use Rattle.std.proofs.Math.Facts.{of_z-to_z}
use borrow.Author.Tests.{leb-true, lt-ltb}
use Rattle.cells.specs.Cells.{cells, uncells, splice, Below}
use Rattle.cells.specs.CellLaws.{length_cells-whole, below-drop, uncells-cells}
use Rattle.cells.specs.BlockMoves.{cells-fill}
use Rattle.model.specs.Serial.{Version}
use Rattle.model.specs.Replica.{prune, pushed}
use Rattle.model.specs.Shape.{falling, VersionsShape}
use Rattle.model.proofs.Held.{few, commit-shape}
use Rattle.model.proofs.Tests.{all_weaker}
use Rattle.versions.specs.Block.{width, version_of, versions_in, stamps, block_versions, flat, block, between, trim, block_ok}
use Rattle.versions_push.specs.Trimmed.{trim_cells, filled}
use Rattle.versions.proofs.OnePass.{falling-falls, prune-trim}
use Rattle.versions.proofs.Round.{fit, length-flat, ok-versions}

-- ---- the cells left are those of the versions held

flat-trim : (rc : List ℕ) (k upper : ℕ) (cs : List ℕ) → Below (2 ^ 64) cs → flat (trim rc upper (versions_in k cs)) ≡ trim_cells rc upper k cs
unfolding flat trim versions_in trim_cells
flat-trim rc zero upper cs h = refl
flat-trim rc (suc k) upper cs h = go' (between rc (get_or cs 0 0) upper) (flat-trim rc k (get_or cs 0 0) (drop 2 cs) (below-drop (2 ^ 64) 2 cs h))
  where
    go' : (b : Bool) → flat (trim rc (get_or cs 0 0) (versions_in k (drop 2 cs))) ≡ trim_cells rc (get_or cs 0 0) k (drop 2 cs)
        → flat (cond b (version_of (get_or cs 0 0) (get_or cs 1 0) ∷ trim rc (get_or cs 0 0) (versions_in k (drop 2 cs))) (trim rc (get_or cs 0 0) (versions_in k (drop 2 cs))))
        ≡ cond b (get_or cs 0 0 ∷ get_or cs 1 0 ∷ trim_cells rc (get_or cs 0 0) k (drop 2 cs)) (trim_cells rc (get_or cs 0 0) k (drop 2 cs))
    go' true i = rw (i, of_z-to_z (fit (h 1)))
    go' false i = i

block-filled : (n : ℕ) (vs : List Version) → block n vs ≡ filled n (flat vs)
unfolding block filled
block-filled n vs =
    let a : length (flat vs) / 2 ≡ length vs = omega (arith, length-flat vs) in
    let b : 2 * (suc n - length vs) ≡ 2 * suc n - length (flat vs) = omega (arith, length-flat vs) in
    rw (a, b)

-- ---- one version more

length-stamps : (rc : List ℕ) → length (stamps rc) ≤ length rc
unfolding stamps
length-stamps [] = omega arith
length-stamps (zero ∷ rc) = omega (arith, length-stamps rc)
length-stamps (suc r ∷ rc) = omega (arith, length-stamps rc)

module _ (n timestamp : ℕ) (z : ℤ) (rc bc : List ℕ) (b : Below (2 ^ 64) bc) (ok : block_ok n timestamp rc bc ≡ true) (t : ℕ) (h : t ≡ suc timestamp) where
  new : Version
  new = record { stamp = t; value = z }

  after : VersionsShape t (stamps rc) (prune (stamps rc) (new ∷ block_versions bc))
  unfolding new
  after = rw h (commit-shape timestamp (stamps rc) (block_versions bc) (some z) (ok-versions n timestamp rc bc ok))

  order : falling (new ∷ block_versions bc) ≡ true
  unfolding new
  order =
      let was = ok-versions n timestamp rc bc ok in
      rw (all_weaker (λ v. leb v.stamp timestamp) (λ v. ltb v.stamp t) (block_versions bc) (λ v e. lt-ltb v.stamp t (let l = leb-true v.stamp timestamp e in omega arith)) was.bound)
      was.order

  trimmed : prune (stamps rc) (new ∷ block_versions bc) ≡ new ∷ trim rc t (block_versions bc)
  unfolding new
  trimmed = prune-trim rc new (block_versions bc) (sym (falling-falls new (block_versions bc)) ∙ order)

  same : flat (prune (stamps rc) (new ∷ block_versions bc)) ≡ t ∷ of_z w64 z ∷ trim_cells rc t (get_or bc 0 0) (drop 1 bc)
  unfolding new flat block_versions
  same = ap flat trimmed ∙ rw (flat-trim rc (get_or bc 0 0) t (drop 1 bc) (below-drop (2 ^ 64) 1 bc b))

  push_filled : filled n (t ∷ of_z w64 z ∷ trim_cells rc t (get_or bc 0 0) (drop 1 bc)) ≡ block n (prune (stamps rc) (pushed t (block_versions bc) (some z)))
  unfolding new
  push_filled = ap (filled n) (sym same) ∙ sym (block-filled n (prune (stamps rc) (new ∷ block_versions bc)))

  pub push_done : (k v : ℕ) → k ≡ get_or bc 0 0 → v ≡ of_z w64 z → filled n (t ∷ v ∷ trim_cells rc t k (drop 1 bc)) ≡ block n (prune (stamps rc) (pushed t (block_versions bc) (some z)))
  push_done k v ek ev = rw (ek, ev) push_filled

  pub push_room : length rc ≡ n → length (trim_cells rc t (get_or bc 0 0) (drop 1 bc)) ≤ 2 * n
  push_room e =
      omega (arith, few t (stamps rc) (prune (stamps rc) (new ∷ block_versions bc)) after, length-stamps rc, length-flat (prune (stamps rc) (new ∷ block_versions bc)), ap length same)

-- ---- the end of a rebuild: zeros behind, the count in front

module _ (n r : ℕ) (xs ys zs ws W : List ℕ) (lx : length xs ≡ width n * 8) (ly : length ys ≡ length xs) (er : r ≡ 1 + length W) (rn : r ≤ width n)
    (front : take r (cells ys) ≡ take 1 (cells xs) ++ W) (ez : zs ≡ splice ys (r * 8) (replicate (width n * 8 - r * 8) 0)) where
  cleared : cells zs ≡ take 1 (cells xs) ++ (W ++ replicate (2 * suc n - length W) 0)
  unfolding splice
  cleared =
      let z : ℕ = 0 in
      let q : width n - r ≡ 2 * suc n - length W = omega arith in
      let d : length (replicate (width n - r) z) ≡ width n - r = length-replicate (width n - r) z in
      let l : length (cells ys) ≤ r + (width n - r) = omega (arith, length_cells-whole (width n) ys (omega arith)) in
      ap cells ez
      ∙ cells-fill ys r (width n) rn (omega arith)
      ∙ rw (d, front, drop_of_length-le (cells ys) l, append-nil (replicate (width n - r) z), append_assoc (take 1 (cells xs)) W (replicate (width n - r) z), q)

  pub rebuilt : Below 256 ws → length ws ≡ length xs → cells ws ≡ set (cells zs) 0 ((r - 1) / 2) → ws ≡ uncells (filled n W)
  unfolding filled
  rebuilt bw lw e =
      let k : (r - 1) / 2 ≡ length W / 2 = ap (λ (i : ℕ). i / 2) (less r (length W) er) in
      let w : cells ws ≡ length W / 2 ∷ (W ++ replicate (2 * suc n - length W) 0) =
      e ∙ rw (cleared, k) (head (cells xs) (W ++ replicate (2 * suc n - length W) 0) (length W / 2) (omega (arith, length_cells-whole (width n) xs lx))) in
      sym (uncells-cells ws (width n) bw (omega arith)) ∙ ap uncells w
    where
      less : (r l : ℕ) → r ≡ 1 + l → r - 1 ≡ l
      less r l e = omega arith

      head : (cs ts : List ℕ) (k : ℕ) → 0 < length cs → set (take 1 cs ++ ts) 0 k ≡ k ∷ ts
      head [] ts k h = absurd (omega arith)
      head (c ∷ cs) ts k h = refl
