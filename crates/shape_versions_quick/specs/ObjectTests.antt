-- The check of one object, from that of its block and that of its bounds. Assumes nothing.
-- n is the number of readers, rc are their cells, d those of the open ones beside cells that are 0, xs the bytes of one object, of which the first w
-- cells are its block.
use Rattle.std.specs.Prelude.{◌≡◌, refl, Bool, true, false, ◌&&◌, List, ℕ, zero, suc, ◌+◌, ◌*◌, ◌≤◌, leb, get_or, take, drop}
use Rattle.std.proofs.Common.{sym, ◌∙◌, true≢false, arith, leb-true}
use Rattle.std.proofs.Math.Path.{ap}
use Rattle.cells.specs.Cells.{cells}
use Rattle.cells.specs.Zeros.{zeros}
use Rattle.execution.proofs.ReadAgreement.{both}
use Rattle.model.specs.ShapeCheck.{versions_shaped}
use Rattle.versions.specs.Block.{width, versions_in, block_versions, stamps, block_of, bounds_at, framed, block_ok, bounds_ok, object_ok, lowest}
use Rattle.shape_readers.specs.OpenReaders.{Known}
use Rattle.shape_bounds.specs.ObjectBounds.{block-part}

-- what a contract says: the answer true is sound, whichever readers' cells d has
abbrev pub ObjectSound : ℕ → ℕ → ℕ → List ℕ → List ℕ → Bool → Type 0
ObjectSound n timestamp low d os t = (rc : List ℕ) → Known rc d → low ≡ lowest (timestamp + 1) rc → t ≡ true → object_ok n timestamp rc (cells os) ≡ true

-- a block that passes has room for as many versions as it says
block_room : (n timestamp : ℕ) (rc bc : List ℕ) → block_ok n timestamp rc bc ≡ true → get_or bc 0 0 ≤ n + 1
unfolding block_ok framed
block_room n timestamp rc bc ok =
    let frame = (both (framed n bc) (versions_shaped timestamp (stamps rc) (block_versions bc)) ok).0 in
    let count = leb-true (get_or bc 0 0) (suc n) (both (leb (get_or bc 0 0) (suc n)) (zeros (drop (1 + 2 * get_or bc 0 0) bc)) frame).0 in
    omega arith

-- and has one
block-some : (n timestamp : ℕ) (rc bc : List ℕ) → block_ok n timestamp rc bc ≡ true → 1 ≤ get_or bc 0 0
unfolding block_ok block_versions versions_in versions_shaped
block-some n timestamp rc bc ok = by (get_or bc 0 0) refl
  where
    shaped : versions_shaped timestamp (stamps rc) (block_versions bc) ≡ true
    shaped = (both (framed n bc) (versions_shaped timestamp (stamps rc) (block_versions bc)) ok).1

    by : (k : ℕ) → get_or bc 0 0 ≡ k → 1 ≤ get_or bc 0 0
    by zero e = absurd (true≢false (sym shaped ∙ ap (λ m. versions_shaped timestamp (stamps rc) (versions_in m (drop 1 bc))) e))
    by (suc k) e = omega (arith, e)

module _ (n : ℕ) (xs : List ℕ) (w : ℕ) (ew : w ≡ width n) (timestamp : ℕ) (rc : List ℕ) where
  pub object-no : block_ok n timestamp rc (cells (take (w * 8) xs)) ≡ false → object_ok n timestamp rc (cells xs) ≡ false
  unfolding object_ok
  object-no e = rw (← (block-part n xs w ew), e)

  pub object-by : block_ok n timestamp rc (cells (take (w * 8) xs)) ≡ true → object_ok n timestamp rc (cells xs) ≡ bounds_ok (bounds_at n (cells xs)) (block_of n (cells xs))
  unfolding object_ok
  object-by e = ap (◌&& bounds_ok (bounds_at n (cells xs)) (block_of n (cells xs))) (ap (block_ok n timestamp rc) (sym (block-part n xs w ew)) ∙ e)

  pub object-room : block_ok n timestamp rc (cells (take (w * 8) xs)) ≡ true → get_or (block_of n (cells xs)) 0 0 ≤ n + 1
  object-room e = block_room n timestamp rc (block_of n (cells xs)) (ap (block_ok n timestamp rc) (sym (block-part n xs w ew)) ∙ e)

  pub object-some : block_ok n timestamp rc (cells (take (w * 8) xs)) ≡ true → 1 ≤ get_or (block_of n (cells xs)) 0 0
  object-some e = block-some n timestamp rc (block_of n (cells xs)) (ap (block_ok n timestamp rc) (sym (block-part n xs w ew)) ∙ e)
