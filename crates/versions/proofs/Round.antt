-- One block: what its frame and the check say of it, round trips, and the check on a printed block. Assumes nothing.
use Rattle.std.specs.Prelude.{◌≡◌, refl, true, List, [], ◌∷◌, ◌++◌, ℕ, zero, suc, ◌+◌, ◌*◌, ◌-◌, ◌^◌, ◌≤◌, ◌<◌, leb, length, take, drop, replicate}
use Rattle.std.proofs.Common.{sym, ap, ◌∙◌, arith, length-append, length-drop, take-append-drop, drop_at, drop-drop, Fits, SFits, to_z-of_z, le-leb, leb-true}
use Rattle.std.specs.Int.Signed.{mag}
use Rattle.std.proofs.Math.ListN.{get_or}
use Rattle.std.proofs.lemmas.List.{length-replicate}
use Rattle.std.specs.Int.{w64}
use mir.ValLaws.{to_z-Fits}
use Rattle.std.proofs.Math.Facts.{of_z-to_z, Fits-of_z}
use borrow.Rule.Slice.PartMut.{mid_of}
use Rattle.execution.proofs.ReadAgreement.{both}
use Rattle.cells.specs.Cells.{cells, uncells, Below}
use Rattle.cells.specs.CellLaws.{below-drop, below-take, below-zeros, cells-below, cells-uncells}
use Rattle.cells.specs.Zeros.{zeros, zeros-replicate, zeros-true}
use Rattle.model.specs.Serial.{Version}
use Rattle.model.specs.ListLaws.{All}
use Rattle.model.proofs.VersionLaws.{as_of-one}
use Rattle.model.specs.Shape.{VersionsShape}
use Rattle.model.specs.ShapeCheck.{versions_shaped}
use Rattle.model.proofs.ShapeCheckLaws.{versions-say}
use Rattle.versions.specs.Block.{width, versions_in, stamps, block_versions, flat, block, Small, seen_from, framed, block_ok}

pub fit : {b : ℕ} → b < 2 ^ 64 → Fits w64 b
fit h = record { fits = h }

pub length-flat : (vs : List Version) → length (flat vs) ≡ 2 * length vs
unfolding flat
length-flat [] = refl
length-flat (v ∷ vs) = omega (arith, length-flat vs)

-- ---- what a frame says

module _ (n : ℕ) (bc : List ℕ) (f : framed n bc ≡ true) where
  tests : (leb (get_or bc 0 0) (suc n) ≡ true) × (zeros (drop (1 + 2 * get_or bc 0 0) bc) ≡ true)
  unfolding framed
  tests = both (leb (get_or bc 0 0) (suc n)) (zeros (drop (1 + 2 * get_or bc 0 0) bc)) f

  pub count-few : get_or bc 0 0 ≤ n + 1
  count-few = omega (arith, leb-true (get_or bc 0 0) (suc n) tests.0)

  pub unused_zero : zeros (drop (1 + 2 * get_or bc 0 0) bc) ≡ true
  unused_zero = tests.1

-- ---- what the check says

module _ (n timestamp : ℕ) (rc bc : List ℕ) (ok : block_ok n timestamp rc bc ≡ true) where
  parts : (framed n bc ≡ true) × (versions_shaped timestamp (stamps rc) (block_versions bc) ≡ true)
  unfolding block_ok
  parts = both (framed n bc) (versions_shaped timestamp (stamps rc) (block_versions bc)) ok

  pub ok-framed : framed n bc ≡ true
  ok-framed = parts.0

  pub ok-versions : VersionsShape timestamp (stamps rc) (block_versions bc)
  ok-versions = (versions-say timestamp (stamps rc) (block_versions bc)).0 parts.1

-- ---- parse after print

small-versions : (k : ℕ) (cs : List ℕ) → Below (2 ^ 64) cs → Small (versions_in k cs)
unfolding versions_in
small-versions zero cs h = tt
small-versions (suc k) cs h = (to_z-Fits _ (get_or cs 1 0) (fit (h 1)), h 0, small-versions k (drop 2 cs) (below-drop (2 ^ 64) 2 cs h))

-- what a block's cells say, they can hold
pub small-block_versions : (bc : List ℕ) → Below (2 ^ 64) bc → Small (block_versions bc)
unfolding block_versions
small-block_versions bc h = small-versions (get_or bc 0 0) (drop 1 bc) (below-drop (2 ^ 64) 1 bc h)

-- what is seen in a block that is lent has a value of 64 bits
pub seen-fits : (t f k : ℕ) (b : List ℕ) → Below 256 b → mag (seen_from b t k f).value < 2 ^ 63
seen-fits t f k b h =
    let vs = block_versions (cells (mid_of f k b)) in
    (as_of-one (λ (v : Version). SFits w64 v.value) t vs (record { sfits = omega arith })
    (values-fit vs (small-block_versions (cells (mid_of f k b)) (cells-below (mid_of f k b) (below-take 256 k (drop f b) (below-drop 256 f b h)))))).sfits
  where
    values-fit : (vs : List Version) → Small vs → All (λ (v : Version). SFits w64 v.value) vs
    values-fit [] g = tt
    values-fit (v ∷ vs) g = (g.0, values-fit vs g.2)

versions-flat : (vs : List Version) (ts : List ℕ) → Small vs → versions_in (length vs) (flat vs ++ ts) ≡ vs
unfolding versions_in flat
versions-flat [] ts h = refl
versions-flat (v ∷ vs) ts h = rw (to_z-of_z h.0, versions-flat vs ts h.2)

pub versions_of-block : (n : ℕ) (vs : List Version) → Small vs → block_versions (block n vs) ≡ vs
unfolding block_versions block
versions_of-block n vs h = versions-flat vs (replicate (2 * (suc n - length vs)) 0) h

pub length-block : (n : ℕ) (vs : List Version) → length vs ≤ suc n → length (block n vs) ≡ width n
unfolding block
length-block n vs h =
    let z : ℕ = 0 in
    rw (length-append, length-replicate (2 * (suc n - length vs)) z, length-flat vs) (omega arith)

-- the cells of a printed block are below 2 ^ 64
below-flat : (vs : List Version) (ts : List ℕ) → Small vs → Below (2 ^ 64) ts → Below (2 ^ 64) (flat vs ++ ts)
unfolding flat
below-flat [] ts h b i = b i
below-flat (v ∷ vs) ts h b zero = h.1
below-flat (v ∷ vs) ts h b (suc zero) = (Fits-of_z h.0).fits
below-flat (v ∷ vs) ts h b (suc (suc i)) = below-flat vs ts h.2 b i

pub below-block : (n : ℕ) (vs : List Version) → Small vs → length vs < 2 ^ 64 → Below (2 ^ 64) (block n vs)
unfolding block
below-block n vs h l zero = l
below-block n vs h l (suc i) =
    below-flat vs (replicate (2 * (suc n - length vs)) 0) h (below-zeros (2 ^ 64) (2 * (suc n - length vs)) (omega arith)) i

-- what a block says after a call that ensures its bytes outright
pub parsed : (n : ℕ) (vs : List Version) (ys : List ℕ) → Small vs → length vs < 2 ^ 64 → ys ≡ uncells (block n vs) → block_versions (cells ys) ≡ vs
parsed n vs ys h l e = ap block_versions (ap cells e ∙ cells-uncells (block n vs) (below-block n vs h l)) ∙ versions_of-block n vs h

-- ---- the check on a printed block

count-block : (n : ℕ) (vs : List Version) → get_or (block n vs) 0 0 ≡ length vs
unfolding block
count-block n vs = refl

unused_block : (n : ℕ) (vs : List Version) → drop (1 + 2 * length vs) (block n vs) ≡ replicate (2 * (suc n - length vs)) 0
unfolding block
unused_block n vs =
    let e : 1 + 2 * length vs ≡ suc (2 * length vs) = omega arith in
    rw e (drop_at (flat vs) (replicate (2 * (suc n - length vs)) 0) (2 * length vs) (length-flat vs))

pub framed-block : (n : ℕ) (vs : List Version) → length vs ≤ suc n → framed n (block n vs) ≡ true
unfolding framed
framed-block n vs l = rw (count-block n vs, unused_block n vs, zeros-replicate (2 * (suc n - length vs)), le-leb (length vs) (suc n) l)

pub ok-block : (n timestamp : ℕ) (rc : List ℕ) (vs : List Version) → Small vs → length vs ≤ suc n → block_ok n timestamp rc (block n vs) ≡ versions_shaped timestamp (stamps rc) vs
unfolding block_ok
ok-block n timestamp rc vs h l = rw (versions_of-block n vs h, framed-block n vs l)

-- ---- print after parse

flat-versions : (k : ℕ) (cs : List ℕ) → Below (2 ^ 64) cs → 2 * k ≤ length cs → flat (versions_in k cs) ≡ take (2 * k) cs
unfolding flat versions_in
flat-versions zero cs b h = refl
flat-versions (suc k) [] b h = absurd (omega arith)
flat-versions (suc k) (x ∷ []) b h = absurd (omega arith)
flat-versions (suc k) (x ∷ y ∷ cs) b h =
    let e : 2 * suc k ≡ suc (suc (2 * k)) = omega arith in
    rw (e, of_z-to_z (fit (b 1)), flat-versions k cs (λ i. b (suc (suc i))) (omega arith))

length-versions : (k : ℕ) (cs : List ℕ) → length (versions_in k cs) ≡ k
unfolding versions_in
length-versions zero cs = refl
length-versions (suc k) cs = ap suc (length-versions k (drop 2 cs))

-- the count says how many versions a block has
pub length_block-versions : (bc : List ℕ) → length (block_versions bc) ≡ get_or bc 0 0
unfolding block_versions
length_block-versions bc = length-versions (get_or bc 0 0) (drop 1 bc)

pub block_of-versions : (n : ℕ) (bc : List ℕ) → length bc ≡ width n → Below (2 ^ 64) bc → framed n bc ≡ true → block n (block_versions bc) ≡ bc
unfolding block block_versions
block_of-versions n bc l b f =
    let k : ℕ = get_or bc 0 0 in
    let q : k ≤ n + 1 = count-few n bc f in
    let d : length (drop (1 + 2 * k) bc) ≡ 2 * (suc n - k) = length-drop (1 + 2 * k) bc ∙ omega arith in
    let t : replicate (2 * (suc n - k)) 0 ≡ drop (2 * k) (drop 1 bc) = sym (drop-drop (2 * k) 1 bc ∙ zeros-true (drop (1 + 2 * k) bc) (unused_zero n bc f) ∙ ap (λ (m : ℕ). replicate m 0) d) in
    let w : 2 * k ≤ length (drop 1 bc) = rw length-drop (omega arith) in
    rw (length-versions k (drop 1 bc), flat-versions k (drop 1 bc) (below-drop (2 ^ 64) 1 bc b) w, t, take-append-drop (2 * k) (drop 1 bc)) (head bc (omega arith))
  where
    head : (cs : List ℕ) → 0 < length cs → get_or cs 0 0 ∷ drop 1 cs ≡ cs
    head [] h = absurd (omega arith)
    head (c ∷ cs) h = refl
