-- The laws of `uncells`: an area printed from cells. `++`, parts, splices and stores of the cells are those of the bytes, whatever the
-- cells hold. Assumes nothing.
use Rattle.std.specs.Prelude.{ℕ, zero, suc, ◌+◌, ◌*◌, ◌<◌, ◌≡◌, refl, List, [], ◌∷◌, ◌++◌, length, take, drop, set, replicate}
use Rattle.std.proofs.Common.{ap, ◌∙◌, arith}
use Rattle.std.proofs.lemmas.List.{replicate-append-replicate}
use Rattle.std.proofs.Math.Seq.{take-nil, drop-nil, take-append-add, drop-append-add}
use Rattle.words.specs.Words.{bytes}
use Rattle.cells.specs.Cells.{uncells, splice, cell_put}
use Rattle.cells.specs.Splice.{splice-one}

-- one cell more
pub eight-more : (n : ℕ) → suc n * 8 ≡ 8 + n * 8
eight-more n = omega arith

pub length-uncells : (ws : List ℕ) → length (uncells ws) ≡ length ws * 8
length-uncells [] = refl
length-uncells (w ∷ ws) = omega (arith, length-uncells ws)

pub uncells-append : (a b : List ℕ) → uncells (a ++ b) ≡ uncells a ++ uncells b
uncells-append [] b = refl
uncells-append (w ∷ a) b = rw (uncells-append a b)

-- ---- parts

pub uncells-take : (n : ℕ) (ws : List ℕ) → take (n * 8) (uncells ws) ≡ uncells (take n ws)
uncells-take zero ws = refl
uncells-take (suc n) [] = take-nil (suc n * 8)
uncells-take (suc n) (w ∷ ws) = rw (eight-more n, ← uncells-take n ws) (take-append-add (bytes 8 w) (uncells ws) (n * 8))

pub uncells-drop : (n : ℕ) (ws : List ℕ) → drop (n * 8) (uncells ws) ≡ uncells (drop n ws)
uncells-drop zero ws = refl
uncells-drop (suc n) [] = drop-nil (suc n * 8)
uncells-drop (suc n) (w ∷ ws) = rw (eight-more n, ← uncells-drop n ws) (drop-append-add (bytes 8 w) (uncells ws) (n * 8))

-- a part that is lent, `&area[k * 8..]`, and what its return leaves
module _ (k n : ℕ) (ws : List ℕ) where
  pub uncells-part : take (n * 8) (drop (k * 8) (uncells ws)) ≡ uncells (take n (drop k ws))
  uncells-part = rw (uncells-drop, uncells-take)

  pub uncells-back : (vs : List ℕ) → take (k * 8) (uncells ws) ++ (uncells vs ++ drop (n * 8) (drop (k * 8) (uncells ws))) ≡ uncells (take k ws ++ (vs ++ drop n (drop k ws)))
  uncells-back vs = simp (uncells-take, uncells-drop, uncells-append)

-- ---- changes

pub uncells-splice : (ws : List ℕ) (k : ℕ) (vs : List ℕ) → splice (uncells ws) (k * 8) (uncells vs) ≡ uncells (splice ws k vs)
unfolding splice
uncells-splice ws k vs =
    let e : k * 8 + length (uncells vs) ≡ (k + length vs) * 8 = omega (arith, length-uncells vs) in
    rw e (simp (uncells-take, uncells-drop, uncells-append))

pub uncells-set : (ws : List ℕ) (k v : ℕ) → k < length ws → cell_put (uncells ws) k v ≡ uncells (set ws k v)
uncells-set ws k v h = uncells-splice ws k (v ∷ []) ∙ ap uncells (splice-one ws k v h)

pub uncells-zeros : (n : ℕ) → uncells (replicate n 0) ≡ replicate (n * 8) 0
uncells-zeros zero = refl
uncells-zeros (suc n) = rw (eight-more n, uncells-zeros n) (replicate-append-replicate 8 (n * 8) 0)
