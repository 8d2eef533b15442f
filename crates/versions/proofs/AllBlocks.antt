-- All objects, one after another: the check is the model's rules on what their cells say. Assumes nothing.
use Rattle.std.specs.Prelude.{◌≡◌, refl, Bool, true, false, ◌&&◌, List, [], ◌∷◌, map, ℕ}
use Rattle.execution.specs.Bounds.{ordered}
use Rattle.model.specs.Lists.{all, all₂}
use Rattle.model.specs.Shape.{versions_inside}
use Rattle.model.specs.ShapeCheck.{versions_shaped}
use Rattle.versions.specs.Block.{object_cells, block_versions, stamps, chunks, block_of, bounds_at, objects_in, bounds_in, framed, block_ok, bounds_ok, object_ok, blocks_ok}

-- the check of m objects is: their blocks' frames, and the model's rules on each object's versions and bounds
pub blocks-check : (n timestamp : ℕ) (rc : List ℕ) (m : ℕ) (cs : List ℕ) → blocks_ok n timestamp rc m cs
    ≡ (all (λ oc. framed n (block_of n oc)) (chunks (object_cells n) m cs) && all (versions_shaped timestamp (stamps rc)) (objects_in n m cs))
    && (all ordered (bounds_in n m cs) && all₂ versions_inside (bounds_in n m cs) (objects_in n m cs))
unfolding blocks_ok objects_in bounds_in object_ok block_ok bounds_ok
blocks-check n timestamp rc m cs = go' (chunks (object_cells n) m cs)
  where
    swap : (a b c d e f g h : Bool) → ((a && b) && (c && d)) && ((e && f) && (g && h)) ≡ ((a && e) && (b && f)) && ((c && g) && (d && h))
    swap true true true true e f g h = refl
    swap true true true false e f g h = by e f g
      where
        by : (e f g : Bool) → false ≡ (e && f) && (g && false)
        by true true true = refl
        by true true false = refl
        by true false g = refl
        by false f g = refl
    swap true true false d e f g h = by e f
      where
        by : (e f : Bool) → false ≡ (e && f) && false
        by true true = refl
        by true false = refl
        by false f = refl
    swap true false c d e f g h = by e
      where
        by : (e : Bool) → false ≡ (e && false) && ((c && g) && (d && h))
        by true = refl
        by false = refl
    swap false b c d e f g h = refl

    go' : (os : List (List ℕ)) → all (object_ok n timestamp rc) os
        ≡ (all (λ oc. framed n (block_of n oc)) os && all (versions_shaped timestamp (stamps rc)) (map (λ oc. block_versions (block_of n oc)) os))
        && (all ordered (map (bounds_at n) os) && all₂ versions_inside (map (bounds_at n) os) (map (λ oc. block_versions (block_of n oc)) os))
    go' [] = refl
    go' (oc ∷ os) =
        rw (go' os) (swap (framed n (block_of n oc)) (versions_shaped timestamp (stamps rc) (block_versions (block_of n oc))) (ordered (bounds_at n oc)) (versions_inside (bounds_at n oc) (block_versions (block_of n oc))) _ _ _ _)
