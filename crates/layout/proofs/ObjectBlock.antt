-- An object's cells and the readers', as the crate `versions` reads and writes them. Assumes nothing.
use Rattle.std.specs.Prelude.{◌≡◌, refl, ◌&&◌, List, [], ◌∷◌, map, ℕ, ◌+◌, ◌^◌, take, drop, get_or}
use Rattle.std.proofs.Common.{ap, ap₂, ◌∙◌, arith, get_or-take, get_or-drop, drop-drop, to_z}
use Rattle.std.proofs.Math.Bool.{and-true}
use Rattle.std.proofs.Math.Option.{Option, none, some}
use Rattle.std.specs.Int.{w64}
use Rattle.cells.specs.Cells.{cells, uncells}
use Rattle.cells.specs.CellLaws.{cells-uncells}
use Rattle.model.specs.declared.Limits.{Limits}
use Rattle.model.specs.Lists.{all}
use Rattle.model.specs.Replica.{Replica, opens}
use Rattle.model.proofs.ListLaws.{all-mapped}
use Rattle.versions.specs.Block.{width, block_versions, stamps, block_of, bounds_at, framed}
use Rattle.layout.specs.Layout.{of_reader, bounds, object, versions_of, bounds_in}
use Rattle.layout.specs.Lawful.{Word}
use Rattle.layout.proofs.LawfulLaws.{all-below}
use Rattle.layout.specs.Holds.{Holds}

-- ---- an object's cells: what they say, and whether they are laid

module _ (l : Limits) where
  bounds_cells : (oc : List ℕ) → bounds.dec (drop (width l.readers) oc) ≡ bounds_at l.readers oc
  bounds_cells oc i =
      record { lower = to_z w64 (first i); upper = to_z w64 (next i) }
    where
      w : ℕ
      w = width l.readers

      first : get_or (take 1 (drop w oc)) 0 0 ≡ get_or oc w 0
      first =
          let z : w + 0 ≡ w = omega arith in
          get_or-take 1 (drop w oc) 0 0 (omega arith) ∙ get_or-drop w oc 0 0 ∙ ap (λ (k : ℕ). get_or oc k 0) z

      next : get_or (drop 1 (drop w oc)) 0 0 ≡ get_or oc (w + 1) 0
      next =
          let z : w + 1 + 0 ≡ w + 1 = omega arith in
          ap (λ (x : List ℕ). get_or x 0 0) (drop-drop 1 w oc) ∙ get_or-drop (w + 1) oc 0 0 ∙ ap (λ (k : ℕ). get_or oc k 0) z

  pub versions-said : (os : List (List ℕ)) → map versions_of (map (object l).dec os) ≡ map (λ oc. block_versions (block_of l.readers oc)) os
  versions-said [] = refl
  versions-said (oc ∷ os) = ap (block_versions (block_of l.readers oc) ∷◌) (versions-said os)

  pub bounds-said : (os : List (List ℕ)) → map bounds_in (map (object l).dec os) ≡ map (bounds_at l.readers) os
  bounds-said [] = refl
  bounds-said (oc ∷ os) = ap₂ ◌∷◌ (bounds_cells oc) (bounds-said os)

  -- any cells are bounds
  pub objects-framed : (os : List (List ℕ)) → all (object l).ok os ≡ all (λ oc. framed l.readers (block_of l.readers oc)) os
  objects-framed [] = refl
  objects-framed (oc ∷ os) = ap₂ ◌&&◌ (and-true (framed l.readers (block_of l.readers oc))) (objects-framed os)

-- ---- the readers' cells say which readers are open

reader-stamps : (rs : List (Option ℕ)) → stamps (map of_reader rs) ≡ opens rs
unfolding stamps
reader-stamps [] = refl
reader-stamps (none ∷ rs) = reader-stamps rs
reader-stamps (some r ∷ rs) = ap (r ∷◌) (reader-stamps rs)

pub readers-stamps : (l : Limits) (b : List ℕ) (u : Replica) → Holds l b u → (rs : List ℕ) → rs ≡ uncells (map of_reader u.readers) → stamps (cells rs) ≡ opens u.readers
readers-stamps l b u h rs e =
    let w = map of_reader u.readers in
    ap (λ (x : List ℕ). stamps (cells x)) e
    ∙ ap stamps (cells-uncells w (all-below (2 ^ 64) w (omega arith) (all-mapped Word of_reader u.readers h.fits.readers.1)))
    ∙ reader-stamps u.readers
