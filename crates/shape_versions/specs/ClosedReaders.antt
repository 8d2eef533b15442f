-- Where every reader is closed, the rules are those without readers. Assumes nothing.
-- n is the number of readers, rc are their cells, cs the cells of m objects.
use Rattle.std.specs.Prelude.{◌≡◌, refl, true, ◌&&◌, List, [], ◌∷◌, ℕ, zero, suc}
use Rattle.std.proofs.Common.{sym, ap, ◌∙◌, true≢false, arith, ne_eqb}
use Rattle.cells.specs.Zeros.{zeros}
use Rattle.model.specs.Lists.{all}
use Rattle.model.specs.ShapeCheck.{versions_shaped}
use Rattle.versions.specs.Block.{object_cells, block_versions, stamps, chunks, block_of, bounds_at, framed, block_ok, bounds_ok, object_ok, blocks_ok}

-- closed readers are as none
stamps-closed : (rc : List ℕ) → zeros rc ≡ true → stamps rc ≡ []
unfolding stamps
stamps-closed [] h = refl
stamps-closed (zero ∷ rc) h = stamps-closed rc h
stamps-closed (suc r ∷ rc) h = absurd (true≢false (sym h ∙ ap (◌&& zeros rc) (ne_eqb (suc r) 0 (λ e. omega arith))))

pub blocks-closed : (n timestamp : ℕ) (rc : List ℕ) (m : ℕ) (cs : List ℕ) → zeros rc ≡ true → blocks_ok n timestamp rc m cs ≡ blocks_ok n timestamp [] m cs
unfolding blocks_ok object_ok block_ok stamps
blocks-closed n timestamp rc m cs h =
    ap (λ (rs : List ℕ). all (λ oc. (framed n (block_of n oc) && versions_shaped timestamp rs (block_versions (block_of n oc))) && bounds_ok (bounds_at n oc) (block_of n oc)) (chunks (object_cells n) m cs)) (stamps-closed rc h)
