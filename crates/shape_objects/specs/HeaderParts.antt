-- The header and the objects, test by test, as the code lends them. Assumes nothing.
use Rattle.std.specs.Prelude.{◌≡◌, Bool, true, false, ◌&&◌, List, ℕ, ◌+◌, ◌-◌, ◌*◌, ◌^◌, ◌≤◌, ◌<◌, length, take, drop, get_or}
use Rattle.std.proofs.Common.{sym, ◌∙◌, arith, le-leb}
use Rattle.std.proofs.Math.Path.{ap, ap₂}
use Rattle.std.proofs.Math.Dec.{leb}
use Rattle.std.proofs.Math.Seq.{slice}
use Rattle.std.proofs.lemmas.Bool.{lt-leb}
use Rattle.cells.specs.Cells.{cells}
use Rattle.cells.specs.CellLaws.{cells-take, cells-drop}
use Rattle.cells.specs.Zeros.{zeros, zeros-cells_part}
use Rattle.model.specs.declared.Limits.{Limits}
use Rattle.model.specs.Calls.{clients, last_timestamp}
use Rattle.versions.specs.Block.{blocks_ok}
use Rattle.layout.specs.Offsets.{last_at, reader_at, size_at, object_at, pending_at}
use Rattle.layout.specs.Field.{drop-take}
use Rattle.layout.specs.Unchecked.{size_in}
use Rattle.shape_objects.specs.ObjectScan.{below, readers_of, lasts_of, header_in, objects_in}

-- the cells from f up to, not including, t
abbrev pub part : ℕ → ℕ → List ℕ → List ℕ
part f t xs = take (t * 8 - f * 8) (drop (f * 8) xs)

part-cells : (f t : ℕ) (xs : List ℕ) → cells (part f t xs) ≡ take (t - f) (drop f (cells xs))
part-cells f t xs =
    let e : t * 8 - f * 8 ≡ (t - f) * 8 = omega arith in
    ap (λ (k : ℕ). cells (take k (drop (f * 8) xs))) e ∙ cells-take (t - f) (drop (f * 8) xs) ∙ ap (take (t - f)) (cells-drop f xs)

module _ (xs : List ℕ) (f t : ℕ) where
  pub lasts-part : f ≡ last_at 0 → t ≡ reader_at 0 → cells (part f t xs) ≡ lasts_of (cells xs)
  unfolding clients
  lasts-part fe te = ap₂ (λ (f t : ℕ). cells (part f t xs)) fe te ∙ part-cells 1 17 xs

  readers-part : (l : Limits) → f ≡ reader_at 0 → t ≡ size_at l → cells (part f t xs) ≡ readers_of l (cells xs)
  readers-part l fe te =
      let e : 17 + l.readers - 17 ≡ l.readers = omega arith in
      ap₂ (λ (f t : ℕ). cells (part f t xs)) fe te ∙ part-cells 17 (17 + l.readers) xs ∙ ap (λ (k : ℕ). take k (drop 17 (cells xs))) e

  -- n objects
  pub objects-part : (l : Limits) (n : ℕ) → f ≡ object_at l 0 → t ≡ object_at l n → cells (part f t xs) ≡ slice (object_at l 0) (object_at l n) (cells xs)
  objects-part l n fe te =
      ap₂ (λ (f t : ℕ). cells (part f t xs)) fe te ∙ part-cells (object_at l 0) (object_at l n) xs ∙ sym (drop-take (object_at l 0) (object_at l n) (cells xs))

-- ---- the header

module _ (l : Limits) (xs : List ℕ) (t : ℕ) (e : t ≡ get_or (cells xs) 0 0) where
  abbrev header : Bool → Bool → Bool → Bool
  header a b c = a && (b && c)

  header-tests : header_in l (cells xs) ≡ header (leb t 4294967295) (below (2 ^ 32) (lasts_of (cells xs))) (below (t + 2) (readers_of l (cells xs)))
  unfolding header_in last_timestamp
  header-tests =
      ap (λ (t : ℕ). header (leb t 4294967295) (below (2 ^ 32) (lasts_of (cells xs))) (below (t + 2) (readers_of l (cells xs)))) (sym e)

  pub header-late : 4294967295 < t → false ≡ header_in l (cells xs)
  header-late h =
      sym (header-tests ∙ ap (λ (a : Bool). header a (below (2 ^ 32) (lasts_of (cells xs))) (below (t + 2) (readers_of l (cells xs)))) (lt-leb t 4294967295 h))

  -- the last numbers lie from cell f on, the readers from cell g up to cell s
  module _ (k : t ≤ 4294967295) (f g s : ℕ) (fe : f ≡ last_at 0) (ge : g ≡ reader_at 0) (se : s ≡ size_at l) (p : Bool) (h : p ≡ below (2 ^ 32) (cells (part f g xs))) where
    header-more : header_in l (cells xs) ≡ p && below (t + 2) (readers_of l (cells xs))
    header-more =
        header-tests ∙ ap₂ (λ (a b : Bool). header a b (below (t + 2) (readers_of l (cells xs)))) (le-leb t 4294967295 k) (sym (h ∙ ap (below (2 ^ 32)) (lasts-part xs f g fe ge)))

    pub header-lasts : p ≡ false → false ≡ header_in l (cells xs)
    header-lasts high = sym (header-more ∙ ap (λ (a : Bool). a && below (t + 2) (readers_of l (cells xs))) high)

    pub header-readers : p ≡ true → (z : Bool) → z ≡ below (t + 2) (cells (part g s xs)) → z ≡ header_in l (cells xs)
    header-readers ok z e =
        e ∙ ap (below (t + 2)) (readers-part xs g s l ge se) ∙ sym (header-more ∙ ap (λ (a : Bool). a && below (t + 2) (readers_of l (cells xs))) ok)

-- ---- the objects

module _ (l : Limits) (xs : List ℕ) (n : ℕ) (e : n ≡ size_in l (cells xs)) where
  abbrev w : List ℕ
  w = cells xs

  abbrev behind : Bool
  behind = zeros (slice (object_at l n) (pending_at l) w)

  abbrev objects : Bool → Bool → Bool → Bool
  objects a b c = a && (b && (c && behind))

  abbrev versions : Bool
  versions = blocks_ok l.readers (get_or w 0 0) (readers_of l w) n (slice (object_at l 0) (object_at l n) w)

  objects-tests : objects_in l w ≡ objects (leb 1 n) (leb n l.objects) versions
  unfolding objects_in
  objects-tests =
      ap (λ (n : ℕ). leb 1 n && (leb n l.objects && (blocks_ok l.readers (get_or w 0 0) (readers_of l w) n (slice (object_at l 0) (object_at l n) w) && zeros (slice (object_at l n) (pending_at l) w)))) (sym e)

  pub objects-none : n < 1 → false ≡ objects_in l w
  objects-none h = sym (objects-tests ∙ ap (λ (a : Bool). objects a (leb n l.objects) versions) (lt-leb 1 n h))

  module _ (some : 1 ≤ n) where
    pub objects-many : l.objects < n → false ≡ objects_in l w
    objects-many h = sym (objects-tests ∙ ap₂ (λ (a b : Bool). objects a b versions) (le-leb 1 n some) (lt-leb n l.objects h))

    -- the readers lie from cell r up to cell s, the objects from cell f up to cell g
    module _ (few : n ≤ l.objects) (t r s f g : ℕ) (te : t ≡ get_or w 0 0) (re : r ≡ reader_at 0) (se : s ≡ size_at l) (fe : f ≡ object_at l 0) (ge : g ≡ object_at l n)
        (p : Bool) (h : p ≡ blocks_ok l.readers t (cells (part r s xs)) n (cells (part f g xs))) where
      versions-here : p ≡ versions
      versions-here =
          h ∙ ap₂ (λ (t : ℕ) (rc : List ℕ). blocks_ok l.readers t rc n (cells (part f g xs))) te (readers-part xs r s l re se)
          ∙ ap (blocks_ok l.readers (get_or w 0 0) (readers_of l w) n) (objects-part xs f g l n fe ge)

      objects-more : objects_in l w ≡ p && behind
      objects-more =
          objects-tests ∙ ap₂ (λ (a b : Bool). objects a b versions) (le-leb 1 n some) (le-leb n l.objects few) ∙ ap (λ (c : Bool). c && behind) (sym versions-here)

      pub objects-versions : p ≡ false → false ≡ objects_in l w
      objects-versions k = sym (objects-more ∙ ap (λ (a : Bool). a && behind) k)

      pub objects-behind : p ≡ true → (b : ℕ) → b ≡ pending_at l → b * 8 ≤ length xs → (z : Bool) → z ≡ zeros (slice (g * 8) (b * 8) xs) → z ≡ objects_in l w
      objects-behind k b be inside z ze =
          ze ∙ zeros-cells_part g b xs inside ∙ ap₂ (λ (f t : ℕ). zeros (slice f t w)) ge be ∙ sym (objects-more ∙ ap (λ (a : Bool). a && behind) k)
