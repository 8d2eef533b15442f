-- The rules on all objects are those on the first half and on the rest: `blocks-halves`.
use Rattle.std.proofs.Common.{◌≡◌, ◌&&◌, List, ℕ, ◌+◌, ◌*◌, ◌-◌, ◌/◌, length, take, drop, length-drop, sym, ap, ◌∙◌, arith}
use Rattle.std.proofs.lemmas.List.{take_all}
use Rattle.cells.specs.Cells.{cells}
use Rattle.versions.specs.Block.{object_cells, blocks_ok}
use Rattle.shape_versions.specs.Halves.{half-bytes, blocks-halves}
use Rattle.shape_versions.proofs.objects_by_halves.Goals as goal

-- k objects of w cells each are lent, n readers to an object
module _ (n k w : ℕ) (xs : List ℕ) (ew : w ≡ object_cells n) (ex : length xs ≡ k * (object_cells n * 8)) where
  -- the first half's bytes
  mid : ℕ
  mid = k / 2 * (w * 8)

  bytes : length xs ≡ mid + (k - k / 2) * (w * 8)
  unfolding mid
  bytes = ex ∙ ap (λ x. k * (x * 8)) (sym ew) ∙ half-bytes k (w * 8)

  -- the rest's, as they are lent
  rest : take (length xs - mid) (drop mid xs) ≡ drop mid xs
  rest = take_all (length xs - mid) (drop mid xs) (omega (arith, length-drop mid xs))

  rest-bytes : length (drop mid xs) ≡ (k - k / 2) * (object_cells n * 8)
  rest-bytes = length-drop mid xs ∙ omega (arith, bytes) ∙ ap (λ x. (k - k / 2) * (x * 8)) ew

  -- the answer is that of both
  halves : (timestamp : ℕ) (rc : List ℕ) → blocks_ok n timestamp rc k (cells xs) ≡ blocks_ok n timestamp rc (k / 2) (cells (take mid xs)) && blocks_ok n timestamp rc (k - k / 2) (cells (drop mid xs))
  unfolding mid
  halves timestamp rc = rw ew (blocks-halves n timestamp rc (k / 2) (k - k / 2) k xs (omega arith) ex)

pub objects_general-requires-then-objects_general : goal.objects_general-requires-then-objects_general
unfolding mid
objects_general-requires-then-objects_general c =
    let a = c.args in
    let p = c.requires.0 in
    let w = c.object_cells in
    let size = ap length (rest a.b.readers a.n w.result a.blocks.now w.ensures p) ∙ rest-bytes a.b.readers a.n w.result a.blocks.now w.ensures p in
    (size, c.requires.1)

pub returns-then-objects_general : goal.returns-then-objects_general
unfolding mid
returns-then-objects_general c =
    let a = c.args in
    let rc = cells a.b.snapshots.now in
    let p = c.requires.0 in
    let w = c.object_cells in
    let ok = λ (xs : List ℕ). blocks_ok a.b.readers a.b.timestamp rc (a.n - a.n / 2) (cells xs) in
    let second = ok (drop (a.n / 2 * (w.result * 8)) a.blocks.now) in
    c.objects_general-then-objects_general.ensures
    ∙ ap ok (rest a.b.readers a.n w.result a.blocks.now w.ensures p)
    ∙ sym (halves a.b.readers a.n w.result a.blocks.now w.ensures p a.b.timestamp rc ∙ ap (◌&& second) (sym c.objects_general.ensures ∙ c.if-objects_general.true))

pub returns : goal.returns
unfolding mid
returns c =
    let a = c.args in
    let rc = cells a.b.snapshots.now in
    let w = c.object_cells in
    let second = blocks_ok a.b.readers a.b.timestamp rc (a.n - a.n / 2) (cells (drop (a.n / 2 * (w.result * 8)) a.blocks.now)) in
    sym (halves a.b.readers a.n w.result a.blocks.now w.ensures c.requires.0 a.b.timestamp rc ∙ ap (◌&& second) (sym c.objects_general.ensures ∙ c.if-objects_general.false))
