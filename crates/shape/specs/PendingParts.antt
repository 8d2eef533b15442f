-- The pending transactions, test by test, as the code lends them. Assumes nothing.
use Rattle.std.specs.Prelude.{◌≡◌, Bool, true, false, ◌&&◌, List, ℕ, ◌-◌, ◌*◌, ◌≤◌, ◌<◌, length, take, drop}
use Rattle.std.proofs.Common.{sym, ap₂, ◌∙◌, le-leb}
use Rattle.std.proofs.Math.Path.{ap}
use Rattle.std.proofs.Math.Dec.{leb}
use Rattle.std.proofs.Math.Seq.{slice, take-length}
use Rattle.std.proofs.lemmas.Bool.{lt-leb}
use Rattle.cells.specs.Cells.{cells}
use Rattle.cells.specs.Zeros.{zeros, zeros-cells_part}
use Rattle.model.specs.declared.Limits.{Limits}
use Rattle.layout.specs.Offsets.{last_at, reader_at, object_at, row_at, body_at}
use Rattle.layout.specs.Unchecked.{size_in, pending_in}
use Rattle.shape_objects.specs.ObjectScan.{lasts_of}
use Rattle.shape_objects.specs.HeaderParts.{part, lasts-part, objects-part}
use Rattle.shape_names.specs.NameTests.{rest-cells}
use Rattle.shape.specs.AreaScan.{rows_in, used_in, unused_in, pending_part}

-- the last numbers lie from cell c up to cell r, the objects from cell o up to cell g, the rows from cell f on
pub used-here : (l : Limits) (xs ys : List ℕ) (k n c r o g f : ℕ) → n ≡ size_in l (cells xs) → c ≡ last_at 0 → r ≡ reader_at 0 → o ≡ object_at l 0 → g ≡ object_at l n → f ≡ row_at l 0
    → (p : Bool) → p ≡ rows_in l.operations n l.readers (cells (part o g xs)) (cells (part c r xs)) true k (cells (take (length xs - f * 8) (drop (f * 8) xs))) ys → p ≡ used_in l k (cells xs) ys
used-here l xs ys k n c r o g f ne ce re oe ge fe p e =
    let rows : List ℕ → List ℕ → List ℕ → Bool = λ os ls x. rows_in l.operations n l.readers os ls true k x ys in
    e ∙ ap₂ (λ (os ls : List ℕ). rows os ls (cells (take (length xs - f * 8) (drop (f * 8) xs)))) (objects-part xs o g l n oe ge) (lasts-part xs c r ce re)
    ∙ ap (rows (slice (object_at l 0) (object_at l n) (cells xs)) (lasts_of (cells xs))) (rest-cells xs f ∙ ap (λ (f : ℕ). drop f (cells xs)) fe)
    ∙ ap (λ (n : ℕ). rows_in l.operations n l.readers (slice (object_at l 0) (object_at l n) (cells xs)) (lasts_of (cells xs)) true k (drop (row_at l 0) (cells xs)) ys) ne

module _ (l : Limits) (xs ys : List ℕ) (k : ℕ) (e : k ≡ pending_in l (cells xs)) where
  abbrev v : List ℕ
  v = cells xs

  abbrev behind_rows : Bool
  behind_rows = zeros (slice (row_at l k) (row_at l l.pending) v)

  abbrev behind_bodies : Bool
  behind_bodies = zeros (drop (body_at l k) ys)

  pending-tests : pending_part l v ys ≡ leb k l.pending && (used_in l k v ys && (behind_rows && behind_bodies))
  unfolding pending_part
  pending-tests = ap (λ (k : ℕ). leb k l.pending && (used_in l k v ys && unused_in l k v ys)) (sym e)

  pub pending-many : l.pending < k → false ≡ pending_part l v ys
  pending-many h = sym (pending-tests ∙ ap (λ (a : Bool). a && (used_in l k v ys && (behind_rows && behind_bodies))) (lt-leb k l.pending h))

  module _ (few : k ≤ l.pending) (p : Bool) (h : p ≡ used_in l k v ys) where
    pending-more : pending_part l v ys ≡ p && (behind_rows && behind_bodies)
    pending-more =
        pending-tests ∙ ap₂ (λ (a b : Bool). a && (b && (behind_rows && behind_bodies))) (le-leb k l.pending few) (sym h)

    pub pending-rows : p ≡ false → false ≡ pending_part l v ys
    pending-rows q = sym (pending-more ∙ ap (λ (a : Bool). a && (behind_rows && behind_bodies)) q)

    -- the rows in use end at cell g, all at cell t
    module _ (good : p ≡ true) (g t : ℕ) (inside : t * 8 ≤ length xs) (ge : g ≡ row_at l k) (te : t ≡ row_at l l.pending) (q : Bool) (i : q ≡ zeros (slice (g * 8) (t * 8) xs)) where
      behind-here : q ≡ behind_rows
      behind-here = i ∙ zeros-cells_part g t xs inside ∙ ap₂ (λ (f t : ℕ). zeros (slice f t v)) ge te

      pending-last : pending_part l v ys ≡ q && behind_bodies
      pending-last = pending-more ∙ ap₂ (λ (a b : Bool). a && (b && behind_bodies)) good (sym behind-here)

      pub pending-behind : q ≡ false → false ≡ pending_part l v ys
      pending-behind j = sym (pending-last ∙ ap (λ (a : Bool). a && behind_bodies) j)

      pub pending-bodies : q ≡ true → (b : ℕ) → b ≡ body_at l k → (z : Bool) → z ≡ zeros (slice b (length ys) ys) → z ≡ pending_part l v ys
      pending-bodies j b be z ze =
          ze ∙ ap₂ (λ (i : ℕ) (y : List ℕ). zeros (drop i y)) be (take-length ys) ∙ sym (pending-last ∙ ap (λ (a : Bool). a && behind_bodies) j)
