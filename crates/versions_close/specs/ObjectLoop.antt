-- All objects, one after another: a turn of the loop, and its end. Assumes nothing.
use Rattle.std.specs.Prelude.{◌≡◌, List, ◌++◌, ℕ, zero, suc, ◌+◌, ◌*◌, ◌-◌, ◌≤◌, ◌<◌, length, take, drop}
use Rattle.std.proofs.Common.{sym, ap, ◌∙◌, append_assoc, append-nil, arith, length-append, take-take, drop-drop, take_all, length-take-le}
use Rattle.std.proofs.Math.Seq.{take-append-add, drop-append-add}
use Rattle.cells.specs.Cells.{cells}
use Rattle.cells.specs.CellLaws.{cells-take, cells-drop}
use Rattle.versions.specs.Block.{width, object_cells, chunks}
use Rattle.versions_close.specs.Closing.{Checked, AllChecked, pruned_block, pruned}

-- the first object, and those behind it
checked-step : (n c : ℕ) (rc : List ℕ) (m : ℕ) (xs : List ℕ) → 0 < m → AllChecked n c rc m (cells xs)
    → Checked n c rc (cells (take (width n * 8) xs)) × AllChecked n c rc (m - 1) (cells (drop (object_cells n * 8) xs))
unfolding chunks
checked-step n c rc zero xs h a = absurd (omega arith)
checked-step n c rc (suc m) xs h a =
    let e : suc m - 1 ≡ m = omega arith in
    rw (e, cells-take (width n) xs, cells-drop (object_cells n) xs, ← take-take (width n) (object_cells n) (cells xs) (omega arith)) a

pruned-step : (n : ℕ) (rc : List ℕ) (m : ℕ) (xs : List ℕ) → 0 < m → pruned n rc m xs
    ≡ pruned_block n rc (take (width n * 8) xs) ++ (take 16 (drop (width n * 8) xs) ++ pruned n rc (m - 1) (drop (object_cells n * 8) xs))
unfolding pruned
pruned-step n rc zero xs h = absurd (omega arith)
pruned-step n rc (suc m) xs h = let e : suc m - 1 ≡ m = omega arith in rw e

-- ys are the bytes now, xs those at the start: what is in front is done, from at on nothing has changed, and the blocks left passed the check
pub record Pruning (n c : ℕ) (rc xs ys : List ℕ) (at left : ℕ) (target : List ℕ) : Type 0 where
  pub ahead : drop at ys ≡ drop at xs
  pub done : take at ys ++ pruned n rc left (drop at xs) ≡ target
  pub checked : AllChecked n c rc left (cells (drop at xs))

module _ (n c : ℕ) (rc xs ys : List ℕ) (at left : ℕ) (target : List ℕ) (p : Pruning n c rc xs ys at left target) (h : 0 < left) where
  step : Checked n c rc (cells (take (width n * 8) (drop at xs))) × AllChecked n c rc (left - 1) (cells (drop (object_cells n * 8) (drop at xs)))
  step = checked-step n c rc left (drop at xs) h p.checked

  -- the part lent is k bytes long
  module _ (k : ℕ) (e : k ≡ width n * 8) where
    pub pruning_part : Checked n c rc (cells (take k (drop at ys)))
    pruning_part = rw (e, p.ahead) step.0

    -- it came back as vs, and the next object begins at next, behind the bounds
    pub pruning_next : (vs zs : List ℕ) (next : ℕ) → next ≡ at + object_cells n * 8 → next ≤ length ys → length vs ≡ k → vs ≡ pruned_block n rc (take k (drop at ys))
        → zs ≡ take at ys ++ (vs ++ drop k (drop at ys)) → Pruning n c rc xs zs next (left - 1) target
    pruning_next vs zs next en fits lv ev ez =
        let w : ℕ = width n * 8 in
        let front : List ℕ = take at ys ++ vs in
        let behind : List ℕ = drop w (drop at xs) in
        let t : length (take at ys) ≡ at = length-take-le at ys (omega arith) in
        let j : next ≡ length front + 16 = rw (length-append, t, lv, e) (omega arith) in
        let b : w + 16 ≡ object_cells n * 8 = omega arith in
        let q : zs ≡ front ++ behind = ez ∙ rw (e, p.ahead) (sym (append_assoc (take at ys) vs behind)) in
        let d : drop (object_cells n * 8) (drop at xs) ≡ drop next xs = drop-drop (object_cells n * 8) at xs ∙ ap (λ (i : ℕ). drop i xs) (sym en) in
        let v : vs ≡ pruned_block n rc (take w (drop at xs)) = ev ∙ rw (e, p.ahead) in
        let passed : take next zs ≡ front ++ take 16 behind = rw (q, j) (take-append-add front behind 16) in
        let left_over : drop next zs ≡ drop 16 behind = rw (q, j) (drop-append-add front behind 16) in
        record {
          ahead = left_over ∙ drop-drop 16 w (drop at xs) ∙ ap (λ (i : ℕ). drop i (drop at xs)) b ∙ d;
          done = rw passed (simp append_assoc (rw (pruned-step n rc left (drop at xs) h, ← v, d) at p.done));
          checked = rw (← d) step.1;
        }

pub pruning_end : (n c : ℕ) (rc xs ys : List ℕ) (at left : ℕ) (target : List ℕ) → Pruning n c rc xs ys at left target → left ≤ 0 → length ys ≤ at → ys ≡ target
unfolding pruned
pruning_end n c rc xs ys at zero target p z l = sym (take_all at ys l) ∙ sym (append-nil (take at ys)) ∙ p.done
pruning_end n c rc xs ys at (suc left) target p z l = absurd (omega arith)
