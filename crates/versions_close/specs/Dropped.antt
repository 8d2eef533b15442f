-- A block without one version: its cells, and what the stores leave. Assumes nothing.
use Rattle.std.specs.Prelude.{◌≡◌, get_or, take, replicate}
use Rattle.std.proofs.Math.Path.{sym, ap}
use Rattle.std.proofs.Common.{◌∙◌, drop_of_length-le, take_all, of_z}
use mathlib.Core.List.{List, [], ◌∷◌, ◌++◌, append_assoc}
use Prim.Native.Nat.{ℕ, zero, suc, ◌+◌, ◌*◌, ◌-◌, ◌≤◌, ◌<◌}
use native.Mathlib.Omega.{arith}
use Rattle.std.proofs.Math.ListN.{length, drop, set, length-append, length-drop}
use Rattle.std.proofs.lemmas.List.{replicate-append-replicate}
use Rattle.std.proofs.Math.Seq.{take_at, length-take-le}
use Rattle.std.specs.Int.{w64}
use Rattle.cells.specs.Cells.{cells, uncells, splice, Below}
use Rattle.cells.specs.CellLaws.{uncells-cells, length_cells-whole}
use Rattle.cells.specs.Splice.{length-splice}
use Rattle.cells.specs.BlockMoves.{cells-move, cells-fill}
use Rattle.model.specs.Serial.{Version}
use Rattle.versions.specs.Block.{width, flat, block}
use Rattle.versions_close.specs.Closing.{less_one}
use Rattle.versions_close.specs.Seen.{without}

cut_flat : (j : ℕ) (vs : List Version) (ts us : List ℕ) → j < length vs → take (2 * j) (flat vs ++ ts) ++ (drop (2 + 2 * j) (flat vs ++ ts) ++ us) ≡ flat (without j vs) ++ (ts ++ us)
unfolding flat without
cut_flat j [] ts us h = absurd (omega arith)
cut_flat zero (v ∷ vs) ts us h = append_assoc (flat vs) ts us
cut_flat (suc j) (v ∷ vs) ts us h =
    let a : 2 * suc j ≡ suc (suc (2 * j)) = omega arith in
    let b : 2 + 2 * suc j ≡ suc (suc (2 + 2 * j)) = omega arith in
    rw (b, a) (ap (λ (l : List ℕ). v.stamp ∷ of_z w64 v.value ∷ l) (cut_flat j vs ts us (omega arith)))

length_without : (j : ℕ) (vs : List Version) → j < length vs → length (without j vs) + 1 ≡ length vs
unfolding without
length_without j [] h = absurd (omega arith)
length_without zero (v ∷ vs) h = omega arith
length_without (suc j) (v ∷ vs) h = let e = length_without j vs (omega arith) in omega arith

pub less_block : (n j : ℕ) (vs : List Version) → j < length vs → length vs ≤ suc n → less_one n j (block n vs) ≡ block n (without j vs)
unfolding less_one block
less_block n j vs h l =
    let z : ℕ = 0 in
    let w = length_without j vs h in
    let a : length vs - 1 ≡ length (without j vs) = omega arith in
    let b : 3 + 2 * j ≡ suc (2 + 2 * j) = omega arith in
    let d : 2 * (suc n - length vs) + 2 ≡ 2 * (suc n - length (without j vs)) = omega arith in
    let zeroes = replicate-append-replicate (2 * (suc n - length vs)) 2 z ∙ ap (λ (m : ℕ). replicate m z) d in
    rw (b, a)
    (ap (λ (ts : List ℕ). length (without j vs) ∷ ts) (cut_flat j vs (replicate (2 * (suc n - length vs)) z) (z ∷ z ∷ []) h ∙ ap (flat (without j vs) ++◌) zeroes))

-- what the stores leave: xs are the bytes at the start, then version j is overwritten, the last two cells are 0, and the count is one less
module _ (n j : ℕ) (xs zs bs ys : List ℕ) (size : length xs ≡ width n * 8) (low : j ≤ n)
    (ea : cells zs ≡ splice (cells xs) (1 + 2 * j) (take (2 * n - 2 * j) (drop (3 + 2 * j) (cells xs))))
    (eb : cells bs ≡ splice (cells zs) (1 + 2 * n) (0 ∷ 0 ∷ [])) where
  whole : length (cells xs) ≡ width n
  whole = length_cells-whole (width n) xs size

  front : cells zs ≡ (take (1 + 2 * j) (cells xs) ++ drop (3 + 2 * j) (cells xs)) ++ drop (1 + 2 * n) (cells xs)
  unfolding splice
  front =
      let l : length (drop (3 + 2 * j) (cells xs)) ≡ 2 * n - 2 * j = length-drop (3 + 2 * j) (cells xs) ∙ (let k = whole in omega arith) in
      let e : 1 + 2 * j + (2 * n - 2 * j) ≡ 1 + 2 * n = omega arith in
      ea ∙ rw (take_all (2 * n - 2 * j) (drop (3 + 2 * j) (cells xs)) (omega arith), l, e) (sym (append_assoc (take (1 + 2 * j) (cells xs)) (drop (3 + 2 * j) (cells xs)) (drop (1 + 2 * n) (cells xs))))

  behind : cells bs ≡ take (1 + 2 * j) (cells xs) ++ (drop (3 + 2 * j) (cells xs) ++ (0 ∷ 0 ∷ []))
  unfolding splice
  behind =
      let k = whole in
      let t : length (take (1 + 2 * j) (cells xs)) ≡ 1 + 2 * j = length-take-le (1 + 2 * j) (cells xs) (omega arith) in
      let d : length (drop (3 + 2 * j) (cells xs)) ≡ 2 * n - 2 * j = length-drop (3 + 2 * j) (cells xs) ∙ omega arith in
      let r : length (drop (1 + 2 * n) (cells xs)) ≡ 2 = length-drop (1 + 2 * n) (cells xs) ∙ omega arith in
      let l : length (take (1 + 2 * j) (cells xs) ++ drop (3 + 2 * j) (cells xs)) ≡ 1 + 2 * n = rw (length-append, t, d) (omega arith) in
      let m : length (cells zs) ≤ 1 + 2 * n + 2 = rw (front, length-append, l, r) (omega arith) in
      let zeroes : List ℕ = 0 ∷ 0 ∷ [] in
      eb
      ∙ rw (drop_of_length-le (cells zs) m)
      (ap (◌++ (0 ∷ 0 ∷ [])) (ap (take (1 + 2 * n)) front ∙ take_at (take (1 + 2 * j) (cells xs) ++ drop (3 + 2 * j) (cells xs)) (drop (1 + 2 * n) (cells xs)) (1 + 2 * n) l)
      ∙ append_assoc (take (1 + 2 * j) (cells xs)) (drop (3 + 2 * j) (cells xs)) (0 ∷ 0 ∷ []))

  dropped : (k : ℕ) → k ≡ get_or (cells xs) 0 0 → cells ys ≡ set (cells bs) 0 (k - 1) → length ys ≡ width n * 8 → Below 256 ys → ys ≡ uncells (less_one n j (cells xs))
  unfolding less_one
  dropped k ek ey l b =
      let done : cells ys ≡ less_one n j (cells xs) = ey ∙ rw (behind, ek) (head (cells xs) (let w = whole in omega arith)) in
      sym (uncells-cells ys (width n) b l) ∙ ap uncells done
    where
      head : (cs : List ℕ) → 0 < length cs → set (take (1 + 2 * j) cs ++ (drop (3 + 2 * j) cs ++ (0 ∷ 0 ∷ []))) 0 (get_or cs 0 0 - 1) ≡ (get_or cs 0 0 - 1) ∷ (take (2 * j) (drop 1 cs) ++ (drop (3 + 2 * j) cs ++ (0 ∷ 0 ∷ [])))
      head [] h = absurd (omega arith)
      head (c ∷ cs) h = let e : 1 + 2 * j ≡ suc (2 * j) = omega arith in rw e

pub dropped_stores : (n j : ℕ) (xs zs bs ys : List ℕ) → length xs ≡ width n * 8 → j ≤ n
    → zs ≡ splice xs ((1 + 2 * j) * 8) (take ((1 + 2 * n) * 8 - (1 + 2 * j) * 8) (drop ((1 + 2 * j) * 8 + 16) xs))
    → bs ≡ splice zs ((1 + 2 * n) * 8) (replicate ((1 + 2 * n) * 8 + 16 - (1 + 2 * n) * 8) 0)
    → (k : ℕ) → k ≡ get_or (cells xs) 0 0 → cells ys ≡ set (cells bs) 0 (k - 1) → length ys ≡ width n * 8 → Below 256 ys → ys ≡ uncells (less_one n j (cells xs))
dropped_stores n j xs zs bs ys size low ea eb k ek ey l b =
    let e1 : (1 + 2 * n) * 8 - (1 + 2 * j) * 8 ≡ (2 * n - 2 * j) * 8 = omega arith in
    let e2 : (1 + 2 * j) * 8 + 16 ≡ (3 + 2 * j) * 8 = omega arith in
    let e3 : (1 + 2 * n) * 8 + 16 ≡ (3 + 2 * n) * 8 = omega arith in
    let e4 : 3 + 2 * n - (1 + 2 * n) ≡ 2 = omega arith in
    let part : length (take ((2 * n - 2 * j) * 8) (drop ((3 + 2 * j) * 8) xs)) ≡ (2 * n - 2 * j) * 8 = length-take-le ((2 * n - 2 * j) * 8) (drop ((3 + 2 * j) * 8) xs) (rw length-drop (omega arith)) in
    let ez : zs ≡ splice xs ((1 + 2 * j) * 8) (take ((2 * n - 2 * j) * 8) (drop ((3 + 2 * j) * 8) xs)) = ea ∙ rw (e1, e2) in
    let lz : length zs ≡ width n * 8 = ap length ez ∙ length-splice xs ((1 + 2 * j) * 8) (take ((2 * n - 2 * j) * 8) (drop ((3 + 2 * j) * 8) xs)) (omega arith) ∙ size in
    dropped n j xs zs bs ys size low (ap cells ez ∙ cells-move xs (1 + 2 * j) (3 + 2 * j) (2 * n - 2 * j) (omega arith) (omega arith))
    (ap cells eb ∙ rw e3 (cells-fill zs (1 + 2 * n) (3 + 2 * n) (omega arith) (omega arith) ∙ rw e4)) k ek ey l b
