-- The rules on objects that stand one after another are those on the first a of them and those on the rest. Assumes nothing.
-- n is the number of readers, rc are their cells, xs the bytes of a + b objects.
use Rattle.std.specs.Prelude.{◌≡◌, Bool, ◌&&◌, List, [], ◌∷◌, ◌++◌, ℕ, zero, suc, ◌+◌, ◌*◌, ◌-◌, ◌/◌, ◌≤◌, length, take, drop}
use Rattle.std.proofs.Common.{sym, ap, ◌∙◌, arith, length-drop, take-append-drop, length-take-le}
use Rattle.std.proofs.Math.Bool.{and_assoc}
use Rattle.std.proofs.lemmas.List.{take-append-le, drop-append-le}
use Rattle.cells.specs.Cells.{cells}
use Rattle.cells.specs.CellLaws.{cells-take, cells-drop, length-cells}
use Rattle.model.specs.Lists.{all}
use Rattle.versions.specs.Block.{object_cells, chunks, object_ok, blocks_ok}

all-chunks : (f : List ℕ → Bool) (w a b : ℕ) (p q : List ℕ) → length p ≡ a * w → all f (chunks w (a + b) (p ++ q)) ≡ all f (chunks w a p) && all f (chunks w b q)
unfolding chunks
all-chunks f w zero b [] q e = let z : 0 + b ≡ b = omega arith in rw z
all-chunks f w zero b (x ∷ p) q e = absurd (omega (arith, e))
all-chunks f w (suc a) b p q e =
    let front = take-append-le w p q (omega (arith, e)) in
    let back = drop-append-le w p q (omega (arith, e)) in
    let rest = all-chunks f w a b (drop w p) q (length-drop w p ∙ omega (arith, e)) in
    let m : suc a + b ≡ suc (a + b) = omega arith in
    rw (m, front, back, rest) (sym (and_assoc (f (take w p)) (all f (chunks w a (drop w p))) (all f (chunks w b q))))

pub blocks-halves : (n timestamp : ℕ) (rc : List ℕ) (a b m : ℕ) (xs : List ℕ) → m ≡ a + b → length xs ≡ m * (object_cells n * 8)
    → blocks_ok n timestamp rc m (cells xs) ≡ blocks_ok n timestamp rc a (cells (take (a * (object_cells n * 8)) xs)) && blocks_ok n timestamp rc b (cells (drop (a * (object_cells n * 8)) xs))
unfolding blocks_ok
blocks-halves n timestamp rc a b m xs em ex =
    let w = object_cells n in
    let f = object_ok n timestamp rc in
    let bytes : a * (w * 8) ≡ a * w * 8 = omega arith in
    let all-bytes : length xs ≡ (a * w + b * w) * 8 = ex ∙ ap (◌* (w * 8)) em ∙ omega arith in
    let room : a * w ≤ length (cells xs) = omega (arith, length-cells xs, all-bytes) in
    let front : length (take (a * w) (cells xs)) ≡ a * w = length-take-le (a * w) (cells xs) room in
    rw (em, bytes, cells-take (a * w) xs, cells-drop (a * w) xs) (ap (λ x. all f (chunks w (a + b) x)) (sym (take-append-drop (a * w) (cells xs))) ∙ all-chunks f w a b (take (a * w) (cells xs)) (drop (a * w) (cells xs)) front)

-- n objects of w bytes: the first half of them, and the rest
pub half-bytes : (n w : ℕ) → n * w ≡ n / 2 * w + (n - n / 2) * w
half-bytes n w = let e : n ≡ n / 2 + (n - n / 2) = omega arith in ap (◌* w) e ∙ omega arith
