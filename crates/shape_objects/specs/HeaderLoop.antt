-- One turn of the loop over cells, and its end. Assumes nothing.
use Rattle.std.specs.Prelude.{◌≡◌, Bool, true, false, ◌&&◌, List, ℕ, ◌+◌, ◌*◌, ◌≤◌, ◌<◌, ltb, length, drop, get_or}
use Rattle.std.proofs.Common.{sym, ap, ◌∙◌, lt-ltb, le-ltb}
use Rattle.cells.specs.Cells.{cells}
use Rattle.cells.specs.CellLaws.{cells-next, cells-end}
use Rattle.shape_objects.specs.ObjectScan.{below}

module _ (xs : List ℕ) (n : ℕ) (len : length xs ≡ n * 8) (b i : ℕ) where
  module _ (h : i < n) (v : ℕ) (e : v ≡ get_or (cells xs) i 0) where
    pub below_on : v < b → below b (drop i (cells xs)) ≡ below b (drop (i + 1) (cells xs))
    below_on k = ap (below b) (cells-next n xs len i h) ∙ ap (λ (t : Bool). t && below b (drop (i + 1) (cells xs))) (ap (λ (x : ℕ). ltb x b) (sym e) ∙ lt-ltb v b k)

    pub below-no : b ≤ v → below b (drop i (cells xs)) ≡ false
    below-no k = ap (below b) (cells-next n xs len i h) ∙ ap (λ (t : Bool). t && below b (drop (i + 1) (cells xs))) (ap (λ (x : ℕ). ltb x b) (sym e) ∙ le-ltb v b k)

  pub below_end : n ≤ i → below b (drop i (cells xs)) ≡ true
  below_end h = ap (below b) (cells-end n xs len i h)
