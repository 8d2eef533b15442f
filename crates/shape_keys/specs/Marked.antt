-- The loop over the keys: what holds before each turn, a turn, its ends. Assumes nothing.
use Rattle.std.specs.Prelude.{◌≡◌, refl, Bool, false, cond, List, ℕ, suc, ◌+◌, ◌*◌, ◌≤◌, ◌<◌, eqb, length, get_or, set}
use Rattle.std.proofs.Common.{sym, ap, ◌∙◌, ⊎_elim, eq-or-lt_of_le, mul-le-mul_right, add-one, arith, get_or-set_same, get_or-set_other, eqb-true}
use Rattle.std.proofs.Math.Bool.{true}
use Rattle.std.proofs.Math.ListN.{length-set}
use Rattle.std.proofs.lemmas.Bool.{eqb-false}
use Rattle.operation.specs.Body.{each}
use Rattle.operation.proofs.ColumnsLaws.{stops}
use Rattle.layout.specs.Rows.{chunks}
use Rattle.shape_names.specs.NameScan.{absent}
use Rattle.shape_keys.specs.Keys.{mark, lone_in}
use Rattle.shape_keys.specs.Early.{key_at, early, lone-early, absent-all}

-- after i keys: no two of them are the same, and the mark of each is set
pub record Marked (w count : ℕ) (cs : List ℕ) (marks : List Bool) (i : ℕ) : Type 0 where
  pub few : i ≤ count
  pub room : length marks ≡ 256
  pub different : each (early w cs) i ≡ true
  pub each_set : (j : ℕ) → j < i → get_or marks (mark (key_at w cs j)) false ≡ true

no : false ≡ true → ⊥
no x = let y : ◌≡◌ {A = ℕ} 0 1 = cc in omega arith

module _ (w count : ℕ) (cs : List ℕ) (wide : 0 < w) (marks : List Bool) (i : ℕ) (r : Marked w count cs marks i) where
  pub marked_end : count ≤ i → true ≡ lone_in w count cs
  marked_end h =
      let e : i ≡ count = omega (arith, r.few) in
      sym (lone-early w wide count cs ∙ ap (each (early w cs)) (sym e) ∙ r.different)

  module _ (h : i < count) (key m : ℕ) (k : key ≡ key_at w cs i) (e : m ≡ mark key) (small : m < 256) (p : Bool) (q : p ≡ cond (get_or marks m false) (absent key (chunks w i cs)) true) where
    asked : cond (get_or marks m false) (absent key (chunks w i cs)) true ≡ absent key (chunks w i cs)
    asked = go (get_or marks m false) refl
      where
        go : (t : Bool) → get_or marks m false ≡ t → cond t (absent key (chunks w i cs)) true ≡ absent key (chunks w i cs)
        go true s = refl
        go false s =
            sym (absent-all w wide key i cs (λ j l z. no (sym s ∙ ap (λ (v : ℕ). get_or marks v false) (e ∙ ap mark (sym z)) ∙ r.each_set j l)))

    told : p ≡ early w cs i
    told = q ∙ asked ∙ ap (λ (v : ℕ). absent v (chunks w i cs)) k

    pub marked_no : p ≡ false → false ≡ lone_in w count cs
    marked_no f = sym (lone-early w wide count cs ∙ stops (early w cs) i count h (sym told ∙ f))

    -- a mark more
    still : (v : ℕ) → get_or marks v false ≡ true → get_or (set marks m true) v false ≡ true
    still v s = go (eqb v m) refl
      where
        go : (t : Bool) → eqb v m ≡ t → get_or (set marks m true) v false ≡ true
        go true z = ap (λ (u : ℕ). get_or (set marks m true) u false) (eqb-true v m z) ∙ get_or-set_same marks m true false (omega (arith, r.room))
        go false z = get_or-set_other marks m v true false (eqb-false v m z) ∙ s

    set-still : (j : ℕ) → j < i + 1 → get_or (set marks m true) (mark (key_at w cs j)) false ≡ true
    set-still j l =
        ⊎_elim (λ z. ap (λ (u : ℕ). get_or (set marks m true) u false) (ap (λ (j : ℕ). mark (key_at w cs j)) z ∙ ap mark (sym k) ∙ sym e) ∙ get_or-set_same marks m true false (omega (arith, r.room)))
        (λ z. still (mark (key_at w cs j)) (r.each_set j z))
        (eq-or-lt_of_le (below j l))
      where
        below : (j : ℕ) → j < i + 1 → j ≤ i
        below j l = omega arith

    pub marked_on : p ≡ true → Marked w count cs (set marks m true) (i + 1)
    unfolding each
    marked_on f = record {
      few = omega arith;
      room = length-set marks m true ∙ r.room;
      different = rw (add-one, r.different) (sym told ∙ f);
      each_set = set-still;
    }

-- block i of count blocks ends where they do, or before
pub within : (i count w : ℕ) → i < count → i * w + w ≤ count * w
within i count w h =
    let e : i * w + w ≡ suc i * w = omega arith in
    rw e (mul-le-mul_right w h)
