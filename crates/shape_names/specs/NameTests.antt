-- One turn of the loop over entries, and its end; up to four without a loop. Assumes nothing.
use Rattle.std.specs.Prelude.{◌≡◌, Bool, ◌&&◌, ◌||◌, List, [], ◌∷◌, ℕ, zero, suc, ◌+◌, ◌-◌, ◌*◌, ◌≤◌, ◌<◌, eqb, leb, ltb, length, take, drop}
use Rattle.std.proofs.Math.Path.{refl, sym, ap}
use Rattle.std.proofs.Common.{ap₂, ◌∙◌, length-drop, take_all, get_or-take, drop-drop, lt-ltb, le-ltb, le-leb, ltb-true, ltb-false}
use Rattle.std.proofs.Math.Bool.{true, false, not, and-true}
use native.Mathlib.Omega.{arith}
use Rattle.std.proofs.Math.ListN.{get_or}
use Rattle.std.proofs.Math.Seq.{get_or-drop}
use Rattle.std.proofs.lemmas.Bool.{lt-leb}
use Rattle.cells.specs.Cells.{cells}
use Rattle.cells.specs.CellLaws.{cells-drop}
use Rattle.model.specs.Lists.{any, index}
use Rattle.model.proofs.ListLaws.{any-index, eqb-sym}
use Rattle.layout.specs.Rows.{chunks}
use Rattle.layout.specs.RowKeys.{keys}
use Rattle.layout.proofs.RowKeysLaws.{length-keys}
use Rattle.shape_names.specs.NameScan.{absent, names_in}

-- ---- blocks that do not begin with a key

first_cell : (w at : ℕ) (cs : List ℕ) → 0 < w → get_or (take w (drop at cs)) 0 0 ≡ get_or cs at 0
first_cell w at cs h =
    let z : at + 0 ≡ at = omega arith in
    get_or-take w (drop at cs) 0 0 h ∙ get_or-drop at cs 0 0 ∙ ap (λ (i : ℕ). get_or cs i 0) z

module _ (w left at key : ℕ) (cs : List ℕ) (wide : 0 < w) where
  pub absent-next : 0 < left → absent key (chunks w left (drop at cs)) ≡ not (eqb (get_or cs at 0) key) && absent key (chunks w (left - 1) (drop (at + w) cs))
  unfolding chunks
  absent-next h = go' left h
    where
      split : (a b : Bool) → not (a || b) ≡ not a && not b
      split true b = refl
      split false b = refl

      go' : (left : ℕ) → 0 < left → absent key (chunks w left (drop at cs)) ≡ not (eqb (get_or cs at 0) key) && absent key (chunks w (left - 1) (drop (at + w) cs))
      go' zero h = absurd (omega arith)
      go' (suc k) h =
          let e : k ≡ suc k - 1 = omega arith in
          ap (λ (v : ℕ). absent key ((v ∷ []) ∷ chunks w k (drop w (drop at cs)))) (first_cell w at cs wide)
          ∙ split (eqb (get_or cs at 0) key) (any (λ r. eqb (get_or r 0 0) key) (chunks w k (drop w (drop at cs))))
          ∙ ap₂ (λ (i : ℕ) (ds : List ℕ). not (eqb (get_or cs at 0) key) && absent key (chunks w i ds)) e (drop-drop w at cs)

not-below : (i n : ℕ) → not (ltb i n) ≡ leb n i
not-below i n = go' (ltb i n) refl
  where
    go' : (t : Bool) → ltb i n ≡ t → not t ≡ leb n i
    go' true e = sym (lt-leb n i (ltb-true i n e))
    go' false e = sym (le-leb n i (ltb-false i n e))

-- a block begins with the key where its first cell is among the keys
any-keys : (w n key : ℕ) (cs : List ℕ) → 0 < w → any (λ r. eqb (get_or r 0 0) key) (chunks w n cs) ≡ any (eqb key) (keys w n cs)
unfolding chunks keys
any-keys w zero key cs wide = refl
any-keys w (suc n) key cs wide =
    ap₂ ◌||◌ (ap (λ (v : ℕ). eqb v key) (get_or-take w cs 0 0 wide) ∙ eqb-sym (get_or cs 0 0) key) (any-keys w n key (drop w cs) wide)

pub absent-index : (w n key : ℕ) (cs : List ℕ) → 0 < w → absent key (chunks w n cs) ≡ leb n (index (eqb key) (keys w n cs))
absent-index w n key cs wide =
    let ks = keys w n cs in
    ap not (any-keys w n key cs wide ∙ any-index (eqb key) ks ∙ ap (λ (k : ℕ). ltb (index (eqb key) ks) k) (length-keys w n cs))
    ∙ not-below (index (eqb key) ks) n

-- ---- entries

module _ (n left at : ℕ) (cs : List ℕ) where
  pub names-next : 0 < left → names_in n left (drop at cs) ≡ ltb (get_or cs at 0) n && (absent (get_or cs at 0) (chunks 2 (left - 1) (drop (at + 2) cs)) && names_in n (left - 1) (drop (at + 2) cs))
  unfolding names_in
  names-next h = go' left h
    where
      here : get_or (drop at cs) 0 0 ≡ get_or cs at 0
      here = let z : at + 0 ≡ at = omega arith in get_or-drop at cs 0 0 ∙ ap (λ (i : ℕ). get_or cs i 0) z

      go' : (left : ℕ) → 0 < left → names_in n left (drop at cs) ≡ ltb (get_or cs at 0) n && (absent (get_or cs at 0) (chunks 2 (left - 1) (drop (at + 2) cs)) && names_in n (left - 1) (drop (at + 2) cs))
      go' zero h = absurd (omega arith)
      go' (suc k) h =
          let e : k ≡ suc k - 1 = omega arith in
          ap₂ (λ (o : ℕ) (ds : List ℕ). ltb o n && (absent o (chunks 2 k ds) && names_in n k ds)) here (drop-drop 2 at cs)
          ∙ ap (λ (i : ℕ). ltb (get_or cs at 0) n && (absent (get_or cs at 0) (chunks 2 i (drop (at + 2) cs)) && names_in n i (drop (at + 2) cs))) e

  module _ (h : 0 < left) (o : ℕ) (e : o ≡ get_or cs at 0) where
    abbrev after : Bool → Bool → Bool
    after t u = t && (u && names_in n (left - 1) (drop (at + 2) cs))

    abbrev later : Bool
    later = absent o (chunks 2 (left - 1) (drop (at + 2) cs))

    named : names_in n left (drop at cs) ≡ after (ltb o n) later
    named = names-next h ∙ ap (λ (x : ℕ). after (ltb x n) (absent x (chunks 2 (left - 1) (drop (at + 2) cs)))) (sym e)

    pub names-high : n ≤ o → names_in n left (drop at cs) ≡ false
    names-high k = named ∙ ap (λ (t : Bool). after t later) (le-ltb o n k)

    module _ (k : o < n) (r : Bool) (d : r ≡ later) where
      pub names-twice : r ≡ false → names_in n left (drop at cs) ≡ false
      names-twice f = named ∙ ap₂ after (lt-ltb o n k) (sym d ∙ f)

      pub names-on : r ≡ true → names_in n left (drop at cs) ≡ names_in n (left - 1) (drop (at + 2) cs)
      names-on f = named ∙ ap₂ after (lt-ltb o n k) (sym d ∙ f)

  pub names-end : left ≤ 0 → names_in n left (drop at cs) ≡ true
  unfolding names_in
  names-end h = let e : left ≡ 0 = omega arith in ap (λ (k : ℕ). names_in n k (drop at cs)) e

-- one, two, three and four entries, without a loop
pub one_name : (n : ℕ) (cs : List ℕ) (a : ℕ) → a ≡ get_or cs 0 0 → ltb a n ≡ names_in n 1 cs
unfolding names_in chunks
one_name n cs a p = ap (λ (v : ℕ). ltb v n) p ∙ sym (and-true (ltb (get_or cs 0 0) n))

module _ (n at : ℕ) (cs : List ℕ) (a b : ℕ) (p : a ≡ get_or cs at 0) (q : b ≡ get_or cs (at + 2) 0) where
  -- the entries after the first, beginning with b
  other : (k : ℕ) → absent a (chunks 2 (suc k) (drop (at + 2) cs)) ≡ not (eqb b a) && absent a (chunks 2 k (drop (at + 2 + 2) cs))
  other k =
      let e : suc k - 1 ≡ k = omega arith in
      absent-next 2 (suc k) (at + 2) a cs (omega arith) (omega arith) ∙ ap₂ (λ (v i : ℕ). not (eqb v a) && absent a (chunks 2 i (drop (at + 2 + 2) cs))) (sym q) e

  first : (k : ℕ) → names_in n (suc k) (drop at cs) ≡ ltb a n && (absent a (chunks 2 k (drop (at + 2) cs)) && names_in n k (drop (at + 2) cs))
  first k =
      let e : suc k - 1 ≡ k = omega arith in
      names-next n (suc k) at cs (omega arith) ∙ ap₂ (λ (v i : ℕ). ltb v n && (absent v (chunks 2 i (drop (at + 2) cs)) && names_in n i (drop (at + 2) cs))) (sym p) e

  pub two-names : (ltb a n && (not (eqb b a) && ltb b n)) ≡ names_in n 2 (drop at cs)
  unfolding names_in chunks
  two-names =
      sym (first 1 ∙ rw (other 0, names-next n 1 (at + 2) cs (omega arith), ← q, and-true (not (eqb b a)), and-true (ltb b n)))

  module _ (c : ℕ) (r : c ≡ get_or cs (at + 4) 0) where
    third : (k : ℕ) → absent a (chunks 2 (suc k) (drop (at + 2 + 2) cs)) ≡ not (eqb c a) && absent a (chunks 2 k (drop (at + 2 + 2 + 2) cs))
    third k =
        let e : suc k - 1 ≡ k = omega arith in
        let i : at + 4 ≡ at + 2 + 2 = omega arith in
        absent-next 2 (suc k) (at + 2 + 2) a cs (omega arith) (omega arith)
        ∙ ap₂ (λ (v j : ℕ). not (eqb v a) && absent a (chunks 2 j (drop (at + 2 + 2 + 2) cs))) (sym (r ∙ ap (λ (j : ℕ). get_or cs j 0) i)) e

    module _ (t : Bool) where
      pub three-names : t ≡ names_in n 2 (drop (at + 2) cs) → (ltb a n && ((not (eqb b a) && not (eqb c a)) && t)) ≡ names_in n 3 (drop at cs)
      unfolding chunks
      three-names h = sym (first 2 ∙ rw (other 1, third 0, ← h, and-true (not (eqb c a))))

      pub four_names : (d : ℕ) → d ≡ get_or cs (at + 6) 0 → t ≡ names_in n 3 (drop (at + 2) cs) → (ltb a n && ((not (eqb b a) && (not (eqb c a) && not (eqb d a))) && t)) ≡ names_in n 4 (drop at cs)
      unfolding chunks
      four_names d s h =
          let i : at + 6 ≡ at + 2 + 2 + 2 = omega arith in
          let v : d ≡ get_or cs (at + 2 + 2 + 2) 0 = s ∙ ap (λ (j : ℕ). get_or cs j 0) i in
          sym (first 3 ∙ rw (other 2, third 1, absent-next 2 1 (at + 2 + 2 + 2) a cs (omega arith) (omega arith), ← v, ← h, and-true (not (eqb d a))))

-- ---- parts of an area, as the code lends them

-- from a cell on
pub rest-cells : (xs : List ℕ) (i : ℕ) → cells (take (length xs - i * 8) (drop (i * 8) xs)) ≡ drop i (cells xs)
rest-cells xs i =
    ap cells (take_all (length xs - i * 8) (drop (i * 8) xs) (omega (arith, length-drop (i * 8) xs))) ∙ cells-drop i xs
