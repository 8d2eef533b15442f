-- None of the earlier keys in place of none of the later ones. Assumes nothing.
use Rattle.std.specs.Prelude.{◌≡◌, Bool, List, eqb, drop}
use Rattle.std.proofs.Math.Path.{refl, sym, ap, ap₂}
use Rattle.std.proofs.Common.{◌∙◌, get_or-drop, ne_eqb}
use Rattle.std.proofs.Math.Bool.{true, false, not, ◌&&◌}
use Prim.Native.Nat.{ℕ, zero, suc, ◌+◌, ◌-◌, ◌*◌, ◌<◌}
use native.Mathlib.Omega.{arith}
use Rattle.std.proofs.Math.ListN.{get_or}
use Rattle.operation.specs.Body.{each}
use Rattle.layout.specs.Rows.{chunks}
use Rattle.model.proofs.ListLaws.{eqb-sym}
use Rattle.shape_names.specs.NameScan.{absent}
use Rattle.shape_names.specs.NameTests.{absent-next}
use Rattle.shape_keys.specs.Keys.{lone_in}

-- the key of block i
abbrev pub key_at : ℕ → List ℕ → ℕ → ℕ
key_at w cs i = get_or cs (i * w) 0

-- no block before block i begins with its key
abbrev pub early : ℕ → List ℕ → ℕ → Bool
early w cs i = absent (key_at w cs i) (chunks w i cs)

shuffle : (a e x m : Bool) → ((a && e) && (x && m)) ≡ ((a && x) && (e && m))
shuffle false e x m = refl
shuffle true false false m = refl
shuffle true false true m = refl
shuffle true true x m = refl

module _ (w : ℕ) (wide : 0 < w) where
  -- the first block, and those behind it
  absent-first : (key n : ℕ) (cs : List ℕ) → absent key (chunks w (suc n) cs) ≡ not (eqb (get_or cs 0 0) key) && absent key (chunks w n (drop w cs))
  absent-first key n cs =
      let e : suc n - 1 ≡ n = omega arith in
      let z : 0 + w ≡ w = omega arith in
      absent-next w (suc n) 0 key cs wide (omega arith) ∙ ap₂ (λ (i j : ℕ). not (eqb (get_or cs 0 0) key) && absent key (chunks w i (drop j cs))) e z

  next-key : (cs : List ℕ) (i : ℕ) → key_at w (drop w cs) i ≡ key_at w cs (suc i)
  next-key cs i =
      let e : w + i * w ≡ suc i * w = omega arith in
      get_or-drop w cs (i * w) 0 ∙ ap (λ (j : ℕ). get_or cs j 0) e

  -- those before the last, and the last
  pub absent-last : (key n : ℕ) (cs : List ℕ) → absent key (chunks w (suc n) cs) ≡ absent key (chunks w n cs) && not (eqb (key_at w cs n) key)
  unfolding chunks
  absent-last key zero cs =
      let e : 0 ≡ 0 * w = omega arith in
      one (not (eqb (get_or cs 0 0) key)) (absent-first key 0 cs) ∙ ap (λ (j : ℕ). absent key (chunks w 0 cs) && not (eqb (get_or cs j 0) key)) e
    where
      one : (t : Bool) → absent key (chunks w 1 cs) ≡ t && absent key (chunks w 0 (drop w cs)) → absent key (chunks w 1 cs) ≡ absent key (chunks w 0 cs) && t
      one true e = e
      one false e = e
  absent-last key (suc n) cs =
      absent-first key (suc n) cs
      ∙ ap (λ (t : Bool). not (eqb (get_or cs 0 0) key) && t) (absent-last key n (drop w cs) ∙ ap (λ (k : ℕ). absent key (chunks w n (drop w cs)) && not (eqb k key)) (next-key cs n))
      ∙ grouped (not (eqb (get_or cs 0 0) key)) (absent key (chunks w n (drop w cs))) (not (eqb (key_at w cs (suc n)) key))
      ∙ ap (λ (t : Bool). t && not (eqb (key_at w cs (suc n)) key)) (sym (absent-first key n cs))
    where
      grouped : (a b c : Bool) → (a && (b && c)) ≡ ((a && b) && c)
      grouped true b c = refl
      grouped false b c = refl

  each_first : (n : ℕ) (cs : List ℕ) → each (early w cs) (suc n) ≡ absent (get_or cs 0 0) (chunks w n (drop w cs)) && each (early w (drop w cs)) n
  unfolding each chunks
  each_first zero cs = refl
  each_first (suc n) cs =
      let k = get_or cs 0 0 in
      let m = key_at w cs (suc n) in
      let a = absent k (chunks w n (drop w cs)) in
      let e = each (early w (drop w cs)) n in
      ap₂ ◌&&◌ (each_first n cs) (absent-first m n cs ∙ ap₂ (λ (t : Bool) (j : ℕ). not t && absent j (chunks w n (drop w cs))) (eqb-sym k m) (sym (next-key cs n)))
      ∙ shuffle a e (not (eqb m k)) (early w (drop w cs) n)
      ∙ ap (λ (t : Bool). t && (e && early w (drop w cs) n)) (sym (absent-last k n (drop w cs) ∙ ap (λ (j : ℕ). a && not (eqb j k)) (next-key cs n)))

  pub lone-early : (n : ℕ) (cs : List ℕ) → lone_in w n cs ≡ each (early w cs) n
  unfolding each lone_in
  lone-early zero cs = refl
  lone-early (suc n) cs =
      ap (λ (t : Bool). absent (get_or cs 0 0) (chunks w n (drop w cs)) && t) (lone-early n (drop w cs)) ∙ sym (each_first n cs)

  -- none of the blocks has the key
  pub absent-all : (key n : ℕ) (cs : List ℕ) → ((i : ℕ) → i < n → key_at w cs i ≡ key → ⊥) → absent key (chunks w n cs) ≡ true
  unfolding chunks
  absent-all key zero cs h = refl
  absent-all key (suc n) cs h =
      absent-last key n cs
      ∙ ap₂ (λ (s t : Bool). s && not t) (absent-all key n cs (λ i l. h i (omega arith))) (ne_eqb (key_at w cs n) key (h n (omega arith)))
