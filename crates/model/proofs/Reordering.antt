-- Lists in another order: what holds of every element, or of every two, holds there too. Assumes nothing.
use Rattle.std.specs.Prelude.{◌≡◌, refl, Bool, true, false, cond, suc, length}
use Rattle.std.proofs.Common.{ap, ◌∙◌, subst}
use mathlib.Core.List.{List, [], ◌∷◌, Permᴰ}
use Rattle.model.specs.Lists.{keep}
use Rattle.model.specs.ListLaws.{All}
use Rattle.model.proofs.ListLaws.{all_both}

module _ {A : Type 0} where
  -- the same elements in another order
  abbrev pub Permutation : List A → List A → Type 0
  Permutation xs ys = Permᴰ xs ys

  -- of each with all that come after it
  abbrev pub Pairwise : (A → A → Type 0) → List A → Type 0
  Pairwise R [] = Unit {0}
  Pairwise R (x ∷ l) = All (R x) l × Pairwise R l

  pub length-reordered : {xs ys : List A} → Permutation xs ys → length xs ≡ length ys
  length-reordered Permᴰ.nil = refl
  length-reordered (Permᴰ.cons e d) = ap suc (length-reordered d)
  length-reordered (Permᴰ.swap e f) = refl
  length-reordered (Permᴰ.trans d e) = length-reordered d ∙ length-reordered e

  pub all-reordered : (P : A → Type 0) {xs ys : List A} → Permutation xs ys → All P xs → All P ys
  all-reordered P Permᴰ.nil h = h
  all-reordered P (Permᴰ.cons e d) h = (subst P e h.0, all-reordered P d h.1)
  all-reordered P (Permᴰ.swap e f) h = (subst P f h.1.0, (subst P e h.0, h.1.1))
  all-reordered P (Permᴰ.trans d e) h = all-reordered P e (all-reordered P d h)

  pub pairwise-reordered : (R : A → A → Type 0) → ((x y : A) → R x y → R y x) → {xs ys : List A} → Permutation xs ys → Pairwise R xs → Pairwise R ys
  pairwise-reordered R s Permᴰ.nil h = h
  pairwise-reordered R s (Permᴰ.cons {a} {b} {l₁} {l₂} e d) h =
      (subst (λ (x : A). All (R x) l₂) e (all-reordered (R a) d h.0), pairwise-reordered R s d h.1)
  pairwise-reordered R s (Permᴰ.swap {a} {b} {a'} {b'} {l} e f) h =
      let passed : R a' b' = subst (λ (x : A). R x b') f (subst (R b) e (s a b h.0.0)) in
      ((passed, subst (λ (x : A). All (R x) l) f h.1.0), (subst (λ (x : A). All (R x) l) e h.0.1, h.1.1))
  pairwise-reordered R s (Permᴰ.trans d e) h = pairwise-reordered R s e (pairwise-reordered R s d h)

  -- another relation that holds where this one does, of elements of a kind
  pub pairwise-implies : (R S : A → A → Type 0) (P : A → Type 0) → ((x y : A) → P x → P y → R x y → S x y) → (l : List A) → All P l → Pairwise R l → Pairwise S l
  pairwise-implies R S P f [] p h = tt
  pairwise-implies R S P f (x ∷ l) p h = (all_both P (R x) (S x) l (λ y. f x y p.0) p.1 h.0, pairwise-implies R S P f l p.1 h.1)

  -- two tests may change places
  pub keep-swap : (p q : A → Bool) (xs : List A) → keep p (keep q xs) ≡ keep q (keep p xs)
  keep-swap p q [] = refl
  keep-swap p q (x ∷ xs) = by (p x) (q x) refl refl (keep-swap p q xs)
    where
      by : (b c : Bool) → p x ≡ b → q x ≡ c → keep p (keep q xs) ≡ keep q (keep p xs) → keep p (cond c (x ∷ keep q xs) (keep q xs)) ≡ keep q (cond b (x ∷ keep p xs) (keep p xs))
      by true true e f h = rw (e, f) (ap (x ∷◌) h)
      by true false e f h = rw f h
      by false true e f h = rw e h
      by false false e f h = h
