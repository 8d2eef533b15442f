-- Sets of entries by their objects: two with no object in common, and what holds of every object of one. Assumes nothing.
use Rattle.std.specs.Prelude.{◌≡◌, refl, ◌⊎◌, Bool, true, false, cond, List, [], ◌∷◌, ℕ, ℤ, eqb}
use Rattle.std.proofs.Common.{sym, ap, ◌∙◌, inl, inr, true≢false, eq-eqb, eqb-true, ne_eqb}
use Rattle.std.proofs.lemmas.Bool.{false≢true, not-true}
use Rattle.std.proofs.Math.Option.{Option, none, some}
use Rattle.execution.specs.Entries.{Entry, lookup, append}
use Rattle.model.specs.Lists.{any}
use Rattle.model.proofs.Tests.{neither}
use Rattle.model.specs.Serial.{is_some}
use Rattle.model.specs.Exchange.{disjoint}

-- its object is one of the set's
abbrev is_in : List Entry → Entry → Bool
is_in es x = is_some (lookup es x.object)

-- an entry more hides none
pub lookup-later : (x : Entry) (es : List Entry) (o : ℕ) → is_some (lookup es o) ≡ true → is_some (lookup (x ∷ es) o) ≡ true
lookup-later x es o s = by (eqb x.object o)
  where
    by : (b : Bool) → is_some (cond b (some x.value) (lookup es o)) ≡ true
    by true = refl
    by false = s

-- ---- no object in common

abbrev pub Disjoint : List Entry → List Entry → Type 0
Disjoint xs ys = (o : ℕ) → (lookup xs o ≡ none) ⊎ (lookup ys o ≡ none)

pub disjoint-says : (xs ys : List Entry) → disjoint xs ys ≡ true → Disjoint xs ys
unfolding disjoint
disjoint-says xs ys e o = by (lookup ys o) refl
  where
    absent : (l : List Entry) → any (is_in ys) l ≡ false → is_some (lookup ys o) ≡ true → lookup l o ≡ none
    absent [] h s = refl
    absent (x ∷ l) h s =
        let k = neither (is_in ys x) (any (is_in ys) l) h in
        rw (ne_eqb x.object o (λ q. false≢true (sym k.0 ∙ ap (λ (i : ℕ). is_some (lookup ys i)) q ∙ s))) (absent l k.1 s)

    by : (k : Option ℤ) → lookup ys o ≡ k → (lookup xs o ≡ none) ⊎ (lookup ys o ≡ none)
    by none q = inr q
    by (some v) q = inl (absent xs (not-true (any (is_in ys) xs) e) (ap is_some q))

pub disjoint-sym : (xs ys : List Entry) → Disjoint xs ys → Disjoint ys xs
disjoint-sym xs ys h o = by (h o)
  where
    by : (lookup xs o ≡ none) ⊎ (lookup ys o ≡ none) → (lookup ys o ≡ none) ⊎ (lookup xs o ≡ none)
    by (inl e) = inr e
    by (inr e) = inl e

-- an object of the one is none of the other
pub not_in : (xs ys : List Entry) → Disjoint xs ys → (o : ℕ) → is_some (lookup ys o) ≡ true → lookup xs o ≡ none
not_in xs ys h o s = by (h o)
  where
    by : (lookup xs o ≡ none) ⊎ (lookup ys o ≡ none) → lookup xs o ≡ none
    by (inl e) = e
    by (inr e) = absurd (false≢true (sym (ap is_some e) ∙ s))

-- ---- a fact of every object that a set names

abbrev pub OnEach : (ℕ → Bool) → List Entry → Type 0
OnEach f es = (o : ℕ) → is_some (lookup es o) ≡ true → f o ≡ true

pub on_each_append : (f : ℕ → Bool) (es : List Entry) (o : ℕ) (v : ℤ) → f o ≡ true → OnEach f es → OnEach f (append es o v)
on_each_append f [] o v e h i = by (eqb o i) refl
  where
    by : (b : Bool) → eqb o i ≡ b → is_some (cond b (some v) none) ≡ true → f i ≡ true
    by true q s = ap f (sym (eqb-true o i q)) ∙ e
    by false q s = absurd (false≢true s)
on_each_append f (x ∷ es) o v e h i =
    by (eqb x.object i) refl (on_each_append f es o v e (λ k s. h k (lookup-later x es k s)) i)
  where
    by : (b : Bool) → eqb x.object i ≡ b → (is_some (lookup (append es o v) i) ≡ true → f i ≡ true)
        → is_some (cond b (some x.value) (lookup (append es o v) i)) ≡ true → f i ≡ true
    by true q k s = h i (rw q)
    by false q k s = k s

-- where the facts exclude each other, so do the sets
module _ (f g : ℕ → Bool) (ys : List Entry) (k : OnEach g ys) (exclude : (o : ℕ) → f o ≡ true → g o ≡ false) where
  nowhere : (xs : List Entry) → OnEach f xs → any (is_in ys) xs ≡ false
  nowhere [] h = refl
  nowhere (x ∷ xs) h = rw (absent (is_in ys x) refl) (nowhere xs (λ o s. h o (lookup-later x xs o s)))
    where
      absent : (b : Bool) → is_in ys x ≡ b → b ≡ false
      absent false e = refl
      absent true e =
          let held = h x.object (rw (eq-eqb x.object x.object refl)) in
          absurd (true≢false (sym (k x.object e) ∙ exclude x.object held))

  pub disjoint-by : (xs : List Entry) → OnEach f xs → disjoint xs ys ≡ true
  unfolding disjoint
  disjoint-by xs h = rw (nowhere xs h)
