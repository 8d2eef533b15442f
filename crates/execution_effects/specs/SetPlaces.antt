-- Reading, changing and adding an entry of a set at the front of an array. Assumes nothing.
use Rattle.std.specs.Prelude.{ℕ, zero, suc, ◌≤◌, ◌<◌, ◌≡◌, refl, Bool, true, false, List, [], ◌∷◌, ℤ, pos, get_or, set, length, take, eqb, Some, None}
use Rattle.std.proofs.Common.{ap, arith, sym, ltb, take-suc-set}
use Rattle.std.proofs.Math.Option as maybe
use Rattle.std.proofs.Math.Seq.{take-set-lt}
use Rattle.std.specs.List.{position, position_or_len}
use Rattle.std.proofs.lemmas.List.Quantifiers.{position-Some}
use Rattle.std.proofs.lemmas.List.Sums.{fails_before_first}
use Rattle.std.proofs.lemmas.List.{length-take, get_or-take}
use borrow.Author.Tests.{ltb-false}
use Rattle.execution.specs.Entries.{Entry, entry, lookup, update, append}
use Rattle.execution_effects.specs.Effects.{Found}

-- ---- an object's first place

abbrev names : ℕ → Entry → Bool
names o e = eqb e.object o

-- at no place
none_before : (es : List Entry) (o : ℕ) → None ≡ position (names o) es → length es ≤ position_or_len (names o) es
none_before es o h = by (ltb (position_or_len (names o) es) (length es)) refl
  where
    by : (t : Bool) → ltb (position_or_len (names o) es) (length es) ≡ t → length es ≤ position_or_len (names o) es
    by true e = absurd (let f = rw e at h in cc)
    by false e = ltb-false _ _ e

absent : (d : Entry) (es : List Entry) (o : ℕ) → ((k : ℕ) → k < length es → eqb (get_or es k d).object o ≡ false) → lookup es o ≡ maybe.none
absent d [] o h = refl
absent d (x ∷ es) o h = rw (h 0 (omega arith)) (absent d es o (λ k l. h (suc k) (omega arith)))

present : (d : Entry) (es : List Entry) (o j : ℕ) → j < length es → ((k : ℕ) → k < j → eqb (get_or es k d).object o ≡ false) → eqb (get_or es j d).object o ≡ true
    → lookup es o ≡ maybe.some (get_or es j d).value
present d [] o j l h e = absurd (omega arith)
present d (x ∷ es) o zero l h e = rw e
present d (x ∷ es) o (suc j) l h e =
    rw (h 0 (omega arith)) (present d es o j (omega arith) (λ k m. h (suc k) (omega arith)) e)

changed : (d : Entry) (es : List Entry) (o j : ℕ) (w : ℤ) → j < length es → ((k : ℕ) → k < j → eqb (get_or es k d).object o ≡ false) → eqb (get_or es j d).object o ≡ true
    → set es j (entry o w) ≡ update es o w
changed d [] o j w l h e = absurd (omega arith)
changed d (x ∷ es) o zero w l h e = rw e
changed d (x ∷ es) o (suc j) w l h e =
    rw (h 0 (omega arith)) (ap (x ∷◌) (changed d es o j w (omega arith) (λ k m. h (suc k) (omega arith)) e))

-- ---- the first n entries of an array

module _ (es : List Entry) (n o : ℕ) where
  pub lookup_absent : Found (take n es) o None → lookup (take n es) o ≡ maybe.none
  lookup_absent f =
      let d = entry 0 (pos 0) in
      let l = none_before (take n es) o f in
      absent d (take n es) o (λ k h. fails_before_first (names o) (take n es) k d (omega arith))

  module _ (d : Entry) (j : ℕ) (found : Found (take n es) o (Some j)) where
    here : (j < length (take n es)) × (eqb (get_or (take n es) j d).object o ≡ true) × ((k : ℕ) → k < j → eqb (get_or (take n es) k d).object o ≡ false)
    here = position-Some (names o) (take n es) j d (sym found)

    below : j < n
    below = let h = here.0 in omega (arith, length-take n es)

    pub lookup-found : lookup (take n es) o ≡ maybe.some (get_or es j d).value
    lookup-found = let l = below in rw (← (get_or-take n es j d l)) (present d (take n es) o j here.0 here.2 here.1)

    pub update_found : (w : ℤ) → take n (set es j (entry o w)) ≡ update (take n es) o w
    update_found w = let l = below in rw (take-set-lt n es j (entry o w) l) (changed d (take n es) o j w here.0 here.2 here.1)

  pub append-last : (w : ℤ) → n < length es → take (suc n) (set es n (entry o w)) ≡ append (take n es) o w
  append-last w h = take-suc-set es n (entry o w) h
