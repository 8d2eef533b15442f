-- What follows from `specs/BodyLaws`. Assumes nothing.
use Rattle.std.specs.Prelude.{Some, None, ℕ, zero, suc, ◌+◌, ◌-◌, ◌*◌, ◌^◌, ◌≤◌, ◌<◌, ◌≡◌, refl, Bool, true, false, ◌&&◌, T, ltb, length, get_or, drop}
use Rattle.std.proofs.Common.{sym, ap, subst, ◌∙◌, ⊎_elim, eq-or-lt_of_le, le_of_suc-le-suc, arith, length-drop, drop-cons, ltb-true, ltb-false, leb-true, eqb-true, lt-ltb, le-leb, eq-eqb, to_z}
use Rattle.std.proofs.Math.Option.{some}
use mathlib.Core.List.{List, [], ◌∷◌, head?}
use Rattle.std.proofs.Math.ListN.{get_or-eq_default}
use Rattle.std.specs.Int.{w64}
use Rattle.arith.specs.Integer.{fits}
use Rattle.operation.specs.declared.Operation.{Operation}
use Rattle.operation.specs.declared.Operation.TheVariants.{Load, Store, Set, Add, Subtract, Skip, Fail, Divide}
use Rattle.operation.specs.Body.{register_count, size, kind_byte, first_byte, second_byte, constant_word}
use Rattle.operation.specs.Body.{operation_of, operation_at, listed, operations, allowed, allowed_at, each, is_well_formed, pick_decoded, decoded}
use Rattle.operation.specs.BodyLaws.{Place, Formed, Valid}

-- ---- the operations as a list

pub length-listed : {A : Type 0} (f : ℕ → A) (m : ℕ) → length (listed f m) ≡ m
unfolding listed
length-listed f zero = refl
length-listed f (suc m) = ap suc (length-listed (λ i. f (suc i)) m)

pub get_or-listed : {A : Type 0} (f : ℕ → A) (m i : ℕ) (d : A) → i < m → get_or (listed f m) i d ≡ f i
unfolding listed
get_or-listed f zero i d h = absurd (none i h)
  where
    none : (i : ℕ) → i < 0 → ⊥
    none i h = omega arith
get_or-listed f (suc m) zero d h = refl
get_or-listed f (suc m) (suc i) d h = get_or-listed (λ j. f (suc j)) m i d (le_of_suc-le-suc h)

pub length-operations : (b : List ℕ) → length (operations b) ≡ size b
unfolding operations
length-operations b = length-listed (operation_at b) (size b)

pub get_or-operations : (b : List ℕ) (i : ℕ) (d : Operation) → i < size b → get_or (operations b) i d ≡ operation_at b i
unfolding operations
get_or-operations b i d h = get_or-listed (operation_at b) (size b) i d h

-- operation i, and those after it
pub drop-operations : (b : List ℕ) (i : ℕ) → i < size b → drop i (operations b) ≡ operation_at b i ∷ drop (suc i) (operations b)
drop-operations b i h =
    drop-cons (operations b) i (operation_at b i) (rw length-operations h)
    ∙ ap (λ (x : Operation). x ∷ drop (suc i) (operations b)) (get_or-operations b i (operation_at b i) h)

pub head_operations : (b : List ℕ) (i : ℕ) → i < size b → head? (drop i (operations b)) ≡ some (operation_at b i)
head_operations b i h = ap head? (drop-operations b i h)

pub place : (b : List ℕ) (i : ℕ) (x : Operation) (rest : List Operation) → drop i (operations b) ≡ x ∷ rest → Place b i x rest
place b i x rest e =
    let l : length (operations b) - i ≡ suc (length rest) = sym (length-drop i (operations b)) ∙ ap length e in
    let k = length-operations b in
    let h : i < size b = omega arith in
    record { inside = h; here = (cc (drop-operations b i h)); after = omega arith }

-- ---- one operation, from its fields

pub of_fields : (b : List ℕ) (i kind f s : ℕ) → kind ≡ kind_byte b i → f ≡ first_byte b i → s ≡ second_byte b i → operation_of kind f s (constant_word b i) ≡ operation_at b i
of_fields b i kind f s p q r = rw (p, q, r)

-- the kinds below 7 aside, an operation is a divide
pub a-divide : (kind f s c : ℕ) → 7 ≤ kind → operation_of kind f s c ≡ Divide f c
a-divide kind f s c h =
    get_or-eq_default (Load f s ∷ Store f s ∷ Set f (to_z w64 c) ∷ Add f s ∷ Subtract f s ∷ Skip f s ∷ Fail ∷ []) (Divide f c) {n = kind} h

pub seven_on : (k : ℕ) → (k ≡ 0 → ⊥) → (k ≡ 1 → ⊥) → (k ≡ 2 → ⊥) → (k ≡ 3 → ⊥) → (k ≡ 4 → ⊥) → (k ≡ 5 → ⊥) → (k ≡ 6 → ⊥) → 7 ≤ k
seven_on k a b c d e f g = let h : 4 ≤ k = four_on k a b c d in more k h e f g
  where
    four_on : (k : ℕ) → (k ≡ 0 → ⊥) → (k ≡ 1 → ⊥) → (k ≡ 2 → ⊥) → (k ≡ 3 → ⊥) → 4 ≤ k
    four_on k a b c d = omega arith

    more : (k : ℕ) → 4 ≤ k → (k ≡ 4 → ⊥) → (k ≡ 5 → ⊥) → (k ≡ 6 → ⊥) → 7 ≤ k
    more k h a b c = omega arith

-- ---- what a well_formed body promises

both : (a b : Bool) → (a && b) ≡ true → (a ≡ true) × (b ≡ true)
both true true e = (refl, refl)
both true false e = absurd (subst T (sym e) tt)
both false b e = absurd (subst T (sym e) tt)

each-true : (q : ℕ → Bool) (k : ℕ) → each q k ≡ true → (i : ℕ) → i < k → q i ≡ true
unfolding each
each-true q zero e i h = absurd (none i h)
  where
    none : (i : ℕ) → i < 0 → ⊥
    none i h = omega arith
each-true q (suc k) e i h =
    let p = both _ _ e in
    ⊎_elim (λ z. rw z p.1) (λ l. each-true q k p.0 i l) (eq-or-lt_of_le (le_of_suc-le-suc h))

true-each : (q : ℕ → Bool) (k : ℕ) → ((i : ℕ) → i < k → q i ≡ true) → each q k ≡ true
unfolding each
true-each q zero h = refl
true-each q (suc k) h =
    rw (true-each q k (λ i l. h i (omega arith)), h k (omega arith))

pub formed : (limit n : ℕ) (b : List ℕ) → is_well_formed limit n b ≡ true → Formed limit n b
unfolding is_well_formed
formed limit n b h =
    let p = both _ _ h in
    let q = both _ _ p.0 in
    let r = both _ _ q.0 in
    record { some = leb-true _ _ r.0; most = leb-true _ _ r.1; whole = eqb-true _ _ q.1; all = each-true _ _ p.1 }

pub well_formed : {limit n : ℕ} {b : List ℕ} → Formed limit n b → is_well_formed limit n b ≡ true
unfolding is_well_formed
well_formed {limit} {n} {b} f =
    rw (le-leb 1 (size b) f.some, le-leb (size b) limit f.most, eq-eqb (length b) (1 + 11 * size b) f.whole)
    (true-each (allowed_at n b) (size b) f.all)

-- what a decoder's answer tells
pub taken : (limit n m : ℕ) (b : List ℕ) → decoded limit n b ≡ Some m → (is_well_formed limit n b ≡ true) × (m ≡ size b)
unfolding decoded
taken limit n m b h = by (is_well_formed limit n b) h
  where
    by : (t : Bool) → pick_decoded t (Some (size b)) None ≡ Some m → (t ≡ true) × (m ≡ size b)
    by true e = (refl, (cc))
    by false e = let z : ◌≡◌ {A = ℕ} 0 1 = cc in absurd (omega arith)

pub refused : (limit n : ℕ) (b : List ℕ) → decoded limit n b ≡ None → is_well_formed limit n b ≡ false
unfolding decoded
refused limit n b h = by (is_well_formed limit n b) h
  where
    by : (t : Bool) → pick_decoded t (Some (size b)) None ≡ None → t ≡ false
    by true e = let z : ◌≡◌ {A = ℕ} 0 1 = cc in absurd (omega arith)
    by false e = refl

-- a constant, whatever its bits, is a signed 64-bit number
constant-fits : (c : ℕ) → fits (to_z w64 c) ≡ true
unfolding fits
constant-fits c = by (ltb c (2 ^ 63)) refl
  where
    by : (t : Bool) → ltb c (2 ^ 63) ≡ t → fits (to_z w64 c) ≡ true
    by true e = rw e (lt-ltb c (2 ^ 63) (ltb-true c (2 ^ 63) e))
    by false e = rw e (lt-ltb (2 ^ 64 - suc c) (2 ^ 63) (omega (arith, ltb-false c (2 ^ 63) e)))

limits : (f a s e : ℕ) (t : Bool) → (ltb f a && ltb s e && t) ≡ true → (f < a) × (s < e)
limits f a s e t h =
    let p = both _ _ (both _ _ h).0 in (ltb-true f a p.0, ltb-true s e p.1)

pub valid : (n left kind f s c : ℕ) → allowed n left kind f s c ≡ true → Valid n left (operation_of kind f s c)
unfolding allowed
valid n left zero f s c h = limits f register_count s n _ h
valid n left (suc zero) f s c h = limits f register_count s n _ h
valid n left (suc (suc zero)) f s c h = (ltb-true _ _ (both _ _ h).0, constant-fits c)
valid n left (suc (suc (suc zero))) f s c h = limits f register_count s register_count _ h
valid n left (suc (suc (suc (suc zero)))) f s c h = limits f register_count s register_count _ h
valid n left (suc (suc (suc (suc (suc zero))))) f s c h =
    let p = both _ _ (both _ _ h).0 in
    let q = both _ _ p.0 in
    let k = both _ _ q.1 in
    (ltb-true _ _ q.0, leb-true _ _ k.0, leb-true _ _ p.1, leb-true _ _ k.1)
valid n left (suc (suc (suc (suc (suc (suc zero)))))) f s c h = tt
valid n left (suc (suc (suc (suc (suc (suc (suc zero))))))) f s c h =
    let p = both _ _ h in
    let k = both _ _ p.1 in
    (ltb-true _ _ (both _ _ p.0).0, leb-true _ _ k.0, leb-true _ _ k.1)
valid n left (suc (suc (suc (suc (suc (suc (suc (suc kind)))))))) f s c h = absurd (subst T (sym h) tt)

module _ (limit n : ℕ) (b : List ℕ) (w : is_well_formed limit n b ≡ true) where
  pub valid_at : (i : ℕ) → i < size b → Valid n (size b - (i + 1)) (operation_at b i)
  valid_at i h = valid _ _ _ _ _ _ ((formed limit n b w).all i h)

  pub valid_drop : (i : ℕ) (x : Operation) (rest : List Operation) → drop i (operations b) ≡ x ∷ rest → Valid n (length rest) x
  valid_drop i x rest e =
      let p = place b i x rest e in
      rw (p.here, p.after) (valid_at i p.inside)
