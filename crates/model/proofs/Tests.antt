-- Laws of tests over lists, and tests that say a fact: one that holds exactly where the fact does. Assumes nothing.
use Rattle.std.specs.Prelude.{◌≡◌, refl, ◌⊎◌, ◌↔◌, Bool, true, false, not, cond, ◌&&◌, ◌||◌, List, [], ◌∷◌, ◌++◌, ℕ, zero, suc, ◌≤◌, eqb, leb, length, set}
use Rattle.std.proofs.Common.{sym, ap, ap₂, ◌∙◌, inl, inr, true≢false, arith, eq-eqb, eqb-true, le-leb, leb-true}
use Rattle.std.proofs.lemmas.Bool.{false≢true}
use Rattle.std.proofs.Math.Option.{some, none-ne-some, some-injective}
use Rattle.execution.proofs.ReadAgreement.{both}
use Rattle.model.specs.Lists.{pick, keep, any, all}
use Rattle.model.specs.Serial.{is_some}
use Rattle.model.specs.ListLaws.{All}
use Rattle.model.proofs.ListLaws.{or_left, or_right, any-has}

infixl 30 ◌and◌
pub either : (a b : Bool) → a || b ≡ true → (a ≡ true) ⊎ (b ≡ true)
either true b e = inl refl
either false b e = inr e

pub neither : (a b : Bool) → a || b ≡ false → (a ≡ false) × (b ≡ false)
neither true b e = absurd (true≢false e)
neither false b e = (refl, e)

-- ---- tests of every element, or of some

module _ {A : Type 0} where
  pub all-keeps : (q p : A → Bool) (l : List A) → all q l ≡ true → all q (keep p l) ≡ true
  all-keeps q p [] h = refl
  all-keeps q p (x ∷ l) h = let k = both (q x) (all q l) h in go' (p x) k.0 (all-keeps q p l k.1)
    where
      go' : (b : Bool) → q x ≡ true → all q (keep p l) ≡ true → all q (cond b (x ∷ keep p l) (keep p l)) ≡ true
      go' true e i = rw (e, i)
      go' false e i = i

  pub keep-passes : (p : A → Bool) (l : List A) → all p (keep p l) ≡ true
  keep-passes p [] = refl
  keep-passes p (x ∷ l) = go' (p x) refl (keep-passes p l)
    where
      go' : (b : Bool) → p x ≡ b → all p (keep p l) ≡ true → all p (cond b (x ∷ keep p l) (keep p l)) ≡ true
      go' true e i = rw (e, i)
      go' false e i = i

  pub all_weaker : (q p : A → Bool) (l : List A) → ((a : A) → q a ≡ true → p a ≡ true) → all q l ≡ true → all p l ≡ true
  all_weaker q p [] f h = refl
  all_weaker q p (x ∷ l) f h = let k = both (q x) (all q l) h in rw (f x k.0, all_weaker q p l f k.1)

  -- what passes in all passes in some, where there is one
  pub all_any : (q p : A → Bool) (l : List A) → all q l ≡ true → any p l ≡ true → any q l ≡ true
  all_any q p [] a o = absurd (false≢true o)
  all_any q p (x ∷ l) a o = or_left (q x) (any q l) (both (q x) (all q l) a).0

  pub any-pick : (q : A → Bool) (l : List A) → any q l ≡ is_some (pick q l)
  any-pick q [] = refl
  any-pick q (x ∷ l) = go' (q x) (any-pick q l)
    where
      go' : (b : Bool) → any q l ≡ is_some (pick q l) → b || any q l ≡ is_some (cond b (some x) (pick q l))
      go' true i = refl
      go' false i = i

  pub pick-passes : (q : A → Bool) (l : List A) (x : A) → pick q l ≡ some x → q x ≡ true
  pick-passes q [] x e = absurd (none-ne-some x e)
  pick-passes q (y ∷ l) x e = go' (q y) refl e (pick-passes q l x)
    where
      go' : (b : Bool) → q y ≡ b → cond b (some y) (pick q l) ≡ some x → (pick q l ≡ some x → q x ≡ true) → q x ≡ true
      go' true h e i = ap q (sym (some-injective y x e)) ∙ h
      go' false h e i = i e

pub any-keep : {A : Type 0} (q p : A → Bool) (xs : List A) → any q xs ≡ false → any q (keep p xs) ≡ false
any-keep q p [] h = refl
any-keep q p (x ∷ xs) h = let k = neither (q x) (any q xs) h in go' (p x) k.0 (any-keep q p xs k.1)
  where
    go' : (b : Bool) → q x ≡ false → any q (keep p xs) ≡ false → any q (cond b (x ∷ keep p xs) (keep p xs)) ≡ false
    go' true e i = rw (e, i)
    go' false e i = i

pub any_append : {A : Type 0} (q : A → Bool) (xs : List A) (x : A) → any q xs ≡ false → q x ≡ false → any q (xs ++ (x ∷ [])) ≡ false
any_append q [] x h e = rw e
any_append q (y ∷ xs) x h e = let k = neither (q y) (any q xs) h in rw k.0 (any_append q xs x k.1 e)

pub all-after_set : {A : Type 0} (q : A → Bool) (xs : List A) (i : ℕ) (z : A) → q z ≡ true → all q xs ≡ true → all q (set xs i z) ≡ true
all-after_set q [] i z e h = refl
all-after_set q (x ∷ xs) zero z e h = rw (e, (both (q x) (all q xs) h).1)
all-after_set q (x ∷ xs) (suc i) z e h = let k = both (q x) (all q xs) h in rw (k.0, all-after_set q xs i z e k.1)

pub keep_all : {A : Type 0} (q : A → Bool) (l : List A) → all q l ≡ true → keep q l ≡ l
keep_all q [] h = refl
keep_all q (x ∷ l) h = let k = both (q x) (all q l) h in rw k.0 (ap (x ∷◌) (keep_all q l k.1))

-- tests that agree on each element
pub any_same : (f g : ℕ → Bool) (l : List ℕ) → ((r : ℕ) → any (eqb r) l ≡ true → f r ≡ g r) → any f l ≡ any g l
any_same f g [] h = refl
any_same f g (r ∷ l) h =
    ap₂ ◌||◌ (h r (rw (eq-eqb r r refl))) (any_same f g l (λ x e. h x (or_right (eqb x r) (any (eqb x) l) e)))

-- a longer list
pub any-more : (f : ℕ → Bool) (l m : List ℕ) → ((r : ℕ) → any (eqb r) l ≡ true → any (eqb r) m ≡ true) → any f l ≡ true → any f m ≡ true
any-more f [] m sub e = absurd (false≢true e)
any-more f (r ∷ l) m sub e =
    go' (either (f r) (any f l) e) (any-more f l m (λ x h. sub x (or_right (eqb x r) (any (eqb x) l) h)))
  where
    go' : (f r ≡ true) ⊎ (any f l ≡ true) → (any f l ≡ true → any f m ≡ true) → any f m ≡ true
    go' (inl e) i = any-has f r m (sub r (rw (eq-eqb r r refl))) e
    go' (inr e) i = i e

-- ---- tests that say a fact

abbrev pub Says : Bool → Type 0 → Type 0
Says b P = (b ≡ true) ↔ P

pub says-self : (b : Bool) → Says b (b ≡ true)
says-self b = (λ e. e, λ e. e)

pub says-not : (b : Bool) → Says (not b) (b ≡ false)
says-not true = (λ e. absurd (false≢true e), λ e. absurd (true≢false e))
says-not false = (λ e. refl, λ e. refl)

pub ◌and◌ : {a b : Bool} {P Q : Type 0} → Says a P → Says b Q → Says (a && b) (P × Q)
◌and◌ {a} {b} p q =
    (λ e. (p.0 (both a b e).0, q.0 (both a b e).1), λ h. rw (p.1 h.0, q.1 h.1))

pub says-or : {a b : Bool} {P Q : Type 0} → Says a P → Says b Q → Says (a || b) (P ⊎ Q)
says-or {a} {b} {P} {Q} p q = (λ e. to (either a b e), back)
  where
    to : (a ≡ true) ⊎ (b ≡ true) → P ⊎ Q
    to (inl e) = inl (p.0 e)
    to (inr e) = inr (q.0 e)

    back : P ⊎ Q → a || b ≡ true
    back (inl h) = or_left a b (p.1 h)
    back (inr h) = or_right a b (q.1 h)

pub says-le : (m n : ℕ) → Says (leb m n) (m ≤ n)
says-le m n = (leb-true m n, le-leb m n)

pub says_eq : (m n : ℕ) → Says (eqb m n) (m ≡ n)
says_eq m n = (eqb-true m n, eq-eqb m n)

pub says-empty : {A : Type 0} (l : List A) → Says (eqb (length l) 0) (l ≡ [])
says-empty l = (λ e. empty l (eqb-true (length l) 0 e), λ e. eq-eqb (length l) 0 (ap length e))
  where
    empty : {A : Type 0} (l : List A) → length l ≡ 0 → l ≡ []
    empty [] e = refl
    empty (x ∷ l) e = absurd (omega arith)

pub says_all : {A : Type 0} (q : A → Bool) (P : A → Type 0) → ((a : A) → Says (q a) (P a)) → (l : List A) → Says (all q l) (All P l)
says_all q P h [] = (λ e. tt, λ t. refl)
says_all q P h (x ∷ l) = h x and says_all q P h l

-- one way alone
pub all-says : {A : Type 0} (q : A → Bool) (P : A → Type 0) → ((a : A) → q a ≡ true → P a) → (l : List A) → all q l ≡ true → All P l
all-says q P f [] e = tt
all-says q P f (x ∷ l) e = let k = both (q x) (all q l) e in (f x k.0, all-says q P f l k.1)

-- of every number that stands in a list
pub says-each : (q : ℕ → Bool) (P : ℕ → Type 0) → ((r : ℕ) → Says (q r) (P r)) → (l : List ℕ) → Says (all q l) ((r : ℕ) → any (eqb r) l ≡ true → P r)
says-each q P h [] = (λ e r k. absurd (false≢true k), λ f. refl)
says-each q P h (x ∷ l) =
    let rest = says-each q P h l in (
      λ e r k. to (both (q x) (all q l) e) r (either (eqb r x) (any (eqb r) l) k) rest.0,
      λ f. rw ((h x).1 (f x (rw (eq-eqb x x refl))), rest.1 (λ r k. f r (or_right (eqb r x) (any (eqb r) l) k))),
    )
  where
    to : (q x ≡ true) × (all q l ≡ true) → (r : ℕ) → (eqb r x ≡ true) ⊎ (any (eqb r) l ≡ true) → (all q l ≡ true → (r : ℕ) → any (eqb r) l ≡ true → P r) → P r
    to e r (inl k) rest = rw (eqb-true r x k) ((h x).0 e.0)
    to e r (inr k) rest = rest e.1 r k
