-- What follows from `specs/ListLaws`. Assumes nothing.
use Rattle.std.specs.Prelude.{◌≡◌, refl, ◌≢◌, Bool, true, false, cond, ◌||◌, List, [], ◌∷◌, ◌++◌, map, ℕ, zero, suc, ◌+◌, ◌≤◌, ◌<◌, eqb, ltb, length, take, drop, get_or, set, replicate}
use Rattle.std.proofs.Common.{sym, ap, ◌∙◌, true≢false, arith, not-suc-le-zero, le_of_suc-le-suc, eq-eqb, ne_eqb, eqb-true, lt-ltb}
use Rattle.std.proofs.lemmas.Bool.{false≢true, eqb-false}
use Rattle.std.proofs.Math.Bool.{or-true, and-eq-true_iff}
use Rattle.std.proofs.Math.Option.{some}
use Prim.Native.Nat.compare
use Rattle.model.specs.Lists.{pick, keep, any, all, count, index, mapi}
use Rattle.model.specs.ListLaws.{All}

module _ {A : Type 0} (P : A → Type 0) where
  pub all_keep : (q : A → Bool) (l : List A) → All P l → All P (keep q l)
  all_keep q [] h = tt
  all_keep q (x ∷ l) h = go' (q x) (all_keep q l h.1)
    where
      go' : (b : Bool) → All P (keep q l) → All P (cond b (x ∷ keep q l) (keep q l))
      go' true k = (h.0, k)
      go' false k = k

  -- one more at the end
  pub all_append : (l : List A) (x : A) → All P l → P x → All P (l ++ (x ∷ []))
  all_append [] x h k = (k, tt)
  all_append (y ∷ l) x h k = (h.0, all_append l x h.1 k)

  pub all-at : (l : List A) (d : A) → All P l → P d → (i : ℕ) → P (get_or l i d)
  all-at [] d h k i = k
  all-at (x ∷ l) d h k zero = h.0
  all-at (x ∷ l) d h k (suc i) = all-at l d h.1 k i

  pub all_join : (xs ys : List A) → All P xs → All P ys → All P (xs ++ ys)
  all_join [] ys f g = g
  all_join (x ∷ xs) ys f g = (f.0, all_join xs ys f.1 g)

  pub all_take : (n : ℕ) (xs : List A) → All P xs → All P (take n xs)
  all_take zero xs f = tt
  all_take (suc n) [] f = tt
  all_take (suc n) (x ∷ xs) f = (f.0, all_take n xs f.1)

  pub all_drop : (n : ℕ) (xs : List A) → All P xs → All P (drop n xs)
  all_drop zero xs f = f
  all_drop (suc n) [] f = tt
  all_drop (suc n) (x ∷ xs) f = all_drop n xs f.1

  pub all_in : (xs : List A) (i : ℕ) (d : A) → All P xs → i < length xs → P (get_or xs i d)
  all_in [] i d h k = absurd (not-suc-le-zero k)
  all_in (x ∷ xs) zero d h k = h.0
  all_in (x ∷ xs) (suc i) d h k = all_in xs i d h.1 (le_of_suc-le-suc k)

  pub all_set : (xs : List A) (i : ℕ) (x : A) → All P xs → P x → All P (set xs i x)
  all_set [] i x h k = tt
  all_set (y ∷ xs) zero x h k = (k, h.1)
  all_set (y ∷ xs) (suc i) x h k = (h.0, all_set xs i x h.1 k)

  pub all-implies : (Q : A → Type 0) → ((a : A) → P a → Q a) → (l : List A) → All P l → All Q l
  all-implies Q f [] h = tt
  all-implies Q f (x ∷ l) h = (f x h.0, all-implies Q f l h.1)

pub all_keep-with : {A : Type 0} (P Q : A → Type 0) (q : A → Bool) (xs : List A) → ((a : A) → q a ≡ true → P a → Q a) → All P xs → All Q (keep q xs)
all_keep-with P Q q [] h p = tt
all_keep-with P Q q (x ∷ xs) h p = go' (q x) refl (all_keep-with P Q q xs h p.1)
  where
    go' : (b : Bool) → q x ≡ b → All Q (keep q xs) → All Q (cond b (x ∷ keep q xs) (keep q xs))
    go' true e k = (h x e p.0, k)
    go' false e k = k

pub all_both : {A : Type 0} (P Q R : A → Type 0) (xs : List A) → ((a : A) → P a → Q a → R a) → All P xs → All Q xs → All R xs
all_both P Q R [] f p q = tt
all_both P Q R (x ∷ xs) f p q = (f x p.0 q.0, all_both P Q R xs f p.1 q.1)

pub all_map : {A B : Type 0} (P : B → Type 0) (f : A → B) (l : List A) → All P (map f l) → All (λ a. P (f a)) l
all_map P f [] h = tt
all_map P f (x ∷ l) h = (h.0, all_map P f l h.1)

pub all-mapped : {A B : Type 0} (P : B → Type 0) (f : A → B) (l : List A) → All (λ a. P (f a)) l → All P (map f l)
all-mapped P f [] h = tt
all-mapped P f (x ∷ l) h = (h.0, all-mapped P f l h.1)

-- ---- any, and the first that passes

pub or_left : (a b : Bool) → a ≡ true → a || b ≡ true
or_left a b e = rw e

pub or_right : (a b : Bool) → b ≡ true → a || b ≡ true
or_right a b e = rw (e, or-true a)

pub any-has : (f : ℕ → Bool) (r : ℕ) (l : List ℕ) → any (eqb r) l ≡ true → f r ≡ true → any f l ≡ true
any-has f r [] h t = absurd (false≢true h)
any-has f r (x ∷ l) h t = go' (eqb r x) refl h (λ k. any-has f r l k t)
  where
    go' : (b : Bool) → eqb r x ≡ b → b || any (eqb r) l ≡ true → (any (eqb r) l ≡ true → any f l ≡ true) → f x || any f l ≡ true
    go' true e h k = or_left (f x) (any f l) (rw (eqb-true r x e) at t)
    go' false e h k = or_right (f x) (any f l) (k h)

-- dropping others leaves the first that passes
pub pick-keep : {A : Type 0} (q p : A → Bool) (l : List A) → ((x : A) → pick q l ≡ some x → p x ≡ true) → pick q (keep p l) ≡ pick q l
pick-keep q p [] h = refl
pick-keep {A} q p (y ∷ l) h = go' (p y) (q y) refl refl h (pick-keep q p l)
  where
    go' : (a b : Bool) → p y ≡ a → q y ≡ b → ((x : A) → cond b (some y) (pick q l) ≡ some x → p x ≡ true) → (((x : A) → pick q l ≡ some x → p x ≡ true) → pick q (keep p l) ≡ pick q l)
        → pick q (cond a (y ∷ keep p l) (keep p l)) ≡ cond b (some y) (pick q l)
    go' true true ea eb h k = rw eb
    go' true false ea eb h k = rw eb (k h)
    go' false true ea eb h k = absurd (true≢false (sym (h y refl) ∙ ea))
    go' false false ea eb h k = k h

pub eqb-sym : (m n : ℕ) → eqb m n ≡ eqb n m
eqb-sym m n = go' (eqb m n) refl
  where
    go' : (b : Bool) → eqb m n ≡ b → b ≡ eqb n m
    go' true e = sym (eq-eqb n m (sym (eqb-true m n e)))
    go' false e = sym (ne_eqb n m (λ q. eqb-false m n e (sym q)))

-- the first that passes, by its position
module _ {A : Type 0} (q : A → Bool) where
  pub any-index : (xs : List A) → any q xs ≡ ltb (index q xs) (length xs)
  any-index [] = refl
  any-index (x ∷ xs) = by (q x) (any-index xs)
    where
      by : (t : Bool) → any q xs ≡ ltb (index q xs) (length xs) → (t || any q xs) ≡ ltb (cond t 0 (suc (index q xs))) (suc (length xs))
      by true e = sym (lt-ltb 0 (suc (length xs)) (omega arith))
      by false e = rw compare.suc-suc e

  pub pick-index : (d : A) (xs : List A) → index q xs < length xs → pick q xs ≡ some (get_or xs (index q xs) d)
  pick-index d [] h = absurd (not-suc-le-zero h)
  pick-index d (x ∷ xs) h = by (q x) h (pick-index d xs)
    where
      by : (t : Bool) → cond t 0 (suc (index q xs)) < suc (length xs) → (index q xs < length xs → pick q xs ≡ some (get_or xs (index q xs) d)) → cond t (some x) (pick q xs) ≡ some (get_or (x ∷ xs) (cond t 0 (suc (index q xs))) d)
      by true h k = refl
      by false h k = k (le_of_suc-le-suc h)

  -- i is where the first stands that passes: none before it does, and it does unless it is past the end
  pub index_at : (d : A) (xs : List A) (i : ℕ) → i ≤ length xs → ((k : ℕ) → k < i → q (get_or xs k d) ≡ false) → (i < length xs → q (get_or xs i d) ≡ true) → index q xs ≡ i
  index_at d [] zero h b f = refl
  index_at d [] (suc i) h b f = absurd (not-suc-le-zero h)
  index_at d (x ∷ xs) zero h b f = rw (f (omega arith))
  index_at d (x ∷ xs) (suc i) h b f =
      rw (b 0 (omega arith)) (ap suc (index_at d xs i (le_of_suc-le-suc h) (λ k l. b (suc k) (omega arith)) (λ l. f (omega arith))))

pub index_same : {A : Type 0} (p q : A → Bool) (l : List A) → All (λ x. p x ≡ q x) l → index p l ≡ index q l
index_same p q [] h = refl
index_same p q (x ∷ l) h = rw (h.0, index_same p q l h.1)

pub length-keep : {A : Type 0} (q : A → Bool) (xs : List A) → length (keep q xs) ≤ length xs
length-keep q [] = omega arith
length-keep q (x ∷ xs) = go' (q x) (length-keep q xs)
  where
    go' : (b : Bool) → length (keep q xs) ≤ length xs → length (cond b (x ∷ keep q xs) (keep q xs)) ≤ suc (length xs)
    go' true h = omega arith
    go' false h = omega arith

-- ---- map

module _ {A B : Type 0} where
  pub any-map : (f : A → B) (q : B → Bool) (l : List A) → any q (map f l) ≡ any (λ a. q (f a)) l
  any-map f q [] = refl
  any-map f q (x ∷ l) = ap (λ (t : Bool). q (f x) || t) (any-map f q l)

  pub get_or_map-in : (f : A → B) (l : List A) (i : ℕ) (d : A) (e : B) → i < length l → get_or (map f l) i e ≡ f (get_or l i d)
  get_or_map-in f [] i d e h = absurd (not-suc-le-zero h)
  get_or_map-in f (x ∷ l) zero d e h = refl
  get_or_map-in f (x ∷ l) (suc i) d e h = get_or_map-in f l i d e (le_of_suc-le-suc h)

  pub map-take : (f : A → B) (i : ℕ) (xs : List A) → map f (take i xs) ≡ take i (map f xs)
  map-take f zero xs = refl
  map-take f (suc i) [] = refl
  map-take f (suc i) (x ∷ xs) = ap (f x ∷◌) (map-take f i xs)

  pub map-drop : (f : A → B) (i : ℕ) (xs : List A) → map f (drop i xs) ≡ drop i (map f xs)
  map-drop f zero xs = refl
  map-drop f (suc i) [] = refl
  map-drop f (suc i) (x ∷ xs) = map-drop f i xs

  pub map-keep : (f : A → B) (q : B → Bool) (l : List A) → map f (keep (λ a. q (f a)) l) ≡ keep q (map f l)
  map-keep f q [] = refl
  map-keep f q (x ∷ l) = go' (q (f x)) (map-keep f q l)
    where
      go' : (b : Bool) → map f (keep (λ a. q (f a)) l) ≡ keep q (map f l) → map f (cond b (x ∷ keep (λ a. q (f a)) l) (keep (λ a. q (f a)) l)) ≡ cond b (f x ∷ keep q (map f l)) (keep q (map f l))
      go' true h = ap (f x ∷◌) h
      go' false h = h

  pub index-map : (f : A → B) (q : B → Bool) (l : List A) → index q (map f l) ≡ index (λ a. q (f a)) l
  index-map f q [] = refl
  index-map f q (x ∷ l) = rw (index-map f q l)

  pub map-replicate : (f : A → B) (n : ℕ) (a : A) → map f (replicate n a) ≡ replicate n (f a)
  map-replicate f zero a = refl
  map-replicate f (suc n) a = ap (f a ∷◌) (map-replicate f n a)

  pub map-set : (f : A → B) (l : List A) (i : ℕ) (a : A) → map f (set l i a) ≡ set (map f l) i (f a)
  map-set f [] i a = refl
  map-set f (x ∷ l) zero a = refl
  map-set f (x ∷ l) (suc i) a = ap (f x ∷◌) (map-set f l i a)

  -- two maps that agree on each element
  pub map-all : (f g : A → B) (l : List A) → All (λ a. f a ≡ g a) l → map f l ≡ map g l
  map-all f g [] h = refl
  map-all f g (x ∷ l) h = rw (h.0, map-all f g l h.1)

  -- a map that does not see a change
  pub map_map-same : (g : A → B) (f : A → A) (l : List A) → ((a : A) → g (f a) ≡ g a) → map g (map f l) ≡ map g l
  map_map-same g f [] e = refl
  map_map-same g f (x ∷ l) e = rw (e x, map_map-same g f l e)

-- ---- elements changed by their positions

module _ {A B : Type 0} where
  pub length-mapi : (f : ℕ → A → B) (l : List A) → length (mapi f l) ≡ length l
  length-mapi f [] = refl
  length-mapi f (x ∷ l) = ap suc (length-mapi (λ i. f (suc i)) l)

  pub get_or-mapi : (f : ℕ → A → B) (l : List A) (i : ℕ) (d : A) (e : B) → i < length l → get_or (mapi f l) i e ≡ f i (get_or l i d)
  get_or-mapi f [] i d e h = absurd (omega arith)
  get_or-mapi f (x ∷ l) zero d e h = refl
  get_or-mapi f (x ∷ l) (suc i) d e h = get_or-mapi (λ j. f (suc j)) l i d e (omega arith)

  mapi-same : (f g : ℕ → A → B) (l : List A) → ((i : ℕ) (a : A) → f i a ≡ g i a) → mapi f l ≡ mapi g l
  mapi-same f g [] h = refl
  mapi-same f g (x ∷ l) h = rw (h 0 x, mapi-same (λ i. f (suc i)) (λ i. g (suc i)) l (λ i. h (suc i)))

  -- f and g agree but at i
  pub set-mapi : (f g : ℕ → A → B) (l : List A) (i : ℕ) (d : A) (b : B) → g i (get_or l i d) ≡ b → ((j : ℕ) (a : A) → j ≢ i → g j a ≡ f j a) → set (mapi f l) i b ≡ mapi g l
  set-mapi f g [] i d b h k = refl
  set-mapi f g (x ∷ l) zero d b h k = rw (h, mapi-same (λ i. g (suc i)) (λ i. f (suc i)) l (λ i a. k (suc i) a (omega arith)))
  set-mapi f g (x ∷ l) (suc i) d b h k =
      rw (k 0 x (omega arith), set-mapi (λ i. f (suc i)) (λ i. g (suc i)) l i d b h (λ j a n. k (suc j) a (omega arith)))

  pub map-mapi : (g : A → B) (f : ℕ → A → A) (h : ℕ → B → B) (l : List A) → ((i : ℕ) (a : A) → g (f i a) ≡ h i (g a)) → map g (mapi f l) ≡ mapi h (map g l)
  map-mapi g f h [] e = refl
  map-mapi g f h (x ∷ l) e = rw (e 0 x, map-mapi g (λ i. f (suc i)) (λ i. h (suc i)) l (λ i. e (suc i)))

  pub map_mapi-same : (g : A → B) (f : ℕ → A → A) (l : List A) → ((i : ℕ) (a : A) → g (f i a) ≡ g a) → map g (mapi f l) ≡ map g l
  map_mapi-same g f [] e = refl
  map_mapi-same g f (x ∷ l) e = rw (e 0 x, map_mapi-same g (λ i. f (suc i)) l (λ i. e (suc i)))

pub all-mapi : {A B : Type 0} (P : A → Type 0) (Q : B → Type 0) (f : ℕ → A → B) (l : List A) → ((i : ℕ) (a : A) → P a → Q (f i a)) → All P l → All Q (mapi f l)
all-mapi P Q f [] h k = tt
all-mapi P Q f (x ∷ l) h k = (h 0 x k.0, all-mapi P Q (λ i. f (suc i)) l (λ i. h (suc i)) k.1)

-- ---- count

pub count-join : {A : Type 0} (q : A → Bool) (xs ys : List A) → count q (xs ++ ys) ≡ count q xs + count q ys
count-join q [] ys = omega arith
count-join q (x ∷ xs) ys = go' (q x) (count-join q xs ys)
  where
    go' : (b : Bool) → count q (xs ++ ys) ≡ count q xs + count q ys → cond b (suc (count q (xs ++ ys))) (count q (xs ++ ys)) ≡ cond b (suc (count q xs)) (count q xs) + count q ys
    go' true h = omega arith
    go' false h = h

-- no more than there are
pub count-few : {A : Type 0} (q : A → Bool) (l : List A) → count q l ≤ length l
count-few q [] = omega arith
count-few q (x ∷ l) = go' (q x) (count-few q l)
  where
    go' : (b : Bool) → count q l ≤ length l → cond b (suc (count q l)) (count q l) ≤ suc (length l)
    go' true h = omega arith
    go' false h = omega arith

-- as many as there are, where all pass
pub count-all : {A : Type 0} (q : A → Bool) (l : List A) → all q l ≡ true → count q l ≡ length l
count-all q [] h = refl
count-all q (x ∷ l) h = let b = (and-eq-true_iff (q x) (all q l)).0 h in rw b.0 (ap suc (count-all q l b.1))

-- no more are left than there were
pub count-keep : {A : Type 0} (q p : A → Bool) (l : List A) → count q (keep p l) ≤ count q l
count-keep q p [] = omega arith
count-keep q p (x ∷ l) = go' (p x) (q x) refl (count-keep q p l)
  where
    go' : (a b : Bool) → q x ≡ b → count q (keep p l) ≤ count q l → count q (cond a (x ∷ keep p l) (keep p l)) ≤ cond b (suc (count q l)) (count q l)
    go' true true e h = rw e (omega arith)
    go' true false e h = rw e h
    go' false true e h = omega arith
    go' false false e h = h

-- where one passes that p does not count, p counts fewer than there are
pub count-apart : {A : Type 0} (p q : A → Bool) (l : List A) → ((a : A) → q a ≡ true → p a ≡ false) → any q l ≡ true → suc (count p l) ≤ length l
count-apart p q [] f h = absurd (false≢true h)
count-apart p q (x ∷ l) f h = go' (q x) refl h (p x) refl (count-apart p q l f)
  where
    go' : (b : Bool) → q x ≡ b → b || any q l ≡ true → (a : Bool) → p x ≡ a → (any q l ≡ true → suc (count p l) ≤ length l) → suc (cond a (suc (count p l)) (count p l)) ≤ suc (length l)
    go' true e k true g i = absurd (true≢false (sym g ∙ f x e))
    go' true e k false g i = omega (arith, count-few p l)
    go' false e k true g i = omega (arith, i k)
    go' false e k false g i = omega (arith, i k)

pub count_set : {A : Type 0} (q : A → Bool) (l : List A) (i : ℕ) (x d : A) → i < length l → q x ≡ true → count q (set l i x) ≡ cond (q (get_or l i d)) (count q l) (suc (count q l))
count_set q [] i x d h t = absurd (omega arith)
count_set q (y ∷ l) zero x d h t = rw t (go' (q y) (count q l))
  where
    go' : (a : Bool) (c : ℕ) → suc c ≡ cond a (cond a (suc c) c) (suc (cond a (suc c) c))
    go' true c = refl
    go' false c = refl
count_set q (y ∷ l) (suc i) x d h t =
    rw (count_set q l i x d (omega arith) t) (go' (q y) (q (get_or l i d)) (count q l))
  where
    go' : (a b : Bool) (c : ℕ) → cond a (suc (cond b c (suc c))) (cond b c (suc c)) ≡ cond b (cond a (suc c) c) (suc (cond a (suc c) c))
    go' true true c = refl
    go' true false c = refl
    go' false true c = refl
    go' false false c = refl
