-- Laws of `listed`: equal elements, a list as its elements, one element more, and a turn of a loop that fills an array.
-- Assumes nothing.
use Rattle.std.specs.Prelude.{◌≡◌, refl, List, [], ◌∷◌, ◌++◌, ℕ, zero, suc, ◌+◌, ◌≤◌, ◌<◌, length, get_or, set, take}
use Rattle.std.proofs.Common.{sym, ap, ap₂, ◌∙◌, arith, get_or-set_same, get_or-set_other, take_all, below_more}
use Rattle.operation.specs.Body.{listed}

pub listed_same : {A : Type 0} (f g : ℕ → A) (n : ℕ) → ((k : ℕ) → k < n → f k ≡ g k) → listed f n ≡ listed g n
unfolding listed
listed_same f g zero h = refl
listed_same f g (suc n) h =
    ap₂ ◌∷◌ (h 0 (omega arith)) (listed_same (λ i. f (suc i)) (λ i. g (suc i)) n (λ k l. h (suc k) (omega arith)))

pub listed_of : {A : Type 0} (xs : List A) (d : A) → listed (λ i. get_or xs i d) (length xs) ≡ xs
unfolding listed
listed_of [] d = refl
listed_of (x ∷ xs) d = ap (x ∷◌) (listed_of xs d)

-- one element more at the end
pub listed-next : {A : Type 0} (f : ℕ → A) (n : ℕ) → listed f (suc n) ≡ listed f n ++ f n ∷ []
unfolding listed
listed-next f zero = refl
listed-next f (suc n) = ap (f 0 ∷◌) (listed-next (λ i. f (suc i)) n)

-- the first i elements are f's; one more is stored
pub fill_next : {A : Type 0} (f : ℕ → A) (d : A) (xs : List A) (i : ℕ) (v : A) → i < length xs → ((k : ℕ) → k < i → get_or xs k d ≡ f k) → v ≡ f i
    → (k : ℕ) → k < i + 1 → get_or (set xs i v) k d ≡ f k
fill_next f d xs i v h g e =
    below_more (λ k. get_or (set xs i v) k d ≡ f k) i
    (λ k l. get_or-set_other xs i k v d (λ q. omega arith) ∙ g k l)
    (get_or-set_same xs i v d h ∙ e)

pub take-listed : {A : Type 0} (f : ℕ → A) (d : A) (xs : List A) (n : ℕ) → n ≤ length xs → ((k : ℕ) → k < n → get_or xs k d ≡ f k) → take n xs ≡ listed f n
unfolding listed
take-listed f d xs zero h g = refl
take-listed f d [] (suc n) h g = absurd (omega arith)
take-listed f d (x ∷ xs) (suc n) h g =
    ap₂ ◌∷◌ (g 0 (omega arith)) (take-listed (λ i. f (suc i)) d xs n (omega arith) (λ k l. g (suc k) (omega arith)))

-- a list that is filled
pub all_listed : {A : Type 0} (f : ℕ → A) (d : A) (xs : List A) (n : ℕ) → length xs ≡ n → ((k : ℕ) → k < n → get_or xs k d ≡ f k) → xs ≡ listed f n
all_listed f d xs n e g = sym (take_all n xs (omega arith)) ∙ take-listed f d xs n (omega arith) g
