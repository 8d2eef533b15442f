-- The digits that `io::decimal` makes are the numeral; texts put one behind the other; how a line grows number by number. Assumes nothing.
use Rattle.std.specs.Prelude.{◌≡◌, ℕ, Bool, nat_le, zero, suc, ◌+◌, ◌-◌, ◌/◌, ◌%◌, ◌^◌, ◌<◌, ◌≤◌, true, false, List, [], ◌∷◌, ◌++◌, length, take, drop, ℤ, pos, negsuc, int_lt, slice_index_or, slice_range, unsigned_abs, refl}
use Rattle.std.proofs.Common.{sym, add-one, ◌∙◌, append_assoc, append-nil, pow-suc, arith, length-take-le, take_at, take-suc, take_all, ltb-true, lt-ltb, le-ltb, le-leb}
use Rattle.std.proofs.Math.Path.{ap}
use Rattle.std.proofs.Math.ListN.{length-append}
use Rattle.cells.specs.Cells.{splice}
use Rattle.io.specs.Digits.{last_digits, IsDigitCount}
use Rattle.cells.specs.Splice.{length-splice}
use Rattle.std.proofs.lemmas.Bool.{leb-true}
use Rattle.text.specs.declared.buffer.Text.{Text}
use Rattle.text.specs.Buffer.{Put, Puts}
use Rattle.text.specs.Numerals.{spelt, unsigned_numeral, numeral, spaced, line, Behind, Follows, Line}

-- ---- digits

-- the fewest digits of n are those of n / 10 and one more
shorter : (n k : ℕ) → IsDigitCount 10 1 n (suc (suc k)) → IsDigitCount 10 1 (n / 10) (suc k)
shorter n k h =
    let e : suc (suc k) - 1 ≡ suc k = omega arith in
    let f : suc k - 1 ≡ k = omega arith in
    let l : 10 ^ suc k ≤ n = rw e at (h.2 (omega arith)) in
    (omega arith, omega (arith, pow-suc 10 (suc k), h.1), λ _. rw f (omega (arith, pow-suc 10 k)))

positive : (k : ℕ) → 1 ≤ 10 ^ k
positive zero = omega arith
positive (suc k) = omega (arith, pow-suc 10 k, positive k)

-- f digits are enough
pub digits-spelt : (k f n : ℕ) → 1 ≤ f → n < 10 ^ f → IsDigitCount 10 1 n k → last_digits 10 k n ≡ spelt f n
unfolding spelt
digits-spelt zero f n l m h = absurd (omega arith)
digits-spelt (suc k) zero n l m h = absurd (omega arith)
digits-spelt (suc zero) (suc f) n l m h = rw (lt-ltb n 10 h.1, lt-ltb (n % 10) 10 (omega arith))
digits-spelt (suc (suc k)) (suc f) n l m h =
    let e : suc (suc k) - 1 ≡ suc k = omega arith in
    let g : 10 ≤ n = omega (arith, pow-suc 10 k, rw e at (h.2 (omega arith)), positive k) in
    rw (le-ltb n 10 g, lt-ltb (n % 10) 10 (omega arith))
    (ap (λ (d : List ℕ). d ++ ((48 + n % 10) ∷ [])) (digits-spelt (suc k) f (n / 10) (some f m g) (omega (arith, pow-suc 10 f)) (shorter n k h)))
  where
    some : (f : ℕ) → n < 10 ^ suc f → 10 ≤ n → 1 ≤ f
    some zero m g = absurd (omega arith)
    some (suc f) m g = omega arith

-- ---- one text behind the other

module _ (before : List ℕ) (at : ℕ) where
  -- a text that was put stands behind what was there
  pub put-behind : (text after : List ℕ) (r : ℕ) → Put before at text after r → Behind before at text after r
  unfolding splice
  put-behind text after r p =
      record {
        end = λ h. rw (le-leb (at + length text) (length before) h) at p.behind;
        bytes =
            λ h.
            let k : length (take at before ++ text) ≡ at + length text = length-append (take at before) text ∙ ap (λ (n : ℕ). n + length text) (length-take-le at before (omega arith)) in
            rw (rw (le-leb (at + length text) (length before) h) at p.behind, rw (le-leb (at + length text) (length before) h) at p.bytes, ← append_assoc)
            (take_at (take at before ++ text) (drop (at + length text) before) (at + length text) k);
      }

  -- two texts
  pub behind-both : (text more mid after : List ℕ) (k r : ℕ) → length mid ≡ length before → Behind before at text mid k → Behind mid k more after r
      → Behind before at (text ++ more) after r
  behind-both text more mid after k r e p q =
      record {
        end = λ h. let l = length-append text more in let a = p.end (omega arith) in let b = q.end (omega arith) in omega arith;
        bytes =
            λ h.
            let l = length-append text more in
            let a = p.end (omega arith) in
            rw (q.bytes (omega arith), p.bytes (omega arith), append_assoc);
      }

-- a text that was put changes no buffer's size
pub put-size : (before : List ℕ) (at : ℕ) (text after : List ℕ) (r : ℕ) → Put before at text after r → length after ≡ length before
put-size before at text after r p = go (nat_le (at + length text) (length before)) refl
  where
    go : (b : Bool) → nat_le (at + length text) (length before) ≡ b → length after ≡ length before
    go true e = rw (rw e at p.bytes) (length-splice before at text (leb-true _ _ e))
    go false e = rw (rw e at p.bytes)

-- the same for lines that hold their buffer
pub puts-follows : {a b : Text} {text : List ℕ} → Puts a text b → Follows a text b
puts-follows p = record { same_buffer = p.same_buffer; same_size = put-size _ _ _ _ _ p.put; behind = put-behind _ _ _ _ _ p.put }

pub follows-both : {a b c : Text} {text more : List ℕ} → Follows a text b → Follows b more c → Follows a (text ++ more) c
follows-both p q =
    record { same_buffer = q.same_buffer ∙ p.same_buffer; same_size = q.same_size ∙ p.same_size; behind = behind-both _ _ _ _ _ _ _ _ p.same_size p.behind q.behind }

-- no text
pub nothing-behind : (before : List ℕ) (at : ℕ) → Behind before at [] before at
nothing-behind before at = record { end = λ h. omega arith; bytes = λ h. sym (append-nil (take at before)) }

pub follows-nothing : (a : Text) → Follows a [] a
follows-nothing a = record { same_buffer = refl; same_size = refl; behind = nothing-behind _ _ }

-- ---- numerals

pub numeral-below : (z : ℤ) → int_lt z (pos 0) ≡ true → 45 ∷ unsigned_numeral (unsigned_abs z) ≡ numeral z
unfolding numeral
numeral-below (pos n) e = absurd (omega (arith, ltb-true n 0 e))
numeral-below (negsuc n) e = refl

pub numeral-above : (z : ℤ) → int_lt z (pos 0) ≡ false → unsigned_numeral (unsigned_abs z) ≡ numeral z
unfolding numeral
numeral-above (pos n) e = refl
numeral-above (negsuc n) e = let y : true ≡ false = e in cc

-- ---- lines

spaced-more : (xs : List ℤ) (z : ℤ) → spaced (xs ++ (z ∷ [])) ≡ spaced xs ++ (32 ∷ numeral z)
unfolding spaced
spaced-more [] z = ap (32 ∷◌) (append-nil (numeral z))
spaced-more (x ∷ xs) z = ap (32 ∷◌) (rw (spaced-more xs z, append_assoc))

-- the numbers before index k, and the one at k
pub spaced-next : (xs : List ℤ) (k : ℕ) (d : ℤ) → k < length xs → spaced (take (k + 1) xs) ≡ spaced (take k xs) ++ (32 ∷ numeral (slice_index_or xs k d))
spaced-next xs k d h = rw (add-one, take-suc xs k d) (spaced-more (take k xs) (slice_index_or xs k d))

-- the numbers before index i, the first aside, and the one at i
pub next-number : (zs : List ℤ) (i : ℕ) (d : ℤ) → 1 ≤ i → i < length zs → spaced (take (i + 1 - 1) (drop 1 zs)) ≡ spaced (slice_range zs 1 i) ++ (32 ∷ numeral (slice_index_or zs i d))
next-number [] i d l h = absurd (omega arith)
next-number (x ∷ xs) zero d l h = absurd (omega arith)
next-number (x ∷ xs) (suc j) d l h =
    let e : suc j + 1 - 1 ≡ suc j = omega arith in
    let f : suc j - 1 ≡ j = omega arith in
    rw (e, f, take-suc xs j d (omega arith)) (spaced-more (take j xs) (slice_index_or xs j d))

-- the first number, and all the others
pub all-numbers : (zs : List ℤ) (i : ℕ) (d : ℤ) → 1 ≤ length zs → length zs ≤ i → numeral (slice_index_or zs 0 d) ++ spaced (slice_range zs 1 i) ≡ line zs
unfolding line
all-numbers [] i d l h = absurd (omega arith)
all-numbers (x ∷ xs) i d l h = ap (λ (ys : List ℤ). numeral x ++ spaced ys) (take_all (i - 1) xs (omega arith))

-- no number, no line
pub nothing_put : (before : List ℕ) (zs : List ℤ) → length zs ≡ 0 → Line before zs before 0
unfolding line
nothing_put before [] e = nothing-behind before 0
nothing_put before (z ∷ zs) e = absurd (omega arith)
