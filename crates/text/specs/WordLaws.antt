-- How a run of bytes and a word are found. Assumes nothing.
use Rattle.std.specs.Prelude.{◌≡◌, ℕ, min, nat_le, refl, Ok, Err, suc, ◌+◌, ◌-◌, ◌<◌, ◌≤◌, Bool, true, false, cond, not, List, [], length, take, drop, ◌≢◌, slice_index}
use Rattle.std.proofs.Math.Path.{sym}
use Rattle.std.proofs.Math.Nat.{min-eq_left, min-eq_right}
use Rattle.std.proofs.Common.{ap, ◌∙◌, add-zero, zero-add, drop_of_length-le, drop-drop}
use Rattle.std.specs.Bool.{beq}
use Rattle.std.proofs.Math.Numerals.{add-one}
use native.Mathlib.Omega.{arith}
use Rattle.std.proofs.Math.Seq.{drop-length, drop-cons}
use borrow.Author.Count.{below_more}
use Rattle.std.proofs.lemmas.Bool.{not-true, not-false, leb-true, leb-false}
use Rattle.text.specs.declared.line_words.Word.{Word}
use Rattle.text.specs.LineWords.{is_blank, run, first_word, rest, bytes, Next, word, Placed}

-- at index i of a line, where the byte is a blank or not
module _ (blank : Bool) (i : ℕ) (l : List ℕ) (h : i < length l) (b : Bool) (e : b ≡ is_blank (slice_index l i)) where
  here : run blank (drop i l) ≡ cond (beq b blank) (suc (run blank (drop (i + 1) l))) 0
  unfolding run
  here = rw (e, add-one, drop-cons l i 0)

  pub stops : not (beq b blank) ≡ true → run blank (drop i l) ≡ 0
  stops t = here ∙ rw (not-true (beq b blank) t)

  pub goes_on : not (beq b blank) ≡ false → run blank (drop i l) ≡ suc (run blank (drop (i + 1) l))
  goes_on t = here ∙ rw (not-false (beq b blank) t)

pub ends : (blank : Bool) (i : ℕ) (l : List ℕ) → length l ≤ i → run blank (drop i l) ≡ 0
unfolding run
ends blank i l h = rw (drop_of_length-le l h)

-- an index past the end is as good as the end
pub at-end : (at : ℕ) (l : List ℕ) → length l ≤ at → drop (length l) l ≡ drop at l
at-end at l h = drop-length l ∙ sym (drop_of_length-le l h)

pub from-least : (at : ℕ) (l : List ℕ) → drop (min at (length l)) l ≡ drop at l
from-least at l = least (nat_le at (length l)) refl
  where
    least : (b : Bool) → nat_le at (length l) ≡ b → drop (min at (length l)) l ≡ drop at l
    least true e = ap (λ k. drop k l) (min-eq_left (leb-true _ _ e))
    least false e = let h = leb-false _ _ e in let k : length l ≤ at = omega arith in ap (λ k. drop k l) (min-eq_right k) ∙ at-end at l k

-- a word from index from up to index to, found from index start on
module _ (l : List ℕ) (at start from to : ℕ) (e : drop start l ≡ drop at l) (f : from ≡ start + run true (drop start l)) (t : to ≡ from + run false (drop from l)) where
  -- what begins with the word
  begins : drop from l ≡ drop (run true (drop at l)) (drop at l)
  begins = rw (← e, drop-drop, ← f)

  pub word-is : take (to - from) (drop from l) ≡ first_word (drop at l)
  unfolding first_word
  word-is =
      let n : to - from ≡ run false (drop from l) = omega arith in
      rw n (ap (λ (x : List ℕ). take (run false x) x) begins)

  pub rest-is : drop to l ≡ rest (drop at l)
  unfolding rest
  rest-is = rw (t, ← drop-drop) (ap (λ (x : List ℕ). drop (run false x) x) begins)

-- ---- words one after another

-- k words are passed, none of them w, and the next ones begin at index at
pub record Passed (l w : List ℕ) (at k : ℕ) : Type 0 where
  pub within : at ≤ length l
  pub others : (i : ℕ) → i < k → word i l ≢ w
  pub next : (j : ℕ) → word (k + j) l ≡ word j (drop at l)

pub none_passed : (l w : List ℕ) → Passed l w 0 0
none_passed l w = record { within = omega arith; others = λ i h. absurd (omega arith); next = λ j. rw zero-add }

module _ (l w : List ℕ) (at k : ℕ) (p : Passed l w at k) where
  word-here : word k l ≡ first_word (drop at l)
  unfolding word
  word-here = rw (add-zero k) at (p.next 0)

  pub found : (x : Word) → Next l at x → bytes l x ≡ w → Placed l w (Ok k)
  found x n e = (p.others, word-here ∙ sym n.is ∙ e)

  pub none_left : first_word (drop at l) ≡ [] → Placed l w (Err k)
  none_left e = (p.others, word-here ∙ e)

  pub pass : (x : Word) → Next l at x → (bytes l x ≢ w) → Passed l w x.to (k + 1)
  unfolding word
  pass x n ne =
      record {
        within = n.within;
        others = below_more _ _ p.others (λ e. ne (n.is ∙ sym word-here ∙ e));
        next = λ j. let a : k + 1 + j ≡ k + suc j = omega arith in rw (a, n.behind) (p.next (suc j));
      }

pub first-of_none : (l : List ℕ) (at : ℕ) → length l ≤ at → first_word (drop at l) ≡ []
unfolding first_word run
first-of_none l at h = rw (drop_of_length-le l h)

pub first-empty : (l : List ℕ) (at : ℕ) (x : Word) → Next l at x → x.from ≡ x.to → first_word (drop at l) ≡ []
first-empty l at x n e = let z : x.to - x.from ≡ 0 = omega arith in sym n.is ∙ rw z
