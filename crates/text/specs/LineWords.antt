-- The words of a line. Assumes nothing.
use Rattle.std.specs.Prelude.{◌≡◌, ℕ, Result, Ok, Err, zero, suc, ◌-◌, ◌<◌, ◌≤◌, Bool, true, false, cond, ◌||◌, List, [], ◌∷◌, length, take, drop, ◌==◌, ◌≢◌}
use Rattle.std.specs.Bool.{beq}
use Rattle.text.specs.declared.line_words.Word.{Word}

-- a space or a tab
unfoldable pub is_blank : ℕ → Bool
is_blank b = b == 32 || b == 9

-- how many bytes at the start of l are blanks; with false, how many are none
unfoldable pub run : Bool → List ℕ → ℕ
run blank [] = 0
run blank (b ∷ l) = cond (beq (is_blank b) blank) (suc (run blank l)) 0

-- the first word of l, after the blanks before it
unfoldable pub first_word : List ℕ → List ℕ
first_word l = let r : List ℕ = drop (run true l) l in take (run false r) r

-- what is behind it
unfoldable pub rest : List ℕ → List ℕ
rest l = let r : List ℕ = drop (run true l) l in drop (run false r) r

abbrev pub bytes : List ℕ → Word → List ℕ
bytes line w = take (w.to - w.from) (drop w.from line)

-- w is the first word of the line from index at on, and ends where the rest begins
pub record Next (line : List ℕ) (at : ℕ) (w : Word) : Type 0 where
  pub ordered : w.from ≤ w.to
  pub within : w.to ≤ length line
  pub forward : at ≤ length line → at ≤ w.from
  pub is : bytes line w ≡ first_word (drop at line)
  pub behind : drop w.to line ≡ rest (drop at line)

-- the words of a line, from 0 on; the empty word past the last
unfoldable pub word : ℕ → List ℕ → List ℕ
word zero l = first_word l
word (suc k) l = word k (rest l)

-- none of the first n words of a line is w
abbrev pub NoneBefore : List ℕ → List ℕ → ℕ → Type 0
NoneBefore line w n = (k : ℕ) → k < n → word k line ≢ w

-- the first place of w among the words of a line; where it is none of them, the first place past the last
abbrev pub Placed : List ℕ → List ℕ → Result ℕ ℕ → Type 0
Placed line w (Ok r) = NoneBefore line w r × (word r line ≡ w)
Placed line w (Err n) = NoneBefore line w n × (word n line ≡ [])
