-- Words, numbers and bytes as text, computed; a byte is its ASCII code. Assumes nothing.
use Rattle.std.specs.Prelude.{◌≡◌, ℕ, Option, Some, None, Bool, true, false, List, [], ◌∷◌, ◌++◌, map, ℤ, pos, negsuc, refl}
use Rattle.text.specs.LineWords.{is_blank, run, first_word}
use Rattle.text.specs.Numbers.{digit_of, digits, decimal, read_on, unsigned_of, negative_of, has_minus, signed_of}
use Rattle.text.specs.Numerals.{spelt, unsigned_numeral, numeral, spaced, line}
use Rattle.text.specs.Hexadecimal.{glyph_of, spelled, nibble_of, pairs, hex_bytes}

-- ---- words

-- a line and its first word: between blanks, at the line's end, and where there is none
unfoldable pub firsts : List (List ℕ × List ℕ)
firsts = (32 ∷ 32 ∷ 97 ∷ 98 ∷ 32 ∷ 99 ∷ [], 97 ∷ 98 ∷ []) ∷ (9 ∷ 99 ∷ [], 99 ∷ []) ∷ (32 ∷ [], []) ∷ []

-- ---- numbers

-- 922337203685477580, which the ends of 64 bits begin with
unfoldable pub front : List ℕ
front = 57 ∷ 50 ∷ 50 ∷ 51 ∷ 51 ∷ 55 ∷ 50 ∷ 48 ∷ 51 ∷ 54 ∷ 56 ∷ 53 ∷ 52 ∷ 55 ∷ 55 ∷ 53 ∷ 56 ∷ 48 ∷ []

-- words, and what they say where 255 is the most
unfoldable pub unsigneds : List (List ℕ × Option ℕ)
unsigneds =
    (50 ∷ 53 ∷ 53 ∷ [], Some 255)
    ∷ (50 ∷ 53 ∷ 54 ∷ [], None)  -- 256
    ∷ (48 ∷ 50 ∷ 53 ∷ 53 ∷ [], Some 255)  -- 0255
    ∷ ([], None)
    ∷ (50 ∷ 97 ∷ [], None)  -- 2a
    ∷ (50 ∷ 58 ∷ [], None)  -- the bytes beside the digits
    ∷ (50 ∷ 47 ∷ [], None)
    ∷ []

-- numbers, and how they are written: these words are also read as them
unfoldable pub numerals : List (ℤ × List ℕ)
numerals =
    (pos 0, 48 ∷ [])
    ∷ (pos 9, 57 ∷ [])
    ∷ (pos 10, 49 ∷ 48 ∷ [])
    ∷ (pos 123, 49 ∷ 50 ∷ 51 ∷ [])
    ∷ (negsuc 0, 45 ∷ 49 ∷ [])
    ∷ (negsuc 99, 45 ∷ 49 ∷ 48 ∷ 48 ∷ [])
    ∷ (pos 9223372036854775807, front ++ (55 ∷ []))
    ∷ (negsuc 9223372036854775807, 45 ∷ (front ++ (56 ∷ [])))
    ∷ []

-- other words, and what they say
unfoldable pub signeds : List (List ℕ × Option ℤ)
signeds =
    (45 ∷ 48 ∷ [], Some (pos 0))  -- -0
    ∷ (45 ∷ 48 ∷ 49 ∷ 50 ∷ [], Some (negsuc 11))  -- -012
    ∷ (45 ∷ [], None)
    ∷ (45 ∷ 45 ∷ 49 ∷ [], None)  -- --1
    ∷ (43 ∷ 49 ∷ [], None)  -- +1
    ∷ (front ++ (56 ∷ []), None)  -- just beyond the ends
    ∷ (45 ∷ (front ++ (57 ∷ [])), None)
    ∷ []

-- lines of numbers
unfoldable pub lines : List (List ℤ × List ℕ)
lines = ([], []) ∷ (pos 7 ∷ [], 55 ∷ []) ∷ (pos 0 ∷ negsuc 4 ∷ pos 12 ∷ [], 48 ∷ 32 ∷ 45 ∷ 53 ∷ 32 ∷ 49 ∷ 50 ∷ []) ∷ []

-- ---- bytes

-- 00, 7f, 9a, ff and how they are written
abbrev some : List ℕ
some = 0 ∷ 127 ∷ 154 ∷ 255 ∷ []

abbrev written : List ℕ
written = 48 ∷ 48 ∷ 55 ∷ 102 ∷ 57 ∷ 97 ∷ 102 ∷ 102 ∷ []

-- AF9A
abbrev capitals : List ℕ
capitals = 65 ∷ 70 ∷ 57 ∷ 65 ∷ []

-- the bytes beside the digits, the capitals and the small letters
abbrev beside : List ℕ
beside = 47 ∷ 58 ∷ 64 ∷ 71 ∷ 96 ∷ 103 ∷ []

-- both cases of the digits, and words that are no pairs of digits
unfoldable pub pairings : List (List ℕ × Bool)
pairings =
    (48 ∷ 48 ∷ 55 ∷ 102 ∷ 70 ∷ 70 ∷ [], true) ∷ (48 ∷ 48 ∷ 55 ∷ [], false) ∷ (48 ∷ 103 ∷ [], false) ∷ (103 ∷ 48 ∷ [], false) ∷ []

pub words_computed : map (λ e. first_word e.0) firsts ≡ map (λ e. e.1) firsts
unfolding firsts first_word run is_blank
words_computed = refl

pub read : (map (λ e. unsigned_of 255 e.0) unsigneds ≡ map (λ e. e.1) unsigneds)
    × (map (λ e. signed_of e.1) numerals ≡ map (λ e. Some e.0) numerals)
    × (map (λ e. signed_of e.0) signeds ≡ map (λ e. e.1) signeds)
unfolding unsigneds numerals signeds front signed_of negative_of has_minus unsigned_of read_on digits decimal digit_of
read = (refl, refl, refl)

-- 18446744073709551615, the longest numeral
abbrev longest : List ℕ
longest =
    49 ∷ 56 ∷ 52 ∷ 52 ∷ 54 ∷ 55 ∷ 52 ∷ 52 ∷ 48 ∷ 55 ∷ 51 ∷ 55 ∷ 48 ∷ 57 ∷ 53 ∷ 53 ∷ 49 ∷ 54 ∷ 49 ∷ 53 ∷ []

pub wrote : (map (λ e. numeral e.0) numerals ≡ map (λ e. e.1) numerals) × (map (λ e. line e.0) lines ≡ map (λ e. e.1) lines) × (unsigned_numeral 18446744073709551615 ≡ longest)
unfolding numerals front lines spelt unsigned_numeral numeral spaced line
wrote = (refl, refl, refl)

pub hexadecimal : (spelled some ≡ written) × (hex_bytes written ≡ some) × (hex_bytes capitals ≡ 175 ∷ 154 ∷ []) × (map (λ e. pairs e.0) pairings ≡ map (λ e. e.1) pairings)
    × (map (λ b. pairs (b ∷ 48 ∷ [])) beside ≡ map (λ b. false) beside) × (map (λ b. pairs (48 ∷ b ∷ [])) beside ≡ map (λ b. false) beside)
unfolding pairings spelled glyph_of hex_bytes nibble_of pairs
hexadecimal = (refl, refl, refl, refl, refl, refl)
