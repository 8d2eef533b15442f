-- Bodies that are taken and refused, rule by rule, and what their bytes say, operation by operation. Assumes nothing.
use Rattle.std.specs.Prelude.{Option, Some, None, ℕ, ◌-◌, ◌^◌, ◌≡◌, refl, List, [], ◌∷◌, ◌++◌, map, length, replicate, take, pos, negsuc}
use Rattle.operation.specs.declared.Operation.{Operation}
use Rattle.operation.specs.declared.Operation.TheVariants.{Load, Store, Set, Add, Subtract, Skip, Fail, Divide}
use Rattle.operation.specs.Body.{register_count, longest_skip, most_divisor, listed, operations, allowed, each, is_well_formed, decoded}
use Rattle.operation.specs.Encode.{Row, written, encode}

-- one operation alone
abbrev one : Row → List ℕ
one r = written (r ∷ [])

-- one operation with k fails after it
abbrev before : ℕ → Row → List ℕ
before k r = written (r ∷ replicate k (6, 0, 0, 0))

-- the third of five, with fails around it
abbrev third : Row → List ℕ
third r = written ((6, 0, 0, 0) ∷ (6, 0, 0, 0) ∷ r ∷ replicate 2 (6, 0, 0, 0))

abbrev fails : ℕ → List ℕ
fails m = written (replicate m (6, 0, 0, 0))

-- the most operations, the number of objects, a body, and what decoding it answers
abbrev Example : Type 0
Example = ℕ × ℕ × List ℕ × Option ℕ

-- at most 16 operations over 3 objects
abbrev taken : ℕ → List ℕ → Example
taken m b = (16, 3, b, Some m)

abbrev refused : List ℕ → Example
refused b = (16, 3, b, None)

unfoldable pub examples : List Example
examples =
    taken 1 (one (0, 3, 2, 0))  -- load
    ∷ refused (one (0, 4, 2, 0))  -- register 4
    ∷ refused (one (0, 3, 3, 0))  -- object 3 of 3
    ∷ refused (one (0, 3, 2, 1))  -- a constant
    ∷ taken 1 (one (1, 3, 2, 0))  -- store
    ∷ refused (one (1, 4, 2, 0))
    ∷ refused (one (1, 3, 3, 0))
    ∷ refused (one (1, 3, 2, 2 ^ 56))
    ∷ (16, 1, one (0, 1, 0, 0), Some 1)  -- the one object
    ∷ (16, 1, one (1, 0, 1, 0), None)
    ∷ (16, 128, one (0, 0, 127, 0), Some 1)
    ∷ (16, 128, one (1, 0, 128, 0), None)
    ∷ taken 1 (one (2, 3, 0, 0))  -- set
    ∷ taken 1 (one (2, 0, 0, 2 ^ 64 - 1))  -- to -1
    ∷ refused (one (2, 4, 0, 0))
    ∷ refused (one (2, 3, 1, 0))  -- a second
    ∷ taken 1 (one (3, 3, 3, 0))  -- add
    ∷ refused (one (3, 4, 3, 0))
    ∷ refused (one (3, 3, 4, 0))
    ∷ refused (one (3, 3, 3, 1))
    ∷ taken 1 (one (4, 3, 3, 0))  -- subtract
    ∷ refused (one (4, 4, 3, 0))
    ∷ refused (one (4, 3, 4, 0))
    ∷ refused (one (4, 3, 3, 1))
    ∷ taken 4 (before 3 (5, 3, 2, 0))  -- skip
    ∷ taken 4 (before 3 (5, 3, 3, 0))  -- document 01, case 10: it ends exactly past the last
    ∷ refused (before 3 (5, 3, 4, 0))  -- past the end
    ∷ refused (one (5, 3, 1, 0))  -- case 10: at the last operation
    ∷ refused (before 3 (5, 3, 0, 0))
    ∷ refused (before 3 (5, 4, 2, 0))
    ∷ refused (before 3 (5, 3, 2, 1))
    ∷ taken 5 (third (5, 2, 2, 0))  -- the third of five may pass over two, not three
    ∷ refused (third (5, 2, 3, 0))
    ∷ taken 16 (before 15 (5, 3, 15, 0))
    ∷ (17, 3, before 16 (5, 3, 15, 0), Some 17)
    ∷ (17, 3, before 16 (5, 3, 16, 0), None)  -- more than 15
    ∷ taken 1 (one (6, 0, 0, 0))  -- fail
    ∷ refused (one (6, 1, 0, 0))
    ∷ refused (one (6, 0, 1, 0))
    ∷ refused (one (6, 0, 0, 1))
    ∷ taken 1 (one (7, 3, 0, 1))  -- divide
    ∷ taken 1 (one (7, 3, 0, 1000000))
    ∷ refused (one (7, 4, 0, 1))
    ∷ refused (one (7, 3, 1, 1))
    ∷ refused (one (7, 3, 0, 0))
    ∷ refused (one (7, 3, 0, 1000001))
    ∷ refused (one (7, 3, 0, 2 ^ 64 - 1))  -- by -1
    ∷ refused (one (8, 0, 0, 0))  -- no kind 8
    ∷ refused (one (255, 0, 0, 0))
    ∷ refused (written ((6, 0, 0, 0) ∷ (8, 0, 0, 0) ∷ (6, 0, 0, 0) ∷ []))  -- the rules hold for each operation
    ∷ refused []
    ∷ refused (fails 0)
    ∷ taken 16 (fails 16)
    ∷ refused (fails 17)
    ∷ (8, 3, fails 8, Some 8)
    ∷ (8, 3, fails 9, None)
    ∷ refused (take 22 (fails 2))  -- one byte short
    ∷ refused (fails 2 ++ (0 ∷ []))  -- one byte long
    ∷ []

pub decoded-examples : map (λ e. decoded e.0 e.1 e.2) examples ≡ map (λ e. e.3) examples
unfolding examples written decoded is_well_formed each allowed register_count longest_skip most_divisor
decoded-examples = refl

-- ---- what the bytes mean

-- eight bytes of 0: no constant
abbrev empty : List ℕ
empty = replicate 8 0

-- Every kind, byte by byte: first and second differ, and so do all bytes of a constant. Encode's `written` is not used here.
unfoldable pub bytes : List ℕ
bytes =
    (9 ∷ [])
    ++ (0 ∷ 2 ∷ 1 ∷ [])
    ++ (1 ∷ 1 ∷ 2 ∷ [])
    ++ (2 ∷ 3 ∷ 0 ∷ [])
    ++ (2 ∷ 2 ∷ 0 ∷ [])
    ++ (3 ∷ 0 ∷ 3 ∷ [])
    ++ (4 ∷ 3 ∷ 1 ∷ [])
    ++ (5 ∷ 1 ∷ 2 ∷ [])
    ++ (6 ∷ 0 ∷ 0 ∷ [])
    ++ (7 ∷ 1 ∷ 0 ∷ [])
    ++ empty
    ++ empty
    ++ (8 ∷ 7 ∷ 6 ∷ 5 ∷ 4 ∷ 3 ∷ 2 ∷ 1 ∷ [])
    ++ (254 ∷ 255 ∷ 255 ∷ 255 ∷ 255 ∷ 255 ∷ 255 ∷ 255 ∷ [])
    ++ empty
    ++ empty
    ++ empty
    ++ empty
    ++ (2 ∷ 1 ∷ 0 ∷ 0 ∷ 0 ∷ 0 ∷ 0 ∷ 0 ∷ [])

-- what they say
unfoldable pub said : List Operation
said =
    Load 2 1
    ∷ Store 1 2
    ∷ Set 3 (pos 72623859790382856)
    ∷ Set 2 (negsuc 1)
    ∷ Add 0 3
    ∷ Subtract 3 1
    ∷ Skip 1 2
    ∷ Fail
    ∷ Divide 1 258
    ∷ []

-- every kind, with the ends of its ranges; the skip ends exactly past the last
unfoldable pub program : List Operation
program =
    Load 3 127
    ∷ Store 2 0
    ∷ Set 1 (pos 9223372036854775807)
    ∷ Set 1 (negsuc 9223372036854775807)
    ∷ Set 0 (negsuc 0)
    ∷ Add 0 1
    ∷ Subtract 2 3
    ∷ Skip 1 3
    ∷ Divide 3 1000000
    ∷ Divide 0 1
    ∷ Fail
    ∷ []

-- bytes, the operations that they say, and for how many objects they are well formed
unfoldable pub readings : List (List ℕ × List Operation × ℕ)
readings = (bytes, said, 3) ∷ (encode said, said, 3) ∷ (encode program, program, 128) ∷ []

pub readings-hold :
    (map (λ e. operations e.0) readings ≡ map (λ e. e.1) readings)
    × (map (λ e. decoded 16 e.2 e.0) readings ≡ map (λ e. Some (length e.1)) readings)
    × (encode said ≡ bytes)
unfolding readings bytes said program encode written operations listed decoded is_well_formed each allowed register_count longest_skip most_divisor
readings-hold = (refl, refl, refl)
