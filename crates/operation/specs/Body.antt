-- A transaction's body (document 01, "A job's body"): what its bytes mean, operation by operation, and when it is well formed.
-- Assumes nothing.
use Rattle.std.specs.Prelude.{Option, Some, None, ℕ, zero, suc, ◌+◌, ◌-◌, ◌*◌, List, [], ◌∷◌, Bool, true, false, ◌&&◌, length, get_or, ltb, leb, eqb}
use Rattle.std.specs.Int.{w64}
use Rattle.std.proofs.Common.{to_z}
use Rattle.words.specs.Words.{loaded}
use Rattle.operation.specs.declared.Operation.{Operation}
use Rattle.operation.specs.declared.Operation.TheVariants.{Load, Store, Set, Add, Subtract, Skip, Fail, Divide}

-- "four registers"
unfoldable pub register_count : ℕ
register_count = 4

-- a skip passes over at most so many operations
unfoldable pub longest_skip : ℕ
longest_skip = 15

unfoldable pub most_divisor : ℕ
most_divisor = 1000000

-- "The length is exactly 1 + 11m."
abbrev pub body_length : ℕ → ℕ
body_length m = 1 + 11 * m

-- ---- what the bytes mean

-- one byte; past the end 0
abbrev pub byte_at : List ℕ → ℕ → ℕ
byte_at b i = get_or b i 0

-- "One byte m": the number of operations
abbrev pub size : List ℕ → ℕ
size b = byte_at b 0

-- "then m operations of 3 bytes (kind, first, second)"
abbrev pub kind_byte : List ℕ → ℕ → ℕ
kind_byte b i = byte_at b (1 + 3 * i)

abbrev pub first_byte : List ℕ → ℕ → ℕ
first_byte b i = byte_at b (2 + 3 * i)

abbrev pub second_byte : List ℕ → ℕ → ℕ
second_byte b i = byte_at b (3 + 3 * i)

-- "then m signed 8-byte constants, two's complement": the bits
abbrev pub constant_word : List ℕ → ℕ → ℕ
constant_word b i = loaded b (1 + 3 * size b + 8 * i)

-- the operation of a kind; kinds 2 and 7 carry the constant, whose bits are c
abbrev pub operation_of : ℕ → ℕ → ℕ → ℕ → Operation
operation_of kind f s c =
    get_or (Load f s ∷ Store f s ∷ Set f (to_z w64 c) ∷ Add f s ∷ Subtract f s ∷ Skip f s ∷ Fail ∷ []) kind (Divide f c)

abbrev pub operation_at : List ℕ → ℕ → Operation
operation_at b i = operation_of (kind_byte b i) (first_byte b i) (second_byte b i) (constant_word b i)

-- f 0 to f (m - 1)
unfoldable pub listed : {A : Type 0} → (ℕ → A) → ℕ → List A
listed f zero = []
listed f (suc m) = f 0 ∷ listed (λ i. f (suc i)) m

-- the operations of a body, in order
unfoldable pub operations : List ℕ → List Operation
operations b = listed (operation_at b) (size b)

-- ---- the rules

abbrev pub is_register : ℕ → Bool
is_register r = ltb r register_count

abbrev pub between : ℕ → ℕ → ℕ → Bool
between low high k = leb low k && leb k high

-- The rules of the eight kinds, for a replica of n objects. `left` operations come after this one: a skip may not reach past the end.
-- "The constant is 0 for kinds other than 2 and 7."
abbrev pub rules : ℕ → ℕ → ℕ → ℕ → ℕ → List Bool
rules n left f s c =
    (is_register f && ltb s n && eqb c 0)  -- 0 load: register, object
    ∷ (is_register f && ltb s n && eqb c 0)  -- 1 store: register, object
    ∷ (is_register f && eqb s 0)  -- 2 set: register, any constant
    ∷ (is_register f && is_register s && eqb c 0)  -- 3 add
    ∷ (is_register f && is_register s && eqb c 0)  -- 4 subtract
    ∷ (is_register f && between 1 longest_skip s && leb s left && eqb c 0)  -- 5 skip: register, count
    ∷ (eqb f 0 && eqb s 0 && eqb c 0)  -- 6 fail
    ∷ (is_register f && eqb s 0 && between 1 most_divisor c)  -- 7 divide: register, constant
    ∷ []

-- no other kind is allowed
unfoldable pub allowed : ℕ → ℕ → ℕ → ℕ → ℕ → ℕ → Bool
allowed n left kind f s c = get_or (rules n left f s c) kind false

abbrev pub allowed_at : ℕ → List ℕ → ℕ → Bool
allowed_at n b i = allowed n (size b - (i + 1)) (kind_byte b i) (first_byte b i) (second_byte b i) (constant_word b i)

-- the test holds of each number below k
unfoldable pub each : (ℕ → Bool) → ℕ → Bool
each q zero = true
each q (suc k) = each q k && q k

-- A well-formed body over n objects, of at most `most` operations: "m, 1 to 16", "The length is exactly 1 + 11m", each operation allowed.
unfoldable pub is_well_formed : ℕ → ℕ → List ℕ → Bool
is_well_formed most n b =
    leb 1 (size b) && leb (size b) most && eqb (length b) (body_length (size b)) && each (allowed_at n b) (size b)

abbrev pub pick_decoded : Bool → Option ℕ → Option ℕ → Option ℕ
pick_decoded true a b = a
pick_decoded false a b = b

-- what decoding a whole body answers: the number of its operations, or none where it breaks a rule
unfoldable pub decoded : ℕ → ℕ → List ℕ → Option ℕ
decoded most n b = pick_decoded (is_well_formed most n b) (Some (size b)) None
