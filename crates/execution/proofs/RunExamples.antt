-- What each kind of operation asks for, and whole runs with what their sets keep, computed from the definitions. Assumes nothing.
use Rattle.std.specs.Prelude.{ℕ, ◌≡◌, refl, Bool, true, false, List, [], ◌∷◌, map, ℤ, pos, negsuc}
use Rattle.arith.specs.Integer.{fits, rounds_up, quotient}
use Rattle.operation.specs.Body.{register_count, listed, operations}
use Rattle.operation.specs.Encode.{written, encode}
use Rattle.operation.specs.declared.Operation.{Operation}
use Rattle.operation.specs.declared.Operation.TheVariants.{Load, Store, Set, Add, Subtract, Skip, Fail, Divide}
use Rattle.execution.specs.Entries.{Entry, entry}
use Rattle.execution.specs.Bounds.{widest, inside}
use Rattle.execution.specs.LentTable.{lent_table}
use Rattle.execution.specs.Run.{Table, table_of, failed, overflowed, Move, get, put, go, halt, sum, move, Run, start, obey, step, steps, whole, counted, whole_count, matches, over}

-- the ends of 64 bits
abbrev most : ℤ
most = pos 9223372036854775807

abbrev least : ℤ
least = negsuc 9223372036854775807

abbrev values : List ℤ
values = pos 10 ∷ pos 20 ∷ pos 30 ∷ []

-- the objects of "A small depot": 10, 20, 30, at stamp 4, with the widest bounds
abbrev depot : Table
depot = table_of values (record { stamp = λ o. 4; allow = λ o. inside widest })

-- the same with stamps and bounds as they stand in cells, three cells apart: 9 and 5 to 15, 3 and 0 to 40, 6 and -7 to 30
abbrev bounded_depot : Table
bounded_depot =
    lent_table values (record { stamp = 0; lower = 1; stride = 3 }) (9 ∷ 5 ∷ 15 ∷ 3 ∷ 0 ∷ 40 ∷ 6 ∷ 18446744073709551609 ∷ 30 ∷ 8 ∷ [])

-- its transactions A, B and C
unfoldable pub body_a : List Operation
body_a = Load 0 0 ∷ Set 1 (pos 5) ∷ Add 0 1 ∷ Store 0 0 ∷ []

abbrev body_b : List Operation
body_b = Load 0 1 ∷ Store 0 2 ∷ []

abbrev body_c : List Operation
body_c = Load 0 0 ∷ Store 0 1 ∷ []

abbrev stands : ℕ → ℕ → List ℤ → List Entry → List Entry → Run
stands c o g r w = record { counter = c; outcome = o; registers = g; reads = r; writes = w }

abbrev at : ℕ → ℕ → Entry
at o v = entry o (pos v)

abbrev zeros : List ℤ
zeros = pos 0 ∷ pos 0 ∷ pos 0 ∷ pos 0 ∷ []

-- three registers of note
abbrev hold : ℤ → ℤ → ℤ → List ℤ
hold a b c = a ∷ b ∷ c ∷ pos 0 ∷ []

-- a body behind one that fills the registers with 0, 4, -5 and 6
abbrev filled : List Operation → List Operation
filled b = Set 1 (pos 4) ∷ Set 2 (negsuc 4) ∷ Set 3 (pos 6) ∷ Set 0 (pos 0) ∷ b

abbrev signs : List ℤ
signs = pos 0 ∷ pos 4 ∷ negsuc 4 ∷ pos 6 ∷ []

-- ---- one operation: what it asks for

-- all registers different, the signs in two orders; and the ends of 64 bits
abbrev mixed : List ℤ
mixed = pos 70 ∷ negsuc 32 ∷ pos 0 ∷ pos 9 ∷ []

abbrev turned : List ℤ
turned = negsuc 4 ∷ pos 0 ∷ pos 8 ∷ negsuc 99 ∷ []

abbrev ends : List ℤ
ends = most ∷ least ∷ pos 1 ∷ negsuc 0 ∷ []

-- registers, an operation, and its move
unfoldable pub moves : List (List ℤ × Operation × Move)
moves =
    (mixed, Load 2 1, get 2 1)
    ∷ (mixed, Load 1 3, get 1 3)
    ∷ (mixed, Store 0 3, put 3 (pos 70))
    ∷ (mixed, Store 1 2, put 2 (negsuc 32))
    ∷ (mixed, Store 2 1, put 1 (pos 0))
    ∷ (mixed, Store 3 0, put 0 (pos 9))
    ∷ (mixed, Set 0 (negsuc 6), go (negsuc 6 ∷ negsuc 32 ∷ pos 0 ∷ pos 9 ∷ []) 0)
    ∷ (mixed, Set 1 (pos 7), go (pos 70 ∷ pos 7 ∷ pos 0 ∷ pos 9 ∷ []) 0)
    ∷ (mixed, Set 2 least, go (pos 70 ∷ negsuc 32 ∷ least ∷ pos 9 ∷ []) 0)
    ∷ (mixed, Set 3 (pos 0), go (pos 70 ∷ negsuc 32 ∷ pos 0 ∷ pos 0 ∷ []) 0)
    -- add and subtract: the first register takes the result
    ∷ (mixed, Add 0 1, go (pos 37 ∷ negsuc 32 ∷ pos 0 ∷ pos 9 ∷ []) 0)
    ∷ (mixed, Add 1 3, go (pos 70 ∷ negsuc 23 ∷ pos 0 ∷ pos 9 ∷ []) 0)
    ∷ (mixed, Add 2 1, go (pos 70 ∷ negsuc 32 ∷ negsuc 32 ∷ pos 9 ∷ []) 0)
    ∷ (mixed, Add 3 0, go (pos 70 ∷ negsuc 32 ∷ pos 0 ∷ pos 79 ∷ []) 0)
    ∷ (turned, Add 3 3, go (negsuc 4 ∷ pos 0 ∷ pos 8 ∷ negsuc 199 ∷ []) 0)
    ∷ (mixed, Subtract 0 1, go (pos 103 ∷ negsuc 32 ∷ pos 0 ∷ pos 9 ∷ []) 0)
    ∷ (mixed, Subtract 1 3, go (pos 70 ∷ negsuc 41 ∷ pos 0 ∷ pos 9 ∷ []) 0)
    ∷ (mixed, Subtract 2 0, go (pos 70 ∷ negsuc 32 ∷ negsuc 69 ∷ pos 9 ∷ []) 0)
    ∷ (turned, Subtract 3 0, go (negsuc 4 ∷ pos 0 ∷ pos 8 ∷ negsuc 94 ∷ []) 0)
    ∷ (turned, Subtract 2 2, go (negsuc 4 ∷ pos 0 ∷ pos 0 ∷ negsuc 99 ∷ []) 0)
    -- a sum or difference that leaves 64 bits, and the like that just does not
    ∷ (ends, Add 0 2, halt overflowed)
    ∷ (ends, Add 2 0, halt overflowed)
    ∷ (ends, Add 1 3, halt overflowed)
    ∷ (ends, Subtract 1 2, halt overflowed)
    ∷ (ends, Subtract 2 1, halt overflowed)
    ∷ (ends, Subtract 0 3, halt overflowed)
    ∷ (ends, Add 0 1, go (negsuc 0 ∷ least ∷ pos 1 ∷ negsuc 0 ∷ []) 0)
    ∷ (ends, Subtract 3 1, go (most ∷ least ∷ pos 1 ∷ most ∷ []) 0)
    -- a skip is taken below 0, and neither at 0 nor above it
    ∷ (mixed, Skip 0 1, go mixed 0)
    ∷ (mixed, Skip 1 2, go mixed 2)
    ∷ (mixed, Skip 2 3, go mixed 0)
    ∷ (mixed, Skip 3 4, go mixed 0)
    ∷ (turned, Skip 0 5, go turned 5)
    ∷ (turned, Skip 1 6, go turned 0)
    ∷ (turned, Skip 2 7, go turned 0)
    ∷ (turned, Skip 3 15, go turned 15)
    ∷ (mixed, Fail, halt failed)
    ∷ (turned, Fail, halt failed)
    -- divide: to the nearest whole number, an exact half to the even neighbour; first 17.5, 2.5, -16.5 and -5.5
    ∷ (mixed, Divide 0 4, go (pos 18 ∷ negsuc 32 ∷ pos 0 ∷ pos 9 ∷ []) 0)
    ∷ (mixed, Divide 0 28, go (pos 2 ∷ negsuc 32 ∷ pos 0 ∷ pos 9 ∷ []) 0)
    ∷ (mixed, Divide 1 2, go (pos 70 ∷ negsuc 15 ∷ pos 0 ∷ pos 9 ∷ []) 0)
    ∷ (mixed, Divide 1 6, go (pos 70 ∷ negsuc 5 ∷ pos 0 ∷ pos 9 ∷ []) 0)
    ∷ (mixed, Divide 2 5, go mixed 0)
    ∷ (mixed, Divide 3 4, go (pos 70 ∷ negsuc 32 ∷ pos 0 ∷ pos 2 ∷ []) 0)
    ∷ (turned, Divide 3 3, go (negsuc 4 ∷ pos 0 ∷ pos 8 ∷ negsuc 32 ∷ []) 0)
    ∷ []

pub moved : map (λ e. move e.1 e.0) moves ≡ map (λ e. e.2) moves
unfolding moves move sum fits quotient rounds_up
moved = refl

-- ---- runs

-- a body, and what its whole run on the depot comes to
abbrev Example : Type 0
Example = List Operation × Run

unfoldable pub examples : List Example
examples =
    (operations (encode body_a), stands 4 0 (hold (pos 15) (pos 5) (pos 0)) (at 0 10 ∷ []) (at 0 15 ∷ []))
    ∷ (body_b, stands 2 0 (hold (pos 20) (pos 0) (pos 0)) (at 1 20 ∷ []) (at 2 20 ∷ []))
    ∷ (body_c, stands 2 0 (hold (pos 10) (pos 0) (pos 0)) (at 0 10 ∷ []) (at 1 10 ∷ []))
    -- each kind alone
    ∷ (Load 1 2 ∷ [], stands 1 0 (hold (pos 0) (pos 30) (pos 0)) (at 2 30 ∷ []) [])
    ∷ (Store 3 1 ∷ [], stands 1 0 zeros [] (at 1 0 ∷ []))
    ∷ (Set 2 (negsuc 6) ∷ [], stands 1 0 (hold (pos 0) (pos 0) (negsuc 6)) [] [])
    ∷ (Set 0 (pos 7) ∷ Add 0 0 ∷ [], stands 2 0 (hold (pos 14) (pos 0) (pos 0)) [] [])
    ∷ (Set 0 (pos 7) ∷ Subtract 1 0 ∷ [], stands 2 0 (hold (pos 7) (negsuc 6) (pos 0)) [] [])
    ∷ (Set 0 (negsuc 6) ∷ Divide 0 2 ∷ [], stands 2 0 (hold (negsuc 3) (pos 0) (pos 0)) [] [])
    ∷ (Fail ∷ [], stands 1 1 zeros [] [])
    -- a skip taken, not taken at 0, and past the last operation; and with each register set, by the third, below 0, and by the fourth, above it
    ∷ (Set 0 (negsuc 0) ∷ Skip 0 2 ∷ Set 1 (pos 8) ∷ Fail ∷ Set 2 (pos 9) ∷ [], stands 5 0 (hold (negsuc 0) (pos 0) (pos 9)) [] [])
    ∷ (Skip 0 1 ∷ Set 1 (pos 8) ∷ [], stands 2 0 (hold (pos 0) (pos 8) (pos 0)) [] [])
    ∷ (Set 0 (negsuc 0) ∷ Skip 0 1 ∷ Fail ∷ [], stands 3 0 (hold (negsuc 0) (pos 0) (pos 0)) [] [])
    ∷ (filled (Skip 2 3 ∷ Fail ∷ Fail ∷ Fail ∷ Store 1 2 ∷ []), stands 9 0 signs [] (at 2 4 ∷ []))
    ∷ (filled (Skip 3 1 ∷ Store 1 0 ∷ Store 3 2 ∷ []), stands 7 0 signs [] (at 0 4 ∷ at 2 6 ∷ []))
    -- a load after the own store asks no table
    ∷ (Set 0 (pos 7) ∷ Store 0 1 ∷ Load 1 1 ∷ [], stands 3 0 (hold (pos 7) (pos 7) (pos 0)) [] (at 1 7 ∷ []))
    ∷ (Load 0 1 ∷ Set 1 (pos 7) ∷ Store 1 1 ∷ Load 2 1 ∷ [], stands 4 0 (hold (pos 20) (pos 7) (pos 7)) (at 1 20 ∷ []) (at 1 7 ∷ []))
    -- an object loaded twice is read once; one stored twice keeps its place and the last value
    ∷ (Load 0 1 ∷ Load 1 1 ∷ Load 2 0 ∷ [], stands 3 0 (hold (pos 20) (pos 20) (pos 10)) (at 1 20 ∷ at 0 10 ∷ []) [])
    ∷ (Store 0 2 ∷ Store 0 1 ∷ Set 0 (pos 7) ∷ Store 0 2 ∷ [], stands 4 0 (hold (pos 7) (pos 0) (pos 0)) [] (at 2 7 ∷ at 1 0 ∷ []))
    -- a store of the old value is a store
    ∷ (Load 0 0 ∷ Store 0 0 ∷ [], stands 2 0 (hold (pos 10) (pos 0) (pos 0)) (at 0 10 ∷ []) (at 0 10 ∷ []))
    -- a fail and an overflow drop the writes, keep the reads and stop
    ∷ (Load 0 0 ∷ Store 0 1 ∷ Fail ∷ Store 0 2 ∷ [], stands 3 1 (hold (pos 10) (pos 0) (pos 0)) (at 0 10 ∷ []) [])
    ∷ (Set 0 most ∷ Set 1 (pos 1) ∷ Store 1 0 ∷ Add 0 1 ∷ Store 1 1 ∷ [], stands 4 2 (hold most (pos 1) (pos 0)) [] [])
    ∷ (Set 0 least ∷ Set 1 (pos 1) ∷ Store 1 0 ∷ Subtract 0 1 ∷ [], stands 4 2 (hold least (pos 1) (pos 0)) [] [])
    ∷ (Set 0 most ∷ Set 1 (negsuc 0) ∷ Add 0 1 ∷ [], stands 3 0 (hold (pos 9223372036854775806) (negsuc 0) (pos 0)) [] [])
    ∷ []

-- a body, and what its whole run on the depot with bounds comes to
unfoldable pub bounded_examples : List Example
bounded_examples =
    -- at each bound, and one beyond it: nothing is stored, and the store counts as carried out
    (Set 0 (pos 5) ∷ Store 0 0 ∷ Set 1 (pos 15) ∷ Store 1 0 ∷ [], stands 4 0 (hold (pos 5) (pos 15) (pos 0)) [] (at 0 15 ∷ []))
    ∷ (Set 0 (pos 4) ∷ Store 0 0 ∷ Fail ∷ [], stands 2 3 (hold (pos 4) (pos 0) (pos 0)) [] [])
    ∷ (Set 0 (pos 16) ∷ Store 0 0 ∷ Fail ∷ [], stands 2 3 (hold (pos 16) (pos 0) (pos 0)) [] [])
    ∷ (Set 0 (negsuc 6) ∷ Store 0 2 ∷ Set 1 (pos 30) ∷ Store 1 2 ∷ [], stands 4 0 (hold (negsuc 6) (pos 30) (pos 0)) [] (at 2 30 ∷ []))
    ∷ (Set 0 (negsuc 7) ∷ Store 0 2 ∷ [], stands 2 3 (hold (negsuc 7) (pos 0) (pos 0)) [] [])
    -- a tank with lower bound 0 that would hold -4; earlier stores go, reads stay
    ∷ (Load 0 1 ∷ Set 1 (pos 24) ∷ Store 0 2 ∷ Subtract 0 1 ∷ Store 0 1 ∷ Store 1 0 ∷ [], stands 5 3 (hold (negsuc 3) (pos 24) (pos 0)) (at 1 20 ∷ []) [])
    -- another object's bounds do not matter
    ∷ (Set 0 (pos 16) ∷ Store 0 1 ∷ Store 0 2 ∷ [], stands 3 0 (hold (pos 16) (pos 0) (pos 0)) [] (at 1 16 ∷ at 2 16 ∷ []))
    -- a load is not asked about
    ∷ (Load 0 2 ∷ Store 0 1 ∷ [], stands 2 0 (hold (pos 30) (pos 0) (pos 0)) (at 2 30 ∷ []) (at 1 30 ∷ []))
    ∷ []

-- a run, how many operations of A's body it is given, where they lead, and how many of them are counted
unfoldable pub parts : List (Run × ℕ × Run × ℕ)
parts =
    (start, 0, start, 0)
    ∷ (start, 1, stands 1 0 (hold (pos 10) (pos 0) (pos 0)) (at 0 10 ∷ []) [], 1)
    ∷ (start, 3, stands 3 0 (hold (pos 15) (pos 5) (pos 0)) (at 0 10 ∷ []) [], 3)
    ∷ (start, 100, stands 4 0 (hold (pos 15) (pos 5) (pos 0)) (at 0 10 ∷ []) (at 0 15 ∷ []), 4)
    -- the last operation of a partly run one
    ∷ (stands 3 0 (hold (pos 1) (pos 2) (pos 3)) [] [], 2, stands 4 0 (hold (pos 1) (pos 2) (pos 3)) [] (at 0 1 ∷ []), 1)
    -- the value read before, not the table's
    ∷ (stands 0 0 zeros (at 0 77 ∷ []) [], 1, stands 1 0 (hold (pos 77) (pos 0) (pos 0)) (at 0 77 ∷ []) [], 1)
    -- a run that stopped stays
    ∷ (stands 2 1 zeros [] [], 5, stands 2 1 zeros [] [], 0)
    ∷ []

-- bodies with a skip, and how many operations a whole run of them carries out: those passed over do not count
unfoldable pub skips : List (List Operation × ℕ)
skips =
    (Set 0 (negsuc 0) ∷ Skip 0 2 ∷ Set 1 (pos 8) ∷ Fail ∷ Set 2 (pos 9) ∷ [], 3)
    ∷ (Skip 0 1 ∷ Set 1 (pos 8) ∷ [], 2)
    ∷ (Set 0 (negsuc 0) ∷ Skip 0 1 ∷ Fail ∷ [], 2)
    ∷ (filled (Skip 2 3 ∷ Fail ∷ Fail ∷ Fail ∷ Store 1 2 ∷ []), 6)
    ∷ (filled (Skip 3 1 ∷ Store 1 0 ∷ Store 3 2 ∷ []), 7)
    ∷ []

-- bodies that stop, likewise: the operation that stops them counts, those behind it do not
unfoldable pub stops : List (List Operation × ℕ)
stops =
    (Fail ∷ Set 0 (pos 8) ∷ [], 1)
    ∷ (Load 0 0 ∷ Store 0 1 ∷ Fail ∷ Store 0 2 ∷ [], 3)
    ∷ (Set 0 most ∷ Set 1 (pos 1) ∷ Store 1 2 ∷ Add 0 1 ∷ Store 1 1 ∷ Fail ∷ [], 4)
    ∷ (Set 0 (pos 4) ∷ Store 0 0 ∷ Fail ∷ Fail ∷ [], 2)
    ∷ (Set 0 (negsuc 0) ∷ Skip 0 2 ∷ Fail ∷ Fail ∷ Fail ∷ Set 1 (pos 8) ∷ [], 3)
    ∷ []

-- whether a read set agrees with the depot; past the last object a table has 0
unfoldable pub agreements : List (List Entry × Bool)
agreements =
    ([], true)
    ∷ (at 0 10 ∷ at 2 30 ∷ [], true)
    ∷ (at 0 10 ∷ at 2 31 ∷ [], false)
    ∷ (at 0 11 ∷ at 2 30 ∷ [], false)
    ∷ (at 3 0 ∷ [], true)
    ∷ []

pub computed :
    (map (λ e. whole depot e.0) examples ≡ map (λ e. e.1) examples)
    × (map (λ e. steps depot body_a e.1 e.0) parts ≡ map (λ e. e.2) parts)
    × (map (λ e. counted depot body_a e.1 e.0) parts ≡ map (λ e. e.3) parts)
    × (map (λ e. whole_count depot e.0) skips ≡ map (λ e. e.1) skips)
    × (map (λ e. whole_count bounded_depot e.0) stops ≡ map (λ e. e.1) stops)
    × (map (λ e. matches depot e.0) agreements ≡ map (λ e. e.1) agreements)
    × (map (λ e. whole bounded_depot e.0) bounded_examples ≡ map (λ e. e.1) bounded_examples)
    × (map (over (at 2 5 ∷ at 0 7 ∷ []) depot).look (0 ∷ 1 ∷ 2 ∷ 3 ∷ []) ≡ pos 7 ∷ pos 20 ∷ pos 5 ∷ pos 0 ∷ [])
    -- a store that is not committed has no stamp: the committed version's stays
    × (map (over (at 2 5 ∷ at 0 7 ∷ []) bounded_depot).stamp (0 ∷ 1 ∷ 2 ∷ 3 ∷ []) ≡ 9 ∷ 3 ∷ 6 ∷ 0 ∷ [])
unfolding body_a examples bounded_examples parts skips stops agreements start whole steps whole_count counted step obey move sum register_count fits quotient rounds_up operations listed encode written inside
computed = (refl, refl, refl, refl, refl, refl, refl, refl, refl)
