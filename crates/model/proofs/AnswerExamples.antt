-- Computed examples of what an answer shows: its numbers, what demand 3 compares of it; and of which keys leave and which are spent. Both sides of the
-- theorem and the exports go by these definitions, so no theorem catches a slip in them. The numbers of a line are different. Assumes nothing.
use Rattle.std.specs.Prelude.{◌≡◌, refl, Bool, true, false, List, [], ◌∷◌, map, ℕ, ℤ, pos, negsuc, get_or, replicate}
use Rattle.operation.specs.Encode.{encode}
use Rattle.operation.specs.declared.Operation.TheVariants.{Load, Store, Set, Add}
use Rattle.model.specs.Calls.{Opening, by_values, plain, Call, opening, optimistic, execute, final, open_reader, read, close_reader, find, show_body, dry_run}
use Rattle.model.specs.Calls.{Answer, refused, done, executed, committed, value, found, body, previewed, numbers, seen, leaves, spent}
use Rattle.model.specs.Start.{start_of}
use Rattle.model.specs.Replica.{opened, calls}
use Rattle.model.specs.Limits.{small}
use Rattle.model.proofs.Computing.{computing}

-- ---- numbers

-- a call, an answer, and the numbers that a host sees
unfoldable pub answers : List ((Call × Answer) × List ℤ)
answers =
    ((opening (plain [] 3), done), pos 0 ∷ [])
    ∷ ((optimistic 1 2 [], done), pos 0 ∷ [])
    ∷ ((execute 9, executed 5 3), pos 0 ∷ pos 5 ∷ pos 3 ∷ [])
    ∷ ((final 1 2, committed 3 true 9 4 6), pos 0 ∷ pos 3 ∷ pos 1 ∷ pos 9 ∷ pos 4 ∷ pos 6 ∷ [])  -- kept
    ∷ ((final 1 2, committed 3 false 9 4 6), pos 0 ∷ pos 3 ∷ pos 0 ∷ pos 9 ∷ pos 4 ∷ pos 6 ∷ [])  -- run again
    ∷ ((open_reader 1, done), pos 0 ∷ [])
    ∷ ((read 1 2, value (negsuc 6) 9), pos 0 ∷ negsuc 6 ∷ pos 9 ∷ [])
    ∷ ((close_reader 1, done), pos 0 ∷ [])
    ∷ ((find 1 2, found 3 45), pos 0 ∷ pos 3 ∷ pos 45 ∷ [])
    ∷ ((show_body 1 2, body (6 ∷ 7 ∷ [])), pos 6 ∷ pos 7 ∷ [])
    ∷ ((dry_run 1 2, previewed 3 true 9 (negsuc 6 ∷ pos 5 ∷ [])), pos 0 ∷ pos 3 ∷ pos 1 ∷ pos 9 ∷ negsuc 6 ∷ pos 5 ∷ [])  -- kept
    ∷ ((dry_run 1 2, previewed 3 false 9 (negsuc 6 ∷ pos 5 ∷ [])), pos 0 ∷ pos 3 ∷ pos 0 ∷ pos 9 ∷ negsuc 6 ∷ pos 5 ∷ [])  -- run again
    -- a refusal's number, and as many zeros as the call has results
    ∷ ((opening (plain [] 3), refused 2), pos 2 ∷ [])
    ∷ ((opening (by_values 1 (pos 4 ∷ []) (pos 5 ∷ []) (pos 6 ∷ []) 3), refused 15), pos 15 ∷ [])
    ∷ ((optimistic 1 2 [], refused 5), pos 5 ∷ [])
    ∷ ((execute 9, refused 14), pos 14 ∷ pos 0 ∷ pos 0 ∷ [])
    ∷ ((final 1 2, refused 8), pos 8 ∷ pos 0 ∷ pos 0 ∷ pos 0 ∷ pos 0 ∷ pos 0 ∷ [])
    ∷ ((open_reader 1, refused 11), pos 11 ∷ [])
    ∷ ((read 1 2, refused 13), pos 13 ∷ pos 0 ∷ pos 0 ∷ [])
    ∷ ((close_reader 1, refused 12), pos 12 ∷ [])
    ∷ ((find 1 2, refused 3), pos 3 ∷ pos 0 ∷ pos 0 ∷ [])
    ∷ ((dry_run 1 2, refused 9), pos 9 ∷ pos 0 ∷ pos 0 ∷ pos 0 ∷ replicate 128 (pos 0))
    ∷ []

pub numbers-hold : map (λ x. numbers x.0.0 x.0.1) answers ≡ map (λ x. x.1) answers
unfolding computing answers
numbers-hold = refl

-- Of one transaction that stores two objects: worked on first, its final delivery is kept; without, it is run again. Where object 2 may not be 5 it
-- stores none, with outcome 3.
abbrev two_stores : List ℕ
two_stores = encode (Load 2 0 ∷ Set 1 (pos 5) ∷ Add 2 1 ∷ Store 2 0 ∷ Store 1 2 ∷ Set 1 (pos 4) ∷ [])

abbrev delivered : Opening → List Call → List (List ℤ)
delivered o cs = map (numbers (final 3 1)) (calls small (opened small (start_of o)) cs).0

abbrev unbounded : Opening
unbounded = plain (pos 10 ∷ pos 20 ∷ pos 30 ∷ []) 7

-- object 2 in 6 to 30, so that 5 is outside
abbrev bounded : Opening
bounded =
    by_values 3 (pos 10 ∷ pos 20 ∷ pos 30 ∷ []) (pos 9 ∷ pos 19 ∷ pos 6 ∷ []) (pos 15 ∷ pos 25 ∷ pos 30 ∷ []) 7

-- worked on first, or not
abbrev early : List Call
early = optimistic 3 1 two_stores ∷ execute 6 ∷ final 3 1 ∷ []

abbrev late : List Call
late = optimistic 3 1 two_stores ∷ final 3 1 ∷ []

pub final-deliveries :
    (get_or (delivered unbounded early) 2 [] ≡ pos 0 ∷ pos 0 ∷ pos 1 ∷ pos 8 ∷ pos 2 ∷ pos 0 ∷ [])
    × (get_or (delivered unbounded late) 1 [] ≡ pos 0 ∷ pos 0 ∷ pos 0 ∷ pos 8 ∷ pos 2 ∷ pos 6 ∷ [])
    × (get_or (delivered bounded early) 2 [] ≡ pos 0 ∷ pos 3 ∷ pos 1 ∷ pos 8 ∷ pos 0 ∷ pos 0 ∷ [])
    × (get_or (delivered bounded late) 1 [] ≡ pos 0 ∷ pos 3 ∷ pos 0 ∷ pos 8 ∷ pos 0 ∷ pos 5 ∷ [])
unfolding computing
final-deliveries = (refl, refl, refl, refl)

-- ---- what demand 3 compares

unfoldable pub compared_answers : List (Answer × Answer)
compared_answers =
    (refused 9, refused 9)
    ∷ (done, done)
    ∷ (executed 5 3, executed 0 0)  -- "Work's counts .. are demand 2's"
    ∷ (committed 3 true 9 4 6, committed 3 false 9 4 0)  -- "and kept or run again", with the operations carried out
    ∷ (committed 3 false 9 4 6, committed 3 false 9 4 0)
    ∷ (value (negsuc 6) 9, value (negsuc 6) 9)  -- "A reader's sameness of answers now includes the stamp"
    ∷ (found 3 45, found 3 45)
    ∷ (body (6 ∷ 7 ∷ []), body (6 ∷ 7 ∷ []))
    ∷ (previewed 3 true 9 (negsuc 6 ∷ pos 5 ∷ []), previewed 3 false 9 (negsuc 6 ∷ pos 5 ∷ []))
    ∷ (previewed 3 false 9 (negsuc 6 ∷ pos 5 ∷ []), previewed 3 false 9 (negsuc 6 ∷ pos 5 ∷ []))
    ∷ []

pub seen-holds : map (λ x. seen x.0) compared_answers ≡ map (λ x. x.1) compared_answers
unfolding compared_answers
seen-holds = refl

-- ---- keys

-- Which keys leave at the final delivery of (5, 7): those of client 5 with 7 or less.
unfoldable pub keys_that_leave : List ((ℕ × ℕ) × Bool)
keys_that_leave =
    ((5, 6), true)
    ∷ ((5, 7), true)
    ∷ ((5, 8), false)
    ∷ ((4, 6), false)
    ∷ ((7, 5), false)
    ∷ []

pub leaves-hold : map (λ x. leaves 5 7 (record { client = x.0.0; sequence = x.0.1; bytes = [] })) keys_that_leave ≡ map (λ x. x.1) keys_that_leave
unfolding computing keys_that_leave
leaves-hold = refl

-- Which are spent, where the last numbers are 3, 9 and 0: "not above that, so sequence 0 is always spent".
unfoldable pub keys_spent : List ((ℕ × ℕ) × Bool)
keys_spent =
    ((0, 3), true)
    ∷ ((0, 4), false)
    ∷ ((1, 4), true)
    ∷ ((1, 9), true)
    ∷ ((1, 10), false)
    ∷ ((2, 0), true)
    ∷ ((2, 1), false)
    ∷ []

pub spent-holds : map (λ x. spent (3 ∷ 9 ∷ 0 ∷ []) x.0.0 x.0.1) keys_spent ≡ map (λ x. x.1) keys_spent
unfolding computing keys_spent
spent-holds = refl
