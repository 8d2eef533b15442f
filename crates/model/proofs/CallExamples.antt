-- Computed examples of what the replica and the serial table share, so that the theorem that they agree cannot catch it: what each kind of
-- operation does, each refusal and the order of refusals, which keys leave, the limits. Assumes nothing.
use Rattle.std.specs.Prelude.{◌≡◌, refl, true, false, List, [], ◌∷◌, ◌++◌, map, ℕ, suc, ℤ, pos, negsuc, get_or, replicate}
use Rattle.std.proofs.Math.Option.{none, some}
use Rattle.operation.specs.Body.{listed}
use Rattle.operation.specs.Encode.{encode}
use Rattle.operation.specs.declared.Operation.{Operation}
use Rattle.operation.specs.declared.Operation.TheVariants.{Load, Store, Set, Add, Subtract, Skip, Fail, Divide}
use Rattle.execution.specs.Bounds.{Bounds, widest}
use Rattle.execution.specs.Run.{start}
use Rattle.model.specs.declared.Limits.{Limits}
use Rattle.model.specs.Calls.{Opening, by_values, plain, Call, opening, optimistic, execute, final, open_reader, read, close_reader, find, show_body, dry_run}
use Rattle.model.specs.Calls.{Answer, refused, done, executed, committed, found, numbers, Transaction, Facts, refusal}
use Rattle.model.specs.Start.{Version, start_of}
use Rattle.model.specs.Serial as serial
use Rattle.model.specs.Replica.{Pending, Replica, newest, facts, opened, call, calls}
use Rattle.model.specs.Limits.{standard, small}
use Rattle.model.proofs.Computing.{computing}

abbrev version : ℕ → ℤ → Version
version t v = record { stamp = t; value = v }

-- ---- operations

-- the final delivery's answer and the committed versions, where the program runs on 10, 20, -30 from timestamp 7
unfoldable pub ran : List Operation → Answer × List Version
ran p =
    let u : Replica = opened standard (start_of (plain (pos 10 ∷ pos 20 ∷ negsuc 29 ∷ []) 7)) in
    let r : List Answer × Replica = calls standard u (optimistic 15 1 (encode p) ∷ final 15 1 ∷ []) in
    (get_or r.0 1 done, map newest r.1.objects)

-- a version stored by the program, and one from the opening
abbrev new : ℤ → Version
new v = version 8 v

abbrev old : ℤ → Version
old v = version 7 v

-- nothing stored, with this outcome, by w operations
abbrev nothing : ℕ → ℕ → Answer × List Version
nothing k w = (committed k false 8 0 w, old (pos 10) ∷ old (pos 20) ∷ old (negsuc 29) ∷ [])

-- programs with what each comes to
unfoldable pub programs : List (List Operation × (Answer × List Version))
programs =
    -- load and store: the register and the object named; a store of the old value is a new version
    (Load 3 1 ∷ Store 3 0 ∷ Store 3 1 ∷ [], (committed 0 false 8 2 3, new (pos 20) ∷ new (pos 20) ∷ old (negsuc 29) ∷ []))
    -- registers are 0 at the start
    ∷ (Store 2 2 ∷ [], (committed 0 false 8 1 1, old (pos 10) ∷ old (pos 20) ∷ new (pos 0) ∷ []))
    -- a load gives the program's own latest store
    ∷ (Set 0 (pos 5) ∷ Store 0 1 ∷ Set 0 (pos 6) ∷ Store 0 1 ∷ Load 1 1 ∷ Store 1 0 ∷ [], (committed 0 false 8 2 6, new (pos 6) ∷ new (pos 6) ∷ old (negsuc 29) ∷ []))
    -- set, to the ends of 64 bits
    ∷ (Set 1 (negsuc 9223372036854775807) ∷ Store 1 0 ∷ Set 1 (pos 9223372036854775807) ∷ Store 1 1 ∷ [], (committed 0 false 8 2 4, new (negsuc 9223372036854775807) ∷ new (pos 9223372036854775807) ∷ old (negsuc 29) ∷ []))
    -- add and subtract: the first register takes the result
    ∷ (Load 0 0 ∷ Load 1 1 ∷ Add 0 1 ∷ Store 0 0 ∷ Store 1 1 ∷ [], (committed 0 false 8 2 5, new (pos 30) ∷ new (pos 20) ∷ old (negsuc 29) ∷ []))
    ∷ (Load 0 0 ∷ Load 1 1 ∷ Subtract 0 1 ∷ Store 0 0 ∷ Store 1 1 ∷ [], (committed 0 false 8 2 5, new (negsuc 9) ∷ new (pos 20) ∷ old (negsuc 29) ∷ []))
    -- sums and differences at the ends of 64 bits, and past them
    ∷ (Set 0 (pos 9223372036854775806) ∷ Set 1 (pos 1) ∷ Add 0 1 ∷ Store 0 0 ∷ [], (committed 0 false 8 1 4, new (pos 9223372036854775807) ∷ old (pos 20) ∷ old (negsuc 29) ∷ []))
    ∷ (Set 0 (negsuc 9223372036854775806) ∷ Set 1 (pos 1) ∷ Subtract 0 1 ∷ Store 0 0 ∷ [], (committed 0 false 8 1 4, new (negsuc 9223372036854775807) ∷ old (pos 20) ∷ old (negsuc 29) ∷ []))
    ∷ (Store 0 0 ∷ Set 0 (negsuc 9223372036854775807) ∷ Set 1 (negsuc 0) ∷ Add 0 1 ∷ [], nothing 2 4)
    ∷ (Store 0 0 ∷ Set 1 (negsuc 9223372036854775807) ∷ Subtract 0 1 ∷ [], nothing 2 3)
    -- a skip below 0 passes over as many operations as it says, up to the end; at 0 it passes over none
    ∷ (Load 0 2 ∷ Skip 0 2 ∷ Fail ∷ Fail ∷ Store 0 0 ∷ [], (committed 0 false 8 1 3, new (negsuc 29) ∷ old (pos 20) ∷ old (negsuc 29) ∷ []))
    ∷ (Set 0 (negsuc 0) ∷ Skip 0 1 ∷ Fail ∷ [], nothing 0 2)
    ∷ (Skip 0 1 ∷ Fail ∷ [], nothing 1 2)
    -- fail: nothing is stored
    ∷ (Load 0 1 ∷ Store 0 0 ∷ Fail ∷ [], nothing 1 3)
    -- divide, to the nearest whole number, an exact half to the even neighbour: -7.5, -4.3 and 2.7, then 2.5, -2.5 and 3.5
    ∷ (Load 0 2 ∷ Divide 0 4 ∷ Store 0 0 ∷ Load 0 2 ∷ Divide 0 7 ∷ Store 0 1 ∷ Set 0 (pos 8) ∷ Divide 0 3 ∷ Store 0 2 ∷ [], (committed 0 false 8 3 9, new (negsuc 7) ∷ new (negsuc 3) ∷ new (pos 3) ∷ []))
    ∷ (Load 0 0 ∷ Divide 0 4 ∷ Store 0 0 ∷ Load 0 2 ∷ Divide 0 12 ∷ Store 0 1 ∷ Set 0 (pos 14) ∷ Divide 0 4 ∷ Store 0 2 ∷ [], (committed 0 false 8 3 9, new (pos 2) ∷ new (negsuc 1) ∷ new (pos 4) ∷ []))
    ∷ []

pub operations-hold : map (λ x. ran x.0) programs ≡ map (λ x. x.1) programs
unfolding computing ran programs
operations-hold = refl

-- ---- refusals

abbrev key : ℕ → ℕ → Transaction
key c s = record { client = c; sequence = s; bytes = [] }

-- Facts that no replica has, at which causes that exclude one another hold together: clients 0 to 16 with the last number 5, keys that are
-- spent and pending, readers 0 and 2 open where there are two readers, no object, and the last timestamp.
unfoldable pub worst : Facts
worst =
    record {
      size = 0;
      timestamp = 4294967295;
      lasts = replicate 17 5;
      queue = key 16 3 ∷ key 1 3 ∷ key 1 7 ∷ replicate 5 (key 2 6);
      opened = true ∷ false ∷ true ∷ [];
    }

-- The first cause wins: each call has every later cause of its own too.
unfoldable pub order : List (Call × ℕ)
order =
    (opening (by_values 1 (pos 6 ∷ pos 6 ∷ []) (pos 7 ∷ []) (pos 5 ∷ []) 3), 2)
    ∷ (opening (by_values 1 (pos 6 ∷ []) (pos 7 ∷ []) (pos 5 ∷ []) 3), 15)
    ∷ (optimistic 16 3 [], 3)
    ∷ (optimistic 1 3 [], 4)
    ∷ (optimistic 1 7 [], 5)
    ∷ (optimistic 1 8 [], 6)
    ∷ (optimistic 1 8 (encode (Fail ∷ [])), 7)
    ∷ (final 16 4, 3)
    ∷ (final 1 4, 4)
    ∷ (final 1 8, 8)
    ∷ (final 1 7, 9)
    ∷ (open_reader 2, 10)
    ∷ (open_reader 0, 11)
    ∷ (read 3 0, 10)
    ∷ (read 1 0, 12)
    ∷ (read 0 0, 13)
    ∷ (close_reader 3, 10)
    ∷ (close_reader 1, 12)
    ∷ (find 16 4, 3)
    ∷ (find 1 4, 8)
    ∷ (dry_run 16 4, 3)
    ∷ (dry_run 1 4, 4)
    ∷ (dry_run 1 8, 8)
    ∷ (dry_run 1 7, 9)
    ∷ []

pub order-holds : map (λ x. refusal small worst x.0) order ≡ map (λ x. x.1) order
unfolding computing worst order
order-holds = refl

-- what a refused call changes: nothing
pub refused-unchanged : (l : Limits) (u : Replica) (c : Call) (k : ℕ) → refusal l (facts u) c ≡ suc k → call l u c ≡ (refused (suc k), u)
unfolding call
refused-unchanged l u c k e = rw e

-- a body of one operation, and one that names object 3
abbrev one : List ℕ
one = encode (Store 0 2 ∷ [])

abbrev wrong : List ℕ
wrong = encode (Store 0 3 ∷ [])

abbrev waiting : ℕ → Pending
waiting c = record { sent = record { client = c; sequence = 1; bytes = one }; run = start }

-- Small limits, objects 0 to 2, the last timestamp, (1, 1) spent, as many pending as there can be, reader 0 open and reader 1 closed.
unfoldable pub full : Replica
full =
    record {
      timestamp = 4294967295;
      objects = (version 4294967294 (pos 10) ∷ []) ∷ (version 4294967294 (pos 20) ∷ []) ∷ (version 4294967295 (pos 0) ∷ []) ∷ [];
      lasts = 0 ∷ 1 ∷ replicate 14 0;
      pending = map waiting (2 ∷ 3 ∷ 4 ∷ 5 ∷ 6 ∷ 7 ∷ 8 ∷ 15 ∷ []);
      readers = some 4294967295 ∷ none ∷ [];
      bounds = replicate 3 widest;
    }

-- An opening, from which both sides start: "the values given, the start stamp as the unit's and every object's, last numbers 0, nothing pending,
-- readers closed", the bounds given, and nothing of what was before.
unfoldable pub fresh : List Bounds → Replica
fresh bs =
    record {
      timestamp = 7;
      objects = (version 7 (pos 10) ∷ []) ∷ (version 7 (negsuc 29) ∷ []) ∷ [];
      lasts = replicate 16 0;
      pending = [];
      readers = none ∷ none ∷ [];
      bounds = bs;
    }

unfoldable pub fresh_serial : List Bounds → serial.Serial
fresh_serial bs =
    record {
      timestamp = 7;
      objects = version 7 (pos 10) ∷ version 7 (negsuc 29) ∷ [];
      lasts = replicate 16 0;
      pending = [];
      readers = none ∷ none ∷ [];
      bounds = bs;
    }

-- 10 in 8 to 11, -30 in -35 to 4
abbrev bounded : Opening
bounded = by_values 2 (pos 10 ∷ negsuc 29 ∷ []) (pos 8 ∷ negsuc 34 ∷ []) (pos 11 ∷ pos 4 ∷ []) 7

abbrev its_bounds : List Bounds
its_bounds = record { lower = pos 8; upper = pos 11 } ∷ record { lower = negsuc 34; upper = pos 4 } ∷ []

-- "Document 01's cases take the widest limits": -2^63 to 2^63 - 1
abbrev document_01 : List Bounds
document_01 = replicate 2 (record { lower = negsuc 9223372036854775807; upper = pos 9223372036854775807 })

pub opening-holds :
    (call small full (opening (plain (pos 10 ∷ negsuc 29 ∷ []) 7)) ≡ (done, fresh document_01))
    × (call small full (opening bounded) ≡ (done, fresh its_bounds))
    × (serial.opened small (start_of bounded) ≡ fresh_serial its_bounds)
unfolding computing serial.opened full fresh fresh_serial
opening-holds = (refl, refl, refl)

-- the bounds last until the next opening: through deliveries, refused and taken, a reader, work, a final delivery and an opening that is refused
unfoldable pub lasting : List Call
lasting =
    optimistic 6 0 one
    ∷ optimistic 6 3 (encode (Set 2 (negsuc 4) ∷ Store 2 1 ∷ []))
    ∷ open_reader 1
    ∷ execute 9
    ∷ final 6 3
    ∷ close_reader 1
    ∷ opening (by_values 1 (pos 5 ∷ []) (pos 6 ∷ []) (pos 9 ∷ []) 0)
    ∷ []

pub bounds-last :
    ((calls small (fresh its_bounds) lasting).1.bounds ≡ its_bounds)
    × ((serial.calls small (fresh_serial its_bounds) lasting).1.bounds ≡ its_bounds)
unfolding computing serial.beyond serial.run serial.ran serial.facts serial.commit serial.perform serial.call serial.calls fresh fresh_serial lasting
bounds-last = (refl, refl)

unfoldable pub filling : List Call
filling =
    optimistic 1 1 one
    ∷ final 1 1
    ∷ open_reader 0
    ∷ map (λ c. optimistic c 1 one) (2 ∷ 3 ∷ 4 ∷ 5 ∷ 6 ∷ 7 ∷ 8 ∷ 15 ∷ [])

-- it is reached from an opening
pub filled : (calls small (opened small (start_of (plain (pos 10 ∷ pos 20 ∷ pos 30 ∷ []) 4294967294))) filling).1 ≡ full
unfolding computing filling full
filled = refl

-- n, with so many values, lower and upper bounds, all 0
abbrev equal : ℕ → ℕ → ℕ → ℕ → Opening
equal n a b c = by_values n (replicate a (pos 0)) (replicate b (pos 0)) (replicate c (pos 0)) 0

-- three objects, of which the middle one has this value, lower and upper bound; the others are inside
abbrev in_middle : ℤ → ℤ → ℤ → Opening
in_middle v lo hi =
    by_values 3 (negsuc 6 ∷ v ∷ pos 40 ∷ []) (negsuc 9 ∷ lo ∷ pos 30 ∷ []) (negsuc 3 ∷ hi ∷ pos 50 ∷ []) 2

-- Calls that it refuses, with what each yields: the number of the first cause, then zeros. Later causes that are there too stand beside it.
unfoldable pub refusals : List (Call × List ℤ)
refusals =
    (opening (by_values 0 [] [] [] 0), pos 2 ∷ [])
    ∷ (opening (equal 17 17 17 17), pos 2 ∷ [])
    ∷ (opening (equal 3 2 3 3), pos 2 ∷ [])
    ∷ (opening (equal 3 4 3 3), pos 2 ∷ [])
    ∷ (opening (in_middle (pos 5) (pos 6) (pos 12)), pos 15 ∷ [])
    ∷ (optimistic 16 0 wrong, pos 3 ∷ [])  -- spent, wrong, full
    ∷ (optimistic 1 1 wrong, pos 4 ∷ [])  -- wrong, full
    ∷ (optimistic 9 0 one, pos 4 ∷ [])  -- "sequence 0 is always spent"; full
    ∷ (optimistic 2 1 wrong, pos 5 ∷ [])  -- wrong, full
    ∷ (optimistic 1 2 wrong, pos 6 ∷ [])  -- full
    ∷ (optimistic 1 2 (encode (replicate 9 Fail)), pos 6 ∷ [])  -- one operation too many; full
    ∷ (optimistic 1 2 (encode (replicate 8 Fail)), pos 7 ∷ [])
    ∷ (optimistic 1 2 one, pos 7 ∷ [])
    ∷ (execute 4097, pos 14 ∷ pos 0 ∷ pos 0 ∷ [])
    ∷ (final 16 0, pos 3 ∷ pos 0 ∷ pos 0 ∷ pos 0 ∷ pos 0 ∷ pos 0 ∷ [])  -- spent, not pending, last timestamp
    ∷ (final 1 1, pos 4 ∷ pos 0 ∷ pos 0 ∷ pos 0 ∷ pos 0 ∷ pos 0 ∷ [])  -- not pending, last timestamp
    ∷ (final 1 2, pos 8 ∷ pos 0 ∷ pos 0 ∷ pos 0 ∷ pos 0 ∷ pos 0 ∷ [])  -- last timestamp
    ∷ (final 2 1, pos 9 ∷ pos 0 ∷ pos 0 ∷ pos 0 ∷ pos 0 ∷ pos 0 ∷ [])
    ∷ (open_reader 2, pos 10 ∷ [])
    ∷ (open_reader 0, pos 11 ∷ [])
    ∷ (read 2 3, pos 10 ∷ pos 0 ∷ pos 0 ∷ [])  -- not open, no such object
    ∷ (read 1 3, pos 12 ∷ pos 0 ∷ pos 0 ∷ [])  -- no such object
    ∷ (read 0 3, pos 13 ∷ pos 0 ∷ pos 0 ∷ [])
    ∷ (close_reader 2, pos 10 ∷ [])  -- not open
    ∷ (close_reader 1, pos 12 ∷ [])
    ∷ (find 16 0, pos 3 ∷ pos 0 ∷ pos 0 ∷ [])  -- not pending
    ∷ (find 1 2, pos 8 ∷ pos 0 ∷ pos 0 ∷ [])
    ∷ (show_body 16 0, [])
    ∷ (show_body 1 2, [])
    ∷ (dry_run 16 0, pos 3 ∷ replicate 131 (pos 0))  -- spent, not pending, last timestamp
    ∷ (dry_run 1 1, pos 4 ∷ replicate 131 (pos 0))  -- not pending, last timestamp
    ∷ (dry_run 1 2, pos 8 ∷ replicate 131 (pos 0))  -- last timestamp
    ∷ (dry_run 2 1, pos 9 ∷ replicate 131 (pos 0))
    ∷ []

-- the numbers that a call yields, and the replica after it
unfoldable pub tried : Limits → Replica → Call → List ℤ × Replica
tried l u c = let r : Answer × Replica = call l u c in (numbers c r.0, r.1)

pub refusals-hold : map (λ x. tried small full x.0) refusals ≡ map (λ x. (x.1, full)) refusals
unfolding computing tried full refusals
refusals-hold = refl

-- Openings with the number that each yields: 0, or its first cause. The replica and the serial table are judged alike.
unfoldable pub openings : List (Opening × ℕ)
openings =
    -- "Refusal 2 covers a wrong number of limits too": lower bounds, upper bounds; all three alike
    (equal 3 3 2 3, 2)
    ∷ (equal 3 3 4 3, 2)
    ∷ (equal 3 3 3 2, 2)
    ∷ (equal 3 3 3 4, 2)
    ∷ (equal 3 2 2 2, 2)
    ∷ (equal 3 4 4 4, 2)
    ∷ (equal 3 0 0 0, 2)
    ∷ (equal 3 3 3 3, 0)
    -- "15, after 2": too few values, lower bounds, upper bounds, too many objects, each with a value outside
    ∷ (by_values 2 (pos 4 ∷ []) (pos 9 ∷ pos 9 ∷ []) (pos 7 ∷ pos 7 ∷ []) 0, 2)
    ∷ (by_values 2 (pos 4 ∷ pos 4 ∷ []) (pos 5 ∷ []) (pos 7 ∷ pos 7 ∷ []) 0, 2)
    ∷ (by_values 2 (pos 8 ∷ pos 8 ∷ []) (pos 5 ∷ pos 5 ∷ []) (pos 7 ∷ []) 0, 2)
    ∷ (by_values 17 (replicate 17 (pos 8)) (replicate 17 (pos 5)) (replicate 17 (pos 7)) 0, 2)
    -- "a lower limit above its upper": the value between them, at one, at the other, below both, above both
    ∷ (in_middle (pos 9) (pos 12) (pos 6), 15)
    ∷ (in_middle (pos 12) (pos 12) (pos 6), 15)
    ∷ (in_middle (pos 6) (pos 12) (pos 6), 15)
    ∷ (in_middle (negsuc 2) (negsuc 0) (negsuc 1), 15)
    ∷ (in_middle (pos 1) (pos 0) (negsuc 0), 15)
    -- "or a start value outside": one below the lower bound, at it, at the upper one, one above it
    ∷ (in_middle (pos 5) (pos 6) (pos 12), 15)
    ∷ (in_middle (pos 6) (pos 6) (pos 12), 0)
    ∷ (in_middle (pos 12) (pos 6) (pos 12), 0)
    ∷ (in_middle (pos 13) (pos 6) (pos 12), 15)
    ∷ (in_middle (negsuc 12) (negsuc 11) (negsuc 5), 15)
    ∷ (in_middle (negsuc 11) (negsuc 11) (negsuc 5), 0)
    ∷ (in_middle (negsuc 5) (negsuc 11) (negsuc 5), 0)
    ∷ (in_middle (negsuc 4) (negsuc 11) (negsuc 5), 15)
    -- one value alone, and all of 64 bits
    ∷ (in_middle (negsuc 8) (negsuc 8) (negsuc 8), 0)
    ∷ (plain (negsuc 9223372036854775807 ∷ pos 9223372036854775807 ∷ []) 1, 0)
    -- the first object's value, the last one's, and that of the last of as many as there can be
    ∷ (by_values 3 (pos 1 ∷ pos 5 ∷ pos 9 ∷ []) (pos 2 ∷ pos 4 ∷ pos 8 ∷ []) (pos 3 ∷ pos 6 ∷ pos 9 ∷ []) 0, 15)
    ∷ (by_values 3 (pos 2 ∷ pos 5 ∷ pos 7 ∷ []) (pos 2 ∷ pos 4 ∷ pos 8 ∷ []) (pos 3 ∷ pos 6 ∷ pos 9 ∷ []) 0, 15)
    ∷ (by_values 16 (replicate 15 (pos 3) ++ (pos 4 ∷ [])) (replicate 16 (pos 3)) (replicate 16 (pos 3)) 0, 15)
    ∷ []

pub openings-hold :
    (map (λ x. numbers (opening x.0) (call small full (opening x.0)).0) openings ≡ map (λ x. pos x.1 ∷ []) openings)
    × (map (λ x. numbers (opening x.0) (serial.call small (fresh_serial its_bounds) (opening x.0)).0) openings ≡ map (λ x. pos x.1 ∷ []) openings)
unfolding computing serial.opened serial.perform serial.call full fresh_serial openings
openings-hold = (refl, refl)

-- ---- calls that are taken, keys that leave, and limits

-- Calls that the same replica takes, with the numbers and bytes that each yields.
unfoldable pub taken : List (Call × List ℤ)
taken =
    (opening (equal 16 16 16 16), pos 0 ∷ [])
    ∷ (opening (plain (pos 5 ∷ []) 4294967295), pos 0 ∷ [])
    ∷ (opening (in_middle (pos 9) (pos 6) (pos 12)), pos 0 ∷ [])
    ∷ (execute 5, pos 0 ∷ pos 5 ∷ pos 5 ∷ [])
    ∷ (open_reader 1, pos 0 ∷ [])
    ∷ (read 0 1, pos 0 ∷ pos 20 ∷ pos 4294967294 ∷ [])  -- untouched: the start stamp
    ∷ (read 0 2, pos 0 ∷ pos 0 ∷ pos 4294967295 ∷ [])  -- the last object
    ∷ (close_reader 0, pos 0 ∷ [])
    ∷ (find 15 1, pos 0 ∷ pos 7 ∷ pos 12 ∷ [])
    ∷ (show_body 15 1, map pos one)
    ∷ []

pub taken-hold : map (λ x. numbers x.0 (call small full x.0).0) taken ≡ map (λ x. x.1) taken
unfolding computing full taken
taken-hold = refl

-- A final delivery of (1, 2): keys of client 1 that are not above it leave, are spent, and no others; the others close up.
unfoldable pub leaving : List (Call × Answer)
leaving =
    (optimistic 1 1 one, done)
    ∷ (optimistic 1 3 one, done)
    ∷ (optimistic 1 2 one, done)
    ∷ (optimistic 2 1 one, done)
    ∷ (final 1 2, committed 0 false 1 1 1)
    ∷ (find 1 1, refused 8)
    ∷ (find 1 2, refused 8)
    ∷ (find 1 3, found 0 12)
    ∷ (find 2 1, found 1 12)
    ∷ (optimistic 1 2 one, refused 4)
    ∷ (optimistic 1 4 one, done)
    ∷ []

pub leaving-holds : (calls small (opened small (start_of (plain (pos 10 ∷ pos 20 ∷ pos 30 ∷ []) 0))) (map (λ x. x.0) leaving)).0 ≡ map (λ x. x.1) leaving
unfolding computing leaving
leaving-holds = refl

-- document 01, case 9, with the standard limits: work 4,096 and 4,097, the 32nd optimistic delivery and the 33rd, n 129 and 128; and readers 6 and 7,
-- bodies of 17 and 16 operations
unfoldable pub borders : List Call
borders =
    execute 4096
    ∷ execute 4097
    ∷ open_reader 6
    ∷ open_reader 7
    ∷ optimistic 14 1 (encode (replicate 17 Fail))
    ∷ optimistic 14 1 (encode (replicate 16 Fail))
    ∷ (listed (λ i. optimistic 15 (suc i) one) 32 ++ (opening (equal 129 129 129 129) ∷ opening (equal 128 128 128 128) ∷ []))

pub borders-hold : (calls standard (opened standard (start_of (plain (pos 10 ∷ pos 20 ∷ pos 30 ∷ []) 0))) borders).0 ≡ executed 0 0 ∷ refused 14 ∷ done ∷ refused 10 ∷ refused 6 ∷ (replicate 32 done ++ (refused 7 ∷ refused 2 ∷ done ∷ []))
unfolding computing borders
borders-hold = refl
