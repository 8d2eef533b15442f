-- Computed examples of S-14: neighbours that change places, those that may not, what may differ all the same, and why each part of the condition is
-- there. Assumes nothing.
use Rattle.std.specs.Prelude.{◌≡◌, refl, Bool, true, false, not, List, [], ◌∷◌, map, ℕ, ◌+◌, ℤ, pos, eqb, leb, replicate}
use Rattle.operation.specs.Encode.{encode}
use Rattle.operation.specs.declared.Operation.TheVariants.{Load, Store, Set, Add, Fail}
use Rattle.execution.specs.Entries.{Entry, entry}
use Rattle.model.specs.Calls.{Opening, by_values, Call, optimistic, execute, Answer, refused, committed, last_timestamp}
use Rattle.model.specs.Start.{start_of}
use Rattle.model.specs.Replica.{Replica, newest, opened, calls}
use Rattle.model.specs.Limits.{small}
use Rattle.model.specs.Exchange.{Key, deliveries, disjoint, apart, alone, may_pass, is_pending, deliverable, exchangeable, clear, bodies_apart, bodies_may_pass, exchangeable_by_bodies, newest_values}
use Rattle.model.proofs.Computing.{computing}

-- ---- sets

abbrev some_objects : List Entry
some_objects = entry 4 (pos 1) ∷ entry 2 (pos 9) ∷ []

-- by their objects, not by their values
pub disjoint-holds :
    (disjoint some_objects (entry 1 (pos 9) ∷ entry 9 (pos 1) ∷ []) ≡ true)
    × (disjoint some_objects (entry 1 (pos 5) ∷ entry 2 (pos 5) ∷ []) ≡ false)
    × (disjoint (entry 4 (pos 5) ∷ []) some_objects ≡ false)
    × (disjoint some_objects [] ≡ true)
    × (disjoint [] some_objects ≡ true)
unfolding disjoint
disjoint-holds = (refl, refl, refl, refl, refl)

-- ---- a depot of four objects, each 0 to 50

abbrev depot : ℕ → Opening
depot t = by_values 4 (pos 10 ∷ pos 20 ∷ pos 30 ∷ pos 40 ∷ []) (replicate 4 (pos 0)) (replicate 4 (pos 50)) t

-- 5 more in object 0
abbrev adds : List ℕ
adds = encode (Load 0 0 ∷ Set 1 (pos 5) ∷ Add 0 1 ∷ Store 0 0 ∷ [])

-- object 2 copied to object 3
abbrev moves : List ℕ
moves = encode (Load 0 2 ∷ Store 0 3 ∷ [])

-- object 0 copied to object 1
abbrev copies : List ℕ
copies = encode (Load 0 0 ∷ Store 0 1 ∷ [])

-- object 0 becomes 48, or 3
abbrev fills : List ℕ
fills = encode (Set 0 (pos 48) ∷ Store 0 0 ∷ [])

abbrev drains : List ℕ
drains = encode (Set 0 (pos 3) ∷ Store 0 0 ∷ [])

-- object 1 becomes 5 more than object 0: beyond its bounds where that is 48
abbrev tops : List ℕ
tops = encode (Load 0 0 ∷ Set 1 (pos 5) ∷ Add 0 1 ∷ Store 0 1 ∷ [])

-- object 1 again
abbrev repeats : List ℕ
repeats = encode (Load 0 1 ∷ Store 0 1 ∷ [])

-- object 1 becomes 7
abbrev sets : List ℕ
sets = encode (Set 0 (pos 7) ∷ Store 0 1 ∷ [])

-- stores object 1, loads that, and fails: nothing is stored, and nothing was read from outside
abbrev fails : List ℕ
fails = encode (Set 0 (pos 9) ∷ Store 0 1 ∷ Load 1 1 ∷ Fail ∷ [])

-- a store that is never carried out
abbrev fails_first : List ℕ
fails_first = encode (Fail ∷ Store 0 1 ∷ [])

abbrev key : ℕ → ℕ → Key
key c s = record { client = c; sequence = s }

abbrev after : ℕ → List Call → Replica
after t cs = (calls small (opened small (start_of (depot t))) cs).1

-- what the deliveries answer, the newest values after them, and their stamps
abbrev delivered : Replica → List Key → List Answer × (List ℤ × List ℕ)
delivered u ks =
    let r = calls small u (deliveries ks) in
    (r.0, (newest_values r.1, map (λ vs. (newest vs).stamp) r.1.objects))

abbrev values : ℕ → ℕ → ℕ → ℕ → List ℤ
values w x y z = pos w ∷ pos x ∷ pos y ∷ pos z ∷ []

abbrev stamps : ℕ → ℕ → ℕ → ℕ → List ℕ
stamps w x y z = w ∷ x ∷ y ∷ z ∷ []

-- ---- neighbours that may change places: the outcomes and the values are the same

abbrev two_apart : Replica
two_apart = after 7 (optimistic 1 1 adds ∷ optimistic 2 1 moves ∷ execute 4 ∷ [])

-- the first is finished early; the stamps of the versions differ
pub apart-exchanged :
    (exchangeable two_apart (key 1 1 ∷ key 2 1 ∷ []) ≡ true)
    × (delivered two_apart (key 1 1 ∷ key 2 1 ∷ []) ≡ (committed 0 true 8 1 0 ∷ committed 0 false 9 1 2 ∷ [], (values 15 20 30 30, stamps 8 7 7 9)))
    × (delivered two_apart (key 2 1 ∷ key 1 1 ∷ []) ≡ (committed 0 false 8 1 2 ∷ committed 0 true 9 1 0 ∷ [], (values 15 20 30 30, stamps 9 7 7 8)))
unfolding computing deliverable exchangeable may_pass apart disjoint alone
apart-exchanged = (refl, refl, refl)

-- one that fails has stored nothing, and has read from outside nothing of what the other stores
abbrev one_fails : Replica
one_fails = after 7 (optimistic 1 1 fails ∷ optimistic 2 1 sets ∷ [])

pub failed-exchanged :
    (exchangeable one_fails (key 1 1 ∷ key 2 1 ∷ []) ≡ true)
    × (delivered one_fails (key 1 1 ∷ key 2 1 ∷ []) ≡ (committed 1 false 8 0 4 ∷ committed 0 false 9 1 2 ∷ [], (values 10 7 30 40, stamps 7 9 7 7)))
    × (delivered one_fails (key 2 1 ∷ key 1 1 ∷ []) ≡ (committed 0 false 8 1 2 ∷ committed 1 false 9 0 4 ∷ [], (values 10 7 30 40, stamps 7 8 7 7)))
unfolding computing deliverable exchangeable may_pass apart disjoint alone
failed-exchanged = (refl, refl, refl)

-- Kept or run again may differ. Client 2 copied early what client 4 stored, and is run again: then client 3, which read the copy, goes back to its start,
-- and so does client 1 behind it.
abbrev in_a_row : Replica
in_a_row = after 7 (optimistic 4 1 fills ∷ optimistic 2 1 copies ∷ optimistic 3 1 repeats ∷ optimistic 1 1 moves ∷ execute 9 ∷ [])

pub kept-differs :
    (exchangeable in_a_row (key 1 1 ∷ key 2 1 ∷ []) ≡ true)
    × (delivered in_a_row (key 1 1 ∷ key 2 1 ∷ []) ≡ (committed 0 true 8 1 0 ∷ committed 0 false 9 1 2 ∷ [], (values 10 10 30 30, stamps 7 9 7 8)))
    × (delivered in_a_row (key 2 1 ∷ key 1 1 ∷ []) ≡ (committed 0 false 8 1 2 ∷ committed 0 false 9 1 2 ∷ [], (values 10 10 30 30, stamps 7 8 7 9)))
unfolding computing deliverable exchangeable may_pass apart disjoint alone
kept-differs = (refl, refl, refl)

-- three, in another order
abbrev three_apart : Replica
three_apart = after 7 (optimistic 1 1 adds ∷ optimistic 2 1 moves ∷ optimistic 3 1 sets ∷ [])

pub three-reordered :
    (exchangeable three_apart (key 1 1 ∷ key 2 1 ∷ key 3 1 ∷ []) ≡ true)
    × (delivered three_apart (key 1 1 ∷ key 2 1 ∷ key 3 1 ∷ []) ≡ (committed 0 false 8 1 4 ∷ committed 0 false 9 1 2 ∷ committed 0 false 10 1 2 ∷ [], (values 15 7 30 30, stamps 8 10 7 9)))
    × (delivered three_apart (key 3 1 ∷ key 1 1 ∷ key 2 1 ∷ []) ≡ (committed 0 false 8 1 2 ∷ committed 0 false 9 1 4 ∷ committed 0 false 10 1 2 ∷ [], (values 15 7 30 30, stamps 9 8 7 10)))
unfolding computing deliverable exchangeable may_pass apart disjoint alone
three-reordered = (refl, refl, refl)

-- ---- why each part of the condition is there: a pair that lacks that part alone, in both orders

-- stamps left for both, both pending, different clients; then: the first stores nothing that the second reads, the second nothing that the first reads,
-- and no object is stored by both
abbrev parts : Replica → Key → Key → List Bool
parts u j k =
    let p = alone u j in
    let q = alone u k in
    leb (u.timestamp + 2) last_timestamp
    ∷ is_pending u j
    ∷ is_pending u k
    ∷ not (eqb j.client k.client)
    ∷ disjoint p.writes q.reads
    ∷ disjoint q.writes p.reads
    ∷ disjoint p.writes q.writes
    ∷ []

-- the first stores what the second reads: in this order that one leaves its bounds
abbrev fills_first : Replica
fills_first = after 7 (optimistic 1 1 fills ∷ optimistic 2 1 tops ∷ [])

pub stored-then_read :
    (parts fills_first (key 1 1) (key 2 1) ≡ true ∷ true ∷ true ∷ true ∷ false ∷ true ∷ true ∷ [])
    × (exchangeable fills_first (key 1 1 ∷ key 2 1 ∷ []) ≡ false)
    × (delivered fills_first (key 1 1 ∷ key 2 1 ∷ []) ≡ (committed 0 false 8 1 2 ∷ committed 3 false 9 0 4 ∷ [], (values 48 20 30 40, stamps 8 7 7 7)))
    × (delivered fills_first (key 2 1 ∷ key 1 1 ∷ []) ≡ (committed 0 false 8 1 4 ∷ committed 0 false 9 1 2 ∷ [], (values 48 15 30 40, stamps 9 8 7 7)))
unfolding computing deliverable exchangeable may_pass apart disjoint alone
stored-then_read = (refl, refl, refl, refl)

-- the second stores what the first reads: the same two, the other one first, with the orders above
pub read-then_stored :
    (parts fills_first (key 2 1) (key 1 1) ≡ true ∷ true ∷ true ∷ true ∷ true ∷ false ∷ true ∷ [])
    × (exchangeable fills_first (key 2 1 ∷ key 1 1 ∷ []) ≡ false)
unfolding computing deliverable exchangeable may_pass apart disjoint alone
read-then_stored = (refl, refl)

-- both store one object: the later one stays
abbrev fills_and_drains : Replica
fills_and_drains = after 7 (optimistic 1 1 fills ∷ optimistic 2 1 drains ∷ [])

pub stored_by-both :
    (parts fills_and_drains (key 1 1) (key 2 1) ≡ true ∷ true ∷ true ∷ true ∷ true ∷ true ∷ false ∷ [])
    × (exchangeable fills_and_drains (key 1 1 ∷ key 2 1 ∷ []) ≡ false)
    × (delivered fills_and_drains (key 1 1 ∷ key 2 1 ∷ []) ≡ (committed 0 false 8 1 2 ∷ committed 0 false 9 1 2 ∷ [], (values 3 20 30 40, stamps 9 7 7 7)))
    × (delivered fills_and_drains (key 2 1 ∷ key 1 1 ∷ []) ≡ (committed 0 false 8 1 2 ∷ committed 0 false 9 1 2 ∷ [], (values 48 20 30 40, stamps 9 7 7 7)))
unfolding computing deliverable exchangeable may_pass apart disjoint alone
stored_by-both = (refl, refl, refl, refl)

-- the same client: its lower number leaves with the higher one, and is spent
abbrev one_client : Replica
one_client = after 7 (optimistic 1 1 fills ∷ optimistic 1 2 moves ∷ [])

pub same-client :
    (parts one_client (key 1 1) (key 1 2) ≡ true ∷ true ∷ true ∷ false ∷ true ∷ true ∷ true ∷ [])
    × (exchangeable one_client (key 1 1 ∷ key 1 2 ∷ []) ≡ false)
    × (delivered one_client (key 1 1 ∷ key 1 2 ∷ []) ≡ (committed 0 false 8 1 2 ∷ committed 0 false 9 1 2 ∷ [], (values 48 20 30 30, stamps 8 7 7 9)))
    × (delivered one_client (key 1 2 ∷ key 1 1 ∷ []) ≡ (committed 0 false 8 1 2 ∷ refused 4 ∷ [], (values 10 20 30 30, stamps 7 7 7 8)))
unfolding computing deliverable exchangeable may_pass apart disjoint alone
same-client = (refl, refl, refl, refl)

-- a stamp left for one alone: the second is refused
abbrev one_stamp : Replica
one_stamp = after 4294967294 (optimistic 1 1 fills ∷ optimistic 2 1 moves ∷ [])

pub last-stamp :
    (parts one_stamp (key 1 1) (key 2 1) ≡ false ∷ true ∷ true ∷ true ∷ true ∷ true ∷ true ∷ [])
    × (exchangeable one_stamp (key 1 1 ∷ key 2 1 ∷ []) ≡ false)
    × ((delivered one_stamp (key 1 1 ∷ key 2 1 ∷ [])).0 ≡ committed 0 false 4294967295 1 2 ∷ refused 9 ∷ [])
    × ((delivered one_stamp (key 2 1 ∷ key 1 1 ∷ [])).0 ≡ committed 0 false 4294967295 1 2 ∷ refused 9 ∷ [])
    × ((delivered one_stamp (key 1 1 ∷ key 2 1 ∷ [])).1.0 ≡ values 48 20 30 40)
    × ((delivered one_stamp (key 2 1 ∷ key 1 1 ∷ [])).1.0 ≡ values 10 20 30 30)
unfolding computing deliverable exchangeable may_pass apart disjoint alone
last-stamp = (refl, refl, refl, refl, refl, refl)

-- not pending: it is refused in either order, and nothing else differs
pub not-delivered_early :
    (parts two_apart (key 1 1) (key 3 1) ≡ true ∷ true ∷ false ∷ true ∷ true ∷ true ∷ true ∷ [])
    × (exchangeable two_apart (key 1 1 ∷ key 3 1 ∷ []) ≡ false)
    × ((delivered two_apart (key 1 1 ∷ key 3 1 ∷ [])).0 ≡ committed 0 true 8 1 0 ∷ refused 8 ∷ [])
    × ((delivered two_apart (key 3 1 ∷ key 1 1 ∷ [])).0 ≡ refused 8 ∷ committed 0 true 8 1 0 ∷ [])
unfolding computing deliverable exchangeable may_pass apart disjoint alone
not-delivered_early = (refl, refl, refl, refl)

-- of three the first and the last, though each is apart from the one between them
abbrev ends_meet : Replica
ends_meet = after 7 (optimistic 1 1 fills ∷ optimistic 3 1 moves ∷ optimistic 2 1 tops ∷ [])

pub neighbours_alone :
    (exchangeable ends_meet (key 1 1 ∷ key 3 1 ∷ []) ≡ true)
    × (exchangeable ends_meet (key 3 1 ∷ key 2 1 ∷ []) ≡ true)
    × (exchangeable ends_meet (key 1 1 ∷ key 3 1 ∷ key 2 1 ∷ []) ≡ false)
    × ((delivered ends_meet (key 1 1 ∷ key 3 1 ∷ key 2 1 ∷ [])).1.0 ≡ values 48 20 30 30)
    × ((delivered ends_meet (key 2 1 ∷ key 3 1 ∷ key 1 1 ∷ [])).1.0 ≡ values 48 15 30 30)
unfolding computing deliverable exchangeable may_pass apart disjoint alone
neighbours_alone = (refl, refl, refl, refl, refl)

-- ---- told by the bodies alone

abbrev never_stored : Replica
never_stored = after 7 (optimistic 1 1 fails_first ∷ optimistic 2 1 sets ∷ [])

-- every load and every store counts, carried out or not
pub bodies-hold :
    (exchangeable_by_bodies two_apart (key 1 1 ∷ key 2 1 ∷ []) ≡ true)
    × (exchangeable_by_bodies fills_first (key 1 1 ∷ key 2 1 ∷ []) ≡ false)
    × (exchangeable_by_bodies fills_first (key 2 1 ∷ key 1 1 ∷ []) ≡ false)
    × (exchangeable_by_bodies fills_and_drains (key 1 1 ∷ key 2 1 ∷ []) ≡ false)
    × (exchangeable_by_bodies one_client (key 1 1 ∷ key 1 2 ∷ []) ≡ false)
    × (exchangeable_by_bodies one_stamp (key 1 1 ∷ key 2 1 ∷ []) ≡ false)
    × (exchangeable_by_bodies never_stored (key 1 1 ∷ key 2 1 ∷ []) ≡ false)
    × (exchangeable never_stored (key 1 1 ∷ key 2 1 ∷ []) ≡ true)
unfolding computing deliverable exchangeable may_pass apart disjoint alone exchangeable_by_bodies bodies_may_pass bodies_apart clear
bodies-hold = (refl, refl, refl, refl, refl, refl, refl, refl)
