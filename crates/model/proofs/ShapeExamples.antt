-- The shape check, computed: it holds after each call of a list, and fails where any one sentence of document 01's paragraph, or S-1's of document 02,
-- is broken. Assumes nothing.
use Rattle.std.specs.Prelude.{◌≡◌, refl, Bool, true, false, ◌&&◌, List, [], ◌∷◌, map, ℕ, suc, ◌^◌, ℤ, pos, negsuc, replicate}
use Rattle.std.proofs.Math.Option.{Option, none, some}
use Rattle.operation.specs.Body.{listed}
use Rattle.operation.specs.Encode.{encode}
use Rattle.operation.specs.declared.Operation.TheVariants.{Load, Store, Set, Add, Subtract}
use Rattle.execution.specs.Entries.{Entry, entry}
use Rattle.execution.specs.Bounds.{Bounds, widest, ordered}
use Rattle.execution.specs.Run.{Run, start}
use Rattle.model.specs.Lists.{any, all}
use Rattle.model.specs.Calls.{Opening, by_values, plain, Call, optimistic, execute, final, open_reader, close_reader}
use Rattle.model.specs.Start.{Version, start_of}
use Rattle.model.specs.Replica.{Pending, Replica, opened, call}
use Rattle.model.specs.Limits.{small}
use Rattle.model.proofs.Computing.{computing}
use Rattle.model.specs.ShapeCheck.{versions_shaped, key_unspent, at_start, names_shaped, stores_inside, run_shaped, in_order}
use Rattle.model.specs.ShapeCheck.{checked, run_encoded, encoded, shaped}

unfoldable checking : Unit {0}
unfolding computing versions_shaped key_unspent at_start names_shaped stores_inside run_shaped in_order checked run_encoded encoded shaped
checking = tt

-- ---- after each call

-- before the first call and after each
unfoldable pub always : Replica → List Call → Bool
always u [] = shaped small u
always u (c ∷ cs) = let w : Replica = (call small u c).1 in shaped small u && always w cs

-- object 0 up by 5
abbrev raise : List ℕ
raise = encode (Load 0 0 ∷ Set 1 (pos 5) ∷ Add 0 1 ∷ Store 0 0 ∷ [])

abbrev copy : ℕ → ℕ → List ℕ
copy a b = encode (Load 0 a ∷ Store 0 b ∷ [])

unfoldable pub history : List Call
history =
    open_reader 0
    ∷ optimistic 1 1 raise
    ∷ optimistic 2 1 (copy 1 2)
    ∷ optimistic 3 1 (copy 0 1)
    ∷ execute 5  -- the second is partly run
    ∷ final 1 1  -- object 0 has two versions
    ∷ optimistic 1 2 raise
    ∷ execute 100
    ∷ open_reader 1
    ∷ final 3 1  -- the second and all after it go back to their start
    ∷ optimistic 3 1 raise  -- refused
    ∷ final 1 2  -- object 0 has three versions, the most
    ∷ close_reader 0
    ∷ close_reader 1
    ∷ final 2 1
    ∷ []

pub history-shaped : always (opened small (start_of (plain (pos 10 ∷ pos 20 ∷ pos 30 ∷ []) 0))) history ≡ true
unfolding checking always history
history-shaped = refl

-- object 1 less 9, and object 0 takes what is left
abbrev draw : List ℕ
draw = encode (Load 2 1 ∷ Set 3 (pos 9) ∷ Subtract 2 3 ∷ Store 2 0 ∷ Store 2 1 ∷ [])

unfoldable pub bounded_history : List Call
bounded_history =
    open_reader 1
    ∷ optimistic 1 1 draw
    ∷ optimistic 2 1 draw  -- stops at its second store
    ∷ optimistic 3 1 (copy 2 1)
    ∷ execute 9  -- the second is partly run, with one store
    ∷ execute 100  -- it has outcome 3 and none
    ∷ final 2 1  -- run again, with outcome 0; the others go back to their start
    ∷ execute 7  -- the first has outcome 3, the third is finished
    ∷ final 3 1
    ∷ final 1 1  -- run again, with outcome 3
    ∷ close_reader 1
    ∷ []

-- 14 in -2 to 14, 16 in 0 to 30, 30 in 30 to 30
abbrev bounded_start : Opening
bounded_start =
    by_values 3 (pos 14 ∷ pos 16 ∷ pos 30 ∷ []) (negsuc 1 ∷ pos 0 ∷ pos 30 ∷ []) (pos 14 ∷ pos 30 ∷ pos 30 ∷ []) 0

pub bounded_history-shaped : always (opened small (start_of bounded_start)) bounded_history ≡ true
unfolding checking always bounded_history
bounded_history-shaped = refl

-- ---- damaged replicas

abbrev valued : ℕ → ℤ → Version
valued t v = record { stamp = t; value = v }

abbrev version : ℕ → Version
version t = valued t (pos 20)

abbrev at : ℕ → ℕ → ℤ → List Entry → List Entry → Run
at k outcome g reads writes =
    record { counter = k; outcome = outcome; registers = g ∷ pos 0 ∷ pos 0 ∷ pos 0 ∷ []; reads = reads; writes = writes }

abbrev of : ℕ → ℕ → List ℕ → Run → Pending
of c s b p = record { sent = record { client = c; sequence = s; bytes = b }; run = p }

abbrev v : ℤ
v = pos 20

-- timestamp 5, reader 0 at 2, two objects, client 1's last number 3
abbrev with : ℕ → List (Option ℕ) → List ℕ → List (List Version) → List Pending → Replica
with t rs ls objs js =
    record { timestamp = t; objects = objs; lasts = ls; pending = js; readers = rs; bounds = map (λ vs. widest) objs }

abbrev readers : List (Option ℕ)
readers = some 2 ∷ none ∷ []

abbrev lasts : List ℕ
lasts = 0 ∷ 3 ∷ replicate 14 0

abbrev objects : List (List Version)
objects = (version 4 ∷ version 2 ∷ []) ∷ (version 1 ∷ []) ∷ []

-- one finished, one partly run, one not begun
abbrev one : Pending
one = of 1 4 (copy 0 1) (at 2 0 v (entry 0 v ∷ []) (entry 1 v ∷ []))

abbrev two : Pending
two = of 2 1 raise (at 3 0 v (entry 0 v ∷ []) [])

abbrev three : Pending
three = of 1 5 raise start

abbrev pending : List Pending
pending = one ∷ two ∷ three ∷ []

abbrev of_objects : List (List Version) → Replica
of_objects objs = with 5 readers lasts objs pending

abbrev of_first : List Version → Replica
of_first vs = of_objects (vs ∷ (version 1 ∷ []) ∷ [])

abbrev of_pending : List Pending → Replica
of_pending js = with 5 readers lasts objects js

-- a run of the first body, with those after it not begun
abbrev of_run : Run → Replica
of_run p = of_pending (of 1 4 (copy 0 1) p ∷ three ∷ [])

abbrev between : ℤ → ℤ → Bounds
between lo hi = record { lower = lo; upper = hi }

-- the same with these versions, bounds and run of the first body
abbrev bounded : List (List Version) → List Bounds → Run → Replica
bounded objs bs p =
    record { timestamp = 5; objects = objs; lasts = lasts; pending = of 1 4 (copy 0 1) p ∷ three ∷ []; readers = readers; bounds = bs }

-- object 0 was -6 and is 9, object 1 is 20
abbrev held : List (List Version)
held = (valued 4 (pos 9) ∷ valued 2 (negsuc 5) ∷ []) ∷ (valued 1 v ∷ []) ∷ []

abbrev of_bounds : List Bounds → Replica
of_bounds bs = bounded held bs start

-- -6 to 9, 3 to 20: each version at a bound
abbrev tight : List Bounds
tight = between (negsuc 5) (pos 9) ∷ between (pos 3) v ∷ []

abbrev of_tight : Run → Replica
of_tight p = bounded held tight p

-- finished, with this read of object 0 and this store in object 1
abbrev copies : ℤ → ℤ → Run
copies a b = at 2 0 v (entry 0 a ∷ []) (entry 1 b ∷ [])

unfoldable pub sound : List Replica
sound =
    of_pending pending
    ∷ of_run (at 1 1 v (entry 0 v ∷ []) [])  -- failed
    ∷ of_run (at 2 2 v (entry 0 v ∷ []) [])
    ∷ of_run start
    ∷ of_pending []
    -- "every version and recorded store inside": at the bounds, both ways; a lower bound that is its upper one
    ∷ of_tight start
    ∷ of_tight (copies (pos 9) (pos 3))
    ∷ of_tight (copies (pos 9) v)
    ∷ of_bounds (between (negsuc 5) (pos 9) ∷ between v v ∷ [])
    -- a read on record may be outside
    ∷ of_tight (copies (pos 10) (pos 7))
    ∷ of_tight (copies (negsuc 6) (pos 7))
    -- "lets outcome 3 stand, without stores"
    ∷ of_tight (at 2 3 v (entry 0 (pos 9) ∷ []) [])
    ∷ of_tight (at 1 3 v [] [])
    ∷ []

unfoldable pub damaged : List Replica
damaged =
    -- "counts within their limits"
    with 5 readers lasts [] []
    ∷ of_objects (replicate 17 (version 1 ∷ []))
    ∷ of_pending (listed (λ i. of 2 (suc i) raise start) 9)
    -- "1 to 8 versions an object, stamps rising, none above the unit's, each one held .., and one for every open reader"
    ∷ with 5 (none ∷ none ∷ []) lasts ([] ∷ (version 1 ∷ []) ∷ []) []
    ∷ with 5 (some 2 ∷ some 3 ∷ []) lasts ((version 4 ∷ version 3 ∷ version 2 ∷ version 1 ∷ []) ∷ []) []
    ∷ of_first (version 2 ∷ version 4 ∷ [])
    ∷ of_first (version 2 ∷ version 2 ∷ [])
    ∷ of_first (version 6 ∷ version 2 ∷ [])
    ∷ of_first (version 4 ∷ version 3 ∷ version 2 ∷ [])
    ∷ of_first (version 4 ∷ version 2 ∷ version 1 ∷ [])
    ∷ of_first (version 4 ∷ [])
    -- "reader stamps not above the unit's"
    ∷ with 5 (some 6 ∷ none ∷ []) lasts (map (λ t. version t ∷ []) (4 ∷ 1 ∷ [])) pending
    -- "pending keys distinct and unspent"
    ∷ of_pending (of 2 1 raise start ∷ of 2 2 raise start ∷ of 2 1 raise start ∷ [])
    ∷ of_pending (of 1 3 raise start ∷ [])
    ∷ of_pending (of 2 0 raise start ∷ [])
    ∷ of_pending (of 16 1 raise start ∷ [])
    -- "bodies well formed"
    ∷ of_pending (of 2 1 [] start ∷ [])
    ∷ of_pending (of 2 1 (copy 0 2) start ∷ [])
    -- "finished jobs first, with outcome 0 to 2 and place 1 to m (exactly m with outcome 0; no stores with 1 or 2)"; since S-1, 0 to 3
    ∷ of_pending (three ∷ one ∷ [])
    ∷ of_pending (two ∷ one ∷ [])
    ∷ of_run (at 2 4 v (entry 0 v ∷ []) [])
    ∷ of_run (at 0 1 (pos 0) [] [])
    ∷ of_run (at 3 0 v (entry 0 v ∷ []) (entry 1 v ∷ []))
    ∷ of_run (at 3 1 v (entry 0 v ∷ []) [])
    ∷ of_run (at 2 1 v (entry 0 v ∷ []) (entry 1 v ∷ []))
    ∷ of_run (at 2 2 v (entry 0 v ∷ []) (entry 1 v ∷ []))
    -- "then at most one partly run"
    ∷ of_pending (two ∷ of 3 1 raise (at 1 0 v (entry 0 v ∷ []) []) ∷ [])
    ∷ of_pending (three ∷ two ∷ [])
    ∷ of_pending (three ∷ of 2 1 raise (at 1 0 (pos 0) [] []) ∷ [])
    -- "recorded reads name different objects below n, its stores likewise, and both together are no more than the operations before its place"
    ∷ of_run (at 2 0 v (entry 0 v ∷ entry 0 v ∷ []) [])
    ∷ of_run (at 2 0 v (entry 2 v ∷ []) [])
    ∷ of_run (at 2 0 v [] (entry 1 v ∷ entry 1 v ∷ []))
    ∷ of_run (at 2 0 v [] (entry 2 v ∷ []))
    ∷ of_run (at 1 0 v (entry 0 v ∷ []) (entry 1 v ∷ []))
    -- "a job not begun has neither, and its registers are 0"
    ∷ of_run (at 0 0 (pos 0) (entry 0 v ∷ []) [])
    ∷ of_run (at 0 0 (pos 0) [] (entry 1 v ∷ []))
    ∷ of_run (at 0 0 v [] [])
    -- S-1: each object has its bounds; fewer, more
    ∷ of_bounds (between (negsuc 5) (pos 9) ∷ [])
    ∷ of_bounds []
    ∷ of_bounds (between (negsuc 5) (pos 9) ∷ between (pos 3) v ∷ between (pos 3) v ∷ [])
    -- "each lower limit not above its upper": of the first, of the second
    ∷ of_bounds (between (pos 9) (negsuc 5) ∷ between (pos 3) v ∷ [])
    ∷ of_bounds (between (negsuc 5) (pos 9) ∷ between v (pos 19) ∷ [])
    ∷ of_bounds (between (negsuc 5) (pos 9) ∷ between (pos 21) v ∷ [])
    -- "every version": the newest above, the oldest below; the second object's above, below; each object has its own bounds
    ∷ of_bounds (between (negsuc 5) (pos 8) ∷ between (pos 3) v ∷ [])
    ∷ of_bounds (between (negsuc 4) (pos 9) ∷ between (pos 3) v ∷ [])
    ∷ of_bounds (between (negsuc 5) (pos 9) ∷ between (pos 3) (pos 19) ∷ [])
    ∷ of_bounds (between (negsuc 5) (pos 9) ∷ between (pos 21) (pos 22) ∷ [])
    ∷ of_bounds (between (pos 3) v ∷ between (negsuc 5) (pos 9) ∷ [])
    ∷ bounded ((valued 4 (negsuc 6) ∷ valued 2 (pos 9) ∷ []) ∷ (valued 1 v ∷ []) ∷ []) tight start
    ∷ bounded ((valued 4 (negsuc 5) ∷ valued 2 (pos 10) ∷ []) ∷ (valued 1 v ∷ []) ∷ []) tight start
    -- "and recorded store": above, below; the second of two; of one partly run
    ∷ of_tight (copies (pos 9) (pos 21))
    ∷ of_tight (copies (pos 9) (pos 2))
    ∷ of_tight (at 2 0 v [] (entry 0 (pos 9) ∷ entry 1 (pos 2) ∷ []))
    ∷ of_tight (at 1 0 v [] (entry 0 (pos 10) ∷ []))
    -- "without stores"
    ∷ of_tight (at 2 3 v (entry 0 (pos 9) ∷ []) (entry 1 v ∷ []))
    -- what the encoding adds
    ∷ with (2 ^ 32) readers lasts objects pending
    ∷ with 5 readers (2 ^ 32 ∷ 3 ∷ replicate 14 0) objects pending
    ∷ of_pending (of 2 (2 ^ 32) raise start ∷ [])
    ∷ with 5 readers (0 ∷ 3 ∷ replicate 13 0) objects pending
    ∷ with 5 (some 2 ∷ none ∷ none ∷ []) lasts objects pending
    ∷ of_objects ((record { stamp = 1; value = pos (2 ^ 63) } ∷ []) ∷ (version 1 ∷ []) ∷ [])
    ∷ of_run (at 1 0 (pos (2 ^ 63)) (entry 0 v ∷ []) [])
    ∷ of_run (at 1 0 v (entry 0 (pos (2 ^ 63)) ∷ []) [])
    ∷ of_run (at 2 0 v [] (entry 1 (pos (2 ^ 63)) ∷ []))
    ∷ of_run (record { counter = 1; outcome = 0; registers = v ∷ pos 0 ∷ pos 0 ∷ []; reads = entry 0 v ∷ []; writes = [] })
    ∷ of_bounds (between (negsuc (2 ^ 63)) (pos 9) ∷ between (pos 3) v ∷ [])
    ∷ of_bounds (between (negsuc 5) (pos 9) ∷ between (pos 3) (pos (2 ^ 63)) ∷ [])
    ∷ []

pub sound-shaped : all (shaped small) sound ≡ true
unfolding checking sound
sound-shaped = refl

pub damaged-refused : any (shaped small) damaged ≡ false
unfolding checking damaged
damaged-refused = refl

-- Which bounds are in order. That a version is inside implies it, so no replica above is refused for this alone.
unfoldable pub orders : List (ℤ × ℤ × Bool)
orders =
    (pos 3, pos 4, true)
    ∷ (pos 4, pos 4, true)
    ∷ (pos 4, pos 3, false)
    ∷ (negsuc 5, pos 2, true)
    ∷ (pos 2, negsuc 5, false)
    ∷ (negsuc 5, negsuc 2, true)
    ∷ (negsuc 2, negsuc 5, false)
    ∷ []

pub ordered-hold : map (λ x. ordered (between x.0 x.1)) orders ≡ map (λ x. x.2) orders
unfolding orders
ordered-hold = refl
