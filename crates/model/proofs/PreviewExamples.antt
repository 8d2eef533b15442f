-- Computed examples of a dry run: what it shows of a final delivery, on the replica and on the serial table. Both sides share `preview_of`, so no theorem
-- catches a slip in it. The numbers of an answer are different. Assumes nothing.
use Rattle.std.specs.Prelude.{◌≡◌, refl, true, false, List, [], ◌∷◌, map, ℕ, ℤ, pos, negsuc, replicate}
use Rattle.operation.specs.Encode.{encode}
use Rattle.operation.specs.declared.Operation.TheVariants.{Load, Store, Set, Add, Fail}
use Rattle.model.specs.Calls.{Opening, by_values, Call, optimistic, execute, final, dry_run, Answer, previewed, seen}
use Rattle.model.specs.Start.{Version, start_of}
use Rattle.model.specs.DryRun.{placed, preview_of}
use Rattle.model.specs.Serial as serial
use Rattle.model.specs.Serial.{Serial}
use Rattle.model.specs.Replica.{Replica, opened, call, calls}
use Rattle.model.specs.Limits.{small}
use Rattle.model.proofs.Computing.{computing}

-- ---- what is shown of a delivery

-- three objects: their values, not their stamps, and 0 past the last
abbrev held : List Version
held = record { stamp = 4; value = negsuc 6 } ∷ record { stamp = 9; value = pos 11 } ∷ record { stamp = 5; value = pos 3 } ∷ []

pub places-hold :
    (placed 5 held ≡ negsuc 6 ∷ pos 11 ∷ pos 3 ∷ pos 0 ∷ pos 0 ∷ [])
    × (placed 2 held ≡ negsuc 6 ∷ pos 11 ∷ [])
unfolding computing
places-hold = (refl, refl)

pub preview-holds : preview_of (record { outcome = 2; validated = true; timestamp = 9; stored = 5; operations = 7 }) [] ≡ record { outcome = 2; validated = true; timestamp = 9; values = replicate 128 (pos 0) }
unfolding computing
preview-holds = refl

-- ---- dry runs

-- objects of 10, 20 and 30, each 0 to 50, from timestamp 7
abbrev depot : Opening
depot = by_values 3 (pos 10 ∷ pos 20 ∷ pos 30 ∷ []) (replicate 3 (pos 0)) (replicate 3 (pos 50)) 7

-- 5 more in object 0, and 5 in object 2
abbrev adds : List ℕ
adds = encode (Load 2 0 ∷ Set 1 (pos 5) ∷ Add 2 1 ∷ Store 2 0 ∷ Store 1 2 ∷ [])

-- object 0 copied to object 1
abbrev copies : List ℕ
copies = encode (Load 3 0 ∷ Store 3 1 ∷ [])

-- object 1 becomes 40; then the run fails, overflows, or stores what object 0 may not be
abbrev fails : List ℕ
fails = encode (Set 0 (pos 40) ∷ Store 0 1 ∷ Fail ∷ [])

abbrev overflows : List ℕ
overflows = encode (Set 0 (pos 40) ∷ Store 0 1 ∷ Set 2 (pos 9223372036854775807) ∷ Add 2 0 ∷ [])

abbrev leaves_bounds : List ℕ
leaves_bounds = encode (Set 0 (pos 40) ∷ Store 0 1 ∷ Set 2 (pos 51) ∷ Store 2 0 ∷ [])

-- three values and 125 zeros
abbrev values : ℕ → ℕ → ℕ → List ℤ
values x y z = pos x ∷ pos y ∷ pos z ∷ replicate 125 (pos 0)

-- calls after the opening, a pending key, and what its dry run answers then
unfoldable pub previews : List ((List Call × (ℕ × ℕ)) × Answer)
previews =
    -- finished: it would be kept
    ((optimistic 3 1 adds ∷ execute 5 ∷ [], (3, 1)), previewed 0 true 8 (values 15 20 5))
    -- not begun, and begun: it would be run again
    ∷ ((optimistic 3 1 adds ∷ [], (3, 1)), previewed 0 false 8 (values 15 20 5))
    ∷ ((optimistic 3 1 adds ∷ execute 4 ∷ [], (3, 1)), previewed 0 false 8 (values 15 20 5))
    -- finished, but it read 15 from one that stands before it, where 10 is committed: its early results would give 15
    ∷ ((optimistic 3 1 adds ∷ optimistic 4 1 copies ∷ execute 9 ∷ [], (4, 1)), previewed 0 false 8 (values 10 10 30))
    -- after the other's commit it would be kept, at the next stamp
    ∷ ((optimistic 3 1 adds ∷ optimistic 4 1 copies ∷ execute 9 ∷ final 3 1 ∷ [], (4, 1)), previewed 0 true 9 (values 15 15 5))
    -- a stop stores nothing and takes a stamp
    ∷ ((optimistic 3 1 fails ∷ execute 3 ∷ [], (3, 1)), previewed 1 true 8 (values 10 20 30))
    ∷ ((optimistic 3 1 overflows ∷ [], (3, 1)), previewed 2 false 8 (values 10 20 30))
    ∷ ((optimistic 3 1 leaves_bounds ∷ execute 9 ∷ [], (3, 1)), previewed 3 true 8 (values 10 20 30))
    -- a dry run before it changes nothing
    ∷ ((optimistic 3 1 adds ∷ dry_run 3 1 ∷ dry_run 3 1 ∷ [], (3, 1)), previewed 0 false 8 (values 15 20 5))
    ∷ []

abbrev after : List Call → Replica
after cs = (calls small (opened small (start_of depot)) cs).1

abbrev after_serial : List Call → Serial
after_serial cs = (serial.calls small (serial.opened small (start_of depot)) cs).1

pub previews-hold : map (λ x. (call small (after x.0.0) (dry_run x.0.1.0 x.0.1.1)).0) previews ≡ map (λ x. x.1) previews
unfolding computing previews
previews-hold = refl

-- the serial table's, all but kept or run again
pub serial_previews_hold : map (λ x. (serial.call small (after_serial x.0.0) (dry_run x.0.1.0 x.0.1.1)).0) previews ≡ map (λ x. seen x.1) previews
unfolding computing serial.beyond serial.run serial.ran serial.facts serial.commit serial.opened serial.perform serial.call serial.calls previews
serial_previews_hold = refl
