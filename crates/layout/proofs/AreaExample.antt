-- A computed example: one replica in two areas, read at the offsets of the plan's table; one byte that is not as it should be. Assumes nothing.
use Rattle.std.specs.Prelude.{◌≡◌, refl, true, false, List, [], ◌∷◌, ◌++◌, map, ℕ, ◌+◌, ◌*◌, ◌-◌, ◌^◌, ℤ, pos, negsuc, length, replicate, get_or, set, take, drop}
use Rattle.std.proofs.Math.Option.{some}
use Rattle.std.specs.Int.{w64}
use Rattle.std.proofs.Common.{to_z}
use Rattle.cells.specs.Cells.{cells}
use Rattle.operation.specs.Encode.{encode}
use Rattle.operation.specs.declared.Operation.TheVariants.{Load, Store, Fail}
use Rattle.execution.specs.Bounds.{inside}
use Rattle.execution.specs.Run.{start}
use Rattle.model.specs.declared.Limits.{Limits}
use Rattle.model.specs.Calls.{Call, plain, opening, optimistic, execute, final, open_reader, read, find, close_reader, show_body, refused, done, found, body, numbers}
use Rattle.model.specs.Replica.{Replica}
use Rattle.model.specs.ShapeCheck.{versions_shaped, key_unspent, at_start, names_shaped, stores_inside, run_shaped, in_order, checked, run_encoded, encoded, shaped}
use Rattle.model.proofs.Computing.{computing}
use Rattle.versions.specs.Block as versions
use Rattle.versions.specs.Block.{versions_in, block_versions, block, framed}
use Rattle.layout.specs.Rows.{flat, chunks, table, pad_to}
use Rattle.layout.specs.Layout.{Areas, parse, print, lengths, laid}
use Rattle.layout.specs.Offsets.{last_at, reader_at, size_at, object_at, pending_at, row_at, record_length, stamp_at, value_at, lower_at, upper_at, counter_at, outcome_at, register_at, reads_at, entries_at, entry_at, body_at, bodies_length}
use Rattle.layout.specs.Fit.{fit}
use Rattle.layout.specs.Act.{act, unfit}

abbrev tiny : Limits
tiny = record { objects = 2; pending = 2; readers = 1; operations = 2 }

-- Timestamp 5; client 3's last number is 9; the reader is open at 4. Object 0 is -1 since 5, and was 7 since 2, which the reader sees; object 1 is
-- 8 since 1. Object 0 lies between -1 and 9, object 1 between -3 and 8. (3, 10) has loaded object 0 and stored it to object 1; (0, 1), which fails, is not begun.
abbrev state : Replica
state =
    record {
      timestamp = 5;
      objects = (record { stamp = 5; value = negsuc 0 } ∷ record { stamp = 2; value = pos 7 } ∷ []) ∷ (record { stamp = 1; value = pos 8 } ∷ []) ∷ [];
      lasts = set (replicate 16 0) 3 9;
      pending =
          record {
            sent = record { client = 3; sequence = 10; bytes = encode (Load 2 0 ∷ Store 2 1 ∷ []) };
            run = record { counter = 2; outcome = 0; registers = pos 0 ∷ pos 0 ∷ negsuc 0 ∷ pos 0 ∷ []; reads = record { object = 0; value = negsuc 0 } ∷ []; writes = record { object = 1; value = negsuc 0 } ∷ [] };
          }
          ∷ record { sent = record { client = 0; sequence = 1; bytes = encode (Fail ∷ []) }; run = start } ∷ [];
      readers = some 4 ∷ [];
      bounds = record { lower = negsuc 0; upper = pos 9 } ∷ record { lower = negsuc 2; upper = pos 8 } ∷ [];
    }

-- the shape check
unfoldable shape_open : Unit {0}
unfolding versions_shaped inside stores_inside key_unspent at_start names_shaped run_shaped in_order checked run_encoded encoded shaped
shape_open = tt

-- an object's block
unfoldable block_open : Unit {0}
unfolding versions_in block_versions versions.flat block framed
block_open = tt

-- all that is computed here
unfoldable all_open : Unit {0}
unfolding computing shape_open block_open flat chunks table pad_to cells parse print lengths laid fit act
all_open = tt

abbrev areas : Areas
areas = print tiny state

-- ---- the whole, cell by cell and byte by byte

pub example_cells : cells areas.0 ≡
    5  -- timestamp
    ∷ 0 ∷ 0 ∷ 0 ∷ 9 ∷ 0 ∷ 0 ∷ 0 ∷ 0 ∷ 0 ∷ 0 ∷ 0 ∷ 0 ∷ 0 ∷ 0 ∷ 0 ∷ 0  -- last numbers
    ∷ 5  -- the reader
    ∷ 2  -- objects
    ∷ 2 ∷ 5 ∷ (2 ^ 64 - 1) ∷ 2 ∷ 7 ∷ (2 ^ 64 - 1) ∷ 9
    ∷ 1 ∷ 1 ∷ 8 ∷ 0 ∷ 0 ∷ (2 ^ 64 - 3) ∷ 8
    ∷ 2  -- pending
    ∷ (3 * 2 ^ 32 + 10) ∷ 2 ∷ 0 ∷ 0 ∷ 0 ∷ (2 ^ 64 - 1) ∷ 0 ∷ 1 ∷ 2 ∷ 0 ∷ (2 ^ 64 - 1) ∷ 1 ∷ (2 ^ 64 - 1)
    ∷ 1 ∷ 0 ∷ 0 ∷ 0 ∷ 0 ∷ 0 ∷ 0 ∷ 0 ∷ 0 ∷ 0 ∷ 0 ∷ 0 ∷ 0
    ∷ []
unfolding all_open
example_cells = refl

pub example_bodies : areas.1 ≡
    2 ∷ 0 ∷ 2 ∷ 0 ∷ 1 ∷ 2 ∷ 1 ∷ (replicate 16 0
    ++ (1 ∷ 6 ∷ 0 ∷ 0 ∷ (replicate 8 0
    ++ replicate 11 0)))  -- unused
unfolding all_open
example_bodies = refl

-- ---- the areas say the state, and pass the check

pub example_back : parse tiny areas ≡ state
unfolding all_open
example_back = refl

pub example_fit : fit tiny areas ≡ true
unfolding all_open
example_fit = refl

-- ---- single cells, at the offsets of the table

abbrev at : ℕ → ℕ
at k = get_or (cells areas.0) k 0

pub example_offsets : (at 0 ≡ 5) × (at (last_at 3) ≡ 9) × (at (reader_at 0) ≡ 5) × (at (size_at tiny) ≡ 2)
    × (at (object_at tiny 0 + stamp_at 1) ≡ 2) × (to_z w64 (at (object_at tiny 0 + value_at 0)) ≡ negsuc 0) × (to_z w64 (at (object_at tiny 1 + value_at 0)) ≡ pos 8) × (at (pending_at tiny) ≡ 2)
    × (to_z w64 (at (object_at tiny 1 + lower_at tiny)) ≡ negsuc 2) × (to_z w64 (at (object_at tiny 0 + upper_at tiny)) ≡ pos 9)
unfolding all_open
example_offsets = (refl, refl, refl, refl, refl, refl, refl, refl, refl, refl)

pub example_row : (at (row_at tiny 0) ≡ 3 * 2 ^ 32 + 10) × (at (row_at tiny 0 + counter_at) ≡ 2) × (at (row_at tiny 0 + outcome_at) ≡ 0) × (to_z w64 (at (row_at tiny 0 + register_at 2)) ≡ negsuc 0)
    × (at (row_at tiny 0 + reads_at) ≡ 1) × (at (row_at tiny 0 + entries_at) ≡ 2) × (at (row_at tiny 0 + entry_at 1) ≡ 1) × (at (row_at tiny 1) ≡ 1)
unfolding all_open
example_row = (refl, refl, refl, refl, refl, refl, refl, refl)

pub example_lengths : (length areas.0 ≡ record_length tiny) × (record_length tiny ≡ 480) × (length areas.1 ≡ bodies_length tiny) × (get_or areas.1 (body_at tiny 1) 0 ≡ 1)
unfolding all_open
example_lengths = (refl, refl, refl, refl)

-- ---- one byte more: in an unused place, and in a used one

abbrev record_broken : Areas
record_broken = (set areas.0 (record_length tiny - 1) 1, areas.1)

abbrev body_broken : Areas
body_broken = (areas.0, set areas.1 (bodies_length tiny - 1) 1)

pub example_unfit : (fit tiny record_broken ≡ false) × (fit tiny body_broken ≡ false) × (act tiny (find 3 10) record_broken ≡ (refused 1, record_broken)) × (act tiny (show_body 3 10) body_broken ≡ (body [], body_broken))
unfolding all_open
example_unfit = (refl, refl, refl, refl)

-- what each call yields where the areas are not as asked: "1 and zeros"
unfoldable pub unfits : List (Call × List ℤ)
unfits =
    (opening (plain (pos 4 ∷ []) 0), pos 1 ∷ [])
    ∷ (optimistic 3 11 [], pos 1 ∷ [])
    ∷ (execute 1, pos 1 ∷ pos 0 ∷ pos 0 ∷ [])
    ∷ (final 3 10, pos 1 ∷ pos 0 ∷ pos 0 ∷ pos 0 ∷ pos 0 ∷ pos 0 ∷ [])
    ∷ (open_reader 0, pos 1 ∷ [])
    ∷ (close_reader 0, pos 1 ∷ [])
    ∷ (read 0 0, pos 1 ∷ pos 0 ∷ pos 0 ∷ [])
    ∷ (find 3 10, pos 1 ∷ pos 0 ∷ pos 0 ∷ [])
    ∷ (show_body 3 10, [])
    ∷ []

pub unfit-holds : map (λ x. numbers x.0 (unfit x.0)) unfits ≡ map (λ x. x.1) unfits
unfolding computing unfits
unfit-holds = refl

-- an opening looks at the lengths alone
abbrev opening_of_4 : Call
opening_of_4 = opening (plain (pos 4 ∷ []) 0)

pub example_opening : ((act tiny opening_of_4 body_broken).0 ≡ done) × (fit tiny (act tiny opening_of_4 body_broken).1 ≡ true) × (act tiny opening_of_4 (areas.0, []) ≡ (refused 1, (areas.0, [])))
unfolding all_open
example_opening = (refl, refl, refl)

-- ---- calls on them

pub example_calls : (act tiny (find 0 1) areas ≡ (found 1 12, areas)) × ((act tiny (show_body 0 1) areas).0 ≡ body (1 ∷ 6 ∷ replicate 10 0)) × ((act tiny (close_reader 0) areas).0 ≡ done)
    × (drop (object_at tiny 0) (take (object_at tiny 1) (cells (act tiny (close_reader 0) areas).1.0)) ≡ 1 ∷ 5 ∷ (2 ^ 64 - 1) ∷ 0 ∷ 0 ∷ (2 ^ 64 - 1) ∷ 9 ∷ [])
unfolding all_open
example_calls = (refl, refl, refl, refl)
