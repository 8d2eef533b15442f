-- The two lent areas of a replica: the record area, cells of 8 bytes, and the body area, bytes. `parse` reads a replica from them, `print` writes
-- it, `laid` says whether the contents are some replica's (unused cells and bytes are 0). Assumes nothing.
use Rattle.std.specs.Prelude.{Bool, true, ◌&&◌, List, [], ◌∷◌, ◌++◌, map, ℕ, suc, ◌+◌, ◌*◌, ◌/◌, ◌%◌, ◌^◌, ℤ, length, take, drop, get_or, eqb, leb}
use Rattle.std.proofs.Math.Option.{Option, none, some}
use Rattle.std.specs.Int.{w64}
use Rattle.std.proofs.Common.{to_z, of_z}
use Rattle.operation.specs.Body.{register_count, body_length}
use Rattle.execution.specs.Entries.{Entry}
use Rattle.execution.specs.Bounds.{Bounds, no_bounds}
use Rattle.execution.specs.Run.{Run}
use Rattle.model.specs.declared.Limits.{Limits}
use Rattle.model.specs.Calls.{clients}
use Rattle.model.specs.Serial.{Version}
use Rattle.model.specs.Replica.{Pending, Replica}
use Rattle.versions.specs.Block.{width, block_versions, block, framed}
pub use Rattle.versions.specs.Block.{reader_of}
use Rattle.layout.specs.Codec.{Codec, cell, pair, via, rows, array, counted, padded, bytewise}

-- ---- one cell

-- two's complement
abbrev pub signed : Codec ℤ
signed = via (to_z w64) (of_z w64) (λ x. true) cell

-- a reader: 0 closed, else its timestamp + 1
abbrev pub of_reader : Option ℕ → ℕ
of_reader none = 0
of_reader (some s) = suc s

abbrev pub reader : Codec (Option ℕ)
reader = via reader_of of_reader (λ x. true) cell

-- a transaction's key: the client above the sequence number, which has 32 bits
abbrev pub key_of : ℕ → ℕ × ℕ
key_of k = (k / 2 ^ 32, k % 2 ^ 32)

abbrev pub of_key : ℕ × ℕ → ℕ
of_key x = x.0 * 2 ^ 32 + x.1

abbrev pub key : Codec (ℕ × ℕ)
key = via key_of of_key (λ x. true) cell

-- ---- entries, runs

abbrev pub entry_of : ℕ × ℤ → Entry
entry_of x = record { object = x.0; value = x.1 }

abbrev pub of_entry : Entry → ℕ × ℤ
of_entry e = (e.object, e.value)

abbrev pub entry : Codec Entry
entry = via entry_of of_entry (λ x. true) (pair cell signed)

-- two lists in one table of p places: the length of the first, then a count and both lists, the second right behind the first
abbrev pub parted : {A : Type 0} → ℕ × List A → List A × List A
parted x = (take x.0 x.1, drop x.0 x.1)

abbrev pub joined : {A : Type 0} → List A × List A → ℕ × List A
joined y = (length y.0, y.0 ++ y.1)

abbrev pub within : {A : Type 0} → ℕ × List A → Bool
within x = leb x.0 (length x.1)

abbrev pub two : {A : Type 0} → ℕ → Codec A → Codec (List A × List A)
two p c = via parted joined within (pair cell (counted p c))

-- a run: program counter, outcome, registers, read set and write set
abbrev pub Parts : Type 0
Parts = ℕ × (ℕ × (List ℤ × (List Entry × List Entry)))

abbrev pub run_of : Parts → Run
run_of x =
    record { counter = x.0; outcome = x.1.0; registers = x.1.1.0; reads = x.1.1.1.0; writes = x.1.1.1.1 }

abbrev pub of_run : Run → Parts
of_run p = (p.counter, (p.outcome, (p.registers, (p.reads, p.writes))))

abbrev pub run : ℕ → Codec Run
run m =
    via run_of of_run (λ x. true) (pair cell (pair cell (pair (array register_count signed) (two m entry))))

-- ---- the record area

-- a pending transaction without its body: key and run
abbrev pub Row : Type 0
Row = (ℕ × ℕ) × Run

abbrev pub row : ℕ → Codec Row
row m = pair key (run m)

-- an object as it lies in the area: its versions, and behind them its bounds
abbrev pub Stored : Type 0
Stored = List Version × Bounds

-- the front: timestamp, last numbers, readers, objects, rows
abbrev pub Front : Type 0
Front = ℕ × (List ℕ × (List (Option ℕ) × (List Stored × List Row)))

-- the tail, behind the rows: a new table goes here, and no offset of the front moves; there is none so far
abbrev pub Tail : Type 0
Tail = List ℕ

-- what the record area holds
abbrev pub RecordArea : Type 0
RecordArea = Front × Tail

-- an object's versions, in a block as the crate `versions` defines it
abbrev pub versions : Limits → Codec (List Version)
versions l = record { size = width l.readers; enc = block l.readers; dec = block_versions; ok = framed l.readers }

abbrev pub bounds_of : ℤ × ℤ → Bounds
bounds_of x = record { lower = x.0; upper = x.1 }

abbrev pub of_bounds : Bounds → ℤ × ℤ
of_bounds b = (b.lower, b.upper)

abbrev pub bounds : Codec Bounds
bounds = via bounds_of of_bounds (λ x. true) (pair signed signed)

abbrev pub object : Limits → Codec Stored
object l = pair (versions l) bounds

abbrev pub front : Limits → Codec Front
front l =
    pair cell (pair (array clients cell) (pair (array l.readers reader) (pair (counted l.objects (object l)) (counted l.pending (row l.operations)))))

abbrev pub tail : Limits → Codec Tail
tail l = array 0 cell

abbrev pub record_cells : Limits → Codec RecordArea
record_cells l = pair (front l) (tail l)

abbrev pub record_area : Limits → Codec RecordArea
record_area l = bytewise (record_cells l)

-- ---- the body area: "32 places of 177 bytes in optimistic order; unused bytes are 0"

abbrev pub body : ℕ → Codec (List ℕ)
body m = padded (body_length m) body_length

-- k places in use
abbrev pub body_area : Limits → ℕ → Codec (List (List ℕ))
body_area l k = rows k l.pending (body l.operations)

-- ---- the replica, taken apart and put together

abbrev pub row_of : Pending → Row
row_of j = ((j.sent.client, j.sent.sequence), j.run)

abbrev pub body_of : Pending → List ℕ
body_of j = j.sent.bytes

abbrev pub pending_from : Row → List ℕ → Pending
pending_from r b =
    record { sent = record { client = r.0.0; sequence = r.0.1; bytes = b }; run = r.1 }

abbrev pub all_from : List Row → List (List ℕ) → List Pending
all_from [] bs = []
all_from (r ∷ rs) bs = pending_from r (get_or bs 0 []) ∷ all_from rs (drop 1 bs)

-- each object's versions with its bounds, and apart
abbrev pub stored_from : List (List Version) → List Bounds → List Stored
stored_from [] bs = []
stored_from (vs ∷ objs) bs = (vs, get_or bs 0 no_bounds) ∷ stored_from objs (drop 1 bs)

abbrev pub versions_of : Stored → List Version
versions_of x = x.0

abbrev pub bounds_in : Stored → Bounds
bounds_in x = x.1

abbrev pub stored_of : Replica → List Stored
stored_of u = stored_from u.objects u.bounds

abbrev pub front_of : Replica → Front
front_of u = (u.timestamp, (u.lasts, (u.readers, (stored_of u, map row_of u.pending))))

abbrev pub tail_of : Replica → Tail
tail_of u = []

abbrev pub record_of : Replica → RecordArea
record_of u = (front_of u, tail_of u)

abbrev pub bodies_of : Replica → List (List ℕ)
bodies_of u = map body_of u.pending

abbrev pub replica_from : RecordArea → List (List ℕ) → Replica
replica_from r bs =
    let f : Front = r.0 in
    let os : List Stored = f.1.1.1.0 in
    record { timestamp = f.0; objects = map versions_of os; lasts = f.1.0; pending = all_from f.1.1.1.1 bs; readers = f.1.1.0; bounds = map bounds_in os }

-- ---- parse and print

-- the record area and the body area
abbrev pub Areas : Type 0
Areas = List ℕ × List ℕ

abbrev pub row_count : RecordArea → ℕ
row_count r = length r.0.1.1.1.1

unfoldable pub parse : Limits → Areas → Replica
parse l a =
    let r : RecordArea = (record_area l).dec a.0 in
    replica_from r ((body_area l (row_count r)).dec a.1)

unfoldable pub print : Limits → Replica → Areas
print l u = ((record_area l).enc (record_of u), (body_area l (length u.pending)).enc (bodies_of u))

-- both areas have the length that the limits give
unfoldable pub lengths : Limits → Areas → Bool
lengths l a = eqb (length a.0) (record_area l).size && eqb (length a.1) (body_area l 0).size

-- the layout's own check: counts within their limits, and zeros in what is unused
unfoldable pub laid : Limits → Areas → Bool
laid l a =
    (record_area l).ok a.0 && (body_area l (row_count ((record_area l).dec a.0))).ok a.1
