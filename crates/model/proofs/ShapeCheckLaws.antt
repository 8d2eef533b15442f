-- What follows from `specs/ShapeCheck`. Assumes nothing.
use Rattle.std.specs.Prelude.{◌≡◌, refl, Bool, true, false, List, [], ◌∷◌, ℕ, suc, ◌+◌, ◌^◌, ◌≤◌, ◌<◌, pos, leb, ltb, length}
use Rattle.std.proofs.Common.{inl, inr, arith}
use Rattle.std.proofs.lemmas.Bool.{false≢true}
use Rattle.arith.specs.Integer.{fits, eq_z}
use Rattle.operation.specs.Body.{register_count, size, is_well_formed}
use Rattle.operation.proofs.BodyLaws.{formed}
use Rattle.execution.specs.Entries.{Entry}
use Rattle.execution.specs.Bounds.{Bounds, ordered}
use Rattle.execution.specs.Run.{Run}
use Rattle.execution.proofs.ReadAgreement.{both}
use Rattle.execution.specs.RunShape.{distinct, every, all_fit}
use Rattle.model.specs.declared.Limits.{Limits}
use Rattle.model.specs.Lists.{any, all, all₂}
use Rattle.model.specs.Calls.{Transaction, spent, clients, last_timestamp}
use Rattle.model.specs.Serial.{Version}
use Rattle.model.specs.Replica.{Pending, Replica, opens, held, finished}
use Rattle.model.specs.ListLaws.{All}
use Rattle.model.proofs.ListLaws.{all_map, all-implies}
use Rattle.model.specs.EarlyResults.{sents}
use Rattle.model.proofs.Tests.{Says, says-self, says-not, ◌and◌, says-or, says-le, says_eq, says-empty, says_all, says-each}
use Rattle.model.specs.Shape.{falling, VersionsShape, versions_inside, distinct_keys, Unspent, AtStart, Names, Sets, size_of, InOrder, RunEncoded, bounds_fit, Encoded, Shape}
use Rattle.model.specs.ShapeRuns.{State, Standing, NonEmpty, AllSets, AllAtStart}
use Rattle.model.proofs.ShapeRunsLaws.{state-standing, finished-yes, standing_finished, standing_unfinished, in_order-states}
use Rattle.model.specs.ShapeCheck.{versions_shaped, key_unspent, at_start, names_shaped, stores_inside, run_shaped, in_order, checked, run_encoded, encoded, shaped, StoresInside}

-- ---- what each says

pub versions-say : (t : ℕ) (rs : List ℕ) (vs : List Version) → Says (versions_shaped t rs vs) (VersionsShape t rs vs)
unfolding versions_shaped
versions-say t rs vs =
    let served = says-each (λ r. any (λ v. leb v.stamp r) vs) (λ r. any (λ v. leb v.stamp r) vs ≡ true) (λ r. says-self (any (λ v. leb v.stamp r) vs)) rs in
    let s = says-self (falling vs) and (says-self (all (λ v. leb v.stamp t) vs) and (says-self (all (held rs vs) vs) and (some vs and served))) in (
      λ e. (let (f, (b, (h, (k, r)))) = s.0 e in record { least = k; order = f; bound = b; each = h; served = r }),
      λ v. s.1 (v.order, (v.bound, (v.each, (v.least, v.served)))),
    )
  where
    some : (vs : List Version) → Says (any (λ v. true) vs) (0 < length vs)
    some [] = (λ e. absurd (false≢true e), λ h. absurd (omega arith))
    some (v ∷ vs) = (λ e. omega arith, λ h. refl)

key-says : (lasts : List ℕ) (s : Transaction) → Says (key_unspent lasts s) (Unspent lasts s)
unfolding key_unspent
key-says lasts s =
    let t = says-le (suc s.client) clients and says-not (spent lasts s.client s.sequence) in
    (λ e. (let (c, a) = t.0 e in record { client = c; above = a }), λ v. t.1 (v.client, v.above))

pub at_start-says : (p : Run) → Says (at_start p) (AtStart p)
unfolding at_start
at_start-says p =
    let s = says_eq p.counter 0 and says_eq p.outcome 0 and says-empty p.reads and says-empty p.writes and says-self (all (eq_z (pos 0)) p.registers) in (
      λ e. (let ((((c, o), r), w), g) = s.0 e in record { counter = c; outcome = o; reads = r; writes = w; registers = g }),
      λ v. s.1 ((((v.counter, v.outcome), v.reads), v.writes), v.registers),
    )

names-say : (n : ℕ) (l : List Entry) → Says (names_shaped n l) (Names n l)
unfolding names_shaped
names-say n l =
    let s = says-self (distinct l) and says-self (every (λ x. ltb x.object n) l) in
    (λ e. (let (d, b) = s.0 e in record { different = d; below = b }), λ v. s.1 (v.different, v.below))

run_encoded-says : (p : Run) → Says (run_encoded p) (RunEncoded p)
unfolding run_encoded
run_encoded-says p =
    let s = says_eq (length p.registers) register_count and says-self (all_fit p.registers) and says-self (every (λ x. fits x.value) p.reads) and says-self (every (λ x. fits x.value) p.writes) in (
      λ e. (let (((c, g), r), w) = s.0 e in record { count = c; registers = g; reads = r; writes = w }),
      λ v. s.1 (((v.count, v.registers), v.reads), v.writes),
    )

pub encoded-says : (l : Limits) (u : Replica) → Says (encoded l u) (Encoded l u)
unfolding encoded
encoded-says l u =
    let sequences = says_all (λ (s : Transaction). ltb s.sequence (2 ^ 32)) (λ s. s.sequence < 2 ^ 32) (λ s. says-le (suc s.sequence) (2 ^ 32)) (sents u.pending) in
    let values = says_all (λ (vs : List Version). all (λ v. fits v.value) vs) (λ vs. all (λ v. fits v.value) vs ≡ true) (λ vs. says-self (all (λ v. fits v.value) vs)) u.objects in
    let runs = says_all (λ (j : Pending). run_encoded j.run) (λ j. RunEncoded j.run) (λ j. run_encoded-says j.run) u.pending in
    let s = says-le u.timestamp last_timestamp and says-self (all (λ s. ltb s (2 ^ 32)) u.lasts) and sequences and says_eq (length u.lasts) clients and says_eq (length u.readers) l.readers and values and says-self (all bounds_fit u.bounds) and runs in (
      λ e. (let (((((((t, ls), q), c), r), v), b), p) = s.0 e in record { timestamp = t; lasts = ls; sequences = q; last_count = c; reader_count = r; values = v; bounds = b; runs = p }),
      λ v. s.1 (((((((v.timestamp, v.lasts), v.sequences), v.last_count), v.reader_count), v.values), v.bounds), v.runs),
    )

run-says : (n : ℕ) (bs : List Bounds) (m : ℕ) (p : Run) → Says (run_shaped n bs m p) (Standing m p × Sets n p × StoresInside bs p)
unfolding run_shaped stores_inside
run-says n bs m p =
    let stands = says-or (says-le 1 p.counter) (at_start-says p) and says-le p.counter m and says-le p.outcome 3 and says-or (says_eq p.outcome 0) (says-empty p.writes) in
    let s = stands and says-le (length p.reads + length p.writes) p.counter and names-say n p.reads and names-say n p.writes and says-self (stores_inside bs p.writes) in (
      λ e. (let (((((((b, i), o), t), m), r), w), k) = s.0 e in (record { begun = b; within = i; outcome = o; stopped = t }, record { reads = r; writes = w; room = m }, k)),
      λ v. s.1 (((((((v.0.begun, v.0.within), v.0.outcome), v.0.stopped), v.1.room), v.1.reads), v.1.writes), v.2),
    )

abbrev AllStanding : ℕ → List Bounds → List Pending → Type 0
AllStanding n bs js = All (λ (j : Pending). Standing (size_of j) j.run × Sets n j.run × StoresInside bs j.run) js

starts : (js : List Pending) → in_order false js ≡ true → AllAtStart js
unfolding in_order
starts [] e = tt
starts (j ∷ js) e = let h = both (at_start j.run) (in_order false js) e in ((at_start-says j.run).0 h.0, starts js h.1)

starts_in_order : (b : Bool) (js : List Pending) → AllAtStart js → in_order b js ≡ true
unfolding in_order
starts_in_order b [] a = refl
starts_in_order true (j ∷ js) a = starts_in_order (finished j) js a.1
starts_in_order false (j ∷ js) a = rw ((at_start-says j.run).1 a.0) (starts_in_order false js a.1)

to_order : (n : ℕ) (bs : List Bounds) (js : List Pending) → NonEmpty js → in_order true js ≡ true → AllStanding n bs js → InOrder js
unfolding in_order
to_order n bs [] b e v = tt
to_order n bs (j ∷ js) b e v = go' (finished j) refl e (λ k. to_order n bs js b.1 k v.1)
  where
    go' : (t : Bool) → finished j ≡ t → in_order t js ≡ true → (in_order true js ≡ true → InOrder js) → InOrder (j ∷ js)
    go' true f e i = inl (standing_finished j v.0.0 b.0 f, i e)
    go' false f e i = inr (standing_unfinished j v.0.0 f, starts js e)

from_order : (js : List Pending) → InOrder js → in_order true js ≡ true
unfolding in_order
from_order [] o = refl
from_order (j ∷ js) (inl o) = rw (finished-yes j o.0) (from_order js o.1)
from_order (j ∷ js) (inr o) = starts_in_order (finished j) js o.1

stand : (n : ℕ) (bs : List Bounds) (js : List Pending) → All State js → AllSets n js → All (λ (j : Pending). StoresInside bs j.run) js → AllStanding n bs js
stand n bs [] o k i = tt
stand n bs (j ∷ js) o k i = ((state-standing j o.0, k.0, i.0), stand n bs js o.1 k.1 i.1)

-- ---- the whole

-- a well-formed body has at least one operation
pub bodies-non_empty : (l : Limits) (n : ℕ) (js : List Pending) → All (λ (s : Transaction). is_well_formed l.operations n s.bytes ≡ true) (sents js) → NonEmpty js
bodies-non_empty l n js h =
    all_map (λ (s : Transaction). 1 ≤ size s.bytes) (λ (j : Pending). j.sent) js (all-implies _ (λ (s : Transaction). 1 ≤ size s.bytes) (λ s e. (formed l.operations n s.bytes e).some) (sents js) h)

-- the test holds exactly where the facts do
pub shaped-says : (l : Limits) (u : Replica) → Says (shaped l u) (Shape l u)
unfolding shaped checked
shaped-says l u =
    let n = length u.objects in
    let counts = says-le 1 n and says-le n l.objects and says-le (length u.pending) l.pending in
    let few = says_all (λ (vs : List Version). leb (length vs) (suc l.readers)) (λ vs. length vs ≤ suc l.readers) (λ vs. says-le (length vs) (suc l.readers)) u.objects in
    let versions = says_all (versions_shaped u.timestamp (opens u.readers)) (VersionsShape u.timestamp (opens u.readers)) (versions-say u.timestamp (opens u.readers)) u.objects in
    let readers = says-each (λ r. leb r u.timestamp) (λ r. r ≤ u.timestamp) (λ r. says-le r u.timestamp) (opens u.readers) in
    let keys = says_all (key_unspent u.lasts) (Unspent u.lasts) (key-says u.lasts) (sents u.pending) in
    let formed : Transaction → Bool = λ s. is_well_formed l.operations n s.bytes in
    let bodies = says_all formed (λ s. formed s ≡ true) (λ s. says-self (formed s)) (sents u.pending) in
    let bs = u.bounds in
    let runs = says_all (λ (j : Pending). run_shaped n bs (size_of j) j.run) (λ (j : Pending). Standing (size_of j) j.run × Sets n j.run × StoresInside bs j.run) (λ j. run-says n bs (size_of j) j.run) u.pending in
    let s = counts and few and versions and says_eq (length bs) n and says-self (all ordered bs) and says-self (all₂ versions_inside bs u.objects) and readers and says-self (distinct_keys (sents u.pending)) and keys and bodies and says-self (in_order true u.pending) and runs and encoded-says l u in (
      λ e.
          (let ((((((((((((((some, few), pending), versions), held), bounded), low-high), inner), readers), different), unspent), bodies), order), runs), encoded) = s.0 e in
          record {
            some_object = some;
            few_objects = few;
            few_pending = pending;
            few_versions = versions;
            versions = held;
            bound_count = bounded;
            ordered = low-high;
            inside = inner;
            stores = all-implies _ (λ (j : Pending). StoresInside bs j.run) (λ j k. k.2) u.pending runs;
            readers = readers;
            distinct = different;
            unspent = unspent;
            bodies = bodies;
            order = to_order n bs u.pending (bodies-non_empty l n u.pending bodies) order runs;
            sets = all-implies _ (λ (j : Pending). Sets n j.run) (λ j k. k.1) u.pending runs;
            encoded = encoded;
          }),
      λ v.
          (let stands = stand n bs u.pending (in_order-states u.pending v.order) v.sets v.stores in
          let order = from_order u.pending v.order in
          s.1
          ((((((((((((((v.some_object, v.few_objects), v.few_pending), v.few_versions), v.versions), v.bound_count), v.ordered), v.inside), v.readers), v.distinct), v.unspent), v.bodies), order), stands), v.encoded)),
    )
