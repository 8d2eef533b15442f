-- The shape of a replica: document 01's paragraph "Shape check", sentence by sentence, as a record of named facts. Assumes nothing.
-- "unused bytes 0" is the areas' alone and is not here. What the areas' encoding adds stands apart, in `Encoded`.
use Rattle.std.specs.Prelude.{◌≡◌, ◌⊎◌, Bool, true, false, not, ◌&&◌, List, [], ◌∷◌, ℕ, suc, ◌+◌, ◌^◌, ◌≤◌, ◌<◌, pos, eqb, leb, ltb, length}
use Rattle.arith.specs.Integer.{fits, eq_z}
use Rattle.operation.specs.Body.{register_count, size, is_well_formed}
use Rattle.execution.specs.Entries.{Entry}
use Rattle.execution.specs.Bounds.{Bounds, ordered, inside}
use Rattle.execution.specs.Run.{Run}
use Rattle.execution.specs.RunShape.{distinct, every, all_fit, AllInside}
use Rattle.model.specs.declared.Limits.{Limits}
use Rattle.model.specs.Lists.{any, all, all₂}
use Rattle.model.specs.Calls.{Transaction, is_key, spent, clients, last_timestamp}
use Rattle.model.specs.Serial.{Version}
use Rattle.model.specs.Replica.{Pending, Replica, opens, held, committed_table}
use Rattle.model.specs.ListLaws.{All}
use Rattle.model.specs.EarlyResults.{sents}

-- ---- one object's versions, where t is the replica's timestamp and rs are the open readers'

-- "stamps rising": the newest stands first, so they fall along the list
abbrev pub falling : List Version → Bool
falling [] = true
falling (v ∷ vs) = all (λ w. ltb w.stamp v.stamp) vs && falling vs

pub record VersionsShape (t : ℕ) (rs : List ℕ) (vs : List Version) : Type 0 where
  pub least : 0 < length vs  -- "1 to .. versions an object"
  pub order : falling vs ≡ true  -- "stamps rising"
  pub bound : all (λ v. leb v.stamp t) vs ≡ true  -- "none above the unit's"
  pub each : all (held rs vs) vs ≡ true  -- "each one held by the rule above"
  pub served : (r : ℕ) → any (eqb r) rs ≡ true → any (λ v. leb v.stamp r) vs ≡ true  -- "and one for every open reader"

-- every version of an object inside its bounds
abbrev pub versions_inside : Bounds → List Version → Bool
versions_inside b vs = all (λ (v : Version). inside b v.value) vs

-- ---- pending keys

abbrev pub distinct_keys : List Transaction → Bool
distinct_keys [] = true
distinct_keys (s ∷ l) = not (any (is_key s.client s.sequence) l) && distinct_keys l

-- a key ("a client, 0 to 15") that is unspent
pub record Unspent (lasts : List ℕ) (s : Transaction) : Type 0 where
  pub client : s.client < clients
  pub above : spent lasts s.client s.sequence ≡ false

-- ---- one transaction's run, where n is the number of objects and m the number of the body's operations

-- "finished jobs .. with outcome 0 to 2 and place 1 to m (exactly m with outcome 0; no stores with 1 or 2)"; S-1 of document 02 "lets outcome 3
-- stand, without stores"
pub record Finished (m : ℕ) (p : Run) : Type 0 where
  pub outcome : p.outcome ≤ 3
  pub least : 1 ≤ p.counter
  pub most : p.counter ≤ m
  pub exactly : p.outcome ≡ 0 → p.counter ≡ m
  pub stopped : 1 ≤ p.outcome → p.writes ≡ []

-- "partly run, its place 1 to m - 1"; it has no outcome yet
pub record PartlyRun (m : ℕ) (p : Run) : Type 0 where
  pub outcome : p.outcome ≡ 0
  pub least : 1 ≤ p.counter
  pub most : p.counter < m

-- "a job not begun has neither" reads nor stores, "and its registers are 0"
pub record AtStart (p : Run) : Type 0 where
  pub counter : p.counter ≡ 0
  pub outcome : p.outcome ≡ 0
  pub reads : p.reads ≡ []
  pub writes : p.writes ≡ []
  pub registers : all (eq_z (pos 0)) p.registers ≡ true

-- "name different objects below n"
pub record Names (n : ℕ) (l : List Entry) : Type 0 where
  pub different : distinct l ≡ true
  pub below : every (λ x. ltb x.object n) l ≡ true

-- "a job's recorded reads name different objects below n, its stores likewise, and both together are no more than the operations before its place"
pub record Sets (n : ℕ) (p : Run) : Type 0 where
  pub reads : Names n p.reads
  pub writes : Names n p.writes
  pub room : length p.reads + length p.writes ≤ p.counter

-- m of a pending transaction
abbrev pub size_of : Pending → ℕ
size_of j = size j.sent.bytes

-- "finished jobs first .. then at most one partly run", then those not begun
abbrev pub InOrder : List Pending → Type 0
InOrder [] = Unit {0}
InOrder (j ∷ js) =
    (Finished (size_of j) j.run × InOrder js) ⊎ ((PartlyRun (size_of j) j.run ⊎ AtStart j.run) × All (λ (i : Pending). AtStart i.run) js)

-- ---- what the areas' encoding adds: numbers of 32 bits, values of 64 bits, lists of fixed length

pub record RunEncoded (p : Run) : Type 0 where
  pub count : length p.registers ≡ register_count
  pub registers : all_fit p.registers ≡ true
  pub reads : every (λ x. fits x.value) p.reads ≡ true
  pub writes : every (λ x. fits x.value) p.writes ≡ true

abbrev pub bounds_fit : Bounds → Bool
bounds_fit b = fits b.lower && fits b.upper

pub record Encoded (l : Limits) (u : Replica) : Type 0 where
  pub timestamp : u.timestamp ≤ last_timestamp
  pub lasts : all (λ s. ltb s (2 ^ 32)) u.lasts ≡ true
  pub sequences : All (λ (s : Transaction). s.sequence < 2 ^ 32) (sents u.pending)
  pub last_count : length u.lasts ≡ clients
  pub reader_count : length u.readers ≡ l.readers
  pub values : All (λ vs. all (λ (v : Version). fits v.value) vs ≡ true) u.objects
  pub bounds : all bounds_fit u.bounds ≡ true
  pub runs : All (λ (j : Pending). RunEncoded j.run) u.pending

-- ---- the whole

pub record Shape (l : Limits) (u : Replica) : Type 0 where
  -- "counts within their limits"
  pub some_object : 0 < length u.objects
  pub few_objects : length u.objects ≤ l.objects
  pub few_pending : length u.pending ≤ l.pending
  -- "1 to 8 versions an object": one more than there are readers
  pub few_versions : All (λ (vs : List Version). length vs ≤ suc l.readers) u.objects
  pub versions : All (VersionsShape u.timestamp (opens u.readers)) u.objects
  -- S-1: each object has its bounds, "each lower limit not above its upper", "every version .. inside",
  pub bound_count : length u.bounds ≡ length u.objects
  pub ordered : all ordered u.bounds ≡ true
  pub inside : all₂ versions_inside u.bounds u.objects ≡ true
  -- "and recorded store"
  pub stores : All (λ (j : Pending). AllInside (committed_table u).allow j.run.writes) u.pending
  -- "reader stamps not above the unit's"
  pub readers : (r : ℕ) → any (eqb r) (opens u.readers) ≡ true → r ≤ u.timestamp
  -- "pending keys distinct and unspent"
  pub distinct : distinct_keys (sents u.pending) ≡ true
  pub unspent : All (Unspent u.lasts) (sents u.pending)
  -- "bodies well formed"
  pub bodies : All (λ (s : Transaction). is_well_formed l.operations (length u.objects) s.bytes ≡ true) (sents u.pending)
  pub order : InOrder u.pending
  pub sets : All (λ (j : Pending). Sets (length u.objects) j.run) u.pending
  pub encoded : Encoded l u
