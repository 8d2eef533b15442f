-- The replica (document 01's unit): objects with versions, readers, pending transactions with their early results, and every call on it.
-- Assumes nothing.
use Rattle.std.specs.Prelude.{Bool, true, not, cond, ◌&&◌, ◌||◌, List, [], ◌∷◌, ◌++◌, map, ℕ, suc, ◌+◌, ◌-◌, ℤ, eqb, leb, length, get_or, set, replicate}
use Rattle.std.proofs.Math.Option
use Rattle.std.proofs.Math.Option.{Option, none, some}
use Rattle.operation.specs.Body.{operations}
use Rattle.operation.specs.declared.Operation.{Operation}
use Rattle.execution.specs.Entries.{Entry, lookup}
use Rattle.execution.specs.Bounds.{Bounds, no_bounds, inside}
use Rattle.execution.specs.Run.{Table, Run, start, ended, steps, whole, counted, whole_count, matches, over}
use Rattle.model.specs.declared.Limits.{Limits}
use Rattle.model.specs.Lists.{pick, keep, any, count, index, mapi}
use Rattle.model.specs.Interface.{optimistic, execute, final, open_reader, close_reader, Query, read, find, show_body, dry_run, Call, opening, update, query}
use Rattle.model.specs.Interface.{Committed, Observation, version, found, body, previewed, Yield, done, executed, committed, observed, Answer}
use Rattle.model.specs.Calls.{Transaction, is_key, leaves, Facts, refusal, shown, judged}
use Rattle.model.specs.Start.{Version, no_version, Start, start_of, Object, objects_from}
use Rattle.model.specs.DryRun.{preview_of}
use Rattle.model.specs.Serial.{is_some}

-- a pending transaction with its run on record ("early results")
pub record Pending : Type 0 where
  pub sent : Transaction
  pub run : Run

pub record Replica : Type 0 where
  pub timestamp : ℕ  -- the commit timestamp ("stamp")
  pub objects : List (List Version)  -- each object's versions, the newest first
  pub lasts : List ℕ  -- each client's last committed sequence number
  pub pending : List Pending  -- in optimistic order
  pub readers : List (Option ℕ)  -- an open reader's timestamp
  pub bounds : List Bounds  -- each object's; they stay from one opening to the next

-- ---- one field changed

abbrev pub with_timestamp : ℕ → Replica → Replica
with_timestamp x u =
    record { timestamp = x; objects = u.objects; lasts = u.lasts; pending = u.pending; readers = u.readers; bounds = u.bounds }

abbrev pub with_objects : List (List Version) → Replica → Replica
with_objects x u =
    record { timestamp = u.timestamp; objects = x; lasts = u.lasts; pending = u.pending; readers = u.readers; bounds = u.bounds }

abbrev pub with_lasts : List ℕ → Replica → Replica
with_lasts x u =
    record { timestamp = u.timestamp; objects = u.objects; lasts = x; pending = u.pending; readers = u.readers; bounds = u.bounds }

abbrev pub with_pending : List Pending → Replica → Replica
with_pending x u =
    record { timestamp = u.timestamp; objects = u.objects; lasts = u.lasts; pending = x; readers = u.readers; bounds = u.bounds }

abbrev pub with_readers : List (Option ℕ) → Replica → Replica
with_readers x u =
    record { timestamp = u.timestamp; objects = u.objects; lasts = u.lasts; pending = u.pending; readers = x; bounds = u.bounds }

abbrev pub with_bounds : List Bounds → Replica → Replica
with_bounds x u =
    record { timestamp = u.timestamp; objects = u.objects; lasts = u.lasts; pending = u.pending; readers = u.readers; bounds = x }

-- ---- versions

-- "every object's newest version"
abbrev pub newest : List Version → Version
newest vs = Option.get_or (pick (λ v. true) vs) no_version

-- "the newest version not above the reader's stamp"
abbrev pub as_of : ℕ → List Version → Version
as_of r vs = Option.get_or (pick (λ v. leb v.stamp r) vs) no_version

abbrev pub view : Option ℕ → List Version → Version
view none vs = no_version
view (some r) vs = as_of r vs

-- the open readers' timestamps
abbrev pub opens : List (Option ℕ) → List ℕ
opens [] = []
opens (none ∷ l) = opens l
opens (some r ∷ l) = r ∷ opens l

-- "A version is held exactly while it is the object's newest, or the newest whose stamp is not above some open reader's stamp."
unfoldable pub held : List ℕ → List Version → Version → Bool
held rs vs v = eqb v.stamp (newest vs).stamp || any (λ r. eqb v.stamp (as_of r vs).stamp) rs

unfoldable pub prune : List ℕ → List Version → List Version
prune rs vs = keep (held rs vs) vs

-- the newest versions' values and stamps, and the bounds
abbrev pub table : List (List Version) → List Bounds → Table
table objs bs =
    record { look = λ o. (newest (get_or objs o [])).value; stamp = λ o. (newest (get_or objs o [])).stamp; allow = λ o. inside (get_or bs o no_bounds) }

-- the committed state ("committed table"): what the first pending transaction runs on
abbrev pub committed_table : Replica → Table
committed_table u = table u.objects u.bounds

-- the same as a list, with all that an object's record has
abbrev pub committed_objects : Replica → List Object
committed_objects u = objects_from (map newest u.objects) u.bounds

-- one object's versions after a commit that stored this value, or none
abbrev pub pushed : ℕ → List Version → Option ℤ → List Version
pushed t vs none = vs
pushed t vs (some v) = record { stamp = t; value = v } ∷ vs

-- "each object stored gets the last value given, as one new version, even if equal to the old"; versions no longer held go
unfoldable pub install : ℕ → List ℕ → List Entry → List (List Version) → List (List Version)
install t rs writes objs = mapi (λ o vs. prune rs (pushed t vs (lookup writes o))) objs

-- ---- pending transactions

abbrev pub program : Pending → List Operation
program j = operations j.sent.bytes

abbrev pub finished : Pending → Bool
finished j = ended (program j) j.run

-- at most c operations of one transaction
unfoldable pub advance : Table → ℕ → Pending → Pending
advance T c j = record { sent = j.sent; run = steps T (program j) c j.run }

abbrev pub used : Table → ℕ → Pending → ℕ
used T c j = counted T (program j) c j.run

-- "carries out operations of the first unfinished pending job, then of the next": a transaction's table is T with the writes of those before it
unfoldable pub worked : Table → ℕ → List Pending → List Pending
worked T c [] = []
worked T c (j ∷ js) =
    let i : Pending = advance T c j in
    i ∷ cond (finished i) (worked (over i.run.writes T) (c - used T c j) js) js

-- the operations carried out
unfoldable pub work_count : Table → ℕ → List Pending → ℕ
work_count T c [] = 0
work_count T c (j ∷ js) =
    let i : Pending = advance T c j in
    used T c j + cond (finished i) (work_count (over i.run.writes T) (c - used T c j) js) 0

-- back to its start
unfoldable pub restarted : Pending → Pending
restarted j = record { sent = j.sent; run = start }

-- "the first whose recorded reads no longer match its table, and all after it, go back to their start"
unfoldable pub walk : Table → List Pending → List Pending
walk T [] = []
walk T (j ∷ js) = cond (matches T j.run.reads) (j ∷ walk (over j.run.writes T) js) (map restarted (j ∷ js))

abbrev pub pending_of : Option Pending → Pending
pending_of none = record { sent = record { client = 0; sequence = 0; bytes = [] }; run = start }
pending_of (some j) = j

abbrev pub has_key : ℕ → ℕ → Pending → Bool
has_key c s j = is_key c s j.sent

-- the pending transaction with this key
abbrev pub keyed : Replica → ℕ → ℕ → Pending
keyed u c s = pending_of (pick (has_key c s) u.pending)

abbrev pub stays : ℕ → ℕ → Pending → Bool
stays c s j = not (leaves c s j.sent)

-- "If the job is finished and every value it read from outside itself equals the committed value now": validation by value
unfoldable pub validated : Table → Pending → Bool
validated T j = finished j && matches T j.run.reads

-- "its early outcome and stores are kept; else it is run whole on the committed table"
unfoldable pub result : Table → Pending → Run
result T j = cond (validated T j) j.run (whole T (program j))

-- its rework, "the operations it carried out: none if kept, otherwise exactly those in the definition of that run" (S-10 of document 02)
unfoldable pub rework : Table → Pending → ℕ
rework T j = cond (validated T j) 0 (whole_count T (program j))

-- ---- the calls

unfoldable pub facts : Replica → Facts
facts u =
    record { size = length u.objects; timestamp = u.timestamp; lasts = u.lasts; queue = map (λ (j : Pending). j.sent) u.pending; opened = map is_some u.readers }

-- a final delivery of a key with this run as its result, validated or not, for which w operations were carried out
unfoldable pub commit : Replica → ℕ → ℕ → Bool → Run → ℕ → Committed × Replica
commit u c s valid p w =
    let t : ℕ = suc u.timestamp in
    let v : Replica = with_lasts (set u.lasts c s) (with_timestamp t (with_objects (install t (opens u.readers) p.writes u.objects) u)) in (
      record { outcome = p.outcome; validated = valid; timestamp = t; stored = length p.writes; operations = w },
      with_pending (walk (committed_table v) (keep (stays c s) u.pending)) v,
    )

-- the final delivery of a pending key: what it yields, and the replica after it
abbrev pub delivered : Replica → ℕ → ℕ → Committed × Replica
delivered u c s =
    let T : Table = committed_table u in
    let j : Pending = keyed u c s in
    commit u c s (validated T j) (result T j) (rework T j)

module _ (l : Limits) where
  -- an accepted opening: nothing pending, readers closed
  unfoldable pub opened : Start → Replica
  opened s =
      record { timestamp = s.timestamp; objects = map (λ v. v ∷ []) s.versions; lasts = s.lasts; pending = []; readers = replicate l.readers none; bounds = s.bounds }

  -- what a query yields
  abbrev pub reply : Replica → Query → Observation
  reply u (read r o) = version (view (get_or u.readers r none) (get_or u.objects o []))
  reply u (find c s) = found (index (has_key c s) u.pending) (length (keyed u c s).sent.bytes)
  reply u (show_body c s) = body (shown (keyed u c s).sent.bytes (refusal l (facts u) (query (find c s))))
  reply u (dry_run c s) =
      let r : Committed × Replica = delivered u c s in previewed (preview_of r.0 (map newest r.1.objects))

  -- an accepted call: what it yields, and the replica after it
  unfoldable pub perform : Replica → Call → Yield × Replica
  perform u (opening o) = (done, opened (start_of o))
  perform u (update (optimistic c s b)) =
      (done, with_pending (u.pending ++ (record { sent = record { client = c; sequence = s; bytes = b }; run = start } ∷ [])) u)
  perform u (update (execute k)) =
      let js : List Pending = worked (committed_table u) k u.pending in
      (executed (work_count (committed_table u) k u.pending) (count finished js), with_pending js u)
  perform u (update (final c s)) = let r : Committed × Replica = delivered u c s in (committed r.0, r.1)
  perform u (update (open_reader r)) = (done, with_readers (set u.readers r (some u.timestamp)) u)
  perform u (update (close_reader r)) =
      let rs : List (Option ℕ) = set u.readers r none in
      (done, with_readers rs (with_objects (map (prune (opens rs)) u.objects) u))
  perform u (query q) = (observed (reply u q), u)

  unfoldable pub call : Replica → Call → Answer × Replica
  call u c = judged u (perform u c) (refusal l (facts u) c)

  -- a list of calls: the answers in order, and the replica after them
  unfoldable pub calls : Replica → List Call → List Answer × Replica
  calls u [] = ([], u)
  calls u (c ∷ cs) =
      let r : List Answer × Replica = calls (call u c).1 cs in ((call u c).0 ∷ r.0, r.1)
