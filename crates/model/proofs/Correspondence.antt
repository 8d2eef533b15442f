-- A replica and the serial table that it stands for: any one call on both gives the same to be seen, and a replica that stands for the same table.
-- Assumes nothing.
use Rattle.std.specs.Prelude.{◌≡◌, Bool, true, false, not, cond, get_or, set}
use Rattle.std.proofs.Math.Path.{refl, ap}
use Rattle.std.proofs.Common.{sym, ◌∙◌, arith}
use Rattle.std.proofs.Math.Option
use Rattle.std.proofs.Math.Option.{Option, none, some}
use mathlib.Core.List.{List, [], ◌∷◌, map, map-append, map-map, map-id}
use Prim.Native.Nat.{ℕ, zero, suc, ◌<◌}
use Rattle.std.proofs.Math.ListN.{length, get_or-map}
use Rattle.std.proofs.lemmas.List.{length-map}
use Rattle.operation.specs.Body.{listed, operations}
use Rattle.operation.proofs.BodyLaws.{valid_drop}
use Rattle.execution.specs.Run.{Run, start, steps}
use Rattle.model.specs.declared.Limits.{Limits}
use Rattle.model.specs.Lists.{pick, keep}
use Rattle.model.specs.Interface.{optimistic, execute, final, open_reader, close_reader, Query, read, find, show_body, dry_run, Call, opening, update, query}
use Rattle.model.specs.Interface.{Committed, version, previewed, Yield, committed, observed, Answer, yielded}
use Rattle.model.specs.Calls.{compared_commit, compared_observation, compared, seen, Transaction, is_key, leaves, bytes_of, refusal, judged}
use Rattle.model.specs.Start.{Start, start_of}
use Rattle.model.specs.DryRun.{preview_of}
use Rattle.model.specs.Serial as serial
use Rattle.model.specs.Serial.{Version, no_version, Serial, is_some, ran}
use Rattle.model.specs.Replica.{Pending, Replica, newest, as_of, view, opens, prune, table, committed_table, install, walk, program, pending_of, has_key, keyed, stays, result, facts, commit, delivered, opened, reply, perform, call}
use Rattle.model.specs.ListLaws.{All}
use Rattle.model.proofs.ListLaws.{all-at, all-implies, all_map, map-keep, index-map, map-replicate, map-set, map-all, map_map-same}
use Rattle.model.specs.VersionLaws.{Until}
use Rattle.model.proofs.VersionLaws.{newest-prune, as_of-prune, as_of-now, newest-install, as_of-install, table-values, views}
use Rattle.model.specs.EarlyResults.{Somewhere, sents}
use Rattle.model.proofs.EarlyResultsLaws.{chain-somewhere, worked-sents, walk-sents, result-whole}
use Rattle.model.proofs.Simulation.{AllValid, none-valid, SameRun, serial_run}
use Rattle.model.proofs.Invariant.{Invariant, WellFormed}

-- ---- the serial table that a replica stands for

-- an open reader's copy of the objects
abbrev copies : List (List Version) → List (Option ℕ) → List (Option (List Version))
copies objs rs = map (Option.map (λ r. map (as_of r) objs)) rs

unfoldable pub serial_of : Replica → Serial
serial_of u =
    record { timestamp = u.timestamp; objects = map newest u.objects; lasts = u.lasts; pending = sents u.pending; readers = copies u.objects u.readers; bounds = u.bounds }

serial-≡ : (p q : Serial) → p.timestamp ≡ q.timestamp → p.objects ≡ q.objects → p.lasts ≡ q.lasts → p.pending ≡ q.pending → p.readers ≡ q.readers → p.bounds ≡ q.bounds → p ≡ q
serial-≡ p q a b c d e f = λ i. record { timestamp = a i; objects = b i; lasts = c i; pending = d i; readers = e i; bounds = f i }

-- refusals see the same
pub facts-same : (u : Replica) → serial.facts (serial_of u) ≡ facts u
unfolding serial.facts serial_of facts
facts-same u = rw (length-map u.objects newest, opens-same u.readers)
  where
    opens-same : (l : List (Option ℕ)) → map is_some (copies u.objects l) ≡ map is_some l
    opens-same [] = refl
    opens-same (none ∷ l) = ap (false ∷◌) (opens-same l)
    opens-same (some a ∷ l) = ap (true ∷◌) (opens-same l)

-- both look up the same body
pub picked-bytes : (q : Transaction → Bool) (l : List Pending) → bytes_of (pick q (sents l)) ≡ (pending_of (pick (λ (j : Pending). q j.sent) l)).sent.bytes
unfolding start
picked-bytes q [] = refl
picked-bytes q (j ∷ l) = go' (q j.sent) (picked-bytes q l)
  where
    p : Pending → Bool
    p j = q j.sent

    go' : (b : Bool) → bytes_of (pick q (sents l)) ≡ (pending_of (pick p l)).sent.bytes
        → bytes_of (cond b (some j.sent) (pick q (sents l))) ≡ (pending_of (cond b (some j) (pick p l))).sent.bytes
    go' true h = refl
    go' false h = h

pub picked_all : (P : Pending → Type 0) (q : Pending → Bool) (l : List Pending) → P (pending_of none) → All P l → P (pending_of (pick q l))
picked_all P q [] d h = d
picked_all P q (j ∷ l) d h = go' (q j) (picked_all P q l d h.1)
  where
    go' : (b : Bool) → P (pending_of (pick q l)) → P (pending_of (cond b (some j) (pick q l)))
    go' true k = h.0
    go' false k = k

module _ (l : Limits) where
  pub opened-same : (s : Start) → serial_of (opened l s) ≡ serial.opened l s
  unfolding serial_of opened serial.opened
  opened-same s =
      serial-≡ _ _ refl (map-map newest (λ v. v ∷ []) s.versions ∙ map-id s.versions) refl refl (map-replicate _ l.readers none) refl

  -- what one call answers, and the state after it
  abbrev Agrees : Answer × Replica → Answer × Serial → Type 0
  Agrees r q = (seen r.0 ≡ q.0) × (serial_of r.1 ≡ q.1)

  -- the same of a call that is accepted
  abbrev Performs : Yield × Replica → Yield × Serial → Type 0
  Performs r q = (compared r.0 ≡ q.0) × (serial_of r.1 ≡ q.1)

  module _ (u : Replica) (v : Invariant l u) where
    -- ---- a final delivery

    pub keyed-somewhere : (c s : ℕ) → Somewhere (committed_table u) (keyed u c s)
    unfolding steps
    keyed-somewhere c s =
        picked_all (Somewhere (committed_table u)) (has_key c s) u.pending (committed_table u, refl, (0, refl)) (chain-somewhere (committed_table u) (committed_table u) refl u.pending v.early)

    keyed-valid : (c s : ℕ) → AllValid (length u.objects) (program (keyed u c s))
    unfolding operations listed
    keyed-valid c s =
        let n = length u.objects in
        let bodies = all_map (WellFormed l n) (λ (j : Pending). j.sent) u.pending v.bodies in
        picked_all (λ (j : Pending). AllValid n (program j)) (has_key c s) u.pending (none-valid n)
        (all-implies _ _ (λ (j : Pending) h. valid_drop l.operations n j.sent.bytes h) u.pending bodies)

    before : (i : ℕ) → (get_or (map newest u.objects) i no_version).stamp < suc u.timestamp
    before i =
        rw (get_or-map newest u.objects i [])
        (let h = all-at (Until u.timestamp) u.objects [] v.versions (omega arith) i in omega arith)

    -- validated or run again, its result is what the serial table's run gives
    result-same : (c s : ℕ) → SameRun (suc u.timestamp) (map newest u.objects) (result (committed_table u) (keyed u c s)) (ran (suc u.timestamp) u.bounds (keyed u c s).sent.bytes (map newest u.objects))
    result-same c s =
        rw (result-whole (committed_table u) (keyed u c s) (keyed-somewhere c s), ← (table-values u.objects u.bounds))
        (serial_run (suc u.timestamp) u.bounds (map newest u.objects) before (keyed u c s).sent.bytes (rw (length-map u.objects newest) (keyed-valid c s)))

    -- what it yields, and the state after it
    abbrev Delivers : Committed × Replica → Committed × Serial → Type 0
    Delivers r q = (compared_commit r.0 ≡ q.0) × (serial_of r.1 ≡ q.1)

    delivered-same : (c s : ℕ) → Delivers (delivered u c s) (serial.delivered (serial_of u) c s)
    unfolding commit serial_of serial.commit
    delivered-same c s = rw (picked-bytes (is_key c s) u.pending) (answer, serial-≡ _ _ refl objects refl pending readers refl)
      where
        t : ℕ
        t = suc u.timestamp

        rs : List ℕ
        rs = opens u.readers

        p : Run
        p = result (committed_table u) (keyed u c s)

        r : ℕ × List Version
        r = ran t u.bounds (keyed u c s).sent.bytes (map newest u.objects)

        g : SameRun t (map newest u.objects) p r
        g = result-same c s

        objs : List (List Version)
        objs = install t rs p.writes u.objects

        left : List Pending
        left = keep (stays c s) u.pending

        answer : compared_commit (delivered u c s).0 ≡ (serial.commit (serial_of u) c s r).0
        answer = rw (g.stored, g.outcome)

        objects : map newest objs ≡ r.1
        objects = newest-install t rs p.writes u.objects ∙ sym g.objects

        pending : sents (walk (table objs u.bounds) left) ≡ keep (λ j. not (leaves c s j)) (sents u.pending)
        pending = walk-sents (table objs u.bounds) left ∙ map-keep (λ (j : Pending). j.sent) (λ j. not (leaves c s j)) u.pending

        readers : copies objs u.readers ≡ copies u.objects u.readers
        readers =
            views (λ r. map (as_of r) objs) (λ r. map (as_of r) u.objects) u.readers (λ r h. as_of-install t rs p.writes u.objects r h (let k = v.readers r h in omega arith))

    -- ---- readers

    open_reader-same : (r : ℕ) → copies u.objects (set u.readers r (some u.timestamp)) ≡ set (copies u.objects u.readers) r (some (map newest u.objects))
    open_reader-same r =
        map-set (Option.map (λ r. map (as_of r) u.objects)) u.readers r (some u.timestamp)
        ∙ rw (map-all (as_of u.timestamp) newest u.objects (all-implies _ _ (as_of-now u.timestamp) u.objects v.versions))

    close_reader-same : (r : ℕ) → let rs = set u.readers r none in copies (map (prune (opens rs)) u.objects) rs ≡ set (copies u.objects u.readers) r none
    close_reader-same r =
        let rs = set u.readers r none in
        views (λ r. map (as_of r) (map (prune (opens rs)) u.objects)) (λ r. map (as_of r) u.objects) rs (λ r h. map_map-same (as_of r) (prune (opens rs)) u.objects (λ vs. as_of-prune (opens rs) vs r h))
        ∙ map-set (Option.map (λ r. map (as_of r) u.objects)) u.readers r none

    -- ---- queries

    read_same : (r o : ℕ) → view (get_or u.readers r none) (get_or u.objects o []) ≡ get_or (Option.get_or (get_or (copies u.objects u.readers) r none) []) o no_version
    read_same r o =
        rw (get_or-map (Option.map (λ r. map (as_of r) u.objects)) u.readers r none) (go' (get_or u.readers r none))
      where
        go' : (k : Option ℕ) → view k (get_or u.objects o []) ≡ get_or (Option.get_or (Option.map (λ r. map (as_of r) u.objects) k) []) o no_version
        go' none = refl
        go' (some r) = sym (get_or-map (as_of r) u.objects o [])

    reply-same : (q : Query) → compared_observation (reply l u q) ≡ serial.reply l (serial_of u) q
    unfolding serial_of
    reply-same (read r o) = ap version (read_same r o)
    reply-same (find c s) =
        rw (index-map (λ (j : Pending). j.sent) (is_key c s) u.pending, picked-bytes (is_key c s) u.pending)
    reply-same (show_body c s) = rw (facts-same u, picked-bytes (is_key c s) u.pending)
    reply-same (dry_run c s) = let h = delivered-same c s in λ i. previewed (preview_of (h.0 i) (h.1 i).objects)

    -- ---- every call

    perform-same : (c : Call) → Performs (perform l u c) (serial.perform l (serial_of u) c)
    unfolding perform serial_of serial.perform
    perform-same (opening o) = (refl, opened-same (start_of o))
    perform-same (update (optimistic c s b)) =
        (refl, serial-≡ _ _ refl refl refl (map-append (λ (j : Pending). j.sent) u.pending _) refl refl)
    perform-same (update (execute k)) = (refl, serial-≡ _ _ refl refl refl (worked-sents (committed_table u) k u.pending) refl refl)
    perform-same (update (final c s)) = let h = delivered-same c s in (ap committed h.0, h.1)
    perform-same (update (open_reader r)) = (refl, serial-≡ _ _ refl refl refl refl (open_reader-same r) refl)
    perform-same (update (close_reader r)) =
        let rs = opens (set u.readers r none) in
        (refl, serial-≡ _ _ refl (map_map-same newest (prune rs) u.objects (newest-prune rs)) refl refl (close_reader-same r) refl)
    perform-same (query q) = (ap observed (reply-same q), refl)

    -- one call
    pub call_same : (c : Call) → Agrees (call l u c) (serial.call l (serial_of u) c)
    unfolding call serial.call
    call_same c = rw (facts-same u) (go' (refusal l (facts u) c))
      where
        go' : (k : ℕ) → Agrees (judged u (perform l u c) k) (judged (serial_of u) (serial.perform l (serial_of u) c) k)
        go' zero = let h = perform-same c in (ap yielded h.0, h.1)
        go' (suc k) = (refl, refl)
