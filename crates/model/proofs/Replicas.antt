-- Two replicas: equal openings and equal lists of accepted final deliveries, each key with the same body, give equal outcomes and equal committed states,
-- wherever in either list the rest of the calls fell. Assumes nothing.
use Rattle.std.specs.Prelude.{◌≡◌, false, drop}
use Rattle.std.proofs.Math.Path.{refl, sym, ap}
use Rattle.std.proofs.Common.{◌∙◌, ap₂}
use mathlib.Core.List.{List, [], ◌∷◌, ◌++◌, map, append_assoc}
use Prim.Native.Nat.{ℕ, zero, suc}
use Rattle.execution.specs.Bounds.{Bounds}
use Rattle.model.specs.declared.Limits.{Limits}
use Rattle.model.specs.Lists.{pick, count}
use Rattle.model.specs.Interface.{optimistic, execute, final, open_reader, close_reader, dry_run, Call, opening, update, query, Observation, previewed, Yield, done, executed, committed, observed, Answer, refused, yielded}
use Rattle.model.specs.Calls.{compared, seen, is_key, bytes_of, Facts, refusal, judged}
use Rattle.model.specs.Start.{Version, Start, start_of, Object, objects_from}
use Rattle.model.specs.DryRun.{preview_of}
use Rattle.model.specs.Serial as serial
use Rattle.model.specs.Serial.{Serial, stored_at, ran}
use Rattle.model.specs.Replica.{Replica, newest, committed_objects, facts, opened, call, calls}
use Rattle.model.specs.VersionLaws.{Dated}
use Rattle.model.proofs.Invariant.{Invariant, opened-invariant, call-invariant, calls-invariant}
use Rattle.model.proofs.Correspondence.{serial_of, facts-same, opened-same, call_same}
use Rattle.model.proofs.Serializability.{calls_same}

-- ---- the history of a list of calls

-- what changes the committed state: a final delivery of a key with its body, or an opening in the midst of the list
pub data Event : Type 0 where
  delivery : ℕ → ℕ → List ℕ → Event
  reopening : Start → Event

abbrev pub event : Facts → Call → List Event
event f (opening o) = reopening (start_of o) ∷ []
event f (update (optimistic c s b)) = []
event f (update (execute k)) = []
event f (update (final c s)) = delivery c s (bytes_of (pick (is_key c s) f.queue)) ∷ []
event f (update (open_reader r)) = []
event f (update (close_reader r)) = []
event f (query q) = []

abbrev pub if_accepted : List Event → ℕ → List Event
if_accepted es zero = es
if_accepted es (suc k) = []

-- the accepted final deliveries of a list of calls, in order
unfoldable pub history : Limits → Replica → List Call → List Event
history l u [] = []
history l u (c ∷ cs) = if_accepted (event (facts u) c) (refusal l (facts u) c) ++ history l (call l u c).1 cs

-- what a final delivery answers, validated or run again aside
pub record Result : Type 0 where
  pub outcome : ℕ
  pub timestamp : ℕ
  pub stored : ℕ

abbrev pub result_in : Yield → List Result
result_in done = []
result_in (executed n f) = []
result_in (committed r) = record { outcome = r.outcome; timestamp = r.timestamp; stored = r.stored } ∷ []
result_in (observed o) = []

abbrev pub delivery_result : Answer → List Result
delivery_result (refused k) = []
delivery_result (yielded y) = result_in y

-- the results of the accepted final deliveries, in order
abbrev pub delivery_results : List Answer → List Result
delivery_results [] = []
delivery_results (a ∷ rest) = delivery_result a ++ delivery_results rest

-- ---- the events alone, one after another

record State : Type 0 where
  timestamp : ℕ
  objects : List Version
  bounds : List Bounds

redo : State → Event → List Result × State
redo x (delivery c s b) =
    let t : ℕ = suc x.timestamp in
    let r : ℕ × List Version = ran t x.bounds b x.objects in
    (record { outcome = r.0; timestamp = t; stored = count (stored_at t) r.1 } ∷ [], record { timestamp = t; objects = r.1; bounds = x.bounds })
redo x (reopening s) = ([], record { timestamp = s.timestamp; objects = s.versions; bounds = s.bounds })

replay : State → List Event → List Result × State
replay x [] = ([], x)
replay x (e ∷ es) =
    let r : List Result × State = replay (redo x e).1 es in ((redo x e).0 ++ r.0, r.1)

replay_append : (x : State) (a b : List Event) → replay x (a ++ b) ≡ ((replay x a).0 ++ (replay (replay x a).1 b).0, (replay (replay x a).1 b).1)
unfolding replay
replay_append x [] b = refl
replay_append x (e ∷ a) b = rw (replay_append (redo x e).1 a b, append_assoc)

abbrev state_of : Serial → State
state_of p = record { timestamp = p.timestamp; objects = p.objects; bounds = p.bounds }

abbrev start_state : Start → State
start_state s = record { timestamp = s.timestamp; objects = s.versions; bounds = s.bounds }

-- what a list has committed: the results of its final deliveries, and the committed state
abbrev committed_by : List Answer × Replica → List Result × State
committed_by r = (delivery_results r.0, record { timestamp = r.1.timestamp; objects = map newest r.1.objects; bounds = r.1.bounds })

results-seen : (answers : List Answer) → delivery_results (map seen answers) ≡ delivery_results answers
results-seen [] = refl
results-seen (a ∷ rest) = ap₂ ◌++◌ (of-answer a) (results-seen rest)
  where
    of-yield : (y : Yield) → result_in (compared y) ≡ result_in y
    of-yield done = refl
    of-yield (executed n f) = refl
    of-yield (committed r) = refl
    of-yield (observed o) = refl

    of-answer : (a : Answer) → delivery_result (seen a) ≡ delivery_result a
    of-answer (refused k) = refl
    of-answer (yielded y) = of-yield y

module _ (l : Limits) where
  unfoldable serial_history : Serial → List Call → List Event
  serial_history p [] = []
  serial_history p (c ∷ cs) =
      if_accepted (event (serial.facts p) c) (refusal l (serial.facts p) c) ++ serial_history (serial.call l p c).1 cs

  replay_perform : (p : Serial) (c : Call) → replay (state_of p) (event (serial.facts p) c) ≡ (result_in (serial.perform l p c).0, state_of (serial.perform l p c).1)
  unfolding replay redo serial.facts serial.perform serial.commit serial.opened
  replay_perform p (opening o) = refl
  replay_perform p (update (optimistic c s b)) = refl
  replay_perform p (update (execute k)) = refl
  replay_perform p (update (final c s)) = refl
  replay_perform p (update (open_reader r)) = refl
  replay_perform p (update (close_reader r)) = refl
  replay_perform p (query q) = refl

  replay_call : (p : Serial) (c : Call) → replay (state_of p) (if_accepted (event (serial.facts p) c) (refusal l (serial.facts p) c)) ≡ (delivery_result (serial.call l p c).0, state_of (serial.call l p c).1)
  unfolding serial.call replay
  replay_call p c = go' (refusal l (serial.facts p) c)
    where
      go' : (k : ℕ) → replay (state_of p) (if_accepted (event (serial.facts p) c) k) ≡ (delivery_result (judged p (serial.perform l p c) k).0, state_of (judged p (serial.perform l p c) k).1)
      go' zero = replay_perform p c
      go' (suc k) = refl

  replay_calls : (cs : List Call) (p : Serial) → replay (state_of p) (serial_history p cs) ≡ (delivery_results (serial.calls l p cs).0, state_of (serial.calls l p cs).1)
  unfolding serial_history serial.calls replay
  replay_calls [] p = refl
  replay_calls (c ∷ cs) p =
      rw
      (replay_append (state_of p) (if_accepted (event (serial.facts p) c) (refusal l (serial.facts p) c)) (serial_history (serial.call l p c).1 cs), replay_call p c, replay_calls cs (serial.call l p c).1)

  history-same : (cs : List Call) (u : Replica) → Invariant l u → history l u cs ≡ serial_history (serial_of u) cs
  unfolding history serial_history
  history-same [] u v = refl
  history-same (c ∷ cs) u v =
      rw (facts-same u, ← (call_same l u v c).1)
      (ap (if_accepted (event (facts u) c) (refusal l (facts u) c) ++◌) (history-same cs (call l u c).1 (call-invariant l u v c)))

  -- all that a list commits is settled by its history
  settled-by_history : (s : Start) → Dated s → (cs : List Call) → committed_by (calls l (opened l s) cs) ≡ replay (start_state s) (history l (opened l s) cs)
  unfolding serial.opened serial_of
  settled-by_history s d cs =
      let h = calls_same l cs (opened l s) (opened-invariant l s d) in
      let state = h.1 ∙ ap (λ p. (serial.calls l p cs).1) (opened-same l s) in
      let answers = h.0 ∙ ap (λ p. (serial.calls l p cs).0) (opened-same l s) in
      let a = sym (results-seen (calls l (opened l s) cs).0) ∙ ap delivery_results answers in
      (λ i. (a i, state_of (state i)))
      ∙ sym (replay_calls cs (serial.opened l s))
      ∙ ap (replay (start_state s))
      (sym (history-same cs (opened l s) (opened-invariant l s d) ∙ ap (λ p. serial_history p cs) (opened-same l s)))

-- what the two replicas' answers and states have in common
pub record SameCommits (r q : List Answer × Replica) : Type 0 where
  pub results : delivery_results r.0 ≡ delivery_results q.0
  pub objects : committed_objects r.1 ≡ committed_objects q.1
  pub timestamp : r.1.timestamp ≡ q.1.timestamp

-- The replicas may be of two kinds: l and m are their limits.
pub two-replicas : (l m : Limits) (s : Start) → Dated s → (cs ds : List Call) → history l (opened l s) cs ≡ history m (opened m s) ds
    → SameCommits (calls l (opened l s) cs) (calls m (opened m s) ds)
two-replicas l m s d cs ds e =
    let k = settled-by_history l s d cs ∙ ap (replay (start_state s)) e ∙ sym (settled-by_history m s d ds) in
    record {
      results = ap (λ (x : List Result × State). x.0) k;
      objects = ap (λ (x : List Result × State). objects_from x.1.objects x.1.bounds) k;
      timestamp = ap (λ (x : List Result × State). x.1.timestamp) k;
    }

-- so they have the same newest versions, which is what a reader that is opened then sees
pub same-newest : {r q : List Answer × Replica} → SameCommits r q → map newest r.1.objects ≡ map newest q.1.objects
same-newest {r} {q} h =
    sym (object-versions (map newest r.1.objects) r.1.bounds)
    ∙ ap (map version_of) h.objects
    ∙ object-versions (map newest q.1.objects) q.1.bounds
  where
    version_of : Object → Version
    version_of x = record { stamp = x.stamp; value = x.value }

    object-versions : (vs : List Version) (bs : List Bounds) → map version_of (objects_from vs bs) ≡ vs
    object-versions [] bs = refl
    object-versions (v ∷ vs) bs = ap (v ∷◌) (object-versions vs (drop 1 bs))

-- ---- dry runs

-- what is compared of a dry run of this body on a committed state
abbrev tried : State → List ℕ → Observation
tried x b =
    let t : ℕ = suc x.timestamp in
    let r : ℕ × List Version = ran t x.bounds b x.objects in
    previewed (preview_of (record { outcome = r.0; validated = false; timestamp = t; stored = count (stored_at t) r.1; operations = 0 }) r.1)

tried_same : (l : Limits) (u : Replica) → Invariant l u → (c q : ℕ) → refusal l (facts u) (query (dry_run c q)) ≡ 0
    → seen (call l u (query (dry_run c q))).0 ≡ yielded (observed (tried (state_of (serial_of u)) (bytes_of (pick (is_key c q) (facts u).queue))))
unfolding serial.call serial.perform serial.commit serial_of facts
tried_same l u v c q e =
    (call_same l u v (query (dry_run c q))).0
    ∙ ap (λ (k : ℕ). (judged (serial_of u) (serial.perform l (serial_of u) (query (dry_run c q))) k).0) (ap (λ (f : Facts). refusal l f (query (dry_run c q))) (facts-same u) ∙ e)

-- Two replicas with equal histories tell the same of a key that is pending on both with the same body, kept or run again aside.
pub same-dry_runs : (l m : Limits) (s : Start) → Dated s → (cs ds : List Call) → history l (opened l s) cs ≡ history m (opened m s) ds → (c q : ℕ)
    → refusal l (facts (calls l (opened l s) cs).1) (query (dry_run c q)) ≡ 0 → refusal m (facts (calls m (opened m s) ds).1) (query (dry_run c q)) ≡ 0
    → bytes_of (pick (is_key c q) (facts (calls l (opened l s) cs).1).queue) ≡ bytes_of (pick (is_key c q) (facts (calls m (opened m s) ds).1).queue)
    → seen (call l (calls l (opened l s) cs).1 (query (dry_run c q))).0 ≡ seen (call m (calls m (opened m s) ds).1 (query (dry_run c q))).0
unfolding serial_of
same-dry_runs l m s d cs ds e c q h k same =
    let settled = settled-by_history l s d cs ∙ ap (replay (start_state s)) e ∙ sym (settled-by_history m s d ds) in
    let state = ap (λ (x : List Result × State). x.1) settled in
    tried_same l (calls l (opened l s) cs).1 (calls-invariant l cs (opened l s) (opened-invariant l s d)) c q h
    ∙ ap₂ (λ (x : State) (b : List ℕ). yielded (observed (tried x b))) state same
    ∙ sym (tried_same m (calls m (opened m s) ds).1 (calls-invariant m ds (opened m s) (opened-invariant m s d)) c q k)
