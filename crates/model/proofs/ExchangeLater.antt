-- After an exchange: replicas that differ in the versions' stamps, early results and readers' views alone are judged alike by every later call, and what they deliver
-- later comes to the same. Assumes nothing.
use Rattle.std.specs.Prelude.{◌≡◌, Bool, true, false, ℤ, pos, get_or, set}
use Rattle.std.proofs.Math.Path.{refl, sym, ap, ap₂}
use Rattle.std.proofs.Common.{◌∙◌}
use Rattle.std.proofs.Math.Option.{none, some}
use mathlib.Core.List.{List, [], ◌∷◌, ◌++◌, map, map-append}
use Prim.Native.Nat.{ℕ, zero, suc}
use Rattle.std.proofs.lemmas.List.{length-map}
use Rattle.std.proofs.Math.ListN.{get_or-map}
use Rattle.operation.specs.Body.{operations}
use Rattle.execution.specs.Entries.{lookup}
use Rattle.execution.specs.Bounds.{no_bounds, inside}
use Rattle.execution.specs.Run.{whole}
use Rattle.execution.proofs.ReadAgreement.{whole_agree}
use Rattle.model.specs.declared.Limits.{Limits}
use Rattle.model.specs.Lists.{pick}
use Rattle.model.specs.Interface.{optimistic, execute, final, open_reader, close_reader, Call, opening, update, query, Answer}
use Rattle.model.specs.Calls.{Transaction, Facts, is_key, bytes_of, refusal, judged}
use Rattle.model.specs.Start.{Version}
use Rattle.model.specs.Serial.{is_some}
use Rattle.model.specs.Replica.{Pending, Replica, newest, opens, prune, committed_table, facts, commit, perform, call, calls}
use Rattle.model.proofs.ListLaws.{map-set, map_map-same}
use Rattle.model.proofs.VersionLaws.{newest-prune}
use Rattle.model.proofs.EarlyResultsLaws.{worked-sents}
use Rattle.model.proofs.Invariant.{Invariant, call-invariant}
use Rattle.model.proofs.Correspondence.{picked-bytes}
use Rattle.model.specs.Exchange.{Key, deliver, body_of, alone, same_answer, answer_of, newest_values, Alike}
use Rattle.model.proofs.ExchangeLaws.{passed, over_values, whole-matches, matches-too, values-after, facts-after, delivers}

-- ---- a later delivery

module _ (u w : Replica) (h : Alike u w) where
  same-look : (o : ℕ) → (committed_table u).look o ≡ (committed_table w).look o
  same-look o =
      sym (get_or-map (λ vs. (newest vs).value) u.objects o [])
      ∙ ap (λ (xs : List ℤ). get_or xs o (pos 0)) h.values
      ∙ get_or-map (λ vs. (newest vs).value) w.objects o []

  same_body : (k : Key) → body_of u k ≡ body_of w k
  unfolding facts
  same_body k =
      let is-k = is_key k.client k.sequence in
      ap operations (
      sym (picked-bytes is-k u.pending)
      ∙ ap (λ (f : Facts). bytes_of (pick is-k f.queue)) h.facts
      ∙ picked-bytes is-k w.pending
      )

  same-run : (k : Key) → alone u k ≡ alone w k
  unfolding alone
  same-run k =
      let T = committed_table w in
      let bounds : (committed_table u).allow ≡ T.allow = λ i o. inside (get_or (h.bounds i) o no_bounds) in
      ap (whole (committed_table u)) (same_body k)
      ∙ whole_agree (committed_table u) T bounds (body_of w k) (matches-too (committed_table u) T (whole T (body_of w k)).reads (λ o e. same-look o) (whole-matches T (body_of w k)))

module _ (l : Limits) (u w : Replica) (p : Invariant l u) (q : Invariant l w) (h : Alike u w) where
  -- what a call answers, and where it leads
  abbrev AlikeAfter : Answer × Replica → Answer × Replica → Type 0
  AlikeAfter r t = (same_answer r.0 ≡ same_answer t.0) × Alike r.1 t.1

  delivered-alike : (k : Key) → refusal l (facts u) (deliver k) ≡ 0 → AlikeAfter (call l u (deliver k)) (call l w (deliver k))
  unfolding commit
  delivered-alike k e =
      let one = delivers l u p k e in
      let other = delivers l w q k (rw h.facts at e) in
      let same = same-run u w h k in (
        one.0 ∙ ap answer_of same ∙ sym other.0,
        rw (one.1, other.1) (record {
          values = values-after l u p k ∙ ap₂ (λ r. over_values (lookup r.writes)) same h.values ∙ sym (values-after l w q k);
          facts = facts-after l u p k ∙ ap (passed k) h.facts ∙ sym (facts-after l w q k);
          bounds = h.bounds;
        }),
      )

  -- ---- the other calls

  -- what refusals look at with one thing changed
  abbrev with_queue : List Transaction → Facts → Facts
  with_queue x f = record { size = f.size; timestamp = f.timestamp; lasts = f.lasts; queue = x; opened = f.opened }

  abbrev with_opened : List Bool → Facts → Facts
  with_opened x f = record { size = f.size; timestamp = f.timestamp; lasts = f.lasts; queue = f.queue; opened = x }

  appended : (c s : ℕ) (b : List ℕ) (y : Replica) → facts (perform l y (update (optimistic c s b))).1 ≡ with_queue ((facts y).queue ++ (record { client = c; sequence = s; bytes = b } ∷ [])) (facts y)
  unfolding perform facts
  appended c s b y = ap (λ (x : List Transaction). with_queue x (facts y)) (map-append (λ (j : Pending). j.sent) y.pending _)

  worked_on : (k : ℕ) (y : Replica) → facts (perform l y (update (execute k))).1 ≡ facts y
  unfolding perform facts
  worked_on k y = ap (λ (x : List Transaction). with_queue x (facts y)) (worked-sents (committed_table y) k y.pending)

  opened_one : (r : ℕ) (y : Replica) → facts (perform l y (update (open_reader r))).1 ≡ with_opened (set (facts y).opened r true) (facts y)
  unfolding perform facts
  opened_one r y = ap (λ (x : List Bool). with_opened x (facts y)) (map-set is_some y.readers r (some y.timestamp))

  closed-one : (r : ℕ) (y : Replica) → facts (perform l y (update (close_reader r))).1 ≡ with_opened (set (facts y).opened r false) (facts y)
  unfolding perform facts
  closed-one r y = rw (length-map y.objects (prune (opens (set y.readers r none))), map-set is_some y.readers r none)

  closed-values : (r : ℕ) (y : Replica) → newest_values (perform l y (update (close_reader r))).1 ≡ newest_values y
  unfolding perform
  closed-values r y =
      let rs = opens (set y.readers r none) in
      map_map-same (λ vs. (newest vs).value) (prune rs) y.objects (λ vs. ap (λ (x : Version). x.value) (newest-prune rs vs))

  performed_alike : (c : Call) → refusal l (facts u) c ≡ 0 → AlikeAfter (call l u c) (call l w c)
  unfolding call perform
  performed_alike (opening o) e = rw (e, ← h.facts, e) (refl, record { values = refl; facts = refl; bounds = refl })
  performed_alike (update (final c s)) e = delivered-alike (record { client = c; sequence = s }) e
  performed_alike (update (optimistic c s b)) e =
      rw (e, ← h.facts, e)
      (refl, record { values = h.values; facts = appended c s b u ∙ ap (λ (f : Facts). with_queue (f.queue ++ (record { client = c; sequence = s; bytes = b } ∷ [])) f) h.facts ∙ sym (appended c s b w); bounds = h.bounds })
  performed_alike (update (execute k)) e =
      rw (e, ← h.facts, e) (refl, record { values = h.values; facts = worked_on k u ∙ h.facts ∙ sym (worked_on k w); bounds = h.bounds })
  performed_alike (update (open_reader r)) e =
      rw (e, ← h.facts, e)
      (refl, record { values = h.values; facts = opened_one r u ∙ ap (λ (f : Facts). with_opened (set f.opened r true) f) h.facts ∙ sym (opened_one r w); bounds = h.bounds })
  performed_alike (update (close_reader r)) e =
      rw (e, ← h.facts, e) (
        refl,
        record {
          values = closed-values r u ∙ h.values ∙ sym (closed-values r w);
          facts = closed-one r u ∙ ap (λ (f : Facts). with_opened (set f.opened r false) f) h.facts ∙ sym (closed-one r w);
          bounds = h.bounds;
        },
      )
  performed_alike (query x) e = rw (e, ← h.facts, e) (refl, h)

  call-alike : (c : Call) → AlikeAfter (call l u c) (call l w c)
  unfolding call
  call-alike c = by (refusal l (facts u) c) refl
    where
      refused-too : (k : ℕ) → refusal l (facts u) c ≡ suc k → AlikeAfter (judged u (perform l u c) (refusal l (facts u) c)) (judged w (perform l w c) (refusal l (facts w) c))
      refused-too k e = rw (e, ← h.facts, e) (refl, h)

      by : (k : ℕ) → refusal l (facts u) c ≡ k → AlikeAfter (call l u c) (call l w c)
      by zero e = performed_alike c e
      by (suc k) e = refused-too k e

-- every list of later calls
pub later-alike : (l : Limits) (cs : List Call) (u w : Replica) → Invariant l u → Invariant l w → Alike u w
    → (map same_answer (calls l u cs).0 ≡ map same_answer (calls l w cs).0) × Alike (calls l u cs).1 (calls l w cs).1
unfolding calls
later-alike l [] u w p q h = (refl, h)
later-alike l (c ∷ cs) u w p q h =
    let (one, then) = call-alike l u w p q h c in
    let (others, last) = later-alike l cs (call l u c).1 (call l w c).1 (call-invariant l u p c) (call-invariant l w q c) then in
    (ap₂ ◌∷◌ one others, last)
