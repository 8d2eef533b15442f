-- Deliveries that are apart pair by pair, in any order: each gives what its run on the table before them gives, and the newest values after them are the
-- same. The pair that changes places is the list of two. Assumes nothing.
use Rattle.std.specs.Prelude.{◌≡◌, ◌⊎◌, Bool, ◌&&◌, ℤ, eqb, leb, length}
use Rattle.std.proofs.Math.Path.{refl, sym, ap, ap₂, fun_ext}
use Rattle.std.proofs.Common.{◌∙◌, inl, inr, arith}
use Rattle.std.proofs.Math.Bool.{true, not}
use Rattle.std.proofs.Math.Option.{Option, none, some, get_or, none-ne-some}
use mathlib.Core.List.Permᴰ
use mathlib.Core.List.{List, [], ◌∷◌, map, map-map}
use Prim.Native.Nat.{ℕ, suc, ◌+◌, ◌≤◌, ◌<◌}
use Rattle.std.proofs.Math.ListN.{set}
use Rattle.std.proofs.lemmas.List.{set_comm}
use borrow.Author.Tests.{eq-eqb, eqb-true, eqb-false, ne_eqb, leb-true, lt-leb, not-true}
use Rattle.arith.specs.Integer.{eq_z}
use Rattle.operation.specs.Body.{operations}
use Rattle.operation.specs.declared.Operation.{Operation}
use Rattle.execution.specs.Entries.{Entry, lookup}
use Rattle.execution.specs.Run.{Table, Run, or_else, whole, matches}
use Rattle.execution.proofs.ReadAgreement.{both, whole_agree}
use Rattle.model.specs.declared.Limits.{Limits}
use Rattle.model.specs.Lists.{pick, keep, all, mapi}
use Rattle.model.specs.Interface.{Answer}
use Rattle.model.specs.Calls.{Transaction, Facts, is_key, leaves, bytes_of, clients, last_timestamp, causes, refusal}
use Rattle.model.specs.Start.{Version}
use Rattle.model.specs.Serial.{is_some}
use Rattle.model.specs.Replica.{Pending, Replica, newest, opens, prune, pushed, install, committed_table, keyed, stays, result, facts, commit, delivered, perform, call, calls}
use Rattle.model.specs.ListLaws.{All}
use Rattle.model.proofs.ListLaws.{all-implies, all_both, any-map, map-all, map-keep, map-mapi, pick-keep}
use Rattle.model.proofs.Tests.{all-says, any-pick, pick-passes}
use Rattle.model.proofs.VersionLaws.{newest-prune, length-install}
use Rattle.model.specs.EarlyResults.{sents}
use Rattle.model.proofs.EarlyResultsLaws.{walk-sents, result-whole}
use Rattle.model.proofs.Invariant.{Invariant, call-invariant}
use Rattle.model.proofs.UntouchedLaws.{newest-unwritten}
use Rattle.model.proofs.Correspondence.{picked-bytes, keyed-somewhere}
use Rattle.model.proofs.Validation.{steps-match}
use Rattle.model.specs.Shape.{Shape}
use Rattle.model.proofs.ShapeParts.{pending-unspent}
use Rattle.model.proofs.ShapeKept.{call_shape}
use Rattle.model.proofs.EntrySets.{Disjoint, disjoint-says, disjoint-sym, not_in, lookup-later}
use Rattle.model.specs.Exchange.{Key, deliver, deliveries, disjoint, apart, body_of, alone, may_pass, is_pending, deliverable, pairwise, exchangeable, same_answer, answer_of, newest_values, Alike}
use Rattle.model.proofs.Reordering.{Permutation, Pairwise, length-reordered, all-reordered, pairwise-reordered, pairwise-implies, keep-swap}

-- ---- the condition as facts

record MayPass (u : Replica) (j k : Key) : Type 0 where
  clients_differ : j.client ≡ k.client → ⊥
  stored_read : Disjoint (alone u j).writes (alone u k).reads
  read_stored : Disjoint (alone u k).writes (alone u j).reads
  stored : Disjoint (alone u j).writes (alone u k).writes

record Exchangeable (u : Replica) (ks : List Key) : Type 0 where
  timestamps : u.timestamp + length ks ≤ last_timestamp
  pending : All (λ k. is_pending u k ≡ true) ks
  passing : Pairwise (MayPass u) ks

may_pass-sym : (u : Replica) (j k : Key) → MayPass u j k → MayPass u k j
may_pass-sym u j k h =
    record {
      clients_differ = λ e. h.clients_differ (sym e);
      stored_read = h.read_stored;
      read_stored = h.stored_read;
      stored = disjoint-sym (alone u j).writes (alone u k).writes h.stored;
    }

may_pass-says : (u : Replica) (j k : Key) → may_pass u j k ≡ true → MayPass u j k
unfolding may_pass apart
may_pass-says u j k e =
    let p = alone u j in
    let q = alone u k in
    let (differ, runs-apart) = both (not (eqb j.client k.client)) (apart p q) e in
    let (reads-apart, stored) = both (disjoint p.writes q.reads && disjoint q.writes p.reads) (disjoint p.writes q.writes) runs-apart in
    let (stored_read, read_stored) = both (disjoint p.writes q.reads) (disjoint q.writes p.reads) reads-apart in
    record {
      clients_differ = eqb-false j.client k.client (not-true (eqb j.client k.client) differ);
      stored_read = disjoint-says p.writes q.reads stored_read;
      read_stored = disjoint-says q.writes p.reads read_stored;
      stored = disjoint-says p.writes q.writes stored;
    }

exchangeable-says : (u : Replica) (ks : List Key) → exchangeable u ks ≡ true → Exchangeable u ks
unfolding exchangeable deliverable
exchangeable-says u ks e =
    let left = leb (u.timestamp + length ks) last_timestamp in
    let (ready, passing) = both (deliverable u ks) (pairwise (may_pass u) ks) e in
    let (timestamps, pending) = both left (all (is_pending u) ks) ready in
    record {
      timestamps = leb-true (u.timestamp + length ks) last_timestamp timestamps;
      pending = all-says (is_pending u) (λ k. is_pending u k ≡ true) (λ k h. h) ks pending;
      passing = pairs ks passing;
    }
  where
    pairs : (ks : List Key) → pairwise (may_pass u) ks ≡ true → Pairwise (MayPass u) ks
    pairs [] e = tt
    pairs (k ∷ ks) e =
        let h = both (all (may_pass u k) ks) (pairwise (may_pass u) ks) e in
        (all-says (may_pass u k) (MayPass u k) (may_pass-says u k) ks h.0, pairs ks h.1)

-- ---- values with stores over them

abbrev pub over_values : (ℕ → Option ℤ) → List ℤ → List ℤ
over_values f xs = mapi (λ o x. get_or (f o) x) xs

over_none : (xs : List ℤ) → over_values (λ o. none) xs ≡ xs
over_none [] = refl
over_none (x ∷ xs) = ap (x ∷◌) (over_none xs)

over-twice : (f g : ℕ → Option ℤ) (xs : List ℤ) → over_values f (over_values g xs) ≡ over_values (λ o. or_else (f o) (g o)) xs
over-twice f g [] = refl
over-twice f g (x ∷ xs) = ap₂ ◌∷◌ (by (f 0)) (over-twice (λ o. f (suc o)) (λ o. g (suc o)) xs)
  where
    by : (k : Option ℤ) → get_or k (get_or (g 0) x) ≡ get_or (or_else k (g 0)) x
    by none = refl
    by (some v) = refl

-- what these runs store at an object: the last that stores it
abbrev stored_by : List Run → ℕ → Option ℤ
stored_by [] o = none
stored_by (p ∷ ps) o = or_else (stored_by ps o) (lookup p.writes o)

abbrev runs : Replica → List Key → List Run
runs u ks = map (alone u) ks

-- where no two store one object, in any order the same
stored-reordered : (u : Replica) {ks ms : List Key} → Permutation ks ms → Pairwise (MayPass u) ks → (o : ℕ) → stored_by (runs u ks) o ≡ stored_by (runs u ms) o
stored-reordered u Permᴰ.nil h o = refl
stored-reordered u (Permᴰ.cons e d) h o = ap₂ or_else (stored-reordered u d h.1 o) (ap (λ (k : Key). lookup (alone u k).writes o) e)
stored-reordered u (Permᴰ.swap {a} {b} {a'} {b'} {l} e f) h o =
    by (stored_by (runs u l) o) (lookup (alone u a).writes o) (lookup (alone u b).writes o) (h.0.0.stored o)
    ∙ ap₂ (λ (j k : Key). or_else (or_else (stored_by (runs u l) o) (lookup (alone u j).writes o)) (lookup (alone u k).writes o)) e f
  where
    by : (r x y : Option ℤ) → (x ≡ none) ⊎ (y ≡ none) → or_else (or_else r y) x ≡ or_else (or_else r x) y
    by (some v) x y n = refl
    by none x none n = unit x
      where
        unit : (x : Option ℤ) → x ≡ or_else x none
        unit none = refl
        unit (some v) = refl
    by none x (some w) (inl e) = rw e
    by none x (some w) (inr e) = absurd (none-ne-some w (sym e))
stored-reordered u (Permᴰ.trans d e) h o =
    stored-reordered u d h o ∙ stored-reordered u e (pairwise-reordered (MayPass u) (may_pass-sym u) d h) o

-- ---- what refusals look at

-- after one delivery
abbrev pub passed : Key → Facts → Facts
passed k f =
    record {
      size = f.size;
      timestamp = suc f.timestamp;
      lasts = set f.lasts k.client k.sequence;
      queue = keep (λ j. not (leaves k.client k.sequence j)) f.queue;
      opened = f.opened;
    }

all-passed : List Key → Facts → Facts
all-passed [] f = f
all-passed (k ∷ ks) f = all-passed ks (passed k f)

passed-swap : (j k : Key) → (j.client ≡ k.client → ⊥) → (f : Facts) → passed j (passed k f) ≡ passed k (passed j f)
passed-swap j k differ f i =
    record {
      size = f.size;
      timestamp = suc (suc f.timestamp);
      lasts = set_comm f.lasts k.client j.client k.sequence j.sequence (λ e. differ (sym e)) i;
      queue = keep-swap (λ t. not (leaves j.client j.sequence t)) (λ t. not (leaves k.client k.sequence t)) f.queue i;
      opened = f.opened;
    }

facts-reordered : (u : Replica) {ks ms : List Key} → Permutation ks ms → Pairwise (MayPass u) ks → (f : Facts) → all-passed ks f ≡ all-passed ms f
unfolding all-passed
facts-reordered u Permᴰ.nil h f = refl
facts-reordered u (Permᴰ.cons {a} {b} {l₁} {l₂} e d) h f =
    facts-reordered u d h.1 (passed a f) ∙ ap (λ (k : Key). all-passed l₂ (passed k f)) e
facts-reordered u (Permᴰ.swap {a} {b} {a'} {b'} {l} e q) h f =
    ap (all-passed l) (passed-swap b a (λ i. h.0.0.clients_differ (sym i)) f)
    ∙ ap₂ (λ (j k : Key). all-passed l (passed j (passed k f))) e q
facts-reordered u (Permᴰ.trans d e) h f =
    facts-reordered u d h f ∙ facts-reordered u e (pairwise-reordered (MayPass u) (may_pass-sym u) d h) f

-- ---- a table that has the values a run read

pub whole-matches : (T : Table) (b : List Operation) → matches T (whole T b).reads ≡ true
unfolding whole
whole-matches T b = steps-match T b (length b)

pub matches-too : (S T : Table) (es : List Entry) → ((o : ℕ) → is_some (lookup es o) ≡ true → S.look o ≡ T.look o) → matches T es ≡ true → matches S es ≡ true
matches-too S T [] f e = refl
matches-too S T (x ∷ es) f e =
    let h = both (eq_z (T.look x.object) x.value) (matches T es) e in
    let here : S.look x.object ≡ T.look x.object = f x.object (rw (eq-eqb x.object x.object refl)) in
    rw (here, h.0) (matches-too S T es (λ o i. f o (lookup-later x es o i)) h.1)

-- ---- one delivery

abbrev pub after : Replica → Key → Replica
after u k = (delivered u k.client k.sequence).1

module _ (l : Limits) (u : Replica) (v : Invariant l u) (k : Key) where
  abbrev c : ℕ
  c = k.client

  abbrev s : ℕ
  s = k.sequence

  abbrev T : Table
  T = committed_table u

  -- kept or run again, its result is its run on the table before it
  result-alone : result T (keyed u c s) ≡ alone u k
  unfolding alone
  result-alone = result-whole T (keyed u c s) (keyed-somewhere l u v c s)

  pub values-after : newest_values (after u k) ≡ over_values (lookup (alone u k).writes) (newest_values u)
  unfolding commit install
  values-after =
      rw (← result-alone)
      (map-mapi (λ vs. (newest vs).value) (λ o vs. prune rs (pushed t vs (lookup ws o))) (λ o x. get_or (lookup ws o) x) u.objects
      (λ o vs. ap (λ (x : Version). x.value) (newest-prune rs (pushed t vs (lookup ws o))) ∙ pushed-value vs (lookup ws o)))
    where
      t : ℕ
      t = suc u.timestamp

      rs : List ℕ
      rs = opens u.readers

      ws : List Entry
      ws = (result T (keyed u c s)).writes

      pushed-value : (vs : List Version) (x : Option ℤ) → (newest (pushed t vs x)).value ≡ get_or x (newest vs).value
      pushed-value vs none = refl
      pushed-value vs (some z) = refl

  -- an object that it does not store keeps its value
  look-after : (o : ℕ) → lookup (alone u k).writes o ≡ none → (committed_table (after u k)).look o ≡ T.look o
  unfolding commit
  look-after o e =
      let unwritten = newest-unwritten l o (suc u.timestamp) (opens u.readers) (result T (keyed u c s)).writes u.objects (rw result-alone (ap is_some e)) in
      ap (λ (x : Version). x.value) unwritten

  queue-after : sents (after u k).pending ≡ keep (λ j. not (leaves c s j)) (sents u.pending)
  unfolding commit
  queue-after =
      walk-sents (committed_table (after u k)) (keep (stays c s) u.pending)
      ∙ map-keep (λ (j : Pending). j.sent) (λ j. not (leaves c s j)) u.pending

  pub facts-after : facts (after u k) ≡ passed k (facts u)
  unfolding commit facts
  facts-after i =
      record {
        size = length-install (suc u.timestamp) (opens u.readers) (result T (keyed u c s)).writes u.objects i;
        timestamp = suc u.timestamp;
        lasts = set u.lasts c s;
        queue = queue-after i;
        opened = map is_some u.readers;
      }

  -- another client's transaction neither leaves nor changes its body
  module _ (j : Key) (differ : k.client ≡ j.client → ⊥) where
    abbrev is_j : Transaction → Bool
    is_j = is_key j.client j.sequence

    stays-there : (x : Transaction) → is_j x ≡ true → not (leaves c s x) ≡ true
    stays-there x e =
        let of-j = eqb-true x.client j.client (both (eqb x.client j.client) (eqb x.sequence j.sequence) e).0 in
        rw (ne_eqb x.client c (λ q. differ (sym q ∙ of-j)))

    picked : pick is_j (sents (after u k).pending) ≡ pick is_j (sents u.pending)
    picked =
        ap (pick is_j) queue-after
        ∙ pick-keep is_j (λ x. not (leaves c s x)) (sents u.pending) (λ x e. stays-there x (pick-passes is_j (sents u.pending) x e))

    still_pending : is_pending (after u k) j ≡ is_pending u j
    still_pending = asked (after u k) ∙ ap is_some picked ∙ sym (asked u)
      where
        asked : (w : Replica) → is_pending w j ≡ is_some (pick is_j (sents w.pending))
        asked w = sym (any-map (λ (i : Pending). i.sent) is_j w.pending) ∙ any-pick is_j (sents w.pending)

    same_body : body_of (after u k) j ≡ body_of u j
    same_body =
        ap operations (sym (picked-bytes is_j (after u k).pending) ∙ ap bytes_of picked ∙ picked-bytes is_j u.pending)

    -- it runs as before, since it reads nothing that was stored
    run-unmoved : Disjoint (alone u k).writes (alone u j).reads → alone (after u k) j ≡ alone u j
    unfolding alone commit
    run-unmoved apart-reads =
        ap (whole (committed_table (after u k))) same_body
        ∙ whole_agree (committed_table (after u k)) T refl (body_of u j)
        (matches-too (committed_table (after u k)) T (alone u j).reads unchanged (whole-matches T (body_of u j)))
      where
        unchanged : (o : ℕ) → is_some (lookup (alone u j).reads o) ≡ true → (committed_table (after u k)).look o ≡ T.look o
        unchanged o e = look-after o (not_in (alone u k).writes (alone u j).reads apart-reads o e)

  -- "two pending jobs .. with stamps left": pending keys are those of clients, and unspent
  is-taken : Shape l u → is_pending u k ≡ true → u.timestamp < last_timestamp → refusal l (facts u) (deliver k) ≡ 0
  unfolding refusal causes facts
  is-taken h waits room =
      let queued = any-map (λ (j : Pending). j.sent) (is_key c s) u.pending ∙ waits in
      let fresh = pending-unspent u.lasts c s (sents u.pending) h.unspent queued in
      rw (lt-leb clients c fresh.0, fresh.1, queued, lt-leb last_timestamp u.timestamp room)

  -- what it answers, and where it leads
  pub delivers : refusal l (facts u) (deliver k) ≡ 0 → (same_answer (call l u (deliver k)).0 ≡ answer_of (alone u k)) × ((call l u (deliver k)).1 ≡ after u k)
  unfolding call perform commit
  delivers e = rw e (ap answer_of result-alone, refl)

-- ---- deliveries one after another

-- each gives what its run on the table before them all gives
record InTurn (u : Replica) (ks : List Key) (r : List Answer × Replica) : Type 0 where
  answers : map same_answer r.0 ≡ map answer_of (runs u ks)
  values : newest_values r.1 ≡ over_values (stored_by (runs u ks)) (newest_values u)
  facts : facts r.1 ≡ all-passed ks (facts u)
  bounds : r.1.bounds ≡ u.bounds

module _ (l : Limits) where
  -- what is left of the condition after one of them
  exchangeable-after : (u : Replica) → Invariant l u → (k : Key) (ks : List Key) → Exchangeable u (k ∷ ks)
      → All (λ j. alone (after u k) j ≡ alone u j) ks × Exchangeable (after u k) ks
  unfolding commit
  exchangeable-after u v k ks h =
      (unmoved, record { timestamps = omega (arith, h.timestamps); pending = pending; passing = pairwise-implies (MayPass u) (MayPass (after u k)) Unmoved passes ks unmoved h.passing.1 })
    where
      Unmoved : Key → Type 0
      Unmoved j = alone (after u k) j ≡ alone u j

      unmoved : All Unmoved ks
      unmoved = all-implies (MayPass u k) Unmoved (λ j m. run-unmoved l u v k j m.clients_differ m.stored_read) ks h.passing.0

      pending : All (λ j. is_pending (after u k) j ≡ true) ks
      pending =
          all_both (MayPass u k) (λ j. is_pending u j ≡ true) (λ j. is_pending (after u k) j ≡ true) ks
          (λ j m e. still_pending l u v k j m.clients_differ ∙ e) h.passing.0 h.pending.1

      passes : (i j : Key) → Unmoved i → Unmoved j → MayPass u i j → MayPass (after u k) i j
      passes i j p q m = record { clients_differ = m.clients_differ; stored_read = rw (p, q) m.stored_read; read_stored = rw (p, q) m.read_stored; stored = rw (p, q) m.stored }

  -- the first, and the others after it
  module _ (u : Replica) (v : Invariant l u) (h : Shape l u) (k : Key) (ks : List Key) (x : Exchangeable u (k ∷ ks)) where
    abbrev next : Replica
    next = (call l u (deliver k)).1

    one : (same_answer (call l u (deliver k)).0 ≡ answer_of (alone u k)) × (next ≡ after u k)
    one = delivers l u v k (is-taken l u v k h x.pending.0 (omega (arith, x.timestamps)))

    still_exchangeable : Exchangeable next ks
    still_exchangeable = rw one.1 (exchangeable-after u v k ks x).1

    one_more : InTurn next ks (calls l next (deliveries ks)) → InTurn u (k ∷ ks) (calls l u (deliveries (k ∷ ks)))
    unfolding calls all-passed commit
    one_more others =
        let same_runs = ap (λ (y : Replica). runs y ks) one.1 ∙ map-all (alone (after u k)) (alone u) ks (exchangeable-after u v k ks x).0 in
        let first-values = ap newest_values one.1 ∙ values-after l u v k in
        record {
          answers = ap₂ ◌∷◌ one.0 (others.answers ∙ ap (map answer_of) same_runs);
          values = others.values
              ∙ ap₂ over_values (ap stored_by same_runs) first-values
              ∙ over-twice (stored_by (runs u ks)) (lookup (alone u k).writes) (newest_values u);
          facts = others.facts ∙ ap (all-passed ks) (ap facts one.1 ∙ facts-after l u v k);
          bounds = others.bounds ∙ ap (λ (y : Replica). y.bounds) one.1;
        }

  in_turn : (ks : List Key) (u : Replica) → Invariant l u → Shape l u → Exchangeable u ks → InTurn u ks (calls l u (deliveries ks))
  unfolding calls all-passed
  in_turn [] u v h x = record { answers = refl; values = sym (over_none (newest_values u)); facts = refl; bounds = refl }
  in_turn (k ∷ ks) u v h x =
      one_more u v h k ks x
      (in_turn ks (call l u (deliver k)).1 (call-invariant l u v (deliver k)) (call_shape l u h (deliver k) tt) (still_exchangeable u v h k ks x))

  -- in two orders
  pub record Reordered (u : Replica) (ks ms : List Key) (r q : List Answer × Replica) : Type 0 where
    pub first : map same_answer r.0 ≡ map (λ k. answer_of (alone u k)) ks
    pub second : map same_answer q.0 ≡ map (λ k. answer_of (alone u k)) ms
    pub after : Alike r.1 q.1

  pub reordered : (u : Replica) → Invariant l u → Shape l u → (ks ms : List Key) → Permutation ks ms → exchangeable u ks ≡ true
      → Reordered u ks ms (calls l u (deliveries ks)) (calls l u (deliveries ms))
  reordered u v h ks ms p e =
      let x = exchangeable-says u ks e in
      let y : Exchangeable u ms = record {
        timestamps = omega (arith, x.timestamps, length-reordered p);
        pending = all-reordered (λ k. is_pending u k ≡ true) p x.pending;
        passing = pairwise-reordered (MayPass u) (may_pass-sym u) p x.passing;
      } in
      let one_way = in_turn ks u v h x in
      let other_way = in_turn ms u v h y in
      record {
        first = one_way.answers ∙ map-map answer_of (alone u) ks;
        second = other_way.answers ∙ map-map answer_of (alone u) ms;
        after = record {
          values = one_way.values
              ∙ ap (λ (f : ℕ → Option ℤ). over_values f (newest_values u)) (fun_ext (stored-reordered u p x.passing))
              ∙ sym other_way.values;
          facts = one_way.facts ∙ facts-reordered u p x.passing (facts u) ∙ sym other_way.facts;
          bounds = one_way.bounds ∙ sym other_way.bounds;
        };
      }
