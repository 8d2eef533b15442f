-- Every call keeps the shape, from any replica that has it, forged early results included; an accepted opening gives it. Assumes nothing.
use Rattle.std.specs.Prelude.{◌≡◌, ◌⊎◌, Bool, false, ℤ, eqb, length, set, replicate}
use Rattle.std.proofs.Math.Path.{refl, sym}
use Rattle.std.proofs.Common.{ap, ◌∙◌, inl, inr, arith}
use Rattle.std.proofs.Math.Bool.{true, not}
use Rattle.std.proofs.lemmas.Bool.{false≢true}
use Rattle.std.proofs.Math.Option.{none, some}
use mathlib.Core.List.{List, [], ◌∷◌, ◌++◌, map, map-append}
use Prim.Native.Nat.{ℕ, zero, suc, ◌^◌, ◌≤◌, ◌<◌}
use Rattle.std.proofs.Math.Dec.{ltb}
use Rattle.std.proofs.Math.ListN.{length-map, length-set, length-append, length-replicate}
use borrow.Author.Tests.{eq-eqb, leb-false, le-leb, lt-ltb, not-false}
use Rattle.arith.specs.Integer.{fits}
use Rattle.operation.specs.Body.{is_well_formed}
use Rattle.execution.specs.Entries.{Entry}
use Rattle.execution.specs.Bounds.{widest}
use Rattle.execution.specs.Run.{Table, start}
use Rattle.execution.proofs.ReadAgreement.{both}
use Rattle.execution.specs.RunShape.{Entries, Shaped, AllInside}
use Rattle.execution.proofs.RunShapeLaws.{start-shaped}
use Rattle.model.specs.declared.Limits.{Limits}
use Rattle.model.specs.Lists.{keep, any, all, all₂}
use Rattle.model.specs.Interface.{Opening, by_values, optimistic, execute, final, open_reader, close_reader, Call, opening, update, query}
use Rattle.model.specs.Calls.{Transaction, Facts, plain, bounds_from, starts_inside, is_key, leaves, causes, refusal, judged, clients, last_timestamp}
use Rattle.model.specs.Start.{Version, Start, start_of}
use Rattle.model.specs.Replica.{Pending, Replica, opens, held, prune, install, table, committed_table, program, worked, walk, keyed, stays, result, facts, commit, opened, perform, call, calls}
use Rattle.model.specs.ListLaws.{All}
use Rattle.model.proofs.ListLaws.{all-mapped, all_keep, all_append, all_map, all-implies, map-keep, all_keep-with, all_both, length-keep}
use Rattle.model.proofs.VersionLaws.{length-install, opening-dated}
use Rattle.model.specs.VersionLaws.{Dated}
use Rattle.model.proofs.EarlyResultsLaws.{ordered-keep, ordered-append, walk-ordered, worked-ordered, worked-sents, walk-sents}
use Rattle.model.specs.EarlyResults.{sents}
use Rattle.model.proofs.Refusals.{accepted, counted}
use Rattle.model.proofs.Tests.{all-after_set}
use Rattle.model.specs.Shape.{VersionsShape, bounds_fit, Shape}
use Rattle.model.specs.ShapeCheck.{shaped}
use Rattle.model.proofs.ShapeCheckLaws.{shaped-says}
use Rattle.model.proofs.ShapeBounds.{BoundsPart, with-stores, pruned-inside, installed-inside, starts_ordered, starts_versions, none_inside, worked-inside, walk_inside, result-inside}
use Rattle.model.proofs.ShapeParts.{Fit, Formed, SoundKey, AllFormed, Objects, Queue, Bounded, objects-part, pending_part, bounds-part, together, same_length, distinct-keep, distinct_append, still_unspent}
use Rattle.model.proofs.ShapeParts.{pending-sequence, table_fits, prune-fits, install-fits, install-versions, worked-shaped, walk-shaped, result-shaped, pick-found, opens_still, opened-who, closed-who}
use Rattle.model.proofs.Held.{close_shape, open_shape}

-- what the types of the code's arguments give: values of 64 bits, timestamps and sequence numbers of 32
abbrev pub Typed : Call → Type 0
Typed (opening (by_values n vs los his t)) = (all fits vs ≡ true) × (all fits los ≡ true) × (all fits his ≡ true) × (t ≤ last_timestamp)
Typed (update (optimistic c s b)) = s < 2 ^ 32
Typed (update (execute k)) = Unit {0}
Typed (update (final c s)) = Unit {0}
Typed (update (open_reader r)) = Unit {0}
Typed (update (close_reader r)) = Unit {0}
Typed (query q) = Unit {0}

-- ---- an opening

nobody : (k : ℕ) → opens (replicate k none) ≡ []
nobody zero = refl
nobody (suc k) = nobody k

all_same : {A : Type 0} (q : A → Bool) (x : A) → q x ≡ true → (k : ℕ) → all q (replicate k x) ≡ true
all_same q x e zero = refl
all_same q x e (suc k) = rw e (all_same q x e k)

-- an opening by values alone
pub plain-typed : (vs : List ℤ) (t : ℕ) → all fits vs ≡ true → t ≤ last_timestamp → Typed (opening (plain vs t))
unfolding fits
plain-typed vs t e h = (e, all_same fits widest.lower refl (length vs), all_same fits widest.upper refl (length vs), h)

-- two lists of bounds side by side
length-bounds : (los his : List ℤ) → length los ≡ length his → length (bounds_from los his) ≡ length los
length-bounds [] his e = refl
length-bounds (lo ∷ los) [] e = absurd (omega arith)
length-bounds (lo ∷ los) (hi ∷ his) e = ap suc (length-bounds los his (omega arith))

bounds-typed : (los his : List ℤ) → all fits los ≡ true → all fits his ≡ true → all bounds_fit (bounds_from los his) ≡ true
bounds-typed [] his e f = refl
bounds-typed (lo ∷ los) [] e f = refl
bounds-typed (lo ∷ los) (hi ∷ his) e f =
    let j = both (fits lo) (all fits los) e in
    let k = both (fits hi) (all fits his) f in
    rw (j.0, k.0) (bounds-typed los his j.1 k.1)

-- what the shape asks of where an opening starts
pub record StartShape (l : Limits) (s : Start) : Type 0 where
  pub some_object : 0 < length s.versions
  pub few_objects : length s.versions ≤ l.objects
  pub timestamp : s.timestamp ≤ last_timestamp
  pub dated : Dated s
  pub values : all (λ (v : Version). fits v.value) s.versions ≡ true
  pub last_count : length s.lasts ≡ clients
  pub lasts : all (λ q. ltb q (2 ^ 32)) s.lasts ≡ true
  pub bounds : BoundsPart (map (λ v. v ∷ []) s.versions) s.bounds []

module _ (l : Limits) where
  opened-shape : (s : Start) → StartShape l s → Shape l (opened l s)
  unfolding opened held
  opened-shape s k =
      together l (opened l s)
      (record {
        some_object = rw (length-map {B = List Version} s.versions (λ v. v ∷ [])) k.some_object;
        few_objects = rw (length-map {B = List Version} s.versions (λ v. v ∷ [])) k.few_objects;
        timestamp = k.timestamp;
        versions = rw (nobody l.readers) (all-mapped (VersionsShape s.timestamp []) (λ v. v ∷ []) s.versions (all-implies _ _ first s.versions k.dated));
        values = all-mapped Fit (λ v. v ∷ []) s.versions (fit s.versions k.values);
        before = rw (nobody l.readers) (λ r e. absurd (false≢true e));
        reader_count = length-replicate l.readers none;
      })
      (record { few_pending = omega arith; small = k.lasts; last_count = k.last_count; distinct = refl; keys = tt; ordered = tt; runs = tt })
      k.bounds
    where
      first : (v : Version) → v.stamp ≤ s.timestamp → VersionsShape s.timestamp [] (v ∷ [])
      first v h =
          record { least = omega arith; order = refl; bound = rw (le-leb v.stamp s.timestamp h); each = rw (eq-eqb v.stamp v.stamp refl); served = λ r e. absurd (false≢true e) }

      fit : (vs : List Version) → all (λ (v : Version). fits v.value) vs ≡ true → All (λ v. Fit (v ∷ [])) vs
      fit [] e = tt
      fit (v ∷ vs) e = let k = both (fits v.value) (all (λ (v : Version). fits v.value) vs) e in (rw k.0, fit vs k.1)

  -- an accepted opening starts so
  opening-start : (f : Facts) (o : Opening) → Typed (opening o) → refusal l f (opening o) ≡ 0 → StartShape l (start_of o)
  unfolding causes
  opening-start f (by_values n vs los his t) a e =
      let causes-none = accepted l f (opening (by_values n vs los his t)) e in
      let k = counted l n vs los his causes-none.0 in
      let q = k.values in
      let lows = k.lowers in
      let highs = k.uppers in
      let inner = not-false (all₂ starts_inside (bounds_from los his) vs) causes-none.1.0 in
      let bs = length-bounds los his (lows ∙ sym highs) in
      let z = length-map {B = Version} vs (λ v. record { stamp = t; value = v }) in
      record {
        some_object = omega (arith, z, k.some);
        few_objects = omega (arith, z, k.few);
        timestamp = a.3;
        dated = opening-dated l f (by_values n vs los his t) e;
        values = fit vs a.0;
        last_count = length-replicate clients _;
        lasts = all_same (λ s. ltb s (2 ^ 32)) _ refl clients;
        bounds = record {
          count = omega (arith, z, bs, length-map {B = List Version} (start_of (by_values n vs los his t)).versions (λ v. v ∷ []));
          ordered = starts_ordered (bounds_from los his) vs (omega (arith, bs)) inner;
          encoded = bounds-typed los his a.1 a.2;
          inside = starts_versions t (bounds_from los his) vs inner;
          stores = tt;
        };
      }
    where
      fit : (vs : List ℤ) → all fits vs ≡ true → all (λ (v : Version). fits v.value) (start_of (by_values n vs los his t)).versions ≡ true
      fit [] e = refl
      fit (v ∷ vs) e = let k = both (fits v) (all fits vs) e in rw (k.0, fit vs k.1)

  -- so it gives the shape, whatever was there before
  pub opening-shape : (f : Facts) (o : Opening) → Typed (opening o) → refusal l f (opening o) ≡ 0 → Shape l (opened l (start_of o))
  opening-shape f o a e = opened-shape (start_of o) (opening-start f o a e)

  -- ---- the other calls

  module _ (u : Replica) (k : Shape l u) where
    abbrev n : ℕ
    n = length u.objects

    abbrev S : Table
    S = committed_table u

    o : Objects l u
    o = objects-part l u k

    q : Queue l u
    q = pending_part l u k

    bounded : Bounded l u
    bounded = bounds-part l u k

    fit : (x : ℕ) → fits (S.look x) ≡ true
    fit = table_fits u.objects u.bounds k.encoded.values

    bodies : AllFormed l n u.pending
    bodies = all_map (Formed l n) (λ (j : Pending). j.sent) u.pending k.bodies

    optimistic-shape : (c s : ℕ) (b : List ℕ) → s < 2 ^ 32 → refusal l (facts u) (update (optimistic c s b)) ≡ 0 → Shape l (perform l u (update (optimistic c s b))).1
    unfolding perform facts causes
    optimistic-shape c s b hs e =
        together l _ o
        (record {
          few_pending = (let m = leb-false l.pending (length (sents u.pending)) a.1.1.1.1.0 in omega (arith, length-map u.pending (λ (j : Pending). j.sent), length-append u.pending (j ∷ [])));
          small = q.small;
          last_count = q.last_count;
          distinct = rw here (distinct_append (sents u.pending) j.sent q.distinct a.1.1.0);
          keys = rw here (all_append (SoundKey l n u.lasts) (sents u.pending) j.sent q.keys new);
          ordered = ordered-append u.pending j q.ordered refl;
          runs = all_append _ u.pending j q.runs (start-shaped n (program j));
        })
        (with-stores _ _ _ _ bounded (all_append _ u.pending j bounded.stores (none_inside S.allow)))
      where
        j : Pending
        j = record { sent = record { client = c; sequence = s; bytes = b }; run = start }

        a : All (λ x. x.0 ≡ false) (causes l (facts u) (update (optimistic c s b)))
        a = accepted l (facts u) (update (optimistic c s b)) e

        new : SoundKey l n u.lasts j.sent
        new = record { unspent = record { client = leb-false clients c a.0; above = a.1.0 }; sequence = hs; body = not-false (is_well_formed l.operations n b) a.1.1.1.0 }

        here : sents (u.pending ++ (j ∷ [])) ≡ sents u.pending ++ (j.sent ∷ [])
        here = map-append (λ (j : Pending). j.sent) u.pending (j ∷ [])

    execute-shape : (c : ℕ) → Shape l (perform l u (update (execute c))).1
    unfolding perform
    execute-shape c =
        together l _ o
        (record {
          few_pending = (let h = k.few_pending in omega (arith, same_length (worked S c u.pending) u.pending here));
          small = q.small;
          last_count = q.last_count;
          distinct = rw here q.distinct;
          keys = rw here q.keys;
          ordered = worked-ordered S c u.pending q.ordered;
          runs = worked-shaped l n S c u.pending fit bodies q.runs;
        })
        (with-stores _ _ _ _ bounded (worked-inside S c u.pending bounded.stores))
      where
        here : sents (worked S c u.pending) ≡ sents u.pending
        here = worked-sents S c u.pending

    final-shape : (c s : ℕ) → refusal l (facts u) (update (final c s)) ≡ 0 → Shape l (perform l u (update (final c s))).1
    unfolding perform commit facts causes
    final-shape c s e =
        together l _
        (record {
          some_object = rw size o.some_object;
          few_objects = rw size o.few_objects;
          timestamp = leb-false last_timestamp u.timestamp a.1.1.1.0;
          versions = install-versions u.timestamp rs writes u.objects o.versions;
          values = install-fits n t rs writes entries u.objects o.values;
          before = λ r h. (let m = o.before r h in omega arith);
          reader_count = o.reader_count;
        })
        (record {
          few_pending = (let h = q.few_pending in omega (arith, same_length (walk T left) left (walk-sents T left), length-keep (stays c s) u.pending));
          small = all-after_set (λ x. ltb x (2 ^ 32)) u.lasts c s (lt-ltb s (2 ^ 32) (pending-sequence l n u.lasts c s (sents u.pending) q.keys key)) q.small;
          last_count = length-set u.lasts c s ∙ q.last_count;
          distinct = rw here (distinct-keep (λ x. not (leaves c s x)) (sents u.pending) q.distinct);
          keys = rw (here, size) (all_keep-with (SoundKey l n u.lasts) (SoundKey l n (set u.lasts c s)) (λ x. not (leaves c s x)) (sents u.pending) still q.keys);
          ordered = walk-ordered T left (ordered-keep (stays c s) u.pending q.ordered);
          runs = rw size (walk-shaped l n T left (all_keep _ (stays c s) u.pending q.runs));
        })
        (record {
          count = bounded.count ∙ sym size;
          ordered = bounded.ordered;
          encoded = bounded.encoded;
          inside = installed-inside t rs writes u.bounds u.objects within bounded.inside;
          stores = walk_inside T left (all_keep _ (stays c s) u.pending bounded.stores);
        })
      where
        a : All (λ x. x.0 ≡ false) (causes l (facts u) (update (final c s)))
        a = accepted l (facts u) (update (final c s)) e

        key : any (is_key c s) (sents u.pending) ≡ true
        key = not-false (any (is_key c s) (sents u.pending)) a.1.1.0

        t : ℕ
        t = suc u.timestamp

        rs : List ℕ
        rs = opens u.readers

        j : Pending
        j = keyed u c s

        writes : List Entry
        writes = (result S j).writes

        entries : Entries n writes
        entries =
            pick-found (λ (j : Pending). Entries n (result S j).writes) c s u.pending
            (all_both (λ (j : Pending). Formed l n j.sent) (λ (j : Pending). Shaped n (program j) j.run) _ u.pending (λ j w v. (result-shaped l n S fit j w v).writes) bodies q.runs)
            key

        objs : List (List Version)
        objs = install t rs writes u.objects

        size : length objs ≡ n
        size = length-install t rs writes u.objects

        T : Table
        T = table objs u.bounds

        within : AllInside S.allow writes
        within =
            pick-found (λ (j : Pending). AllInside S.allow (result S j).writes) c s u.pending
            (all-implies _ _ (λ (j : Pending) h. result-inside S j h) u.pending bounded.stores) key

        left : List Pending
        left = keep (stays c s) u.pending

        here : sents (walk T left) ≡ keep (λ x. not (leaves c s x)) (sents u.pending)
        here = walk-sents T left ∙ map-keep (λ (j : Pending). j.sent) (λ x. not (leaves c s x)) u.pending

        still : (x : Transaction) → not (leaves c s x) ≡ true → SoundKey l n u.lasts x → SoundKey l n (set u.lasts c s) x
        still x g h =
            record { unspent = still_unspent u.lasts c s x (let m = leb-false clients c a.0 in let p = q.last_count in omega arith) g h.unspent; sequence = h.sequence; body = h.body }

    open_reader-shape : (r : ℕ) → refusal l (facts u) (update (open_reader r)) ≡ 0 → Shape l (perform l u (update (open_reader r))).1
    unfolding perform facts causes
    open_reader-shape r e =
        together l _
        (record {
          some_object = o.some_object;
          few_objects = o.few_objects;
          timestamp = o.timestamp;
          versions = all-implies (VersionsShape t rs) (VersionsShape t ts) (λ vs. open_shape t rs ts vs still_open (opened-who u.readers r t)) u.objects o.versions;
          values = o.values;
          before = λ x h. sooner x (opened-who u.readers r t x h);
          reader_count = length-set u.readers r _ ∙ o.reader_count;
        })
        q
        bounded
      where
        t : ℕ
        t = u.timestamp

        rs : List ℕ
        rs = opens u.readers

        ts : List ℕ
        ts = opens (set u.readers r (some t))

        still_open : (x : ℕ) → any (eqb x) rs ≡ true → any (eqb x) ts ≡ true
        still_open = opens_still u.readers r t (accepted l (facts u) (update (open_reader r)) e).1.0

        sooner : (x : ℕ) → (t ≡ x) ⊎ (any (eqb x) rs ≡ true) → x ≤ t
        sooner x (inl p) = omega arith
        sooner x (inr h) = o.before x h

    close_reader-shape : (r : ℕ) → Shape l (perform l u (update (close_reader r))).1
    unfolding perform
    close_reader-shape r =
        together l _
        (record {
          some_object = rw size o.some_object;
          few_objects = rw size o.few_objects;
          timestamp = o.timestamp;
          versions = all-mapped (VersionsShape u.timestamp ts) (prune ts) u.objects (all-implies (VersionsShape u.timestamp rs) _ (λ vs. close_shape u.timestamp rs ts vs (closed-who u.readers r)) u.objects o.versions);
          values = all-mapped Fit (prune ts) u.objects (all-implies Fit _ (prune-fits ts) u.objects o.values);
          before = λ x h. o.before x (closed-who u.readers r x h);
          reader_count = length-set u.readers r none ∙ o.reader_count;
        })
        (rw size q)
        (record { count = bounded.count ∙ sym size; ordered = bounded.ordered; encoded = bounded.encoded; inside = pruned-inside ts u.bounds u.objects bounded.inside; stores = bounded.stores })
      where
        rs : List ℕ
        rs = opens u.readers

        ts : List ℕ
        ts = opens (set u.readers r none)

        size : length (map (prune ts) u.objects) ≡ n
        size = length-map u.objects (prune ts)

    perform-shape : (c : Call) → Typed c → refusal l (facts u) c ≡ 0 → Shape l (perform l u c).1
    unfolding perform
    perform-shape (opening o) a e = opening-shape (facts u) o a e
    perform-shape (update (optimistic c s b)) a e = optimistic-shape c s b a e
    perform-shape (update (execute c)) a e = execute-shape c
    perform-shape (update (final c s)) a e = final-shape c s e
    perform-shape (update (open_reader r)) a e = open_reader-shape r e
    perform-shape (update (close_reader r)) a e = close_reader-shape r
    perform-shape (query q) a e = k

    pub call_shape : (c : Call) → Typed c → Shape l (call l u c).1
    unfolding call
    call_shape c a = go' (refusal l (facts u) c) refl
      where
        go' : (x : ℕ) → refusal l (facts u) c ≡ x → Shape l (judged u (perform l u c) x).1
        go' zero e = perform-shape c a e
        go' (suc x) e = k

  -- any list of calls
  pub calls-shape : (cs : List Call) (u : Replica) → Shape l u → All Typed cs → Shape l (calls l u cs).1
  unfolding calls
  calls-shape [] u k a = k
  calls-shape (c ∷ cs) u k a = calls-shape cs (call l u c).1 (call_shape u k c a.0) a.1

  -- the same of the test
  pub call-shaped : (u : Replica) (c : Call) → Typed c → shaped l u ≡ true → shaped l (call l u c).1 ≡ true
  call-shaped u c a e = (shaped-says l (call l u c).1).1 (call_shape u ((shaped-says l u).0 e) c a)

  pub opening-shaped : (f : Facts) (o : Opening) → Typed (opening o) → refusal l f (opening o) ≡ 0 → shaped l (opened l (start_of o)) ≡ true
  opening-shaped f o a e = (shaped-says l (opened l (start_of o))).1 (opening-shape f o a e)

  -- "Seven readers .. and eight versions an object therefore always suffice"
  pub versions-suffice : (f : Facts) (o : Opening) → Typed (opening o) → refusal l f (opening o) ≡ 0
      → (cs : List Call) → All Typed cs → All (λ (xs : List Version). length xs ≤ suc l.readers) (calls l (opened l (start_of o)) cs).1.objects
  versions-suffice f o a e cs b = (calls-shape cs (opened l (start_of o)) (opening-shape f o a e) b).few_versions
