-- The shape of a replica in two parts, as the calls change them: objects with readers, and pending transactions with last numbers; and what
-- keeps each fact of them. Assumes nothing.
use Rattle.std.specs.Prelude.{◌≡◌, refl, ◌⊎◌, Bool, not, cond, ◌&&◌, ◌||◌, ℕ, zero, suc, ◌-◌, ◌^◌, ◌≤◌, ◌<◌, ℤ, eqb, leb, ltb, length, get_or, set}
use Rattle.std.proofs.Common.{sym, ap, ap₂, ◌∙◌, subst, inl, inr, true≢false, arith, get_or-set_same, get_or-set_other, eqb-true}
use Rattle.std.proofs.Math.Bool.{true, false}
use Rattle.std.proofs.lemmas.Bool.{false≢true, eqb-false, not-true}
use Rattle.std.proofs.Math.Option.{Option, none, some, none-ne-some, some-injective}
use mathlib.Core.List.{List, [], ◌∷◌, ◌++◌, map}
use Rattle.std.proofs.lemmas.List.{length-map}
use Rattle.arith.specs.Integer.{fits}
use Rattle.operation.specs.Body.{is_well_formed}
use Rattle.operation.proofs.BodyLaws.{valid_drop}
use Rattle.execution.specs.Entries.{Entry, lookup}
use Rattle.execution.specs.Bounds.{Bounds}
use Rattle.execution.specs.Run.{Table, Run, start, steps, whole, matches, over}
use Rattle.execution.proofs.ReadAgreement.{both}
use Rattle.execution.specs.RunShape.{Entries, Shaped}
use Rattle.execution.proofs.RunShapeLaws.{lookup-fits, steps-shaped, start-shaped, over-fits}
use Rattle.model.specs.declared.Limits.{Limits}
use Rattle.model.specs.Lists.{pick, keep, any, all}
use Rattle.model.specs.Calls.{Transaction, is_key, leaves, spent, clients, last_timestamp}
use Rattle.model.specs.Serial.{Version, is_some}
use Rattle.model.specs.Replica.{Pending, Replica, newest, opens, held, prune, pushed, install, table, program, finished, advance, used, worked, restarted, walk, pending_of, has_key, validated, result}
use Rattle.model.specs.ListLaws.{All}
use Rattle.model.proofs.ListLaws.{all-implies, all-mapi, or_right, eqb-sym}
use Rattle.model.proofs.VersionLaws.{opens-set}
use Rattle.model.specs.EarlyResults.{Ordered, sents}
use Rattle.model.proofs.Tests.{neither, all-keeps, any-keep, any_append}
use Rattle.model.specs.Shape.{VersionsShape, distinct_keys, Unspent, Shape}
use Rattle.model.proofs.ShapeBounds.{BoundsPart}
use Rattle.model.specs.ShapeRuns.{AllShaped}
use Rattle.model.proofs.ShapeRunsLaws.{order-ordered, order-shaped, ordered-order, all-sets, all-encoded}
use Rattle.model.proofs.ShapeCheckLaws.{bodies-non_empty}
use Rattle.model.proofs.Held.{commit-shape, few}

-- ---- the shape in two parts, as the calls change them: objects with readers, and pending transactions with last numbers

abbrev pub Fit : List Version → Type 0
Fit vs = all (λ v. fits v.value) vs ≡ true

pub record ObjectsPart (l : Limits) (t : ℕ) (objs : List (List Version)) (readers : List (Option ℕ)) : Type 0 where
  pub some_object : 0 < length objs
  pub few_objects : length objs ≤ l.objects
  pub timestamp : t ≤ last_timestamp
  pub versions : All (VersionsShape t (opens readers)) objs
  pub values : All Fit objs
  pub before : (r : ℕ) → any (eqb r) (opens readers) ≡ true → r ≤ t
  pub reader_count : length readers ≡ l.readers

abbrev pub Formed : Limits → ℕ → Transaction → Type 0
Formed l n s = is_well_formed l.operations n s.bytes ≡ true

pub record SoundKey (l : Limits) (n : ℕ) (lasts : List ℕ) (s : Transaction) : Type 0 where
  pub unspent : Unspent lasts s
  pub sequence : s.sequence < 2 ^ 32
  pub body : Formed l n s

pub record PendingPart (l : Limits) (n : ℕ) (lasts : List ℕ) (js : List Pending) : Type 0 where
  pub few_pending : length js ≤ l.pending
  pub small : all (λ s. ltb s (2 ^ 32)) lasts ≡ true
  pub last_count : length lasts ≡ clients
  pub distinct : distinct_keys (sents js) ≡ true
  pub keys : All (SoundKey l n lasts) (sents js)
  pub ordered : Ordered js
  pub runs : AllShaped n js

pub opens-few : (rs : List (Option ℕ)) → length (opens rs) ≤ length rs
opens-few [] = omega arith
opens-few (none ∷ rs) = omega (arith, opens-few rs)
opens-few (some r ∷ rs) = omega (arith, opens-few rs)

keys_of : (l : Limits) (n : ℕ) (lasts : List ℕ) (ts : List Transaction) → All (Unspent lasts) ts → All (λ (s : Transaction). s.sequence < 2 ^ 32) ts → All (Formed l n) ts → All (SoundKey l n lasts) ts
keys_of l n lasts [] u s b = tt
keys_of l n lasts (t ∷ ts) u s b =
    (record { unspent = u.0; sequence = s.0; body = b.0 }, keys_of l n lasts ts u.1 s.1 b.1)

module _ (l : Limits) (u : Replica) where
  abbrev pub Objects : Type 0
  Objects = ObjectsPart l u.timestamp u.objects u.readers

  abbrev pub Queue : Type 0
  Queue = PendingPart l (length u.objects) u.lasts u.pending

  pub objects-part : Shape l u → Objects
  objects-part k =
      record {
        some_object = k.some_object;
        few_objects = k.few_objects;
        timestamp = k.encoded.timestamp;
        versions = k.versions;
        values = k.encoded.values;
        before = k.readers;
        reader_count = k.encoded.reader_count;
      }

  pub pending_part : Shape l u → Queue
  pending_part k =
      record {
        few_pending = k.few_pending;
        small = k.encoded.lasts;
        last_count = k.encoded.last_count;
        distinct = k.distinct;
        keys = keys_of l (length u.objects) u.lasts (sents u.pending) k.unspent k.encoded.sequences k.bodies;
        ordered = order-ordered u.pending k.order k.encoded.runs;
        runs = order-shaped (length u.objects) u.pending k.order k.sets k.encoded.runs;
      }

  abbrev pub Bounded : Type 0
  Bounded = BoundsPart u.objects u.bounds u.pending

  pub bounds-part : Shape l u → Bounded
  bounds-part k =
      record { count = k.bound_count; ordered = k.ordered; encoded = k.encoded.bounds; inside = k.inside; stores = k.stores }

  pub together : Objects → Queue → Bounded → Shape l u
  together o q b =
      record {
        some_object = o.some_object;
        few_objects = o.few_objects;
        few_pending = q.few_pending;
        few_versions = all-implies _ _ (λ vs v. omega (arith, few u.timestamp (opens u.readers) vs v, opens-few u.readers, o.reader_count)) u.objects o.versions;
        versions = o.versions;
        bound_count = b.count;
        ordered = b.ordered;
        inside = b.inside;
        stores = b.stores;
        readers = o.before;
        distinct = q.distinct;
        unspent = all-implies (SoundKey l n u.lasts) _ (λ s h. h.unspent) ts q.keys;
        bodies = bodies;
        order = ordered-order n u.pending (bodies-non_empty l n u.pending bodies) q.ordered q.runs;
        sets = all-sets n u.pending q.runs;
        encoded = record {
          timestamp = o.timestamp;
          lasts = q.small;
          sequences = all-implies (SoundKey l n u.lasts) _ (λ s h. h.sequence) ts q.keys;
          last_count = q.last_count;
          reader_count = o.reader_count;
          values = o.values;
          bounds = b.encoded;
          runs = all-encoded n u.pending q.runs;
        };
      }
    where
      n : ℕ
      n = length u.objects

      ts : List Transaction
      ts = sents u.pending

      bodies : All (Formed l n) ts
      bodies = all-implies (SoundKey l n u.lasts) (Formed l n) (λ s h. h.body) ts q.keys

-- ---- keys

pub same_length : (a b : List Pending) → sents a ≡ sents b → length a ≡ length b
same_length a b e = sym (length-map a (λ (j : Pending). j.sent)) ∙ ap length e ∙ length-map b (λ (j : Pending). j.sent)

key-sym : (s x : Transaction) → is_key x.client x.sequence s ≡ false → is_key s.client s.sequence x ≡ false
key-sym s x e = rw (eqb-sym x.client s.client, eqb-sym x.sequence s.sequence) e

pub distinct-keep : (p : Transaction → Bool) (ts : List Transaction) → distinct_keys ts ≡ true → distinct_keys (keep p ts) ≡ true
distinct-keep p [] h = refl
distinct-keep p (s ∷ ts) h =
    let k = both (not (any (is_key s.client s.sequence) ts)) (distinct_keys ts) h in
    go' (p s) (any-keep (is_key s.client s.sequence) p ts (not-true _ k.0)) (distinct-keep p ts k.1)
  where
    go' : (b : Bool) → any (is_key s.client s.sequence) (keep p ts) ≡ false → distinct_keys (keep p ts) ≡ true → distinct_keys (cond b (s ∷ keep p ts) (keep p ts)) ≡ true
    go' true e i = rw (e, i)
    go' false e i = i

pub distinct_append : (ts : List Transaction) (x : Transaction) → distinct_keys ts ≡ true → any (is_key x.client x.sequence) ts ≡ false → distinct_keys (ts ++ (x ∷ [])) ≡ true
distinct_append [] x h e = refl
distinct_append (s ∷ ts) x h e =
    let k = both (not (any (is_key s.client s.sequence) ts)) (distinct_keys ts) h in
    let m = neither (is_key x.client x.sequence s) (any (is_key x.client x.sequence) ts) e in
    rw (any_append (is_key s.client s.sequence) ts x (not-true _ k.0) (key-sym s x m.0), distinct_append ts x k.1 m.1)

-- what stays is above the client's new last number
pub still_unspent : (lasts : List ℕ) (c s : ℕ) (x : Transaction) → c < length lasts → not (leaves c s x) ≡ true → Unspent lasts x → Unspent (set lasts c s) x
still_unspent lasts c s x h g k =
    record { client = k.client; above = go' (eqb x.client c) refl (not-true (leaves c s x) g) }
  where
    go' : (b : Bool) → eqb x.client c ≡ b → b && leb x.sequence s ≡ false → spent (set lasts c s) x.client x.sequence ≡ false
    go' true q e = rw (eqb-true x.client c q, get_or-set_same lasts c s 0 h) e
    go' false q e = rw (get_or-set_other lasts c x.client s 0 (eqb-false x.client c q)) k.above

-- a key that is pending is that of one of the transactions
pending-one : (P : Transaction → Type 0) (c s : ℕ) (ts : List Transaction) → All P ts → any (is_key c s) ts ≡ true → (x : Transaction) × ((x.client ≡ c) × (x.sequence ≡ s) × P x)
pending-one P c s [] k e = absurd (false≢true e)
pending-one P c s (x ∷ ts) k e = go' (is_key c s x) refl e (pending-one P c s ts k.1)
  where
    go' : (b : Bool) → is_key c s x ≡ b → b || any (is_key c s) ts ≡ true → (any (is_key c s) ts ≡ true → (y : Transaction) × ((y.client ≡ c) × (y.sequence ≡ s) × P y))
        → (y : Transaction) × ((y.client ≡ c) × (y.sequence ≡ s) × P y)
    go' true q e i =
        let same = both (eqb x.client c) (eqb x.sequence s) q in
        (x, (eqb-true x.client c same.0, eqb-true x.sequence s same.1, k.0))
    go' false q e i = i e

-- it has a sequence number of 32 bits,
pub pending-sequence : (l : Limits) (n : ℕ) (lasts : List ℕ) (c s : ℕ) (ts : List Transaction) → All (SoundKey l n lasts) ts → any (is_key c s) ts ≡ true → s < 2 ^ 32
pending-sequence l n lasts c s ts k e =
    let (x, (client, sequence, sound)) = pending-one (SoundKey l n lasts) c s ts k e in
    subst (λ (i : ℕ). i < 2 ^ 32) sequence sound.sequence

-- and is that of a client, and unspent
pub pending-unspent : (lasts : List ℕ) (c s : ℕ) (ts : List Transaction) → All (Unspent lasts) ts → any (is_key c s) ts ≡ true → (c < clients) × (spent lasts c s ≡ false)
pending-unspent lasts c s ts k e =
    let (x, (client, sequence, unspent)) = pending-one (Unspent lasts) c s ts k e in
    (subst (λ (i : ℕ). i < clients) client unspent.client, ap₂ (spent lasts) (sym client) (sym sequence) ∙ unspent.above)

-- ---- values of 64 bits

newest-fits : (vs : List Version) → Fit vs → fits (newest vs).value ≡ true
unfolding fits
newest-fits [] h = refl
newest-fits (v ∷ vs) h = (both (fits v.value) (all (λ v. fits v.value) vs) h).0

pub table_fits : (objs : List (List Version)) (bs : List Bounds) → All Fit objs → (o : ℕ) → fits ((table objs bs).look o) ≡ true
table_fits [] bs h o = newest-fits [] refl
table_fits (x ∷ objs) bs h zero = newest-fits x h.0
table_fits (x ∷ objs) bs h (suc o) = table_fits objs bs h.1 o

pub prune-fits : (rs : List ℕ) (vs : List Version) → Fit vs → Fit (prune rs vs)
unfolding prune
prune-fits rs vs h = all-keeps (λ v. fits v.value) (held rs vs) vs h

pushed-fits : (n t : ℕ) (writes : List Entry) (rs : List ℕ) → Entries n writes → (o : ℕ) (vs : List Version) → Fit vs → Fit (prune rs (pushed t vs (lookup writes o)))
pushed-fits n t writes rs v o vs h = prune-fits rs (pushed t vs (lookup writes o)) (go' (lookup writes o) refl)
  where
    go' : (k : Option ℤ) → lookup writes o ≡ k → Fit (pushed t vs k)
    go' none e = h
    go' (some z) e = rw (lookup-fits n writes o z v.values e) h

pub install-fits : (n t : ℕ) (rs : List ℕ) (writes : List Entry) → Entries n writes → (objs : List (List Version)) → All Fit objs → All Fit (install t rs writes objs)
unfolding install
install-fits n t rs writes v objs h =
    all-mapi Fit Fit (λ o vs. prune rs (pushed t vs (lookup writes o))) objs (pushed-fits n t writes rs v) h

pub install-versions : (t : ℕ) (rs : List ℕ) (writes : List Entry) (objs : List (List Version)) → All (VersionsShape t rs) objs → All (VersionsShape (suc t) rs) (install (suc t) rs writes objs)
unfolding install
install-versions t rs writes objs h =
    all-mapi (VersionsShape t rs) (VersionsShape (suc t) rs) (λ o vs. prune rs (pushed (suc t) vs (lookup writes o))) objs (λ o vs. commit-shape t rs vs (lookup writes o)) h

-- ---- runs

abbrev pub AllFormed : Limits → ℕ → List Pending → Type 0
AllFormed l n js = All (λ (j : Pending). Formed l n j.sent) js

module _ (l : Limits) (n : ℕ) where
  steps-of_shaped : (S : Table) → ((o : ℕ) → fits (S.look o) ≡ true) → (j : Pending) → Formed l n j.sent → (c : ℕ) (p : Run) → Shaped n (program j) p → Shaped n (program j) (steps S (program j) c p)
  steps-of_shaped S f j w c p v = steps-shaped n (program j) S f (valid_drop l.operations n j.sent.bytes w) c p v

  pub worked-shaped : (S : Table) (c : ℕ) (js : List Pending) → ((o : ℕ) → fits (S.look o) ≡ true) → AllFormed l n js → AllShaped n js → AllShaped n (worked S c js)
  unfolding worked advance
  worked-shaped S c [] f w g = tt
  worked-shaped S c (j ∷ js) f w g =
      (one, go' (finished i) (worked-shaped (over i.run.writes S) (c - used S c j) js (over-fits n i.run.writes S one.writes f) w.1 g.1))
    where
      i : Pending
      i = advance S c j

      one : Shaped n (program j) i.run
      one = steps-of_shaped S f j w.0 c j.run g.0

      rest : List Pending
      rest = worked (over i.run.writes S) (c - used S c j) js

      go' : (b : Bool) → AllShaped n rest → AllShaped n (cond b rest js)
      go' true k = k
      go' false k = g.1

  restarted-shaped : (js : List Pending) → AllShaped n (map restarted js)
  unfolding restarted
  restarted-shaped [] = tt
  restarted-shaped (j ∷ js) = (start-shaped n (program j), restarted-shaped js)

  pub walk-shaped : (S : Table) (js : List Pending) → AllShaped n js → AllShaped n (walk S js)
  unfolding walk
  walk-shaped S [] g = tt
  walk-shaped S (j ∷ js) g = go' (matches S j.run.reads) (walk-shaped (over j.run.writes S) js g.1)
    where
      rest : List Pending
      rest = walk (over j.run.writes S) js

      go' : (b : Bool) → AllShaped n rest → AllShaped n (cond b (j ∷ rest) (map restarted (j ∷ js)))
      go' true k = (g.0, k)
      go' false k = restarted-shaped (j ∷ js)

  -- validated or run whole
  pub result-shaped : (S : Table) → ((o : ℕ) → fits (S.look o) ≡ true) → (j : Pending) → Formed l n j.sent → Shaped n (program j) j.run → Shaped n (program j) (result S j)
  unfolding result whole
  result-shaped S f j w v = go' (validated S j)
    where
      go' : (b : Bool) → Shaped n (program j) (cond b j.run (steps S (program j) (length (program j)) start))
      go' true = v
      go' false = steps-of_shaped S f j w (length (program j)) start (start-shaped n (program j))

-- the transaction of a pending key is one of the pending
pub pick-found : (P : Pending → Type 0) (c s : ℕ) (js : List Pending) → All P js → any (is_key c s) (sents js) ≡ true → P (pending_of (pick (has_key c s) js))
pick-found P c s [] h e = absurd (false≢true e)
pick-found P c s (j ∷ js) h e = go' (has_key c s j) e (pick-found P c s js h.1)
  where
    go' : (b : Bool) → b || any (is_key c s) (sents js) ≡ true → (any (is_key c s) (sents js) ≡ true → P (pending_of (pick (has_key c s) js))) → P (pending_of (cond b (some j) (pick (has_key c s) js)))
    go' true e k = h.0
    go' false e k = k e

-- ---- readers

-- opening a closed reader leaves the others open
pub opens_still : (rs : List (Option ℕ)) (i t : ℕ) → get_or (map is_some rs) i false ≡ false → (r : ℕ) → any (eqb r) (opens rs) ≡ true → any (eqb r) (opens (set rs i (some t))) ≡ true
opens_still [] i t h r e = e
opens_still (none ∷ rs) zero t h r e = or_right (eqb r t) (any (eqb r) (opens rs)) e
opens_still (some x ∷ rs) zero t h r e = absurd (true≢false h)
opens_still (none ∷ rs) (suc i) t h r e = opens_still rs i t h r e
opens_still (some x ∷ rs) (suc i) t h r e = go' (eqb r x) e (opens_still rs i t h r)
  where
    go' : (b : Bool) → b || any (eqb r) (opens rs) ≡ true → (any (eqb r) (opens rs) ≡ true → any (eqb r) (opens (set rs i (some t))) ≡ true) → b || any (eqb r) (opens (set rs i (some t))) ≡ true
    go' true e k = refl
    go' false e k = k e

-- who is open after an opening, and after a close
pub opened-who : (rs : List (Option ℕ)) (i t r : ℕ) → any (eqb r) (opens (set rs i (some t))) ≡ true → (t ≡ r) ⊎ (any (eqb r) (opens rs) ≡ true)
opened-who rs i t r h = go' (opens-set rs i (some t) r h)
  where
    go' : (some t ≡ some r) ⊎ (any (eqb r) (opens rs) ≡ true) → (t ≡ r) ⊎ (any (eqb r) (opens rs) ≡ true)
    go' (inl q) = inl (some-injective t r q)
    go' (inr e) = inr e

pub closed-who : (rs : List (Option ℕ)) (i r : ℕ) → any (eqb r) (opens (set rs i none)) ≡ true → any (eqb r) (opens rs) ≡ true
closed-who rs i r h = go' (opens-set rs i none r h)
  where
    go' : (◌≡◌ {A = Option ℕ} none (some r)) ⊎ (any (eqb r) (opens rs) ≡ true) → any (eqb r) (opens rs) ≡ true
    go' (inl q) = absurd (none-ne-some r q)
    go' (inr e) = e
