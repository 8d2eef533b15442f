-- What follows from `specs/LookedAt`. Assumes nothing.
use Rattle.std.specs.Prelude.{◌≡◌, refl, Bool, true, false, cond, ◌&&◌, ℤ, eqb, leb, ltb, length, get_or, set}
use Rattle.std.proofs.Common.{ap, le-leb, leb-true, leb-false, le-ltb, lt-ltb, ltb-true}
use Rattle.std.proofs.Math.Option
use Rattle.std.proofs.Math.Option.{Option, none, some}
use mathlib.Core.List.{List, [], ◌∷◌, map}
use Prim.Native.Nat.{ℕ, zero, suc, ◌+◌, ◌≤◌, ◌<◌}
use native.Mathlib.Omega.{arith}
use Rattle.std.proofs.Math.ListN.{get_or-map}
use Rattle.execution.specs.Entries.{Entry, lookup}
use Rattle.execution.proofs.ReadAgreement.{both}
use Rattle.model.specs.declared.Limits.{Limits}
use Rattle.model.specs.Lists.{any, all, count, mapi}
use Rattle.model.specs.Interface.{optimistic, execute, final, open_reader, close_reader, Call, opening, update, query}
use Rattle.model.specs.Calls.{refusal, judged}
use Rattle.model.specs.Start.{Version, no_version, start_of}
use Rattle.model.specs.Serial.{is_some}
use Rattle.model.specs.Replica.{Replica, as_of, opens, prune, pushed, install, committed_table, keyed, result, facts, commit, opened, perform, call, calls}
use Rattle.model.proofs.ListLaws.{all_in, pick-index, count-few, count-keep, count-apart}
use Rattle.model.proofs.Tests.{all_weaker}
use Rattle.model.specs.Shape.{falling, VersionsShape, Shape}
use Rattle.model.proofs.ReaderSnapshots.{opens_at}
use Rattle.model.specs.Untouched.{once, stores}
use Rattle.model.proofs.UntouchedLaws.{store_count}
use Rattle.model.specs.LookedAt.{is_above, looked_at, seen_index}

-- ---- the order in which they stand

not-above : (r : ℕ) (v : Version) → v.stamp ≤ r → is_above r v ≡ false
not-above r v h = le-ltb r v.stamp h

none_above : (r : ℕ) (vs : List Version) → all (λ v. leb v.stamp r) vs ≡ true → count (is_above r) vs ≡ 0
none_above r [] h = refl
none_above r (v ∷ vs) h =
    let k = both (leb v.stamp r) (all (λ v. leb v.stamp r) vs) h in
    rw (not-above r v (leb-true v.stamp r k.0), none_above r vs k.1)

-- the version that stands there is the one that is seen
pub seen-there : (r : ℕ) (vs : List Version) → seen_index r vs < length vs → as_of r vs ≡ get_or vs (seen_index r vs) no_version
seen-there r vs h = ap (λ (x : Option Version). Option.get_or x no_version) (pick-index (λ v. leb v.stamp r) no_version vs h)

-- where stamps fall, those before it are all that are above
pub looked_at-order : (r : ℕ) (vs : List Version) → falling vs ≡ true → looked_at r vs ≡ suc (seen_index r vs)
looked_at-order r [] h = refl
looked_at-order r (v ∷ vs) h =
    let k = both (all (λ w. ltb w.stamp v.stamp) vs) (falling vs) h in
    go' (leb v.stamp r) refl k.0 (looked_at-order r vs k.1)
  where
    go' : (b : Bool) → leb v.stamp r ≡ b → all (λ w. ltb w.stamp v.stamp) vs ≡ true → looked_at r vs ≡ suc (seen_index r vs) → looked_at r (v ∷ vs) ≡ suc (cond b 0 (suc (seen_index r vs)))
    go' true e older i =
        let here = leb-true v.stamp r e in
        let rest = all_weaker (λ w. ltb w.stamp v.stamp) (λ w. leb w.stamp r) vs (λ w k. le-leb w.stamp r (let m = ltb-true w.stamp v.stamp k in omega arith)) older in
        rw (not-above r v here, none_above r vs rest)
    go' false e older i = rw (lt-ltb r v.stamp (let m = leb-false v.stamp r e in omega arith)) (ap suc i)

-- ---- from call to call: what stores the object adds at most one version above t

count-pushed : (t s : ℕ) (vs : List Version) (k : Option ℤ) → count (is_above t) (pushed s vs k) ≤ once (is_some k) + count (is_above t) vs
count-pushed t s vs none = omega arith
count-pushed t s vs (some v) = go' (is_above t (record { stamp = s; value = v }))
  where
    go' : (b : Bool) → cond b (suc (count (is_above t) vs)) (count (is_above t) vs) ≤ once true + count (is_above t) vs
    go' true = omega arith
    go' false = omega arith

count-prune : (t : ℕ) (rs : List ℕ) (vs : List Version) → count (is_above t) (prune rs vs) ≤ count (is_above t) vs
unfolding prune
count-prune t rs vs = count-keep (is_above t) _ vs

count-pruned : (t : ℕ) (rs : List ℕ) (objs : List (List Version)) (o : ℕ) → count (is_above t) (get_or (map (prune rs) objs) o []) ≤ count (is_above t) (get_or objs o [])
unfolding prune
count-pruned t rs objs o = rw (get_or-map (prune rs) objs o []) (count-prune t rs (get_or objs o []))

-- an object whose versions change by their own position
count_at : (t : ℕ) (f : ℕ → List Version → List Version) (more : ℕ → ℕ) (objs : List (List Version)) (o : ℕ) → ((i : ℕ) (vs : List Version) → count (is_above t) (f i vs) ≤ more i + count (is_above t) vs)
    → count (is_above t) (get_or (mapi f objs) o []) ≤ more o + count (is_above t) (get_or objs o [])
count_at t f more [] o h = omega arith
count_at t f more (vs ∷ objs) zero h = h 0 vs
count_at t f more (vs ∷ objs) (suc o) h = count_at t (λ i. f (suc i)) (λ i. more (suc i)) objs o (λ i. h (suc i))

-- an object with one version
count-single : (t : ℕ) (vs : List Version) (o : ℕ) → count (is_above t) (get_or (map (λ v. v ∷ []) vs) o []) ≤ 1
count-single t [] o = omega arith
count-single t (v ∷ vs) zero = count-few (is_above t) (v ∷ [])
count-single t (v ∷ vs) (suc o) = count-single t vs o

module _ (l : Limits) (o t : ℕ) where
  -- the object's versions above t
  abbrev newer : Replica → ℕ
  newer u = count (is_above t) (get_or u.objects o [])

  newer-installed : (s : ℕ) (rs : List ℕ) (writes : List Entry) (objs : List (List Version)) → count (is_above t) (get_or (install s rs writes objs) o []) ≤ once (is_some (lookup writes o)) + count (is_above t) (get_or objs o [])
  unfolding install
  newer-installed s rs writes objs =
      count_at t (λ i vs. prune rs (pushed s vs (lookup writes i))) (λ i. once (is_some (lookup writes i))) objs o
      (λ i vs. omega (arith, count-prune t rs (pushed s vs (lookup writes i)), count-pushed t s vs (lookup writes i)))

  newer-performed : (u : Replica) (c : Call) → newer (perform l u c).1 ≤ once (stores u o c) + newer u
  unfolding perform commit opened
  newer-performed u (opening x) = omega (arith, count-single t (start_of x).versions o)
  newer-performed u (update (optimistic c s b)) = omega arith
  newer-performed u (update (execute k)) = omega arith
  newer-performed u (update (final c s)) =
      newer-installed (suc u.timestamp) (opens u.readers) (result (committed_table u) (keyed u c s)).writes u.objects
  newer-performed u (update (open_reader r)) = omega arith
  newer-performed u (update (close_reader r)) = omega (arith, count-pruned t (opens (set u.readers r none)) u.objects o)
  newer-performed u (query q) = omega arith

  newer-called : (u : Replica) (c : Call) → newer (call l u c).1 ≤ once (eqb (refusal l (facts u) c) 0 && stores u o c) + newer u
  unfolding call
  newer-called u c = go' (refusal l (facts u) c)
    where
      go' : (k : ℕ) → newer (judged u (perform l u c) k).1 ≤ once (eqb k 0 && stores u o c) + newer u
      go' zero = newer-performed u c
      go' (suc k) = omega arith

  newer-after : (u : Replica) (cs : List Call) → newer (calls l u cs).1 ≤ store_count l o u cs + newer u
  unfolding calls store_count
  newer-after u [] = omega arith
  newer-after u (c ∷ cs) = omega (arith, newer-after (call l u c).1 cs, newer-called u c)

-- ---- a reader that was opened on u

module _ (l : Limits) (u : Replica) (shape : Shape l u) (o : ℕ) (low : o < length u.objects) (cs : List Call) where
  none-newer : newer l o u.timestamp u ≡ 0
  none-newer =
      let there = all_in (VersionsShape u.timestamp (opens u.readers)) u.objects o [] shape.versions low in
      none_above u.timestamp (get_or u.objects o []) there.bound

  -- it looks at no more than one, and one for each time that the object was stored since
  pub looked_at-since : looked_at u.timestamp (get_or (calls l u cs).1.objects o []) ≤ suc (store_count l o u cs)
  looked_at-since = omega (arith, newer-after l o u.timestamp u cs, none-newer)

-- ---- never more than there are readers, and one

module _ (l : Limits) (u : Replica) (shape : Shape l u) (r t : ℕ) (entry : get_or u.readers r none ≡ some t) (o : ℕ) (low : o < length u.objects) where
  pub looked_at-most : looked_at t (get_or u.objects o []) ≤ suc l.readers
  looked_at-most =
      let vs = get_or u.objects o [] in
      let there = all_in (VersionsShape u.timestamp (opens u.readers)) u.objects o [] shape.versions low in
      let room = all_in (λ (vs : List Version). length vs ≤ suc l.readers) u.objects o [] shape.few_versions low in
      omega (arith, room, some_left vs (there.served t (opens_at u.readers r t entry)))
    where
      -- one is not above
      some_left : (vs : List Version) → any (λ v. leb v.stamp t) vs ≡ true → suc (count (is_above t) vs) ≤ length vs
      some_left vs h = count-apart (is_above t) (λ v. leb v.stamp t) vs (λ v e. not-above t v (leb-true v.stamp t e)) h
