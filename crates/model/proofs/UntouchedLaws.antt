-- What follows from `specs/Untouched`. Assumes nothing.
use Rattle.std.specs.Prelude.{◌≡◌, Bool, ◌&&◌, ℤ, ltb, length, set}
use Rattle.std.proofs.Math.Path.{refl}
use Rattle.std.proofs.Common.{sym, ap, ◌∙◌, true≢false, arith, ltb-true, ltb-false}
use Rattle.std.proofs.Math.Bool.{true, false}
use Rattle.std.proofs.Math.Option.{Option, none, some}
use mathlib.Core.List.{List, [], ◌∷◌, map}
use Prim.Native.Nat.{ℕ, zero, suc, ◌+◌, ◌<◌}
use Rattle.std.proofs.Math.Dec.{eqb}
use Rattle.std.proofs.Math.ListN.{get_or, get_or-map, get_or-eq_default}
use Rattle.execution.specs.Entries.{Entry, lookup}
use Rattle.model.specs.declared.Limits.{Limits}
use Rattle.model.specs.Interface.{by_values, optimistic, execute, final, open_reader, close_reader, Call, opening, update, query}
use Rattle.model.specs.Calls.{refusal, judged}
use Rattle.model.specs.Start.{Version, no_version, Start, start_of}
use Rattle.model.specs.Serial.{is_some}
use Rattle.model.specs.Replica.{Replica, newest, opens, prune, committed_table, keyed, result, facts, install, commit, opened, perform, call, calls}
use Rattle.model.proofs.ListLaws.{length-mapi, get_or-mapi, map_map-same}
use Rattle.model.specs.VersionLaws.{replaced, overlay}
use Rattle.model.proofs.VersionLaws.{newest-at, newest-prune, newest-install}
use Rattle.model.specs.Untouched.{stores, once}

overlay-unwritten : (t : ℕ) (writes : List Entry) (vs : List Version) (o : ℕ) → is_some (lookup writes o) ≡ false → get_or (overlay t writes vs) o no_version ≡ get_or vs o no_version
unfolding overlay
overlay-unwritten t writes vs o h = go' (ltb o (length vs)) refl
  where
    same : (x : Version) (k : Option ℤ) → is_some k ≡ false → replaced t x k ≡ x
    same x none e = refl
    same x (some v) e = absurd (true≢false e)

    go' : (b : Bool) → ltb o (length vs) ≡ b → get_or (overlay t writes vs) o no_version ≡ get_or vs o no_version
    go' true e =
        get_or-mapi (λ i x. replaced t x (lookup writes i)) vs o no_version no_version (ltb-true o (length vs) e)
        ∙ same (get_or vs o no_version) (lookup writes o) h
    go' false e =
        let m = ltb-false o (length vs) e in
        get_or-eq_default (overlay t writes vs) no_version (omega (arith, length-mapi (λ i x. replaced t x (lookup writes i)) vs))
        ∙ sym (get_or-eq_default vs no_version (omega arith))

module _ (l : Limits) (o : ℕ) where
  -- how many of a list of calls are accepted and store it
  unfoldable pub store_count : Replica → List Call → ℕ
  store_count u [] = 0
  store_count u (c ∷ cs) = once (eqb (refusal l (facts u) c) 0 && stores u o c) + store_count (call l u c).1 cs

  abbrev its_newest : Replica → Version
  its_newest u = newest (get_or u.objects o [])

  -- a write set without the object
  pub newest-unwritten : (t : ℕ) (rs : List ℕ) (writes : List Entry) (objs : List (List Version)) → is_some (lookup writes o) ≡ false
      → newest (get_or (install t rs writes objs) o []) ≡ newest (get_or objs o [])
  newest-unwritten t rs writes objs h =
      sym (get_or-map newest (install t rs writes objs) o [])
      ∙ ap (λ (vs : List Version). get_or vs o no_version) (newest-install t rs writes objs)
      ∙ overlay-unwritten t writes (map newest objs) o h
      ∙ get_or-map newest objs o []

  newest-performed : (u : Replica) (c : Call) → stores u o c ≡ false → its_newest (perform l u c).1 ≡ its_newest u
  unfolding perform commit
  newest-performed u (opening x) h = absurd (true≢false h)
  newest-performed u (update (optimistic c s b)) h = refl
  newest-performed u (update (execute k)) h = refl
  newest-performed u (update (final c s)) h =
      newest-unwritten (suc u.timestamp) (opens u.readers) (result (committed_table u) (keyed u c s)).writes u.objects h
  newest-performed u (update (open_reader r)) h = refl
  newest-performed u (update (close_reader r)) h =
      let rs = opens (set u.readers r none) in
      newest-at (map (prune rs) u.objects) u.objects (map_map-same newest (prune rs) u.objects (newest-prune rs)) o
  newest-performed u (query q) h = refl

  newest-called : (u : Replica) (c : Call) → eqb (refusal l (facts u) c) 0 && stores u o c ≡ false → its_newest (call l u c).1 ≡ its_newest u
  unfolding call
  newest-called u c h = go' (refusal l (facts u) c) h
    where
      go' : (k : ℕ) → eqb k 0 && stores u o c ≡ false → its_newest (judged u (perform l u c) k).1 ≡ its_newest u
      go' zero h = newest-performed u c h
      go' (suc k) h = refl

  pub untouched : (u : Replica) (cs : List Call) → store_count u cs ≡ 0 → its_newest (calls l u cs).1 ≡ its_newest u
  unfolding calls store_count
  untouched u [] h = refl
  untouched u (c ∷ cs) h = untouched (call l u c).1 cs (omega arith) ∙ newest-called u c (no_store (eqb (refusal l (facts u) c) 0 && stores u o c) h)
    where
      no_store : (b : Bool) → once b + store_count (call l u c).1 cs ≡ 0 → b ≡ false
      no_store true e = absurd (omega arith)
      no_store false e = refl

  -- from an opening on: its version is the one that it was opened with
  pub untouched_start : (s : Start) (cs : List Call) → store_count (opened l s) cs ≡ 0 → its_newest (calls l (opened l s) cs).1 ≡ get_or s.versions o no_version
  unfolding opened
  untouched_start s cs h =
      untouched (opened l s) cs h ∙ newest-single s.versions o
    where
      newest-single : (vs : List Version) (o : ℕ) → newest (get_or (map (λ v. v ∷ []) vs) o []) ≡ get_or vs o no_version
      newest-single [] o = refl
      newest-single (v ∷ vs) zero = refl
      newest-single (v ∷ vs) (suc o) = newest-single vs o

  -- opened by values: the start stamp
  pub untouched_stamp : (n : ℕ) (vs los his : List ℤ) (t : ℕ) (cs : List Call) → o < length vs
      → (let s = start_of (by_values n vs los his t) in store_count (opened l s) cs ≡ 0 → (its_newest (calls l (opened l s) cs).1).stamp ≡ t)
  untouched_stamp n vs los his t cs low h =
      ap (λ (v : Version). v.stamp) (untouched_start (start_of (by_values n vs los his t)) cs h) ∙ start-stamp vs o low
    where
      start-stamp : (vs : List ℤ) (o : ℕ) → o < length vs → (get_or (map (λ v. record { stamp = t; value = v }) vs) o no_version).stamp ≡ t
      start-stamp [] o k = absurd (omega arith)
      start-stamp (v ∷ vs) zero k = refl
      start-stamp (v ∷ vs) (suc o) k = start-stamp vs o (omega arith)
