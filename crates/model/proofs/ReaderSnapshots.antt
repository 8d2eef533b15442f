-- An open reader is ended by nothing but its close, and answers from the committed state as it stood when the reader was opened. Assumes nothing.
use Rattle.std.specs.Prelude.{◌≡◌, ◌≢◌, Bool, true, false, eqb, get_or, set}
use Rattle.std.proofs.Math.Path.{refl, ap}
use Rattle.std.proofs.Common.{sym, ◌∙◌, true≢false, arith, get_or-set_other}
use Rattle.std.proofs.Math.Option.{Option, none, some, none-ne-some}
use mathlib.Core.List.{List, [], ◌∷◌, map}
use Prim.Native.Nat.{ℕ, zero, suc, ◌<◌}
use Rattle.std.proofs.Math.ListN.{length, length-map, get_or-map}
use Rattle.std.proofs.Math.Seq.{get_or-set_same}
use borrow.Author.Tests.{eq-eqb, eqb-false, leb-false, lt-leb}
use Rattle.execution.specs.Entries.{Entry}
use Rattle.model.specs.declared.Limits.{Limits}
use Rattle.model.specs.Lists.{any}
use Rattle.model.specs.Interface.{optimistic, execute, final, open_reader, close_reader, read, Call, opening, update, query}
use Rattle.model.specs.Calls.{version, Facts, causes, refusal, judged}
use Rattle.model.specs.Start.{Version, no_version}
use Rattle.model.specs.Serial.{is_some}
use Rattle.model.specs.Replica.{Replica, newest, as_of, opens, prune, committed_table, keyed, result, facts, commit, perform, call, calls}
use Rattle.model.proofs.ListLaws.{or_right, map-all, map_map-same, all-implies}
use Rattle.model.proofs.VersionLaws.{as_of-prune, as_of-now, as_of-install}
use Rattle.model.proofs.Refusals.{accepted, opening-judged}
use Rattle.model.proofs.Invariant.{Invariant, call-invariant}
use Rattle.model.proofs.Tests.{neither}

-- an opening is judged by its arguments alone
abbrev pub no_facts : Facts
no_facts = record { size = 0; timestamp = 0; lasts = []; queue = []; opened = [] }

-- what ends reader r: its close, or an opening that is accepted
abbrev pub ends : Limits → ℕ → Call → Bool
ends l r (opening o) = eqb (refusal l no_facts (opening o)) 0
ends l r (update (optimistic c s b)) = false
ends l r (update (execute k)) = false
ends l r (update (final c s)) = false
ends l r (update (open_reader k)) = false
ends l r (update (close_reader k)) = eqb k r
ends l r (query q) = false

-- ---- readers by number

-- an entry that is not the default is in the list
pub some-within : {A : Type 0} (l : List (Option A)) (i : ℕ) (a : A) → get_or l i none ≡ some a → i < length l
some-within [] i a e = absurd (none-ne-some a e)
some-within (x ∷ l) zero a e = omega arith
some-within (x ∷ l) (suc i) a e = let h = some-within l i a e in omega arith

pub opens_at : (l : List (Option ℕ)) (i t : ℕ) → get_or l i none ≡ some t → any (eqb t) (opens l) ≡ true
opens_at [] i t e = absurd (none-ne-some t e)
opens_at (x ∷ l) zero t e = rw (e, eq-eqb t t refl)
opens_at (none ∷ l) (suc i) t e = opens_at l i t e
opens_at (some r ∷ l) (suc i) t e = or_right (eqb t r) (any (eqb t) (opens l)) (opens_at l i t e)

-- ---- an open reader, its stamp, and the copy that it answers from

pub record Open (r since : ℕ) (copy : List Version) (u : Replica) : Type 0 where
  pub entry : get_or u.readers r none ≡ some since
  pub view : map (as_of since) u.objects ≡ copy

module _ (l : Limits) (r : ℕ) where
  pub open_reader-opens : (u : Replica) → Invariant l u → refusal l (facts u) (update (open_reader r)) ≡ 0 → Open r u.timestamp (map newest u.objects) (call l u (update (open_reader r))).1
  unfolding call perform causes
  open_reader-opens u v e =
      rw e
      (record {
        entry = get_or-set_same u.readers r (some u.timestamp) none (let k = v.seats in omega (arith, leb-false l.readers r (accepted l (facts u) (update (open_reader r)) e).0));
        view = map-all (as_of u.timestamp) newest u.objects (all-implies _ _ (as_of-now u.timestamp) u.objects v.versions);
      })

  module _ (since : ℕ) (copy : List Version) (u : Replica) (v : Invariant l u) (h : Open r since copy u) where
    is_open : get_or (map is_some u.readers) r false ≡ true
    is_open = get_or-map is_some u.readers r none ∙ rw h.entry

    perform-open : (c : Call) → ends l r c ≡ false → refusal l (facts u) c ≡ 0 → Open r since copy (perform l u c).1
    unfolding perform commit facts refusal causes
    perform-open (opening o) q e = absurd (eqb-false (refusal l no_facts (opening o)) 0 q (opening-judged l no_facts (facts u) o ∙ e))
    perform-open (update (optimistic c s b)) q e = record { entry = h.entry; view = h.view }
    perform-open (update (execute k)) q e = record { entry = h.entry; view = h.view }
    perform-open (update (final c s)) q e =
        record {
          entry = h.entry;
          view = as_of-install (suc u.timestamp) (opens u.readers) writes u.objects since among (let k = v.readers since among in omega arith) ∙ h.view;
        }
      where
        writes : List Entry
        writes = (result (committed_table u) (keyed u c s)).writes

        among : any (eqb since) (opens u.readers) ≡ true
        among = opens_at u.readers r since h.entry
    perform-open (update (open_reader k)) q e =
        record { entry = get_or-set_other u.readers k r _ none other ∙ h.entry; view = h.view }
      where
        other : r ≢ k
        other z =
            let e' = (accepted l (facts u) (update (open_reader k)) e).1.0 in
            true≢false (sym is_open ∙ rw (← z) at e')
    perform-open (update (close_reader k)) q e =
        record { entry = there; view = map_map-same (as_of since) (prune rs) u.objects (λ vs. as_of-prune rs vs since (opens_at (set u.readers k none) r since there)) ∙ h.view }
      where
        rs : List ℕ
        rs = opens (set u.readers k none)

        there : get_or (set u.readers k none) r none ≡ some since
        there = get_or-set_other u.readers k r none none (λ z. eqb-false k r q (sym z)) ∙ h.entry
    perform-open (query x) q e = h

    call-open : (c : Call) → ends l r c ≡ false → Open r since copy (call l u c).1
    unfolding call
    call-open c q = go' (refusal l (facts u) c) refl
      where
        go' : (k : ℕ) → refusal l (facts u) c ≡ k → Open r since copy (judged u (perform l u c) k).1
        go' zero e = perform-open c q e
        go' (suc k) e = h

    -- it answers from its copy
    pub read-open : (o : ℕ) → o < length copy → (call l u (query (read r o))).0 ≡ version (get_or copy o no_version)
    unfolding call perform facts refusal causes
    read-open o k =
        let seated : r < l.readers = (let z = v.seats in omega (arith, some-within u.readers r since h.entry)) in
        let there : o < length u.objects = (let z = ap length h.view in omega (arith, length-map u.objects (as_of since))) in
        rw (lt-leb l.readers r seated, is_open, lt-leb (length u.objects) o there)
        (rw (h.entry, ← h.view, get_or-map (as_of since) u.objects o []))

  pub calls-open : (since : ℕ) (copy : List Version) (cs : List Call) (u : Replica) → Invariant l u → Open r since copy u → any (ends l r) cs ≡ false → Open r since copy (calls l u cs).1
  unfolding calls
  calls-open since copy [] u v h q = h
  calls-open since copy (c ∷ cs) u v h q =
      let k = neither (ends l r c) (any (ends l r) cs) q in
      calls-open since copy cs (call l u c).1 (call-invariant l u v c) (call-open since copy u v h c k.0) k.1
