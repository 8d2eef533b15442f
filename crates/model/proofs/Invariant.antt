-- What every replica reached from an opening keeps, whatever calls it gets. Assumes nothing.
use Rattle.std.specs.Prelude.{◌≡◌, ◌⊎◌, Bool, true, eqb, length, set, replicate}
use Rattle.std.proofs.Math.Path.{refl}
use Rattle.std.proofs.Common.{sym, ◌∙◌, inl, inr}
use Rattle.std.proofs.Math.Bool.{false}
use Rattle.std.proofs.lemmas.Bool.{false≢true}
use Rattle.std.proofs.Math.Option.{Option, none, some, none-ne-some, some-injective}
use mathlib.Core.List.{List, [], ◌∷◌, map-append}
use Prim.Native.Nat.{ℕ, zero, suc, ◌≤◌}
use native.Mathlib.Omega.{arith}
use Rattle.std.proofs.lemmas.List.{length-map}
use Rattle.std.proofs.Math.ListN.{length-set, length-replicate}
use borrow.Author.Tests.{not-false}
use Rattle.operation.specs.Body.{is_well_formed}
use Rattle.execution.specs.Run.{Table}
use Rattle.execution.specs.Entries.{Entry}
use Rattle.model.specs.declared.Limits.{Limits}
use Rattle.model.specs.Lists.{keep, any}
use Rattle.model.specs.Interface.{optimistic, execute, final, open_reader, close_reader, Call, opening, update, query}
use Rattle.model.specs.Calls.{Transaction, causes, refusal, judged}
use Rattle.model.specs.Start.{Version, Start, start_of}
use Rattle.model.specs.Replica.{Pending, Replica, with_timestamp, with_objects, with_lasts, with_pending, opens, prune, table, committed_table, install, walk, facts, commit, opened, perform, call, calls}
use Rattle.model.specs.ListLaws.{All}
use Rattle.model.proofs.ListLaws.{all_keep, all_append, all_map, all-mapped}
use Rattle.model.specs.VersionLaws.{Until, Dated}
use Rattle.model.proofs.VersionLaws.{opening-dated, until_prune, until_install, length-install, table-prune, opens-set}
use Rattle.model.specs.EarlyResults.{Chain, Ordered, Somewhere, sents}
use Rattle.model.proofs.EarlyResultsLaws.{ordered-keep, ordered-append, chain-append, chain-somewhere, walk-chain, walk-ordered, worked-ordered, worked-chain, worked-sents, walk-sents}
use Rattle.model.proofs.Refusals.{accepted}

module _ (l : Limits) where
  abbrev pub WellFormed : ℕ → Transaction → Type 0
  WellFormed n s = is_well_formed l.operations n s.bytes ≡ true

  pub record Invariant (u : Replica) : Type 0 where
    pub versions : All (Until u.timestamp) u.objects  -- no version is later than the timestamp
    pub readers : (r : ℕ) → any (eqb r) (opens u.readers) ≡ true → r ≤ u.timestamp  -- no open reader is either
    pub seats : length u.readers ≡ l.readers  -- as many readers as the limits say
    pub early : Chain (committed_table u) u.pending  -- early results are those of running in optimistic order
    pub ordered : Ordered u.pending  -- finished transactions stand first
    pub bodies : All (WellFormed (length u.objects)) (sents u.pending)

  pub opened-invariant : (s : Start) → Dated s → Invariant (opened l s)
  unfolding opened
  opened-invariant s d =
      record {
        versions = all-mapped (Until s.timestamp) (λ v. v ∷ []) s.versions d;
        seats = length-replicate l.readers none;
        readers = λ r h. absurd (false≢true (sym (nobody l.readers r) ∙ h));
        early = tt;
        ordered = tt;
        bodies = tt;
      }
    where
      nobody : (n r : ℕ) → any (eqb r) (opens (replicate n none)) ≡ false
      nobody zero r = refl
      nobody (suc n) r = nobody n r

  module _ (u : Replica) (v : Invariant u) where
    -- the body of an accepted optimistic delivery is well formed
    body-accepted : (c s : ℕ) (b : List ℕ) → refusal l (facts u) (update (optimistic c s b)) ≡ 0 → is_well_formed l.operations (length u.objects) b ≡ true
    unfolding facts causes
    body-accepted c s b e =
        not-false (is_well_formed l.operations (length u.objects) b) (accepted l (facts u) (update (optimistic c s b)) e).1.1.1.0

    -- a commit of any write set at a later timestamp, after which any of the pending transactions stay
    commit-invariant : (t : ℕ) (lasts : List ℕ) (writes : List Entry) (q : Pending → Bool) → u.timestamp ≤ t
        → let v = with_lasts lasts (with_timestamp t (with_objects (install t (opens u.readers) writes u.objects) u)) in Invariant (with_pending (walk (committed_table v) (keep q u.pending)) v)
    commit-invariant t lasts writes q le =
        record {
          versions = until_install u.timestamp t rs writes u.objects le v.versions;
          seats = v.seats;
          readers = λ r h. (let k = v.readers r h in omega arith);
          early = walk-chain T left (all_keep (Somewhere T) q u.pending (chain-somewhere T (committed_table u) refl u.pending v.early));
          ordered = walk-ordered T left (ordered-keep q u.pending v.ordered);
          bodies = rw (walk-sents T left, length-install t rs writes u.objects) (all-mapped formed (λ (j : Pending). j.sent) left stay);
        }
      where
        rs : List ℕ
        rs = opens u.readers

        objs : List (List Version)
        objs = install t rs writes u.objects

        T : Table
        T = table objs u.bounds

        left : List Pending
        left = keep q u.pending

        formed : Transaction → Type 0
        formed = WellFormed (length u.objects)

        stay : All (λ (j : Pending). formed j.sent) left
        stay = all_keep _ q u.pending (all_map formed (λ (j : Pending). j.sent) u.pending v.bodies)

    perform-invariant : (c : Call) → refusal l (facts u) c ≡ 0 → Invariant (perform l u c).1
    unfolding perform commit
    perform-invariant (opening o) e = opened-invariant (start_of o) (opening-dated l (facts u) o e)
    perform-invariant (update (optimistic c s b)) e =
        record {
          versions = v.versions;
          seats = v.seats;
          readers = v.readers;
          early = chain-append (committed_table u) u.pending _ v.early refl;
          ordered = ordered-append u.pending _ v.ordered refl;
          bodies = rw (map-append (λ (j : Pending). j.sent) u.pending) (all_append _ (sents u.pending) _ v.bodies (body-accepted c s b e));
        }
    perform-invariant (update (execute k)) e =
        record {
          versions = v.versions;
          seats = v.seats;
          readers = v.readers;
          early = worked-chain (committed_table u) k u.pending v.ordered v.early;
          ordered = worked-ordered (committed_table u) k u.pending v.ordered;
          bodies = rw (worked-sents (committed_table u) k u.pending) v.bodies;
        }
    perform-invariant (update (final c s)) e = commit-invariant _ _ _ _ (omega arith)
    perform-invariant (update (open_reader r)) e =
        record {
          versions = v.versions;
          seats = length-set u.readers r _ ∙ v.seats;
          readers = λ x h. go' x (opens-set u.readers r (some u.timestamp) x h);
          early = v.early;
          ordered = v.ordered;
          bodies = v.bodies;
        }
      where
        go' : (x : ℕ) → (some u.timestamp ≡ some x) ⊎ (any (eqb x) (opens u.readers) ≡ true) → x ≤ u.timestamp
        go' x (inl q) = let k = some-injective u.timestamp x q in omega arith
        go' x (inr h) = v.readers x h
    perform-invariant (update (close_reader r)) e =
        let rs = opens (set u.readers r none) in
        record {
          versions = until_prune rs u.timestamp u.objects v.versions;
          seats = length-set u.readers r _ ∙ v.seats;
          readers = λ x h. go' x (opens-set u.readers r none x h);
          early = rw (table-prune rs u.objects u.bounds) v.early;
          ordered = v.ordered;
          bodies = rw (length-map u.objects (prune rs)) v.bodies;
        }
      where
        go' : (x : ℕ) → (◌≡◌ {A = Option ℕ} none (some x)) ⊎ (any (eqb x) (opens u.readers) ≡ true) → x ≤ u.timestamp
        go' x (inl q) = absurd (none-ne-some x q)
        go' x (inr h) = v.readers x h
    perform-invariant (query q) e = v

    pub call-invariant : (c : Call) → Invariant (call l u c).1
    unfolding call
    call-invariant c = go' (refusal l (facts u) c) refl
      where
        go' : (k : ℕ) → refusal l (facts u) c ≡ k → Invariant (judged u (perform l u c) k).1
        go' zero e = perform-invariant c e
        go' (suc k) e = v

  pub calls-invariant : (cs : List Call) (u : Replica) → Invariant u → Invariant (calls l u cs).1
  unfolding calls
  calls-invariant [] u v = v
  calls-invariant (c ∷ cs) u v = calls-invariant cs (call l u c).1 (call-invariant u v c)
