-- The records that the host lends, and the replica that they speak of. Assumes nothing.
--     work_counted       what work answers, counted, gives the counters of the replica after it
--     delivery-counted   a final delivery that is taken, counted, gives its timestamp; one that is refused with 9 is refused here too
--     restart_same       restarting records from a place on is restarting the model's transactions from there on
--     walk-restart       so, from the right place on, it is what a final delivery's walk does
use Rattle.std.specs.Prelude.{◌≡◌, refl, Bool, false, not, cond, List, [], ◌∷◌, ◌++◌, map, ℕ, zero, suc, ℤ, pos, ◌≤◌, length, get_or, take, drop}
use Rattle.std.proofs.Common.{sym, ap, subst, ◌∙◌, arith}
use Rattle.std.proofs.Math.Bool.{true}
use Rattle.std.proofs.Math.Numerals.{add-one}
use borrow.Author.Tests.{le-leb}
use Rattle.std.proofs.Math.Dec.{leb}
use Rattle.std.proofs.lemmas.List.{length-map}
use Rattle.operation.specs.Body.{listed}
use Rattle.execution.specs.Entries.{Entry, entry}
use Rattle.execution.specs.Run.{Table, start, matches, over}
use Rattle.model.specs.declared.Limits.{Limits}
use Rattle.model.specs.Lists.{any, count}
use Rattle.model.specs.Calls.{execute, final, executed, clients, last_timestamp, is_key, spent, first_cause, causes, refusal}
use Rattle.model.specs.Replica as replica
use Rattle.model.specs.Replica.{Pending, Replica, committed_table, finished, walk, work_count, facts, commit, perform, call}
use Rattle.model.specs.EarlyResults.{sents}
use Rattle.model.proofs.EarlyResultsLaws.{worked-sents}
use Rattle.host.specs.declared.Counters.{Counters}
use Rattle.host.specs.declared.PendingTransaction.{PendingTransaction}
use Rattle.host.specs.Counting.{number_of_delivery, delivered, worked}
use Rattle.host.specs.HostRestart.{restarted, restarted_behind}

-- ---- pending transactions

-- the first n entries, whose objects and values stand in two arrays
unfoldable pub entries : ℕ → List ℕ → List ℤ → List Entry
entries n os vs = listed (λ i. entry (get_or os i 0) (get_or vs i (pos 0))) n

-- a record as the model's pending transaction; its body stands in the body area
abbrev pub transaction_of : PendingTransaction → List ℕ → Pending
transaction_of t b =
    let es : List Entry = entries t.entries t.objects t.values in
    record {
      sent = record { client = t.client; sequence = t.sequence; bytes = b };
      run = record { counter = t.counter; outcome = t.outcome; registers = t.registers; reads = take t.reads es; writes = drop t.reads es };
    }

-- each record with its body
abbrev pub pendings : List PendingTransaction → List (List ℕ) → List Pending
pendings [] bs = []
pendings (t ∷ ts) bs = transaction_of t (get_or bs 0 []) ∷ pendings ts (drop 1 bs)

-- the model's transactions, from a place on back at their start
abbrev pub restart_from : ℕ → List Pending → List Pending
restart_from k js = take k js ++ map replica.restarted (drop k js)

pub restarted_same : (t : PendingTransaction) (b : List ℕ) → transaction_of (restarted t) b ≡ replica.restarted (transaction_of t b)
unfolding replica.restarted start entries listed
restarted_same t b = refl

all-restarted : (ts : List PendingTransaction) (bs : List (List ℕ)) → pendings (map restarted ts) bs ≡ map replica.restarted (pendings ts bs)
all-restarted [] bs = refl
all-restarted (t ∷ ts) bs = rw (restarted_same t (get_or bs 0 []), all-restarted ts (drop 1 bs))

-- restarting commutes, whatever the place
pub restart_same : (k : ℕ) (ts : List PendingTransaction) (bs : List (List ℕ)) → pendings (restarted_behind k ts) bs ≡ restart_from k (pendings ts bs)
unfolding restarted_behind
restart_same zero ts bs = all-restarted ts bs
restart_same (suc k) [] bs = refl
restart_same (suc k) (t ∷ ts) bs = ap (transaction_of t (get_or bs 0 []) ∷◌) (restart_same k ts (drop 1 bs))

-- the place of "the first whose recorded reads no longer match its table"; past the last where all match
abbrev pub first_stale : Table → List Pending → ℕ
first_stale T [] = 0
first_stale T (j ∷ js) = cond (matches T j.run.reads) (suc (first_stale (over j.run.writes T) js)) 0

walk_from : (T : Table) (js : List Pending) → restart_from (first_stale T js) js ≡ walk T js
unfolding walk
walk_from T [] = refl
walk_from T (j ∷ js) = go' (matches T j.run.reads) (walk_from (over j.run.writes T) js)
  where
    k : ℕ
    k = first_stale (over j.run.writes T) js

    go' : (b : Bool) → restart_from k js ≡ walk (over j.run.writes T) js → restart_from (cond b (suc k) 0) (j ∷ js) ≡ cond b (j ∷ walk (over j.run.writes T) js) (map replica.restarted (j ∷ js))
    go' true h = ap (j ∷◌) h
    go' false h = refl

-- restarting from the first stale record on is the walk of a final delivery
pub walk-restart : (T : Table) (ts : List PendingTransaction) (bs : List (List ℕ)) → pendings (restarted_behind (first_stale T (pendings ts bs)) ts) bs ≡ walk T (pendings ts bs)
walk-restart T ts bs = restart_same (first_stale T (pendings ts bs)) ts bs ∙ walk_from T (pendings ts bs)

-- ---- counters

-- the counters of a replica
abbrev pub counters : Replica → Counters
counters u = record { timestamp = u.timestamp; pending = length u.pending; finished = count finished u.pending }

count-within : {A : Type 0} (q : A → Bool) (l : List A) → count q l ≤ length l
count-within q [] = omega arith
count-within q (x ∷ l) = go' (q x) (count-within q l)
  where
    go' : (b : Bool) → count q l ≤ length l → cond b (suc (count q l)) (count q l) ≤ suc (length l)
    go' true h = omega arith
    go' false h = omega arith

-- the last of a final delivery's causes
last-cause : (a b c d : Bool) → let r : ℕ = first_cause ((a, 3) ∷ (b, 4) ∷ (c, 8) ∷ (d, 9) ∷ []) in (r ≡ 0 → d ≡ false) × (r ≡ 9 → d ≡ true)
last-cause true b c d = ((λ h. absurd (omega arith)), (λ h. absurd (omega arith)))
last-cause false true c d = ((λ h. absurd (omega arith)), (λ h. absurd (omega arith)))
last-cause false false true d = ((λ h. absurd (omega arith)), (λ h. absurd (omega arith)))
last-cause false false false true = ((λ h. absurd (omega arith)), (λ h. refl))
last-cause false false false false = ((λ h. refl), (λ h. absurd (omega arith)))

module _ (l : Limits) (u : Replica) where
  -- what a final delivery's last cause looks at
  is_last : (c s : ℕ) → (refusal l (facts u) (final c s) ≡ 0 → leb last_timestamp u.timestamp ≡ false) × (refusal l (facts u) (final c s) ≡ 9 → leb last_timestamp u.timestamp ≡ true)
  unfolding refusal causes facts
  is_last c s = last-cause (leb clients c) (spent u.lasts c s) (not (any (is_key c s) (sents u.pending))) (leb last_timestamp u.timestamp)

  -- a final delivery that is taken: counted, it gives the timestamp after it
  pub delivery-counted : (c s : ℕ) → refusal l (facts u) (final c s) ≡ 0
      → (number_of_delivery u.timestamp ≡ 0) × ((delivered (counters u)).timestamp ≡ (call l u (final c s)).1.timestamp)
  unfolding call perform commit
  delivery-counted c s e = rw (e, (is_last c s).0 e, add-one u.timestamp) (refl, refl)

  -- one that is refused with 9 is so here too, and nothing changes
  pub delivery-refused : (c s : ℕ) → refusal l (facts u) (final c s) ≡ 9 → (number_of_delivery u.timestamp ≡ 9) × (delivered (counters u) ≡ counters u)
  delivery-refused c s e = rw ((is_last c s).1 e) (refl, refl)

  module _ (k : ℕ) where
    abbrev after : List Pending
    after = replica.worked (committed_table u) k u.pending

    same_length : length after ≡ length u.pending
    same_length =
        sym (length-map after (λ (j : Pending). j.sent)) ∙ ap length (worked-sents (committed_table u) k u.pending) ∙ length-map u.pending (λ (j : Pending). j.sent)

    -- work that is taken: the number of finished transactions that it answers, counted, gives the counters of the replica after it
    pub work_counted : refusal l (facts u) (execute k) ≡ 0
        → let f : ℕ = (counters (call l u (execute k)).1).finished in
        ((call l u (execute k)).0 ≡ executed (work_count (committed_table u) k u.pending) f) × (worked (counters u) f ≡ counters (call l u (execute k)).1)
    unfolding call perform
    work_counted e =
        let within : leb (count finished after) (length u.pending) ≡ true = le-leb _ _ (subst (λ (n : ℕ). count finished after ≤ n) same_length (count-within finished after)) in
        rw e (refl, rw (within, same_length))
