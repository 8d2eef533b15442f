-- The tests of a final delivery: what they say of whichever replica the record area holds. Assumes nothing.
use Rattle.std.specs.Prelude.{◌≡◌, refl, Bool, true, false, not, List, [], ◌∷◌, ℕ, zero, suc, ◌≤◌, ◌<◌, leb, ltb, length, get_or, Some, Result, Ok, Err}
use Rattle.std.specs.Option.{ok_or}
use Rattle.std.proofs.Common.{sym, ap, ◌∙◌, subst, arith, le-leb, lt-ltb, le-ltb}
use Rattle.std.proofs.Math.Option.{none}
use Rattle.std.proofs.lemmas.Bool.{lt-leb}
use Rattle.cells.specs.Cells.{cells, Below}
use Rattle.model.specs.declared.Limits.{Limits}
use Rattle.model.specs.declared.OptimisticPosition.{OptimisticPosition}
use Rattle.model.specs.declared.Refusal as refusals
use Rattle.model.specs.declared.Refusal.{Refusal}
use Rattle.model.specs.Lists.{index}
use Rattle.model.specs.Calls.{Call, final, Answer, refused, clients, last_timestamp, is_key, spent, first_cause, causes, refusal}
use Rattle.model.specs.Answers.{number}
use Rattle.model.specs.Replica.{Pending, Replica, has_key, pending_of, keyed, facts}
use Rattle.model.proofs.ListLaws.{any-map, any-index, pick-index}
use Rattle.layout.specs.Layout.{Areas, parse}
use Rattle.layout.specs.Offsets.{Sane}
use Rattle.layout.specs.Holds.{Holds}
use Rattle.layout.proofs.Reading.{get-timestamp}
use Rattle.layout.specs.Fit.{fit}
use Rattle.layout.specs.Act.{asked}
use Rattle.layout.proofs.Areas.{act-refused}
use Rattle.layout.specs.Contract.{Met, Passed}
use Rattle.layout.proofs.ContractLaws.{passed}
use Rattle.queue.specs.declared.Place.{Place}
use Rattle.queue.specs.Place.{Located, Spent, found-there, found-nowhere}

-- areas that pass the shape check
pub record Shaped (l : Limits) (a : Areas) : Type 0 where
  pub sane : Sane l
  pub bytes : Below 256 a.0
  pub fits : fit l a ≡ true

pub shaped-passed : {l : Limits} {a : Areas} → Shaped l a → Passed l a
shaped-passed {l} {a} q = passed l q.sane a q.bytes q.fits

-- ---- what they come to

-- the final delivery of (c, s) is accepted: it stands at position i, and a timestamp is left
pub record Admitted (l : Limits) (u : Replica) (c s i : ℕ) : Type 0 where
  pub accepted : refusal l (facts u) (final c s) ≡ 0
  pub client : c < clients
  pub position : i ≡ index (has_key c s) u.pending
  pub there : i < length u.pending
  pub before : u.timestamp < last_timestamp

-- a refusal, by its number
pub record Turned (l : Limits) (u : Replica) (c s k : ℕ) : Type 0 where
  pub number : refusal l (facts u) (final c s) ≡ k
  pub some : 0 < k

-- what a result says of the replica u
abbrev pub Judged : Limits → Replica → ℕ → ℕ → Result OptimisticPosition Refusal → Type 0
Judged l u c s (Ok p) = Admitted l u c s p.0
Judged l u c s (Err k) = Turned l u c s (number k)

-- what `admit` ensures, of whichever replica the record area holds
pub record Admits (l : Limits) (b : List ℕ) (c s : ℕ) (r : Result OptimisticPosition Refusal) : Type 0 where
  pub judged : (u : Replica) → Holds l b u → Judged l u c s r

-- what it says of u, once it is known which variant the result is
module _ {l : Limits} {b : List ℕ} {u : Replica} {c s : ℕ} {r : Result OptimisticPosition Refusal} (h : Holds l b u) (q : Admits l b c s r) where
  pub admits_at : {p : OptimisticPosition} → r ≡ Ok p → Admitted l u c s p.0
  admits_at e = subst (Judged l u c s) e (q.judged u h)

  pub admits_refused : {k : Refusal} → r ≡ Err k → Turned l u c s (number k)
  admits_refused e = subst (Judged l u c s) e (q.judged u h)

-- the transaction that a delivery of the key speaks of is the one that stands there
pub admitted_keyed : {l : Limits} {u : Replica} {c s i : ℕ} → Admitted l u c s i → keyed u c s ≡ get_or u.pending i (pending_of none)
admitted_keyed {l} {u} {c} {s} {i} f =
    ap pending_of (pick-index (has_key c s) (pending_of none) u.pending (omega (arith, f.position, f.there)))
    ∙ sym (ap (λ (x : ℕ). get_or u.pending x (pending_of none)) f.position)

-- A refusal on areas that pass the check: its number, and both areas as they were. The call is the final delivery, or one that is judged as it is.
pub met_turned : {l : Limits} {a : Areas} {c s : ℕ} (x : Call) → asked l x a ≡ true → refusal l (facts (parse l a)) x ≡ refusal l (facts (parse l a)) (final c s)
    → (k : ℕ) → Turned l (parse l a) c s k → Met l x a (refused k) a
met_turned x fine same zero f = absurd (omega (arith, f.some))
met_turned {l} {a} x fine same (suc k) f =
    let e = act-refused l x a k fine (same ∙ f.number) in
    record { answers = sym (ap (λ (w : Answer × Areas). w.0) e); areas = sym (ap (λ (w : Answer × Areas). w.1) e) }

-- ---- from the tests

-- the causes, by what the code tests
module _ (l : Limits) (u : Replica) (c s : ℕ) where
  tests : (b₁ b₂ b₃ b₄ : Bool) → leb clients c ≡ b₁ → spent u.lasts c s ≡ b₂ → ltb (index (has_key c s) u.pending) (length u.pending) ≡ b₃ → leb last_timestamp u.timestamp ≡ b₄
      → refusal l (facts u) (final c s) ≡ first_cause ((b₁, 3) ∷ (b₂, 4) ∷ (not b₃, 8) ∷ (b₄, 9) ∷ [])
  unfolding refusal causes facts
  tests b₁ b₂ b₃ b₄ e₁ e₂ e₃ e₄ =
      let queued = any-map (λ (j : Pending). j.sent) (is_key c s) u.pending ∙ any-index (has_key c s) u.pending in
      rw (queued, e₁, e₂, e₃, e₄)

-- the key is not spent
pub record Fresh (u : Replica) (c s : ℕ) : Type 0 where
  pub client : c < clients
  pub fresh : spent u.lasts c s ≡ false

-- it stands at position i
pub record Standing (u : Replica) (c s i : ℕ) : Type 0 where
  pub fresh : Fresh u c s
  pub position : i ≡ index (has_key c s) u.pending
  pub there : i < length u.pending

module _ {l : Limits} {b : List ℕ} {u : Replica} (o : Sane l) (h : Holds l b u) where
  pub no_client : {c : ℕ} (s : ℕ) → clients ≤ c → Turned l u c s 3
  no_client {c} s k = record { number = tests l u c s true _ _ _ (le-leb clients c k) refl refl refl; some = omega arith }

  -- r says whether the key is spent
  module _ {c s : ℕ} {r : Bool} (k : c < clients) (e : Spent l b c s r) where
    pub is_spent : r ≡ true → Turned l u c s 4
    is_spent m = record { number = tests l u c s false true _ _ (lt-leb clients c k) (sym (e.test u h) ∙ m) refl refl; some = omega arith }

    pub is-fresh : r ≡ false → Fresh u c s
    is-fresh m = record { client = k; fresh = sym (e.test u h) ∙ m }

  -- r is the place that was found, if it was
  module _ {c s : ℕ} {r : Place} (f : Fresh u c s) (e : Located l b c s r) where
    pub is-missing : {k : Refusal} → Err k ≡ ok_or r.position refusals.TheVariants.NotPending → Turned l u c s (number k)
    is-missing m =
        let q = found-nowhere e m in
        let behind = le-ltb (index (has_key c s) u.pending) (length u.pending) (omega (arith, q.1 u h)) in
        rw q.0 (record { number = tests l u c s false false false _ (lt-leb clients c f.client) f.fresh behind refl; some = omega arith })

    pub is-standing : {p : OptimisticPosition} → r.position ≡ Some p → Standing u c s p.0
    is-standing m = let q = found-there e m u h in record { fresh = f; position = q.0; there = q.1 }

  -- t is the timestamp now
  module _ {c s i t : ℕ} (f : Standing u c s i) (e : t ≡ get_or (cells b) 0 0) where
    now-at : t ≡ u.timestamp
    now-at = e ∙ get-timestamp l o b u h

    last-test : (x : Bool) → leb last_timestamp u.timestamp ≡ x → refusal l (facts u) (final c s) ≡ first_cause ((x, 9) ∷ [])
    last-test x =
        let among = lt-ltb (index (has_key c s) u.pending) (length u.pending) (omega (arith, f.position, f.there)) in
        tests l u c s false false true x (lt-leb clients c f.fresh.client) f.fresh.fresh among

    pub is_last : last_timestamp ≤ t → Turned l u c s 9
    is_last y = record { number = last-test true (le-leb last_timestamp u.timestamp (omega (arith, now-at))); some = omega arith }

    pub is-admitted : t < last_timestamp → Admitted l u c s i
    is-admitted y =
        let low : u.timestamp < last_timestamp = omega (arith, now-at) in
        record {
          accepted = last-test false (lt-leb last_timestamp u.timestamp low);
          client = f.fresh.client;
          position = f.position;
          there = f.there;
          before = low;
        }
