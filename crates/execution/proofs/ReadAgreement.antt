-- Read agreement: a run depends on its table by the values in its read set alone. An ended run is the whole run. Assumes nothing.
use Rattle.std.specs.Prelude.{◌≡◌, Bool, false, cond, ◌&&◌, List, [], ◌∷◌, ◌⊎◌, ℤ, length}
use Rattle.std.proofs.Math.Path.{refl, sym, ap}
use Rattle.std.proofs.Common.{◌∙◌, inl, arith, drop_of_length-le}
use Rattle.std.proofs.Math.Bool.{true, and-eq-true_iff}
use Rattle.std.proofs.lemmas.Bool.{false≢true}
use Rattle.std.proofs.Math.Option.{Option, none, some}
use Rattle.std.proofs.Math.Logic.{inr}
use Prim.Native.Nat.{ℕ, zero, suc, ◌≤◌, ◌<◌}
use Rattle.arith.specs.Integer.{eq_z}
use Rattle.arith.proofs.IntegerLaws.{eq_z-true}
use Rattle.operation.specs.declared.Operation.{Operation}
use Rattle.execution.specs.Entries.{Entry, append}
use Rattle.execution.specs.Run.{Table, outside, Move, get, put, go, halt, move, Run, start, known, got, put_in, stopped, apply, due, due_at, is_none, ended, obey, step, steps, whole, matches}

pub both : (a b : Bool) → a && b ≡ true → (a ≡ true) × (b ≡ true)
both a b e = (and-eq-true_iff a b).0 e

-- a store either takes place or stops the run
pub put-either : (P : Run → Type 0) (S : Table) (o : ℕ) (v : ℤ) (p : Run) → P (put_in o v p) → P (stopped outside p) → P (apply S (put o v) p)
put-either P S o v p taken refused = by (S.allow o v)
  where
    by : (t : Bool) → P (cond t (put_in o v p) (stopped outside p))
    by true = taken
    by false = refused

module _ (S : Table) where
  matches-append : (l : List Entry) (o : ℕ) (v : ℤ) → matches S (append l o v) ≡ true → (matches S l ≡ true) × (S.look o ≡ v)
  matches-append [] o v e = (refl, eq_z-true (S.look o) v (both (eq_z (S.look o) v) true e).0)
  matches-append (x ∷ l) o v e =
      let h = both (eq_z (S.look x.object) x.value) (matches S (append l o v)) e in
      let k = matches-append l o v h.1 in
      (rw (h.0, k.0), k.1)

  -- another table of the same bounds
  module _ (R : Table) (bounds : S.allow ≡ R.allow) where
    got-agree : (r o : ℕ) (p : Run) (k : Option ℤ) → matches S (got R r o p k).reads ≡ true → (matches S p.reads ≡ true) × (got S r o p k ≡ got R r o p k)
    got-agree r o p (some v) e = (e, refl)
    got-agree r o p none e = let h = matches-append p.reads o (R.look o) e in (h.0, rw h.1)

    apply-agree : (m : Move) (p : Run) → matches S (apply R m p).reads ≡ true → (matches S p.reads ≡ true) × (apply S m p ≡ apply R m p)
    apply-agree (get r o) p e = got-agree r o p (known p o) e
    apply-agree (put o v) p e = put-agree (R.allow o v) e (λ i. bounds i o v)
      where
        put-agree : (t : Bool) → matches S (cond t (put_in o v p) (stopped outside p)).reads ≡ true → S.allow o v ≡ t
            → (matches S p.reads ≡ true) × (apply S (put o v) p ≡ cond t (put_in o v p) (stopped outside p))
        put-agree true e q = (e, ap (λ (t : Bool). cond t (put_in o v p) (stopped outside p)) q)
        put-agree false e q = (e, ap (λ (t : Bool). cond t (put_in o v p) (stopped outside p)) q)
    apply-agree (go g k) p e = (e, refl)
    apply-agree (halt c) p e = (e, refl)

    obey-agree : (p : Run) (k : Option Operation) → matches S (obey R p k).reads ≡ true → (matches S p.reads ≡ true) × (obey S p k ≡ obey R p k)
    unfolding obey
    obey-agree p none e = (e, refl)
    obey-agree p (some x) e = apply-agree (move x p.registers) p e

    -- any number of operations on R, whose read set S agrees with, are the same on S
    pub steps-agree : (b : List Operation) (k : ℕ) (p : Run) → matches S (steps R b k p).reads ≡ true → steps S b k p ≡ steps R b k p
    unfolding steps step
    steps-agree b zero p e = refl
    steps-agree b (suc k) p e =
        let h = obey-agree (steps R b k p) (due b (steps R b k p)) e in
        ap (step S b) (steps-agree b k p h.0) ∙ h.1

    -- whole runs
    pub whole_agree : (b : List Operation) → matches S (whole R b).reads ≡ true → whole S b ≡ whole R b
    unfolding whole
    whole_agree b e = steps-agree b (length b) start e

-- a run past its last operation has ended
pub ended-past : (b : List Operation) (p : Run) → length b ≤ p.counter → ended b p ≡ true
ended-past b p h = by p.outcome
  where
    by : (c : ℕ) → is_none (due_at b p.counter c) ≡ true
    by zero = rw (drop_of_length-le b h)
    by (suc c) = refl

module _ (S : Table) (b : List Operation) where
  -- an ended run stays
  pub stay : (k : ℕ) (p : Run) → ended b p ≡ true → steps S b k p ≡ p
  unfolding steps step obey
  stay zero p e = refl
  stay (suc k) p e = ap (step S b) (stay k p e) ∙ one (due b p) e
    where
      one : (d : Option Operation) → is_none d ≡ true → obey S p d ≡ p
      one none e = refl
      one (some x) e = absurd (false≢true e)

  pub steps-step : (k : ℕ) (p : Run) → steps S b k (step S b p) ≡ step S b (steps S b k p)
  unfolding steps
  steps-step zero p = refl
  steps-step (suc k) p = ap (step S b) (steps-step k p)

  steps-swap : (k m : ℕ) (p : Run) → steps S b k (steps S b m p) ≡ steps S b m (steps S b k p)
  unfolding steps
  steps-swap zero m p = refl
  steps-swap (suc k) m p = ap (step S b) (steps-swap k m p) ∙ sym (steps-step m (steps S b k p))

  pub apply-counter : (m : Move) (p : Run) → p.counter < (apply S m p).counter
  apply-counter (get r o) p = omega arith
  apply-counter (put o v) p = put-either (λ (q : Run). p.counter < q.counter) S o v p (omega arith) (omega arith)
  apply-counter (go g k) p = omega arith
  apply-counter (halt c) p = omega arith

  moves-on : (k : ℕ) (p : Run) → (ended b (steps S b k p) ≡ true) ⊎ (k ≤ (steps S b k p).counter)
  unfolding steps step obey
  moves-on zero p = inr (omega arith)
  moves-on (suc k) p = next (moves-on k p)
    where
      q : Run
      q = steps S b k p

      by : (d : Option Operation) → due b q ≡ d → k ≤ q.counter → (ended b (step S b q) ≡ true) ⊎ (suc k ≤ (step S b q).counter)
      by none e h = inl (rw (e, step) (ap is_none e))
      by (some x) e h = inr (rw (e, step) (omega (arith, apply-counter (move x q.registers) q)))

      next : (ended b q ≡ true) ⊎ (k ≤ q.counter) → (ended b (step S b q) ≡ true) ⊎ (suc k ≤ (step S b q).counter)
      next (inl e) = inl (rw (stay 1 q e) e)
      next (inr h) = by (due b q) refl h

  -- as many operations as the body has, or more, reach the end, wherever the run stands
  pub enough-end : (k : ℕ) (p : Run) → length b ≤ k → ended b (steps S b k p) ≡ true
  enough-end k p h = by (moves-on k p)
    where
      by : (ended b (steps S b k p) ≡ true) ⊎ (k ≤ (steps S b k p).counter) → ended b (steps S b k p) ≡ true
      by (inl e) = e
      by (inr l) = ended-past b (steps S b k p) (omega arith)

  pub whole-ends : ended b (whole S b) ≡ true
  unfolding whole
  whole-ends = enough-end (length b) start (omega arith)

  -- an ended run is the whole run
  pub ended-whole : (k : ℕ) → ended b (steps S b k start) ≡ true → steps S b k start ≡ whole S b
  unfolding whole
  ended-whole k e = sym (stay (length b) (steps S b k start) e) ∙ steps-swap (length b) k start ∙ stay k (whole S b) whole-ends

  pub enough : (k : ℕ) → length b ≤ k → steps S b k start ≡ whole S b
  enough k h = ended-whole k (enough-end k start h)
