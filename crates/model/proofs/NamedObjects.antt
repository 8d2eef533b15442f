-- The objects that a body names: on any table a run reads from outside only what a load of its body names, and stores only what a store names. So two
-- bodies are apart on every table if neither stores an object that the other loads or stores. Assumes nothing.
use Rattle.std.specs.Prelude.{◌≡◌, Bool, not, cond, ◌||◌, ℤ, ◌+ℤ◌, ◌-ℤ◌, eqb, length, set, drop}
use Rattle.std.proofs.Math.Path.{refl}
use Rattle.std.proofs.Common.{ap, ◌∙◌, eq-eqb, eqb-true}
use Rattle.std.proofs.Math.Bool.{true, false}
use Rattle.std.proofs.lemmas.Bool.{false≢true, eqb-false, not-true}
use Rattle.std.proofs.Math.Option.{Option, none, some, none-ne-some, some-injective}
use mathlib.Core.List.{List, [], ◌∷◌, head?}
use Prim.Native.Nat.{ℕ, zero, suc}
use Rattle.arith.specs.Integer.{fits}
use Rattle.operation.specs.declared.Operation.{Operation}
use Rattle.operation.specs.declared.Operation.TheVariants.{Load, Store, Set, Add, Subtract, Skip, Fail, Divide}
use Rattle.execution.specs.Entries.{lookup, update}
use Rattle.execution.specs.Run.{Table, Stop, failed, overflowed, outside, get, put, go, halt, register, sum, move, Run, start, known, got, stopped, apply, due, due_at, obey, step, steps, whole}
use Rattle.execution.proofs.ReadAgreement.{both, put-either}
use Rattle.execution.proofs.RunShapeLaws.{lookup-update_other}
use Rattle.model.specs.Lists.{any, all}
use Rattle.model.proofs.ListLaws.{or_left, or_right}
use Rattle.model.proofs.Tests.{neither, all_weaker}
use Rattle.model.specs.Serial.{is_some}
use Rattle.model.specs.Replica.{Replica, committed_table}
use Rattle.model.proofs.EntrySets.{OnEach, on_each_append, disjoint-by}
use Rattle.model.specs.Exchange.{Key, apart, body_of, alone, may_pass, deliverable, pairwise, exchangeable, loaded, stored, is_at, body_loads, body_stores, leaves_alone, clear, bodies_apart, bodies_may_pass, exchangeable_by_bodies}

-- ---- the operation that is due is one of the body's

head_in : (i : ℕ) (b : List Operation) (x : Operation) → head? (drop i b) ≡ some x → (q : Operation → Bool) → q x ≡ true → any q b ≡ true
head_in zero [] x e q h = absurd (none-ne-some x e)
head_in zero (y ∷ b) x e q h = or_left (q y) (any q b) (ap q (some-injective y x e) ∙ h)
head_in (suc i) [] x e q h = absurd (none-ne-some x e)
head_in (suc i) (y ∷ b) x e q h = or_right (q y) (any q b) (head_in i b x e q h)

due_in : (b : List Operation) (p : Run) (x : Operation) → due b p ≡ some x → (q : Operation → Bool) → q x ≡ true → any q b ≡ true
due_in b p x e q h = by p.outcome e
  where
    by : (c : ℕ) → due_at b p.counter c ≡ some x → any q b ≡ true
    by zero e = head_in p.counter b x e q h
    by (suc c) e = absurd (none-ne-some x e)

-- ---- a run's sets

record Named (b : List Operation) (p : Run) : Type 0 where
  reads : OnEach (body_loads b) p.reads
  writes : OnEach (body_stores b) p.writes

module _ (T : Table) (b : List Operation) where
  stop-named : (s : Stop) (p : Run) → Named b p → Named b (stopped s p)
  stop-named s p h = record { reads = h.reads; writes = λ o e. absurd (false≢true e) }

  sum-named : (r : ℕ) (z : ℤ) (p : Run) → Named b p → Named b (apply T (sum p.registers r z) p)
  unfolding sum
  sum-named r z p h = by (fits z)
    where
      by : (k : Bool) → Named b (apply T (cond k (go (set p.registers r z) 0) (halt overflowed)) p)
      by true = record { reads = h.reads; writes = h.writes }
      by false = stop-named overflowed p h

  -- an operation of the body
  module _ (x : Operation) (p : Run) (in_Body : (q : Operation → Bool) → q x ≡ true → any q b ≡ true) (h : Named b p) where
    load_named : (r o : ℕ) → loaded x ≡ some o → Named b (apply T (get r o) p)
    load_named r o e = by (known p o)
      where
        by : (k : Option ℤ) → Named b (got T r o p k)
        by (some v) = record { reads = h.reads; writes = h.writes }
        by none =
            record { reads = on_each_append (body_loads b) p.reads o (T.look o) (in_Body (λ (y : Operation). is_at o (loaded y)) (rw (e, eq-eqb o o refl))) h.reads; writes = h.writes }

    store_named : (o : ℕ) (v : ℤ) → stored x ≡ some o → Named b (apply T (put o v) p)
    store_named o v e =
        put-either (Named b) T o v p (record { reads = h.reads; writes = λ i s. by i (eqb i o) refl s }) (stop-named outside p h)
      where
        by : (i : ℕ) (k : Bool) → eqb i o ≡ k → is_some (lookup (update p.writes o v) i) ≡ true → body_stores b i ≡ true
        by i true q s = in_Body (λ (y : Operation). is_at i (stored y)) (rw (e, eqb-true i o q, eq-eqb o o refl))
        by i false q s = h.writes i (rw (← (lookup-update_other p.writes o v i (eqb-false i o q))) s)

  operation_named : (x : Operation) (p : Run) → ((q : Operation → Bool) → q x ≡ true → any q b ≡ true) → Named b p → Named b (apply T (move x p.registers) p)
  unfolding move
  operation_named (Load r o) p i h = load_named (Load r o) p i h r o refl
  operation_named (Store r o) p i h = store_named (Store r o) p i h o (register p.registers r) refl
  operation_named (Set r v) p i h = record { reads = h.reads; writes = h.writes }
  operation_named (Add r s) p i h = sum-named r (register p.registers r +ℤ register p.registers s) p h
  operation_named (Subtract r s) p i h = sum-named r (register p.registers r -ℤ register p.registers s) p h
  operation_named (Skip r k) p i h = record { reads = h.reads; writes = h.writes }
  operation_named Fail p i h = stop-named failed p h
  operation_named (Divide r d) p i h = record { reads = h.reads; writes = h.writes }

  steps-named : (k : ℕ) → Named b (steps T b k start)
  unfolding steps step obey start
  steps-named zero = record { reads = λ o e. absurd (false≢true e); writes = λ o e. absurd (false≢true e) }
  steps-named (suc k) = by (due b (steps T b k start)) refl (steps-named k)
    where
      by : (d : Option Operation) → due b (steps T b k start) ≡ d → Named b (steps T b k start) → Named b (obey T (steps T b k start) d)
      by none e h = h
      by (some x) e h = operation_named x (steps T b k start) (due_in b (steps T b k start) x e) h

  whole-named : Named b (whole T b)
  unfolding whole
  whole-named = steps-named (length b)

-- ---- bodies

clear-says : (b d : List Operation) → clear b d ≡ true → (o : ℕ) → body_stores b o ≡ true → (body_loads d o ≡ false) × (body_stores d o ≡ false)
unfolding clear
clear-says [] d e o s = absurd (false≢true s)
clear-says (x ∷ b) d e o s =
    let k = both (leaves_alone d (stored x)) (all (λ (y : Operation). leaves_alone d (stored y)) b) e in
    by (stored x) k.0 s (clear-says b d k.1 o)
  where
    by : (i : Option ℕ) → leaves_alone d i ≡ true → is_at o i || body_stores b o ≡ true → (body_stores b o ≡ true → (body_loads d o ≡ false) × (body_stores d o ≡ false)) → (body_loads d o ≡ false) × (body_stores d o ≡ false)
    by none e s k = k s
    by (some i) e s k = at (eqb i o) refl s
      where
        at : (c : Bool) → eqb i o ≡ c → c || body_stores b o ≡ true → (body_loads d o ≡ false) × (body_stores d o ≡ false)
        at true q s = rw (eqb-true i o q) at (neither (body_loads d i) (body_stores d i) (not-true (body_loads d i || body_stores d i) e))
        at false q s = k s

-- on every table
pub runs-apart : (b d : List Operation) → bodies_apart b d ≡ true → (T : Table) → apart (whole T b) (whole T d) ≡ true
unfolding apart bodies_apart
runs-apart b d e T =
    let (ahead, back) = both (clear b d) (clear d b) e in
    let p = whole-named T b in
    let q = whole-named T d in
    rw (
      disjoint-by (body_stores b) (body_loads d) (whole T d).reads q.reads (λ o s. (clear-says b d ahead o s).0) (whole T b).writes p.writes,
      disjoint-by (body_stores d) (body_loads b) (whole T b).reads p.reads (λ o s. (clear-says d b back o s).0) (whole T d).writes q.writes,
      disjoint-by (body_stores b) (body_stores d) (whole T d).writes q.writes (λ o s. (clear-says b d ahead o s).1) (whole T b).writes p.writes,
    )

-- so what the bodies tell is enough
module _ (u : Replica) where
  passes : (j k : Key) → bodies_may_pass u j k ≡ true → may_pass u j k ≡ true
  unfolding may_pass bodies_may_pass alone
  passes j k e =
      let (differ, bodies) = both (not (eqb j.client k.client)) (bodies_apart (body_of u j) (body_of u k)) e in
      rw (differ, runs-apart (body_of u j) (body_of u k) bodies (committed_table u))

  pairs : (ks : List Key) → pairwise (bodies_may_pass u) ks ≡ true → pairwise (may_pass u) ks ≡ true
  pairs [] e = refl
  pairs (k ∷ ks) e =
      let (each, rest) = both (all (bodies_may_pass u k) ks) (pairwise (bodies_may_pass u) ks) e in
      rw (all_weaker (bodies_may_pass u k) (may_pass u k) ks (passes k) each, pairs ks rest)

  pub by_bodies : (ks : List Key) → exchangeable_by_bodies u ks ≡ true → exchangeable u ks ≡ true
  unfolding exchangeable exchangeable_by_bodies
  by_bodies ks e =
      let (ready, passing) = both (deliverable u ks) (pairwise (bodies_may_pass u) ks) e in
      rw (ready, pairs ks passing)
