-- What follows from `specs/RunShape`. Assumes nothing.
use Rattle.std.specs.Prelude.{◌≡◌, ◌≢◌, Bool, true, false, not, cond, ℤ, pos, ◌+ℤ◌, ◌-ℤ◌, eqb, ltb, length, set, replicate}
use Rattle.std.proofs.Math.Path.{refl}
use Rattle.std.proofs.Common.{sym, ap, ◌∙◌, inl, inr, true≢false, arith, length-set, length-drop, eq-eqb, ne_eqb, eqb-true, lt-ltb}
use Rattle.std.proofs.Math.Option.{Option, none, some, get_or, none-ne-some, some-injective}
use mathlib.Core.List.{List, [], ◌∷◌}
use Prim.Native.Nat.{ℕ, zero, suc, ◌+◌, ◌≤◌, ◌<◌}
use Rattle.std.specs.Int.Signed.{lt_z}
use Rattle.std.proofs.Math.ListN.{drop}
use Rattle.std.proofs.lemmas.List.{length-replicate}
use Rattle.std.proofs.lemmas.Bool.{eqb-false}
use Rattle.arith.specs.Integer.{fits, quotient}
use Rattle.arith.proofs.IntegerLaws.{quotient_fits}
use Rattle.operation.specs.Body.{register_count}
use Rattle.operation.specs.BodyLaws.{Valid}
use Rattle.operation.specs.declared.Operation.{Operation}
use Rattle.operation.specs.declared.Operation.TheVariants.{Load, Store, Set, Add, Subtract, Skip, Fail, Divide}
use Rattle.execution.specs.Entries.{Entry, entry, lookup, update, append}
use Rattle.execution.specs.Run.{Table, Stop, failed, overflowed, outside, outcome_of, Move, get, put, go, halt, register, sum, move, Run, start, or_else, recorded, put_in, stopped, apply, due, ended, obey, step, steps, over}
use Rattle.execution.proofs.ReadAgreement.{both, put-either}
use Rattle.execution.specs.RunShape.{is_some, distinct, sound, every, Entries, all_fit, Shaped, Fine, AllInside}

-- ---- read sets and write sets

pub lookup-update_same : (l : List Entry) (o : ℕ) (v : ℤ) → lookup (update l o v) o ≡ some v
lookup-update_same [] o v = rw (eq-eqb o o refl)
lookup-update_same (x ∷ l) o v = go' (eqb x.object o) refl (lookup-update_same l o v)
  where
    go' : (b : Bool) → eqb x.object o ≡ b → lookup (update l o v) o ≡ some v → lookup (cond b (entry o v ∷ l) (x ∷ update l o v)) o ≡ some v
    go' true e h = rw (eq-eqb o o refl)
    go' false e h = rw e h

pub lookup-update_other : (l : List Entry) (o : ℕ) (v : ℤ) (j : ℕ) → j ≢ o → lookup (update l o v) j ≡ lookup l j
lookup-update_other [] o v j h = rw (ne_eqb o j (λ e. h (sym e)))
lookup-update_other (x ∷ l) o v j h = go' (eqb x.object o) refl (lookup-update_other l o v j h)
  where
    go' : (b : Bool) → eqb x.object o ≡ b → lookup (update l o v) j ≡ lookup l j → lookup (cond b (entry o v ∷ l) (x ∷ update l o v)) j ≡ lookup (x ∷ l) j
    go' true e i = rw (ne_eqb o j (λ q. h (sym q)), ne_eqb x.object j (λ q. h (sym q ∙ eqb-true x.object o e)))
    go' false e i = ap (cond (eqb x.object j) (some x.value)) i

pub length-update : (l : List Entry) (o : ℕ) (v : ℤ) → length (update l o v) ≡ cond (is_some (lookup l o)) (length l) (suc (length l))
length-update [] o v = refl
length-update (x ∷ l) o v = go' (eqb x.object o) (lookup l o) (length-update l o v)
  where
    go' : (b : Bool) (k : Option ℤ) → length (update l o v) ≡ cond (is_some k) (length l) (suc (length l))
        → length (cond b (entry o v ∷ l) (x ∷ update l o v)) ≡ cond (is_some (cond b (some x.value) k)) (suc (length l)) (suc (suc (length l)))
    go' true k h = refl
    go' false none h = ap suc h
    go' false (some w) h = ap suc h

distinct-update : (l : List Entry) (o : ℕ) (v : ℤ) → distinct l ≡ true → distinct (update l o v) ≡ true
distinct-update [] o v h = refl
distinct-update (x ∷ l) o v h =
    let k = both (not (is_some (lookup l x.object))) (distinct l) h in
    go' (eqb x.object o) refl k.0 k.1 (distinct-update l o v k.1)
  where
    go' : (b : Bool) → eqb x.object o ≡ b → not (is_some (lookup l x.object)) ≡ true → distinct l ≡ true → distinct (update l o v) ≡ true → distinct (cond b (entry o v ∷ l) (x ∷ update l o v)) ≡ true
    go' true e f a i = rw (← (eqb-true x.object o e), f, a)
    go' false e f a i = rw (lookup-update_other l o v x.object (eqb-false x.object o e), f, i)

every-update : (q : Entry → Bool) (l : List Entry) (o : ℕ) (v : ℤ) → q (entry o v) ≡ true → every q l ≡ true → every q (update l o v) ≡ true
every-update q [] o v e h = rw e
every-update q (x ∷ l) o v e h =
    let k = both (q x) (every q l) h in
    go' (eqb x.object o) k.0 k.1 (every-update q l o v e k.1)
  where
    go' : (b : Bool) → q x ≡ true → every q l ≡ true → every q (update l o v) ≡ true → every q (cond b (entry o v ∷ l) (x ∷ update l o v)) ≡ true
    go' true f a i = rw (e, a)
    go' false f a i = rw (f, i)

-- an object that does not stand yet comes last
pub update-absent : (l : List Entry) (o : ℕ) (v : ℤ) → lookup l o ≡ none → update l o v ≡ append l o v
update-absent [] o v h = refl
update-absent (x ∷ l) o v h = go' (eqb x.object o) h (update-absent l o v)
  where
    go' : (b : Bool) → cond b (some x.value) (lookup l o) ≡ none → (lookup l o ≡ none → update l o v ≡ append l o v) → cond b (entry o v ∷ l) (x ∷ update l o v) ≡ x ∷ append l o v
    go' true h i = absurd (none-ne-some x.value (sym h))
    go' false h i = ap (x ∷◌) (i h)

update-longer : (l : List Entry) (o : ℕ) (v : ℤ) → length (update l o v) ≤ suc (length l)
update-longer l o v = rw (length-update l o v) (go' (is_some (lookup l o)))
  where
    go' : (b : Bool) → cond b (length l) (suc (length l)) ≤ suc (length l)
    go' true = omega arith
    go' false = omega arith

pub entries-update : (n : ℕ) (l : List Entry) (o : ℕ) (v : ℤ) → o < n → fits v ≡ true → Entries n l → Entries n (update l o v)
entries-update n l o v h e k =
    record { names = distinct-update l o v k.names; values = every-update (sound n) l o v (rw (lt-ltb o n h, e)) k.values }

pub lookup-fits : (n : ℕ) (l : List Entry) (o : ℕ) (v : ℤ) → every (sound n) l ≡ true → lookup l o ≡ some v → fits v ≡ true
lookup-fits n [] o v h e = absurd (none-ne-some v e)
lookup-fits n (x ∷ l) o v h e =
    let k = both (sound n x) (every (sound n) l) h in
    go' (eqb x.object o) e (both (ltb x.object n) (fits x.value) k.0).1 (lookup-fits n l o v k.1)
  where
    go' : (b : Bool) → cond b (some x.value) (lookup l o) ≡ some v → fits x.value ≡ true → (lookup l o ≡ some v → fits v ≡ true) → fits v ≡ true
    go' true e t i = rw (some-injective x.value v e) at t
    go' false e t i = i e

all_fit-set : (l : List ℤ) (i : ℕ) (z : ℤ) → fits z ≡ true → all_fit l ≡ true → all_fit (set l i z) ≡ true
all_fit-set [] i z e h = refl
all_fit-set (x ∷ l) zero z e h = rw (e, (both (fits x) (all_fit l) h).1)
all_fit-set (x ∷ l) (suc i) z e h = let k = both (fits x) (all_fit l) h in rw (k.0, all_fit-set l i z e k.1)

zero-fits : fits (pos 0) ≡ true
unfolding fits
zero-fits = refl

register-fits : (l : List ℤ) (i : ℕ) → all_fit l ≡ true → fits (register l i) ≡ true
register-fits [] i h = zero-fits
register-fits (x ∷ l) zero h = (both (fits x) (all_fit l) h).0
register-fits (x ∷ l) (suc i) h = register-fits l i (both (fits x) (all_fit l) h).1

summed : (n left : ℕ) (g : List ℤ) (r : ℕ) (z : ℤ) → length g ≡ register_count → all_fit g ≡ true → Fine n left (sum g r z)
unfolding sum
summed n left g r z c a = go' (fits z) refl
  where
    go' : (b : Bool) → fits z ≡ b → Fine n left (cond b (go (set g r z) 0) (halt overflowed))
    go' true e = (omega arith, length-set g r z ∙ c, all_fit-set g r z e a)
    go' false e = tt

fine : (n left : ℕ) (x : Operation) (g : List ℤ) → Valid n left x → length g ≡ register_count → all_fit g ≡ true → Fine n left (move x g)
unfolding move
fine n left (Load r o) g v c a = v.1
fine n left (Store r o) g v c a = (v.1, register-fits g r a)
fine n left (Set r z) g v c a = (omega arith, length-set g r z ∙ c, all_fit-set g r z v.1 a)
fine n left (Add r s) g v c a = summed n left g r (register g r +ℤ register g s) c a
fine n left (Subtract r s) g v c a = summed n left g r (register g r -ℤ register g s) c a
fine n left (Skip r k) g v c a = (go' (lt_z (register g r) (pos 0)), c, a)
  where
    go' : (b : Bool) → cond b k 0 ≤ left
    go' true = let h = v.2 in omega arith
    go' false = omega arith
fine n left Fail g v c a = tt
fine n left (Divide r d) g v c a =
    (omega arith, length-set g r _ ∙ c, all_fit-set g r (quotient (register g r) d) (quotient_fits (register g r) d (register-fits g r a) v.1) a)

pub stop-least : (s : Stop) → outcome_of s ≤ 3
stop-least failed = omega arith
stop-least overflowed = omega arith
stop-least outside = omega arith

-- the operation at the counter, the rest after it
drop-room : (b : List Operation) (i : ℕ) (x : Operation) (rest : List Operation) → drop i b ≡ x ∷ rest → length b ≡ suc (i + length rest)
drop-room b i x rest e = let k = ap length e in omega (arith, length-drop i b)

module _ (n : ℕ) (b : List Operation) (S : Table) (values : (o : ℕ) → fits (S.look o) ≡ true) where
  got-facts : (p : Run) (o : ℕ) (k j : Option ℤ) → lookup p.writes o ≡ k → lookup p.reads o ≡ j → o < n → Shaped n b p
      → (fits (get_or (or_else k j) (S.look o)) ≡ true) × Entries n (recorded p.reads o (S.look o) (or_else k j)) × (length (recorded p.reads o (S.look o) (or_else k j)) ≤ suc (length p.reads))
  got-facts p o (some w) j ek ej h v = (lookup-fits n p.writes o w v.writes.values ek, v.reads, omega arith)
  got-facts p o none (some w) ek ej h v = (lookup-fits n p.reads o w v.reads.values ej, v.reads, omega arith)
  got-facts p o none none ek ej h v =
      (values o, rw (← (update-absent p.reads o (S.look o) ej)) (entries-update n p.reads o (S.look o) h (values o) v.reads), rw (← (update-absent p.reads o (S.look o) ej)) (update-longer p.reads o (S.look o)))

  -- a store inside the bounds, and an early stop
  put-shaped : (p : Run) (o : ℕ) (w : ℤ) (left : ℕ) → Fine n left (put o w) → length b ≡ suc (p.counter + left) → Shaped n b p → Shaped n b (put_in o w p)
  put-shaped p o w left f m v =
      record {
        begun = inl (omega arith);
        within = omega arith;
        outcome = omega arith;
        stopped = inl refl;
        room = (let k = v.room in omega (arith, update-longer p.writes o w));
        reads = v.reads;
        writes = entries-update n p.writes o w f.0 f.1 v.writes;
        count = v.count;
        values = v.values;
      }

  stop-shaped : (p : Run) (s : Stop) (left : ℕ) → length b ≡ suc (p.counter + left) → Shaped n b p → Shaped n b (stopped s p)
  stop-shaped p s left m v =
      record {
        begun = inl (omega arith);
        within = omega arith;
        outcome = stop-least s;
        stopped = inr refl;
        room = (let k = v.room in omega arith);
        reads = v.reads;
        writes = record { names = refl; values = refl };
        count = v.count;
        values = v.values;
      }

  apply-shaped : (p : Run) (m : Move) (left : ℕ) → Fine n left m → length b ≡ suc (p.counter + left) → Shaped n b p → Shaped n b (apply S m p)
  apply-shaped p (get r o) left f m v =
      let g = got-facts p o (lookup p.writes o) (lookup p.reads o) refl refl f v in
      record {
        begun = inl (omega arith);
        within = omega arith;
        outcome = omega arith;
        stopped = inl refl;
        room = (let k = v.room in let l = g.2 in omega arith);
        reads = g.1;
        writes = v.writes;
        count = length-set p.registers r _ ∙ v.count;
        values = all_fit-set p.registers r _ g.0 v.values;
      }
  apply-shaped p (put o w) left f m v =
      put-either (Shaped n b) S o w p (put-shaped p o w left f m v) (stop-shaped p outside left m v)
  apply-shaped p (go h k) left f m v =
      record {
        begun = inl (omega arith);
        within = (let l = f.0 in omega arith);
        outcome = omega arith;
        stopped = inl refl;
        room = (let k = v.room in omega arith);
        reads = v.reads;
        writes = v.writes;
        count = f.1;
        values = f.2;
      }
  apply-shaped p (halt s) left f m v = stop-shaped p s left m v

  -- the body's operations are valid wherever the counter stands
  module _ (valid : (i : ℕ) (x : Operation) (rest : List Operation) → drop i b ≡ x ∷ rest → Valid n (length rest) x) where
    step-shaped : (p : Run) → Shaped n b p → Shaped n b (step S b p)
    unfolding step obey
    step-shaped p v = at p.outcome refl (drop p.counter b) refl
      where
        at : (c : ℕ) → p.outcome ≡ c → (l : List Operation) → drop p.counter b ≡ l → Shaped n b (obey S p (due b p))
        at zero z [] e = let d : due b p ≡ none = rw (z, e) in rw d v
        at zero z (x ∷ rest) e =
            let d : due b p ≡ some x = rw (z, e) in
            rw d (apply-shaped p (move x p.registers) (length rest) (fine n (length rest) x p.registers (valid p.counter x rest e) v.count v.values) (drop-room b p.counter x rest e) v)
        at (suc c) z l e = let d : due b p ≡ none = rw z in rw d v

    -- any number of operations
    pub steps-shaped : (k : ℕ) (p : Run) → Shaped n b p → Shaped n b (steps S b k p)
    unfolding steps
    steps-shaped zero p v = v
    steps-shaped (suc k) p v = step-shaped (steps S b k p) (steps-shaped k p v)

all_fit-zeros : (k : ℕ) → all_fit (replicate k (pos 0)) ≡ true
all_fit-zeros zero = refl
all_fit-zeros (suc k) = rw (zero-fits, all_fit-zeros k)

pub start-shaped : (n : ℕ) (b : List Operation) → Shaped n b start
unfolding start
start-shaped n b =
    record {
      begun = inr refl;
      within = omega arith;
      outcome = omega arith;
      stopped = inl refl;
      room = omega arith;
      reads = record { names = refl; values = refl };
      writes = record { names = refl; values = refl };
      count = length-replicate register_count (pos 0);
      values = all_fit-zeros register_count;
    }

module _ (b : List Operation) (S : Table) where
  apply-inside : (p : Run) (m : Move) → AllInside S.allow p.writes → AllInside S.allow (apply S m p).writes
  apply-inside p (get r o) e = e
  apply-inside p (put o v) e = by (S.allow o v) refl
    where
      by : (t : Bool) → S.allow o v ≡ t → AllInside S.allow (cond t (put_in o v p) (stopped outside p)).writes
      by true q = every-update (λ x. S.allow x.object x.value) p.writes o v q e
      by false q = refl
  apply-inside p (go g k) e = e
  apply-inside p (halt s) e = refl

  pub steps-inside : (k : ℕ) (p : Run) → AllInside S.allow p.writes → AllInside S.allow (steps S b k p).writes
  unfolding steps step obey
  steps-inside zero p e = e
  steps-inside (suc k) p e = by (due b (steps S b k p)) (steps-inside k p e)
    where
      by : (d : Option Operation) → AllInside S.allow (steps S b k p).writes → AllInside S.allow (obey S (steps S b k p) d).writes
      by none e = e
      by (some x) e = apply-inside (steps S b k p) (move x (steps S b k p).registers) e

-- an ended run with outcome 0 is past its last operation
pub ended-counter : (n : ℕ) (b : List Operation) (p : Run) → Shaped n b p → ended b p ≡ true → p.outcome ≡ 0 → p.counter ≡ length b
ended-counter n b p v e z = go' (drop p.counter b) refl
  where
    go' : (l : List Operation) → drop p.counter b ≡ l → p.counter ≡ length b
    go' [] d = let k = ap length d in let h = v.within in omega (arith, length-drop p.counter b)
    go' (x ∷ rest) d = let q : ended b p ≡ false = rw (z, d) in absurd (true≢false (sym e ∙ q))

-- a table of 64-bit values stays one under a write set
pub over-fits : (n : ℕ) (s : List Entry) (S : Table) → Entries n s → ((o : ℕ) → fits (S.look o) ≡ true) → (o : ℕ) → fits ((over s S).look o) ≡ true
over-fits n s S v f o = go' (lookup s o) refl
  where
    go' : (k : Option ℤ) → lookup s o ≡ k → fits (get_or k (S.look o)) ≡ true
    go' none e = f o
    go' (some z) e = lookup-fits n s o z v.values e
