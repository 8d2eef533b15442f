-- What follows from `specs/ShapeRuns`. Assumes nothing.
use Rattle.std.specs.Prelude.{◌≡◌, refl, ◌⊎◌, Bool, true, false, ◌&&◌, ◌||◌, List, [], ◌∷◌, ℕ, zero, suc, ◌≤◌, ◌<◌, ℤ, pos, leb, ltb, length, replicate}
use Rattle.std.proofs.Common.{sym, ◌∙◌, inl, inr, true≢false, arith, le-leb, leb-true, leb-false, lt-ltb, ltb-true, ltb-false}
use Rattle.arith.specs.Integer.{fits, eq_z}
use Rattle.arith.proofs.IntegerLaws.{eq_z-true}
use Rattle.operation.specs.Body.{register_count}
use Rattle.operation.proofs.BodyLaws.{length-operations}
use Rattle.execution.specs.Entries.{Entry}
use Rattle.execution.specs.Run.{Run, start}
use Rattle.execution.proofs.ReadAgreement.{both}
use Rattle.execution.proofs.Ended.{body_ended}
use Rattle.execution.specs.RunShape.{every, Entries, Shaped}
use Rattle.model.specs.Lists.{all}
use Rattle.model.specs.Replica.{Pending, program, finished}
use Rattle.model.specs.ListLaws.{All}
use Rattle.model.proofs.ListLaws.{or_right}
use Rattle.model.specs.EarlyResults.{NotBegun, Ordered}
use Rattle.model.proofs.Tests.{either, neither}
use Rattle.model.specs.Shape.{Finished, PartlyRun, AtStart, Names, Sets, size_of, InOrder, RunEncoded}
use Rattle.model.specs.ShapeRuns.{State, Standing, NonEmpty, AllSets, AllEncoded, AllShaped, AllAtStart}

-- ---- a run that has ended, by its numbers

-- stopped early, or past the last operation
pub finished-numbers : (j : Pending) → finished j ≡ (ltb 0 j.run.outcome || leb (size_of j) j.run.counter)
finished-numbers j = body_ended j.sent.bytes j.run.counter j.run.outcome

ends : (j : Pending) → finished j ≡ true → (0 < j.run.outcome) ⊎ (size_of j ≤ j.run.counter)
ends j e =
    go' (either (ltb 0 j.run.outcome) (leb (size_of j) j.run.counter) (sym (finished-numbers j) ∙ e))
  where
    go' : (ltb 0 j.run.outcome ≡ true) ⊎ (leb (size_of j) j.run.counter ≡ true) → (0 < j.run.outcome) ⊎ (size_of j ≤ j.run.counter)
    go' (inl t) = inl (ltb-true 0 j.run.outcome t)
    go' (inr t) = inr (leb-true (size_of j) j.run.counter t)

goes_on : (j : Pending) → finished j ≡ false → (j.run.outcome ≡ 0) × (j.run.counter < size_of j)
goes_on j e =
    let h = neither (ltb 0 j.run.outcome) (leb (size_of j) j.run.counter) (sym (finished-numbers j) ∙ e) in
    (omega (arith, ltb-false 0 j.run.outcome h.0), leb-false (size_of j) j.run.counter h.1)

-- ---- a run not begun

zeros : (l : List ℤ) (k : ℕ) → length l ≡ k → all (eq_z (pos 0)) l ≡ true → l ≡ replicate k (pos 0)
zeros [] zero q e = refl
zeros [] (suc k) q e = absurd (omega arith)
zeros (x ∷ l) zero q e = absurd (omega arith)
zeros (x ∷ l) (suc k) q e =
    let h = both (eq_z (pos 0) x) (all (eq_z (pos 0)) l) e in
    rw (← (eq_z-true (pos 0) x h.0), zeros l k (omega arith) h.1)

all-zeros : (k : ℕ) → all (eq_z (pos 0)) (replicate k (pos 0)) ≡ true
all-zeros zero = refl
all-zeros (suc k) = all-zeros k

pub is-start : (p : Run) → AtStart p → RunEncoded p → p ≡ start
unfolding start
is-start p a e i =
    record { counter = a.counter i; outcome = a.outcome i; registers = zeros p.registers register_count e.count a.registers i; reads = a.reads i; writes = a.writes i }

start-at_start : AtStart start
unfolding start
start-at_start =
    record { counter = refl; outcome = refl; reads = refl; writes = refl; registers = all-zeros register_count }

pub at_start-run : (p : Run) → p ≡ start → AtStart p
at_start-run p e = rw e start-at_start

-- ---- read sets and write sets

every-both : (q r : Entry → Bool) (l : List Entry) → every q l ≡ true → every r l ≡ true → every (λ x. q x && r x) l ≡ true
every-both q r [] e h = refl
every-both q r (x ∷ l) e h =
    let a = both (q x) (every q l) e in
    let b = both (r x) (every r l) h in
    rw (a.0, b.0, every-both q r l a.1 b.1)

every_first : (q r : Entry → Bool) (l : List Entry) → every (λ x. q x && r x) l ≡ true → (every q l ≡ true) × (every r l ≡ true)
every_first q r [] e = (refl, refl)
every_first q r (x ∷ l) e =
    let a = both (q x && r x) (every (λ x. q x && r x) l) e in
    let b = both (q x) (r x) a.0 in
    let c = every_first q r l a.1 in
    (rw (b.0, c.0), rw (b.1, c.1))

entries : (n : ℕ) (l : List Entry) → Names n l → every (λ x. fits x.value) l ≡ true → Entries n l
entries n l k e =
    record { names = k.different; values = every-both (λ x. ltb x.object n) (λ x. fits x.value) l k.below e }

names : (n : ℕ) (l : List Entry) → Entries n l → Names n l × (every (λ x. fits x.value) l ≡ true)
names n l k =
    let h = every_first (λ x. ltb x.object n) (λ x. fits x.value) l k.values in
    (record { different = k.names; below = h.0 }, h.1)

module _ (j : Pending) where
  pub state-standing : State j → Standing (size_of j) j.run
  state-standing s = record { begun = begun s; within = within s; outcome = outcome s; stopped = stopped s }
    where
      begun : State j → (0 < j.run.counter) ⊎ AtStart j.run
      begun (inl f) = inl f.least
      begun (inr (inl f)) = inl f.least
      begun (inr (inr a)) = inr a

      within : State j → j.run.counter ≤ size_of j
      within (inl f) = f.most
      within (inr (inl f)) = let h = f.most in omega arith
      within (inr (inr a)) = let h = a.counter in omega arith

      outcome : State j → j.run.outcome ≤ 3
      outcome (inl f) = f.outcome
      outcome (inr (inl f)) = let h = f.outcome in omega arith
      outcome (inr (inr a)) = let h = a.outcome in omega arith

      early : (c : ℕ) → j.run.outcome ≡ c → (1 ≤ j.run.outcome → j.run.writes ≡ []) → (j.run.outcome ≡ 0) ⊎ (j.run.writes ≡ [])
      early zero q h = inl q
      early (suc c) q h = inr (h (omega arith))

      stopped : State j → (j.run.outcome ≡ 0) ⊎ (j.run.writes ≡ [])
      stopped (inl f) = early j.run.outcome refl f.stopped
      stopped (inr (inl f)) = inl f.outcome
      stopped (inr (inr a)) = inl a.outcome

  pub finished-yes : Finished (size_of j) j.run → finished j ≡ true
  finished-yes f = finished-numbers j ∙ go' j.run.outcome refl
    where
      go' : (c : ℕ) → j.run.outcome ≡ c → (ltb 0 j.run.outcome || leb (size_of j) j.run.counter) ≡ true
      go' zero e =
          or_right (ltb 0 j.run.outcome) (leb (size_of j) j.run.counter) (le-leb (size_of j) j.run.counter (let k = f.exactly e in omega arith))
      go' (suc c) e = rw (lt-ltb 0 j.run.outcome (omega arith))

  module _ (v : Standing (size_of j) j.run) where
    -- a body has at least one operation, so a run not begun has not ended
    pub standing_finished : 1 ≤ size_of j → finished j ≡ true → Finished (size_of j) j.run
    standing_finished body e =
        record { outcome = v.outcome; least = least (ends j e) v.begun; most = v.within; exactly = exactly (ends j e); stopped = λ h. stopped h v.stopped }
      where
        least : (0 < j.run.outcome) ⊎ (size_of j ≤ j.run.counter) → (0 < j.run.counter) ⊎ AtStart j.run → 1 ≤ j.run.counter
        least w (inl h) = h
        least (inl h) (inr a) = absurd (let k = a.outcome in omega arith)
        least (inr h) (inr a) = omega arith

        exactly : (0 < j.run.outcome) ⊎ (size_of j ≤ j.run.counter) → j.run.outcome ≡ 0 → j.run.counter ≡ size_of j
        exactly (inl h) q = absurd (omega arith)
        exactly (inr h) q = let k = v.within in omega arith

        stopped : 1 ≤ j.run.outcome → (j.run.outcome ≡ 0) ⊎ (j.run.writes ≡ []) → j.run.writes ≡ []
        stopped h (inl q) = absurd (omega arith)
        stopped h (inr q) = q

    pub standing_unfinished : finished j ≡ false → PartlyRun (size_of j) j.run ⊎ AtStart j.run
    standing_unfinished e = go' (goes_on j e) v.begun
      where
        go' : (j.run.outcome ≡ 0) × (j.run.counter < size_of j) → (0 < j.run.counter) ⊎ AtStart j.run → PartlyRun (size_of j) j.run ⊎ AtStart j.run
        go' h (inl c) = inl (record { outcome = h.0; least = c; most = h.1 })
        go' h (inr a) = inr a

-- ---- what execution keeps of one run

module _ (n : ℕ) (j : Pending) where
  standing_shaped : Standing (size_of j) j.run → Sets n j.run → RunEncoded j.run → Shaped n (program j) j.run
  standing_shaped v k e =
      record {
        begun = begun v.begun;
        within = rw (length-operations j.sent.bytes) v.within;
        outcome = v.outcome;
        stopped = v.stopped;
        room = k.room;
        reads = entries n j.run.reads k.reads e.reads;
        writes = entries n j.run.writes k.writes e.writes;
        count = e.count;
        values = e.registers;
      }
    where
      begun : (0 < j.run.counter) ⊎ AtStart j.run → (0 < j.run.counter) ⊎ (j.run ≡ start)
      begun (inl h) = inl h
      begun (inr a) = inr (is-start j.run a e)

  module _ (v : Shaped n (program j) j.run) where
    shaped-standing : Standing (size_of j) j.run
    shaped-standing =
        record { begun = begun v.begun; within = rw (length-operations j.sent.bytes) at v.within; outcome = v.outcome; stopped = v.stopped }
      where
        begun : (0 < j.run.counter) ⊎ (j.run ≡ start) → (0 < j.run.counter) ⊎ AtStart j.run
        begun (inl h) = inl h
        begun (inr q) = inr (at_start-run j.run q)

    shaped-sets : Sets n j.run
    shaped-sets =
        record { reads = (names n j.run.reads v.reads).0; writes = (names n j.run.writes v.writes).0; room = v.room }

    shaped-encoded : RunEncoded j.run
    shaped-encoded =
        record { count = v.count; registers = v.values; reads = (names n j.run.reads v.reads).1; writes = (names n j.run.writes v.writes).1 }

not-begun : (js : List Pending) → AllAtStart js → AllEncoded js → NotBegun js × Ordered js
not-begun [] a e = (tt, tt)
not-begun (j ∷ js) a e = let k = not-begun js a.1 e.1 in ((is-start j.run a.0 e.0, k.0), (inr k.0, k.1))

at-starts : (js : List Pending) → NotBegun js → AllAtStart js
at-starts [] h = tt
at-starts (j ∷ js) h = (at_start-run j.run h.0, at-starts js h.1)

pub in_order-states : (js : List Pending) → InOrder js → All State js
in_order-states [] o = tt
in_order-states (j ∷ js) (inl o) = (inl o.0, in_order-states js o.1)
in_order-states (j ∷ js) (inr o) = (inr o.0, rest js o.1)
  where
    rest : (js : List Pending) → AllAtStart js → All State js
    rest [] a = tt
    rest (j ∷ js) a = (inr (inr a.0), rest js a.1)

-- document 01's words give what execution keeps
pub order-ordered : (js : List Pending) → InOrder js → AllEncoded js → Ordered js
order-ordered [] o e = tt
order-ordered (j ∷ js) (inl o) e = (inl (finished-yes j o.0), order-ordered js o.1 e.1)
order-ordered (j ∷ js) (inr o) e = let k = not-begun js o.1 e.1 in (inr k.0, k.1)

pub order-shaped : (n : ℕ) (js : List Pending) → InOrder js → AllSets n js → AllEncoded js → AllShaped n js
order-shaped n js o k e = go' js (in_order-states js o) k e
  where
    go' : (js : List Pending) → All State js → AllSets n js → AllEncoded js → AllShaped n js
    go' [] o k e = tt
    go' (j ∷ js) o k e = (standing_shaped n j (state-standing j o.0) k.0 e.0, go' js o.1 k.1 e.1)

-- and the other way round
pub ordered-order : (n : ℕ) (js : List Pending) → NonEmpty js → Ordered js → AllShaped n js → InOrder js
ordered-order n [] b o v = tt
ordered-order n (j ∷ js) b o v = go' (finished j) refl o.0 (ordered-order n js b.1 o.1 v.1)
  where
    go' : (t : Bool) → finished j ≡ t → (finished j ≡ true) ⊎ NotBegun js → InOrder js → InOrder (j ∷ js)
    go' true e d i = inl (standing_finished j (shaped-standing n j v.0) b.0 e, i)
    go' false e (inl t) i = absurd (true≢false (sym t ∙ e))
    go' false e (inr h) i = inr (standing_unfinished j (shaped-standing n j v.0) e, at-starts js h)

pub all-sets : (n : ℕ) (js : List Pending) → AllShaped n js → AllSets n js
all-sets n [] v = tt
all-sets n (j ∷ js) v = (shaped-sets n j v.0, all-sets n js v.1)

pub all-encoded : (n : ℕ) (js : List Pending) → AllShaped n js → AllEncoded js
all-encoded n [] v = tt
all-encoded n (j ∷ js) v = (shaped-encoded n j v.0, all-encoded n js v.1)
