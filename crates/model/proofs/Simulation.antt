-- The recorded run of a body and the serial table's direct run of it agree: outcome, objects after it, number of objects stored. Assumes nothing.
use Rattle.std.specs.Prelude.{◌≡◌, Bool, true, false, not, cond, ◌&&◌, ◌||◌, ℤ, pos, ◌+ℤ◌, ◌-ℤ◌, eqb, length, get_or, set, drop, replicate}
use Rattle.std.proofs.Math.Path.{refl, sym, ap}
use Rattle.std.proofs.Common.{◌∙◌, arith, length-drop, drop-drop, eq-eqb, ne_eqb, eqb-true}
use Rattle.std.proofs.Math.Option
use Rattle.std.proofs.Math.Option.{Option, none, some, none-ne-some, some-injective}
use mathlib.Core.List.{List, [], ◌∷◌}
use Prim.Native.Nat.{ℕ, zero, suc, ◌+◌, ◌≤◌, ◌<◌}
use Rattle.std.specs.Int.Signed.{le_z}
use Rattle.std.proofs.Math.Seq.{drop-nil}
use Rattle.arith.specs.Integer.{fits, eq_z}
use Rattle.arith.proofs.IntegerLaws.{eq_z-true, eq_eq_z}
use Rattle.operation.specs.Body.{register_count, operations}
use Rattle.operation.specs.BodyLaws.{Valid}
use Rattle.operation.specs.declared.Operation.{Operation}
use Rattle.operation.specs.declared.Operation.TheVariants.{Load, Store, Set, Add, Subtract, Skip, Fail, Divide}
use Rattle.execution.specs.Entries.{Entry, lookup, update, append}
use Rattle.execution.specs.Bounds.{Bounds, no_bounds, inside}
use Rattle.execution.proofs.BoundsLaws.{less_not}
use Rattle.execution.specs.Run.{Table, Stop, failed, overflowed, outside, outcome_of, Move, get, put, go, halt, register, sum, move, Run, start, or_else, recorded, put_in, stopped, apply, due, obey, step, steps, whole, matches}
use Rattle.execution.proofs.ReadAgreement.{both, stay, steps-step}
use Rattle.execution.proofs.RunShapeLaws.{lookup-update_same, lookup-update_other, length-update}
use Rattle.model.specs.Lists.{count}
use Rattle.model.specs.Serial.{Version, no_version, is_some, stored_at, beyond, resume, run, settled, ran}
use Rattle.model.proofs.ListLaws.{get_or-mapi, length-mapi, set-mapi, count_set}
use Rattle.model.specs.VersionLaws.{replaced, overlay, values_of}

-- ---- overlays

overlay-none : (t : ℕ) (objs : List Version) → overlay t [] objs ≡ objs
unfolding overlay
overlay-none t [] = refl
overlay-none t (x ∷ l) = ap (x ∷◌) (overlay-none t l)

pub length-overlay : (t : ℕ) (s : List Entry) (objs : List Version) → length (overlay t s objs) ≡ length objs
unfolding overlay
length-overlay t s objs = length-mapi (λ o x. replaced t x (lookup s o)) objs

pub overlay-at : (t : ℕ) (s : List Entry) (objs : List Version) (o : ℕ) → o < length objs → get_or (overlay t s objs) o no_version ≡ replaced t (get_or objs o no_version) (lookup s o)
unfolding overlay
overlay-at t s objs o h = get_or-mapi (λ o x. replaced t x (lookup s o)) objs o no_version no_version h

overlay-update : (t : ℕ) (s : List Entry) (objs : List Version) (o : ℕ) (v : ℤ) → set (overlay t s objs) o (record { stamp = t; value = v }) ≡ overlay t (update s o v) objs
unfolding overlay
overlay-update t s objs o v =
    set-mapi (λ i x. replaced t x (lookup s i)) (λ i x. replaced t x (lookup (update s o v) i)) objs o no_version (record { stamp = t; value = v }) (rw (lookup-update_same s o v)) (λ i x n. rw (lookup-update_other s o v i n))

-- ---- reads that match

pub matches-append : (S : Table) (l : List Entry) (o : ℕ) → matches S l ≡ true → matches S (append l o (S.look o)) ≡ true
matches-append S [] o e = rw (eq_eq_z (S.look o) (S.look o) refl)
matches-append S (x ∷ l) o e =
    let h = both (eq_z (S.look x.object) x.value) (matches S l) e in
    rw h.0 (matches-append S l o h.1)

matches-lookup : (S : Table) (l : List Entry) (o : ℕ) (v : ℤ) → matches S l ≡ true → lookup l o ≡ some v → S.look o ≡ v
matches-lookup S [] o v e k = absurd (none-ne-some v k)
matches-lookup S (x ∷ l) o v e k =
    let h = both (eq_z (S.look x.object) x.value) (matches S l) e in
    go' (eqb x.object o) refl h.0 k (matches-lookup S l o v h.1)
  where
    go' : (b : Bool) → eqb x.object o ≡ b → eq_z (S.look x.object) x.value ≡ true → cond b (some x.value) (lookup l o) ≡ some v → (lookup l o ≡ some v → S.look o ≡ v) → S.look o ≡ v
    go' true q h k i =
        ap S.look (sym (eqb-true x.object o q)) ∙ eq_z-true (S.look x.object) x.value h ∙ some-injective x.value v k
    go' false q h k i = i k

-- ---- operations

-- every operation of a body is valid where it stands, as in a well-formed body
abbrev pub AllValid : ℕ → List Operation → Type 0
AllValid n b = (i : ℕ) (x : Operation) (rest : List Operation) → drop i b ≡ x ∷ rest → Valid n (length rest) x

pub none-valid : (n : ℕ) → AllValid n []
none-valid n i x rest e = let k = ap length (sym (drop-nil i) ∙ e) in absurd (omega arith)

-- a move that names objects below n
abbrev Within : ℕ → Move → Type 0
Within n (get r o) = o < n
Within n (put o v) = o < n
Within n (go g k) = Unit {0}
Within n (halt s) = Unit {0}

within-sum : (n : ℕ) (g : List ℤ) (r : ℕ) (z : ℤ) → Within n (sum g r z)
unfolding sum
within-sum n g r z = go' (fits z)
  where
    go' : (b : Bool) → Within n (cond b (go (set g r z) 0) (halt overflowed))
    go' true = tt
    go' false = tt

within : (n left : ℕ) (x : Operation) (g : List ℤ) → Valid n left x → Within n (move x g)
unfolding move
within n left (Load r o) g v = v.1
within n left (Store r o) g v = v.1
within n left (Set r z) g v = tt
within n left (Add r s) g v = within-sum n g r (register g r +ℤ register g s)
within n left (Subtract r s) g v = within-sum n g r (register g r -ℤ register g s)
within n left (Skip r k) g v = tt
within n left Fail g v = tt
within n left (Divide r d) g v = tt

run-skip : (t : ℕ) (bs : List Bounds) (k : ℕ) (b : List Operation) (g : List ℤ) (w : List Version) → run t bs k b g w ≡ run t bs 0 (drop k b) g w
unfolding run
run-skip t bs zero b g w = refl
run-skip t bs (suc k) [] g w = refl
run-skip t bs (suc k) (x ∷ b) g w = run-skip t bs k b g w

-- the serial table's test of the bounds and the replica's
same-bounds : (b : Bounds) (v : ℤ) → beyond b v ≡ not (inside b v)
unfolding beyond inside
same-bounds b v = rw (less_not v b.lower, less_not b.upper v) (by (le_z b.lower v) (le_z v b.upper))
  where
    by : (c d : Bool) → not c || not d ≡ not (c && d)
    by true d = refl
    by false d = refl

-- ---- the two runs

-- what the theorem says of a recorded run p and the serial table's outcome and objects r
pub record SameRun (t : ℕ) (objs : List Version) (p : Run) (r : ℕ × List Version) : Type 0 where
  pub outcome : r.0 ≡ p.outcome
  pub objects : r.1 ≡ overlay t p.writes objs
  pub stored : count (stored_at t) r.1 ≡ length p.writes

-- objects whose timestamps are below t, the timestamp of the commit
module _ (t : ℕ) (bs : List Bounds) (objs : List Version) (before : (i : ℕ) → (get_or objs i no_version).stamp < t) (b : List Operation) where
  abbrev S : Table
  S = values_of objs bs

  abbrev settle : ℕ × List Version → ℕ × List Version
  settle r = (r.0, settled objs r.1 r.0)

  -- the working table is the write set over the objects
  record Working (p : Run) (w : List Version) : Type 0 where
    table : w ≡ overlay t p.writes objs
    reads : matches S p.reads ≡ true
    stored : count (stored_at t) w ≡ length p.writes

  none-stored : count (stored_at t) objs ≡ 0
  none-stored = go' objs before
    where
      go' : (l : List Version) → ((i : ℕ) → (get_or l i no_version).stamp < t) → count (stored_at t) l ≡ 0
      go' [] h = refl
      go' (x ∷ l) h = rw (ne_eqb x.stamp t (λ e. (let k = h 0 in omega arith)), go' l (λ i. h (suc i)))

  -- a load gives the same value
  loaded : (p : Run) (o : ℕ) (k j : Option ℤ) → lookup p.writes o ≡ k → lookup p.reads o ≡ j → o < length objs → (w : List Version) → Working p w
      → (matches S (recorded p.reads o (S.look o) (or_else k j)) ≡ true) × (Option.get_or (or_else k j) (S.look o) ≡ (get_or w o no_version).value)
  loaded p o (some v) j ek ej h w s = (s.reads, rw (s.table, overlay-at t p.writes objs o h, ek))
  loaded p o none (some v) ek ej h w s =
      (s.reads, rw (s.table, overlay-at t p.writes objs o h, ek) (sym (matches-lookup S p.reads o v s.reads ej)))
  loaded p o none none ek ej h w s =
      (matches-append S p.reads o s.reads, rw (s.table, overlay-at t p.writes objs o h, ek))

  -- a store goes over the others, and counts once
  stores : (p : Run) (o : ℕ) (v : ℤ) → o < length objs → (w : List Version) → Working p w → Working (put_in o v p) (set w o (record { stamp = t; value = v }))
  stores p o v h w s =
      record { table = rw s.table (overlay-update t p.writes objs o v); reads = s.reads; stored = counts }
    where
      known-stored : (k : Option ℤ) → stored_at t (replaced t (get_or objs o no_version) k) ≡ is_some k
      known-stored none = ne_eqb _ t (λ e. (let f = before o in omega arith))
      known-stored (some z) = eq-eqb t t refl

      counts : count (stored_at t) (set w o (record { stamp = t; value = v })) ≡ length (update p.writes o v)
      counts =
          let one_more = count_set (stored_at t) w o (record { stamp = t; value = v }) no_version (rw (s.table, length-overlay t p.writes objs) h) (eq-eqb t t refl) in
          rw
          (one_more, length-update p.writes o v, ← s.stored, s.table, overlay-at t p.writes objs o h, known-stored (lookup p.writes o))

  -- a stopped run stores nothing
  stops : (f : ℕ) (p : Run) (w : List Version) (s : Stop) → SameRun t objs (steps S b f (apply S (halt s) p)) (settle (outcome_of s, w))
  stops f p w failed =
      rw (stay S b f (apply S (halt failed) p) refl) (record { outcome = refl; objects = sym (overlay-none t objs); stored = none-stored })
  stops f p w overflowed =
      rw (stay S b f (apply S (halt overflowed) p) refl) (record { outcome = refl; objects = sym (overlay-none t objs); stored = none-stored })
  stops f p w outside =
      rw (stay S b f (apply S (halt outside) p) refl) (record { outcome = refl; objects = sym (overlay-none t objs); stored = none-stored })

  at-end : (f : ℕ) (p : Run) (w : List Version) → drop p.counter b ≡ [] → p.outcome ≡ 0 → Working p w → SameRun t objs (steps S b f p) (settle (0, w))
  at-end f p w e z s =
      rw (stay S b f p (rw (z, e))) (record { outcome = sym z; objects = s.table; stored = s.stored })

  -- the operations left after a move that passes over k
  next : (c k i : ℕ) (x : Operation) (rest : List Operation) → i ≡ c + suc k → drop c b ≡ x ∷ rest → drop i b ≡ drop k rest
  next c k i x rest q e = rw (q, ← (drop-drop (suc k) c b), e)

  abbrev Claim : ℕ → Type 0
  Claim f = (rest : List Operation) (p : Run) (w : List Version) → drop p.counter b ≡ rest → length rest ≤ f → p.outcome ≡ 0 → Working p w → SameRun t objs (steps S b f p) (settle (run t bs 0 rest p.registers w))

  moves : (f : ℕ) → Claim f → (x : Operation) (rest : List Operation) (p : Run) (w : List Version) → drop p.counter b ≡ x ∷ rest → length rest ≤ f → Working p w
      → (m : Move) → Within (length objs) m → SameRun t objs (steps S b f (apply S m p)) (settle (resume t bs (λ k h v. run t bs k rest h v) p.registers w m))
  moves f ih x rest p w e l s (get r o) h =
      let q = loaded p o (lookup p.writes o) (lookup p.reads o) refl refl h w s in
      rw (← q.1)
      (ih rest (apply S (get r o) p) w (next p.counter 0 (suc p.counter) x rest (omega arith) e) l refl (record { table = s.table; reads = q.0; stored = s.stored }))
  moves f ih x rest p w e l s (put o v) h = rw (same-bounds (get_or bs o no_bounds) v) (by (inside (get_or bs o no_bounds) v))
    where
      taken : List Version
      taken = set w o (record { stamp = t; value = v })

      by : (k : Bool) → SameRun t objs (steps S b f (cond k (put_in o v p) (stopped outside p))) (settle (cond (not k) (3, w) (run t bs 0 rest p.registers taken)))
      by true = ih rest (put_in o v p) taken (next p.counter 0 (suc p.counter) x rest (omega arith) e) l refl (stores p o v h w s)
      by false = stops f p w outside
  moves f ih x rest p w e l s (go g k) h =
      rw (run-skip t bs k rest g w)
      (ih (drop k rest) (apply S (go g k) p) w (next p.counter k (suc (p.counter + k)) x rest (omega arith) e) (omega (arith, length-drop k rest)) refl (record { table = s.table; reads = s.reads; stored = s.stored }))
  moves f ih x rest p w e l s (halt c) h = stops f p w c

  obeys : (p : Run) (x : Operation) (rest : List Operation) → drop p.counter b ≡ x ∷ rest → p.outcome ≡ 0 → step S b p ≡ apply S (move x p.registers) p
  unfolding step obey
  obeys p x rest e z = let d : due b p ≡ some x = rw (z, e) in ap (obey S p) d

  module _ (valid : AllValid (length objs) b) where
    same : (f : ℕ) → Claim f
    unfolding run steps
    same zero [] p w e l z s = at-end 0 p w e z s
    same (suc f) [] p w e l z s = at-end (suc f) p w e z s
    same zero (x ∷ rest) p w e l z s = absurd (omega arith)
    same (suc f) (x ∷ rest) p w e l z s =
        rw (← (steps-step S b f p), obeys p x rest e z)
        (moves f (same f) x rest p w e (omega arith) s (move x p.registers) (within (length objs) (length rest) x p.registers (valid p.counter x rest e)))

    same-run : SameRun t objs (whole S b) (settle (run t bs 0 b (replicate register_count (pos 0)) objs))
    unfolding whole start
    same-run =
        same (length b) b start objs refl (omega arith) refl (record { table = sym (overlay-none t objs); reads = refl; stored = none-stored })

-- "Final delivery runs the body alone on the objects' values": what the serial table's run gives is what the recorded run gives
pub serial_run : (t : ℕ) (bs : List Bounds) (objs : List Version) (before : (i : ℕ) → (get_or objs i no_version).stamp < t) (b : List ℕ) → AllValid (length objs) (operations b) → SameRun t objs (whole (values_of objs bs) (operations b)) (ran t bs b objs)
unfolding ran
serial_run t bs objs before b valid = same-run t bs objs before (operations b) valid
