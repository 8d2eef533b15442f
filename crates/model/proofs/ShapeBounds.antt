-- The shape's part on bounds, and that every call keeps it: versions and recorded stores stay inside. Assumes nothing.
use Rattle.std.specs.Prelude.{◌≡◌, refl, Bool, true, false, cond, List, [], ◌∷◌, map, ℕ, suc, ◌-◌, ℤ, eqb, length, get_or}
use Rattle.std.proofs.Math.Option.{Option, none, some, none-ne-some, some-injective}
use Rattle.std.proofs.Common.{arith, eqb-true}
use Rattle.execution.specs.Entries.{Entry, lookup}
use Rattle.execution.specs.Bounds.{Bounds, no_bounds, ordered, inside}
use Rattle.execution.specs.Run.{Table, start, whole, matches, over}
use Rattle.execution.proofs.ReadAgreement.{both}
use Rattle.execution.specs.RunShape.{every, AllInside}
use Rattle.execution.proofs.RunShapeLaws.{steps-inside}
use Rattle.model.specs.Lists.{all, all₂, mapi}
use Rattle.model.specs.Start.{Version}
use Rattle.model.specs.Calls.{starts_inside}
use Rattle.model.specs.Replica.{Pending, held, prune, pushed, install, program, finished, advance, used, worked, restarted, walk, validated, result}
use Rattle.model.specs.ListLaws.{All}
use Rattle.model.proofs.Tests.{all-keeps}
use Rattle.model.specs.Shape.{versions_inside, bounds_fit}

-- every store on record of a pending transaction is one that the bounds allow
abbrev pub StoresInside : (ℕ → ℤ → Bool) → Pending → Type 0
StoresInside allow j = AllInside allow j.run.writes

abbrev pub allowed : List Bounds → ℕ → ℤ → Bool
allowed bs o = inside (get_or bs o no_bounds)

pub record BoundsPart (objs : List (List Version)) (bs : List Bounds) (js : List Pending) : Type 0 where
  pub count : length bs ≡ length objs
  pub ordered : all ordered bs ≡ true
  pub encoded : all bounds_fit bs ≡ true
  pub inside : all₂ versions_inside bs objs ≡ true
  pub stores : All (StoresInside (allowed bs)) js

pub with-stores : (objs : List (List Version)) (bs : List Bounds) (js is : List Pending) → BoundsPart objs bs js → All (StoresInside (allowed bs)) is → BoundsPart objs bs is
with-stores objs bs js is b h = record { count = b.count; ordered = b.ordered; encoded = b.encoded; inside = b.inside; stores = h }

-- ---- versions

-- each object's versions changed by their position, in a way that its bounds do not mind
pub inside-mapi : (bs : List Bounds) (f : ℕ → List Version → List Version) (objs : List (List Version))
    → ((o : ℕ) (vs : List Version) → versions_inside (get_or bs o no_bounds) vs ≡ true → versions_inside (get_or bs o no_bounds) (f o vs) ≡ true)
    → all₂ versions_inside bs objs ≡ true → all₂ versions_inside bs (mapi f objs) ≡ true
inside-mapi [] f objs h e = refl
inside-mapi (b ∷ bs) f [] h e = refl
inside-mapi (b ∷ bs) f (vs ∷ objs) h e =
    let k = both (versions_inside b vs) (all₂ versions_inside bs objs) e in
    rw (h 0 vs k.0) (inside-mapi bs (λ o. f (suc o)) objs (λ o. h (suc o)) k.1)

prune-inside : (rs : List ℕ) (b : Bounds) (vs : List Version) → versions_inside b vs ≡ true → versions_inside b (prune rs vs) ≡ true
unfolding prune
prune-inside rs b vs e = all-keeps (λ (v : Version). inside b v.value) (held rs vs) vs e

pub pruned-inside : (rs : List ℕ) (bs : List Bounds) (objs : List (List Version)) → all₂ versions_inside bs objs ≡ true → all₂ versions_inside bs (map (prune rs) objs) ≡ true
pruned-inside rs [] objs e = refl
pruned-inside rs (b ∷ bs) [] e = refl
pruned-inside rs (b ∷ bs) (vs ∷ objs) e =
    let k = both (versions_inside b vs) (all₂ versions_inside bs objs) e in
    rw (prune-inside rs b vs k.0) (pruned-inside rs bs objs k.1)

lookup-inside : (allow : ℕ → ℤ → Bool) (l : List Entry) (o : ℕ) (z : ℤ) → AllInside allow l → lookup l o ≡ some z → allow o z ≡ true
lookup-inside allow [] o z h e = absurd (none-ne-some z e)
lookup-inside allow (x ∷ l) o z h e =
    let k = both (allow x.object x.value) (every (λ x. allow x.object x.value) l) h in
    go' (eqb x.object o) refl e k.0 (lookup-inside allow l o z k.1)
  where
    go' : (b : Bool) → eqb x.object o ≡ b → cond b (some x.value) (lookup l o) ≡ some z → allow x.object x.value ≡ true → (lookup l o ≡ some z → allow o z ≡ true) → allow o z ≡ true
    go' true q e a i = rw (eqb-true x.object o q, some-injective x.value z e) at a
    go' false q e a i = i e

-- a commit of stores that the bounds allow
pub installed-inside : (t : ℕ) (rs : List ℕ) (writes : List Entry) (bs : List Bounds) (objs : List (List Version)) → AllInside (allowed bs) writes
    → all₂ versions_inside bs objs ≡ true → all₂ versions_inside bs (install t rs writes objs) ≡ true
unfolding install
installed-inside t rs writes bs objs w e =
    inside-mapi bs (λ o vs. prune rs (pushed t vs (lookup writes o))) objs (λ o vs h. prune-inside rs (get_or bs o no_bounds) (pushed t vs (lookup writes o)) (new o vs h (lookup writes o) refl)) e
  where
    new : (o : ℕ) (vs : List Version) → versions_inside (get_or bs o no_bounds) vs ≡ true → (k : Option ℤ) → lookup writes o ≡ k → versions_inside (get_or bs o no_bounds) (pushed t vs k) ≡ true
    new o vs h none q = h
    new o vs h (some z) q = rw (lookup-inside (allowed bs) writes o z w q) h

-- ---- an opening

pub starts_ordered : (bs : List Bounds) (vs : List ℤ) → length bs ≡ length vs → all₂ starts_inside bs vs ≡ true → all ordered bs ≡ true
starts_ordered [] vs q e = refl
starts_ordered (b ∷ bs) [] q e = absurd (omega arith)
starts_ordered (b ∷ bs) (v ∷ vs) q e =
    let k = both (starts_inside b v) (all₂ starts_inside bs vs) e in
    rw (both (ordered b) (inside b v) k.0).0 (starts_ordered bs vs (omega arith) k.1)

pub starts_versions : (t : ℕ) (bs : List Bounds) (vs : List ℤ) → all₂ starts_inside bs vs ≡ true
    → all₂ versions_inside bs (map (λ v. v ∷ []) (map (λ v. record { stamp = t; value = v }) vs)) ≡ true
starts_versions t [] vs e = refl
starts_versions t (b ∷ bs) [] e = refl
starts_versions t (b ∷ bs) (v ∷ vs) e =
    let k = both (starts_inside b v) (all₂ starts_inside bs vs) e in
    rw (both (ordered b) (inside b v) k.0).1 (starts_versions t bs vs k.1)

-- ---- recorded stores

pub none_inside : (allow : ℕ → ℤ → Bool) → AllInside allow start.writes
unfolding start
none_inside allow = refl

restarted-inside : (allow : ℕ → ℤ → Bool) (js : List Pending) → All (StoresInside allow) (map restarted js)
unfolding restarted
restarted-inside allow [] = tt
restarted-inside allow (j ∷ js) = (none_inside allow, restarted-inside allow js)

either-inside : (allow : ℕ → ℤ → Bool) (b : Bool) (is js : List Pending) → All (StoresInside allow) is → All (StoresInside allow) js → All (StoresInside allow) (cond b is js)
either-inside allow true is js h k = h
either-inside allow false is js h k = k

pub worked-inside : (T : Table) (c : ℕ) (js : List Pending) → All (StoresInside T.allow) js → All (StoresInside T.allow) (worked T c js)
unfolding worked advance
worked-inside T c [] h = tt
worked-inside T c (j ∷ js) h =
    (steps-inside (program j) T c j.run h.0, either-inside T.allow (finished (advance T c j)) _ js (worked-inside (over (advance T c j).run.writes T) (c - used T c j) js h.1) h.1)

pub walk_inside : (T : Table) (js : List Pending) → All (StoresInside T.allow) js → All (StoresInside T.allow) (walk T js)
unfolding walk
walk_inside T [] h = tt
walk_inside T (j ∷ js) h =
    either-inside T.allow (matches T j.run.reads) _ _ (h.0, walk_inside (over j.run.writes T) js h.1) (restarted-inside T.allow (j ∷ js))

pub result-inside : (T : Table) (j : Pending) → StoresInside T.allow j → AllInside T.allow (result T j).writes
unfolding result whole
result-inside T j h = by (validated T j)
  where
    by : (b : Bool) → AllInside T.allow (cond b j.run (whole T (program j))).writes
    by true = h
    by false = steps-inside (program j) T _ start (none_inside T.allow)
