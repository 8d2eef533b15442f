-- The versions of an object are exactly those held, falling in timestamp, one for every open reader, and so at most one more than there are open
-- readers. A commit, a reader's opening and a reader's close keep that. Assumes nothing.
use Rattle.std.specs.Prelude.{◌≡◌, refl, ◌⊎◌, Bool, true, false, cond, List, [], ◌∷◌, ℕ, suc, ◌+◌, ◌≤◌, ◌<◌, ℤ, ltb, length}
use Rattle.std.proofs.Math.Path.{sym, ap, ap₂}
use Rattle.std.proofs.Common.{◌∙◌, inl, inr, arith}
use Rattle.std.proofs.Math.Bool.{◌||◌}
use Rattle.std.proofs.lemmas.Bool.{false≢true}
use Rattle.std.proofs.Math.Option.{Option, none, some}
use Rattle.std.proofs.Math.Dec.{eqb, leb}
use borrow.Author.Tests.{eq-eqb, eqb-true, ne_eqb, le-leb, leb-true, lt-ltb, ltb-true}
use Rattle.execution.proofs.ReadAgreement.{both}
use Rattle.model.specs.Lists.{pick, keep, any, all, count}
use Rattle.model.specs.Serial.{Version, is_some}
use Rattle.model.specs.Replica.{newest, as_of, held, prune, pushed}
use Rattle.model.proofs.ListLaws.{or_left, or_right, any-has, pick-keep}
use Rattle.model.proofs.VersionLaws.{newest-prune, as_of-prune}
use Rattle.model.proofs.Tests.{either, all-keeps, keep-passes, all_weaker, all_any, any-pick, any_same, any-more}
use Rattle.model.specs.Shape.{falling, VersionsShape}

-- ---- pruning

falling-keep : (p : Version → Bool) (vs : List Version) → falling vs ≡ true → falling (keep p vs) ≡ true
falling-keep p [] h = refl
falling-keep p (v ∷ vs) h =
    let k = both (all (λ w. ltb w.stamp v.stamp) vs) (falling vs) h in
    go' (p v) (all-keeps (λ w. ltb w.stamp v.stamp) p vs k.0) (falling-keep p vs k.1)
  where
    go' : (b : Bool) → all (λ w. ltb w.stamp v.stamp) (keep p vs) ≡ true → falling (keep p vs) ≡ true → falling (cond b (v ∷ keep p vs) (keep p vs)) ≡ true
    go' true a i = rw (a, i)
    go' false a i = i

some-any : (vs : List Version) → 0 < length vs → any (λ v. true) vs ≡ true
some-any [] h = absurd (omega arith)
some-any (v ∷ vs) h = refl

any_some : (vs : List Version) → any (λ v. true) vs ≡ true → 0 < length vs
any_some [] h = absurd (false≢true h)
any_some (v ∷ vs) h = omega arith

module _ (rs : List ℕ) (vs : List Version) where
  -- the rule reads the same after pruning
  held-prune : (v : Version) → held rs (prune rs vs) v ≡ held rs vs v
  unfolding held
  held-prune v =
      ap₂ ◌||◌ (ap (λ (x : Version). eqb v.stamp x.stamp) (newest-prune rs vs))
      (any_same (λ r. eqb v.stamp (as_of r (prune rs vs)).stamp) (λ r. eqb v.stamp (as_of r vs).stamp) rs (λ r h. ap (λ (x : Version). eqb v.stamp x.stamp) (as_of-prune rs vs r h)))

  any-prune : (q : Version → Bool) → ((x : Version) → pick q vs ≡ some x → held rs vs x ≡ true) → any q (prune rs vs) ≡ any q vs
  unfolding prune
  any-prune q h =
      any-pick q (keep (held rs vs) vs) ∙ ap is_some (pick-keep q (held rs vs) vs h) ∙ sym (any-pick q vs)

  newest-held : (x : Version) → pick (λ v. true) vs ≡ some x → held rs vs x ≡ true
  unfolding held
  newest-held x e = rw (e, eq-eqb x.stamp x.stamp refl)

  as_of-held : (r : ℕ) → any (eqb r) rs ≡ true → (x : Version) → pick (λ v. leb v.stamp r) vs ≡ some x → held rs vs x ≡ true
  unfolding held
  as_of-held r h x e =
      or_right (eqb x.stamp (newest vs).stamp) (any (λ r. eqb x.stamp (as_of r vs).stamp) rs) (any-has (λ r. eqb x.stamp (as_of r vs).stamp) r rs h (rw e (eq-eqb x.stamp x.stamp refl)))

  pub prune-shape : (t : ℕ) → 0 < length vs → falling vs ≡ true → all (λ v. leb v.stamp t) vs ≡ true → ((r : ℕ) → any (eqb r) rs ≡ true → any (λ v. leb v.stamp r) vs ≡ true) → VersionsShape t rs (prune rs vs)
  unfolding prune
  prune-shape t l f b s =
      record {
        least = any_some (prune rs vs) (any-prune (λ v. true) newest-held ∙ some-any vs l);
        order = falling-keep (held rs vs) vs f;
        bound = all-keeps (λ v. leb v.stamp t) (held rs vs) vs b;
        each = all_weaker (held rs vs) (held rs (prune rs vs)) (prune rs vs) (λ v e. held-prune v ∙ e) (keep-passes (held rs vs) vs);
        served = λ r h. any-prune (λ v. leb v.stamp r) (as_of-held r h) ∙ s r h;
      }

-- ---- what keeps the shape

later : (t : ℕ) (vs : List Version) → all (λ v. leb v.stamp t) vs ≡ true → all (λ v. leb v.stamp (suc t)) vs ≡ true
later t vs h =
    all_weaker (λ v. leb v.stamp t) (λ v. leb v.stamp (suc t)) vs (λ x e. le-leb x.stamp (suc t) (let k = leb-true x.stamp t e in omega arith)) h

-- a commit, with this value or with none
pub commit-shape : (t : ℕ) (rs : List ℕ) (vs : List Version) (k : Option ℤ) → VersionsShape t rs vs → VersionsShape (suc t) rs (prune rs (pushed (suc t) vs k))
commit-shape t rs vs none v = prune-shape rs vs (suc t) v.least v.order (later t vs v.bound) v.served
commit-shape t rs vs (some z) v =
    prune-shape rs (record { stamp = suc t; value = z } ∷ vs) (suc t) (omega arith)
    (rw (all_weaker (λ v. leb v.stamp t) (λ v. ltb v.stamp (suc t)) vs (λ x e. lt-ltb x.stamp (suc t) (let h = leb-true x.stamp t e in omega arith)) v.bound) v.order)
    (rw (le-leb (suc t) (suc t) (omega arith)) (later t vs v.bound))
    (λ r h. or_right (leb (suc t) r) (any (λ v. leb v.stamp r) vs) (v.served r h))

-- a reader's close: fewer are open
pub close_shape : (t : ℕ) (rs ts : List ℕ) (vs : List Version) → ((r : ℕ) → any (eqb r) ts ≡ true → any (eqb r) rs ≡ true) → VersionsShape t rs vs → VersionsShape t ts (prune ts vs)
close_shape t rs ts vs sub v =
    prune-shape ts vs t v.least v.order v.bound (λ r h. v.served r (sub r h))

-- a reader's opening: what was held is held, and the new one sees the newest
pub open_shape : (t : ℕ) (rs ts : List ℕ) (vs : List Version) → ((r : ℕ) → any (eqb r) rs ≡ true → any (eqb r) ts ≡ true)
    → ((r : ℕ) → any (eqb r) ts ≡ true → (t ≡ r) ⊎ (any (eqb r) rs ≡ true)) → VersionsShape t rs vs → VersionsShape t ts vs
unfolding held
open_shape t rs ts vs sub new v =
    record {
      least = v.least;
      order = v.order;
      bound = v.bound;
      each = all_weaker (held rs vs) (held ts vs) vs (λ x e. still x (either (eqb x.stamp (newest vs).stamp) (any (λ r. eqb x.stamp (as_of r vs).stamp) rs) e)) v.each;
      served = λ r h. sees r (new r h);
    }
  where
    still : (x : Version) → (eqb x.stamp (newest vs).stamp ≡ true) ⊎ (any (λ r. eqb x.stamp (as_of r vs).stamp) rs ≡ true) → held ts vs x ≡ true
    still x (inl e) = or_left (eqb x.stamp (newest vs).stamp) (any (λ r. eqb x.stamp (as_of r vs).stamp) ts) e
    still x (inr e) =
        or_right (eqb x.stamp (newest vs).stamp) (any (λ r. eqb x.stamp (as_of r vs).stamp) ts) (any-more (λ r. eqb x.stamp (as_of r vs).stamp) rs ts sub e)

    sees : (r : ℕ) → (t ≡ r) ⊎ (any (eqb r) rs ≡ true) → any (λ v. leb v.stamp r) vs ≡ true
    sees r (inl e) = all_any (λ v. leb v.stamp r) (λ v. true) vs (rw (← e) v.bound) (some-any vs v.least)
    sees r (inr h) = v.served r h

-- ---- how many versions there are

count-or : (p q : Version → Bool) (vs : List Version) → count (λ v. p v || q v) vs ≤ count p vs + count q vs
count-or p q [] = omega arith
count-or p q (v ∷ vs) = go' (p v) (q v) (count-or p q vs)
  where
    go' : (a b : Bool) → count (λ v. p v || q v) vs ≤ count p vs + count q vs → cond (a || b) (suc (count (λ v. p v || q v) vs)) (count (λ v. p v || q v) vs) ≤ cond a (suc (count p vs)) (count p vs) + cond b (suc (count q vs)) (count q vs)
    go' true true h = omega arith
    go' true false h = omega arith
    go' false true h = omega arith
    go' false false h = omega arith

count-any : (f : ℕ → Version → Bool) (vs : List Version) → ((r : ℕ) → count (f r) vs ≤ 1) → (rs : List ℕ) → count (λ v. any (λ r. f r v) rs) vs ≤ length rs
count-any f vs h [] = nobody vs
  where
    nobody : (vs : List Version) → count (λ v. false) vs ≤ 0
    nobody [] = omega arith
    nobody (v ∷ vs) = nobody vs
count-any f vs h (r ∷ rs) = omega (arith, count-or (f r) (λ v. any (λ r. f r v) rs) vs, h r, count-any f vs h rs)

count-below : (x y : ℕ) (vs : List Version) → y ≤ x → all (λ w. ltb w.stamp y) vs ≡ true → count (λ v. eqb v.stamp x) vs ≡ 0
count-below x y [] l h = refl
count-below x y (v ∷ vs) l h =
    let k = both (ltb v.stamp y) (all (λ w. ltb w.stamp y) vs) h in
    rw (ne_eqb v.stamp x (let m = ltb-true v.stamp y k.0 in omega arith), count-below x y vs l k.1)

-- no two versions have one timestamp
count-one : (x : ℕ) (vs : List Version) → falling vs ≡ true → count (λ v. eqb v.stamp x) vs ≤ 1
count-one x [] h = omega arith
count-one x (v ∷ vs) h =
    let k = both (all (λ w. ltb w.stamp v.stamp) vs) (falling vs) h in
    go' (eqb v.stamp x) refl k.0 (count-one x vs k.1)
  where
    go' : (b : Bool) → eqb v.stamp x ≡ b → all (λ w. ltb w.stamp v.stamp) vs ≡ true → count (λ v. eqb v.stamp x) vs ≤ 1 → cond b (suc (count (λ v. eqb v.stamp x) vs)) (count (λ v. eqb v.stamp x) vs) ≤ 1
    go' true e a i = let q = eqb-true v.stamp x e in omega (arith, count-below x v.stamp vs (omega arith) a)
    go' false e a i = i

count-all : (q : Version → Bool) (vs : List Version) → all q vs ≡ true → length vs ≡ count q vs
count-all q [] h = refl
count-all q (v ∷ vs) h = let k = both (q v) (all q vs) h in rw (k.0, count-all q vs k.1)

-- "Seven readers .. and eight versions an object therefore always suffice"
pub few : (t : ℕ) (rs : List ℕ) (vs : List Version) → VersionsShape t rs vs → length vs ≤ suc (length rs)
unfolding held
few t rs vs v =
    let all_held = count-all (held rs vs) vs v.each in
    let by-rule = count-or (λ w. eqb w.stamp (newest vs).stamp) (λ w. any (λ r. eqb w.stamp (as_of r vs).stamp) rs) vs in
    let by_readers = count-any (λ r w. eqb w.stamp (as_of r vs).stamp) vs (λ r. count-one (as_of r vs).stamp vs v.order) rs in
    omega (arith, count-one (newest vs).stamp vs v.order)
