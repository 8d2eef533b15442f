-- The one-pass forms say what the definitions say: `between` is held, `chain` the check, `trim` pruning. Assumes nothing.
use Rattle.std.specs.Prelude.{◌≡◌, refl, ◌⊎◌, Bool, true, false, cond, ◌&&◌, ◌||◌, List, [], ◌∷◌, ℕ, zero, suc, ◌≤◌, ◌<◌, eqb, leb, ltb}
use Rattle.std.proofs.Common.{sym, ap, ap₂, ◌∙◌, inl, inr, true≢false, arith, ltb-true, leb-true, leb-false, lt-ltb, le-ltb, le-leb, eq-eqb, ne_eqb}
use Rattle.std.proofs.Math.Bool.{and-true, and-false, and_assoc, or-false}
use Rattle.std.proofs.Math.Option.{some, get_or}
use Rattle.std.proofs.Math.Dec.{leb-suc-zero, leb-suc-suc}
use Rattle.std.proofs.lemmas.Bool.{lt-leb}
use Rattle.execution.proofs.ReadAgreement.{both}
use Rattle.model.specs.Lists.{pick, keep, any, all}
use Rattle.model.specs.Serial.{Version, no_version}
use Rattle.model.specs.Replica.{newest, as_of, held, prune}
use Rattle.model.specs.Shape.{falling}
use Rattle.model.specs.ShapeCheck.{versions_shaped}
use Rattle.versions.specs.Block.{stamps, between, lower, lowest, chain, trim}

pub le_or_lt : (a b : ℕ) → (a ≤ b) ⊎ (b < a)
le_or_lt a b = go' (leb a b) refl
  where
    go' : (t : Bool) → leb a b ≡ t → (a ≤ b) ⊎ (b < a)
    go' true e = inl (leb-true a b e)
    go' false e = inr (leb-false a b e)

-- ---- the open readers, by their cells

-- a test of stamps, on a reader's cell; d where it is closed
abbrev through : (ℕ → Bool) → Bool → ℕ → Bool
through f d zero = d
through f d (suc r) = f r

any-stamps : (f : ℕ → Bool) (rc : List ℕ) → any f (stamps rc) ≡ any (through f false) rc
unfolding stamps
any-stamps f [] = refl
any-stamps f (zero ∷ rc) = any-stamps f rc
any-stamps f (suc r ∷ rc) = ap (f r ||◌) (any-stamps f rc)

all-stamps : (f : ℕ → Bool) (rc : List ℕ) → all f (stamps rc) ≡ all (through f true) rc
unfolding stamps
all-stamps f [] = refl
all-stamps f (zero ∷ rc) = all-stamps f rc
all-stamps f (suc r ∷ rc) = ap (f r &&◌) (all-stamps f rc)

module _ {A : Type 0} (f g : A → Bool) (h : (a : A) → f a ≡ g a) where
  any-ext : (l : List A) → any f l ≡ any g l
  any-ext [] = refl
  any-ext (x ∷ l) = ap₂ ◌||◌ (h x) (any-ext l)

  all-ext : (l : List A) → all f l ≡ all g l
  all-ext [] = refl
  all-ext (x ∷ l) = ap₂ ◌&&◌ (h x) (all-ext l)

between-stamps : (rc : List ℕ) (s upper : ℕ) → any (λ r. leb s r && ltb r upper) (stamps rc) ≡ between rc s upper
unfolding between
between-stamps rc s upper =
    any-stamps (λ r. leb s r && ltb r upper) rc ∙ any-ext (through (λ r. leb s r && ltb r upper) false) (λ c. ltb s c && leb c upper) same rc
  where
    same : (c : ℕ) → through (λ r. leb s r && ltb r upper) false c ≡ ltb s c && leb c upper
    same zero = rw (leb-suc-zero s)
    same (suc r) = rw (leb-suc-suc s r)

-- where there is such a reader, s is below upper
between-falls : (rc : List ℕ) (s upper : ℕ) → between rc s upper ≡ true → s < upper
unfolding between
between-falls [] s upper e = absurd (true≢false (sym e))
between-falls (c ∷ rc) s upper e = go' (ltb s c) (leb c upper) refl refl e (between-falls rc s upper)
  where
    go' : (a b : Bool) → ltb s c ≡ a → leb c upper ≡ b → (a && b) || any (λ c. ltb s c && leb c upper) rc ≡ true → (any (λ c. ltb s c && leb c upper) rc ≡ true → s < upper) → s < upper
    go' true true ea eb h i = omega (arith, ltb-true s c ea, leb-true c upper eb)
    go' true false ea eb h i = i h
    go' false b ea eb h i = i h

-- x is below the lowest exactly if it is below top and no open reader's stamp is below it
lower-below : (x top c : ℕ) → ltb x (lower top c) ≡ ltb x top && through (λ r. leb x r) true c
lower-below x top zero = sym (and-true (ltb x top))
lower-below x top (suc r) = rw (lt-ltb 0 (suc r) (omega arith)) (go' (ltb (suc r) top) refl)
  where
    go' : (b : Bool) → ltb (suc r) top ≡ b → ltb x (cond b (suc r) top) ≡ ltb x top && leb x r
    go' true e = rw (leb-suc-suc x r) (cases (le_or_lt x r))
      where
        cases : (x ≤ r) ⊎ (r < x) → leb x r ≡ ltb x top && leb x r
        cases (inl h) = rw (lt-ltb x top (let k = ltb-true (suc r) top e in omega arith))
        cases (inr h) = rw (lt-leb x r h) (sym (and-false (ltb x top)))
    go' false e = cases (le_or_lt top x) (le_or_lt top (suc r))
      where
        cases : (top ≤ x) ⊎ (x < top) → (top ≤ suc r) ⊎ (suc r < top) → ltb x top ≡ ltb x top && leb x r
        cases (inl h) k = rw (le-ltb x top h)
        cases (inr h) (inl k) = rw (lt-ltb x top h) (sym (le-leb x r (omega arith)))
        cases (inr h) (inr k) = absurd (true≢false (sym (lt-ltb (suc r) top k) ∙ e))

pub lowest-below : (rc : List ℕ) (x top : ℕ) → ltb x (lowest top rc) ≡ ltb x top && all (λ r. leb x r) (stamps rc)
unfolding lowest
lowest-below rc x top = go' rc top ∙ ap (ltb x top &&◌) (sym (all-stamps (λ r. leb x r) rc))
  where
    go' : (rc : List ℕ) (top : ℕ) → ltb x (lowest top rc) ≡ ltb x top && all (through (λ r. leb x r) true) rc
    go' [] top = sym (and-true (ltb x top))
    go' (c ∷ rc) top =
        go' rc (lower top c)
        ∙ ap (◌&& all (through (λ r. leb x r) true) rc) (lower-below x top c)
        ∙ and_assoc (ltb x top) (through (λ r. leb x r) true c) (all (through (λ r. leb x r) true) rc)

pub lowest-le : (top : ℕ) (rc : List ℕ) → lowest top rc ≤ top
unfolding lowest
lowest-le top [] = omega arith
lowest-le top (c ∷ rc) = go' (ltb 0 c && ltb c top) refl (lowest-le (lower top c) rc)
  where
    go' : (b : Bool) → ltb 0 c && ltb c top ≡ b → lowest (cond b c top) rc ≤ cond b c top → lowest (cond b c top) rc ≤ top
    go' true e h = let k = both (ltb 0 c) (ltb c top) e in omega (arith, ltb-true c top k.1)
    go' false e h = h

-- ---- falling, neighbour by neighbour

unfoldable pub falls : ℕ → List Version → Bool
falls upper [] = true
falls upper (v ∷ vs) = ltb v.stamp upper && falls v.stamp vs

abbrev oldest : ℕ → List Version → ℕ
oldest upper [] = upper
oldest upper (v ∷ vs) = oldest v.stamp vs

falls-all : (upper top : ℕ) (vs : List Version) → upper ≤ top → falls upper vs ≡ true → all (λ w. ltb w.stamp top) vs ≡ true
unfolding falls
falls-all upper top [] l h = refl
falls-all upper top (v ∷ vs) l h =
    let k = both (ltb v.stamp upper) (falls v.stamp vs) h in
    let m : v.stamp < upper = ltb-true v.stamp upper k.0 in
    rw (lt-ltb v.stamp top (omega arith), falls-all v.stamp top vs (omega arith) k.1)

pub falling-falls : (v : Version) (vs : List Version) → falling (v ∷ vs) ≡ falls v.stamp vs
unfolding falls
falling-falls v [] = refl
falling-falls v (w ∷ vs) = go' (ltb w.stamp v.stamp) (falls w.stamp vs) refl refl (falling-falls w vs)
  where
    go' : (a b : Bool) → ltb w.stamp v.stamp ≡ a → falls w.stamp vs ≡ b → falling (w ∷ vs) ≡ falls w.stamp vs → (a && all (λ x. ltb x.stamp v.stamp) vs) && falling (w ∷ vs) ≡ a && b
    go' false b ea eb i = refl
    go' true false ea eb i = rw (i, eb) (and-false (all (λ x. ltb x.stamp v.stamp) vs))
    go' true true ea eb i = rw (i, eb, falls-all w.stamp v.stamp vs (let m = ltb-true w.stamp v.stamp ea in omega arith) eb)

-- ---- held, of the next version

-- what holds of the whole list once the versions down to stamp u are passed and vs are left
record Passed (whole : List Version) (u : ℕ) (vs : List Version) : Type 0 where
  below : (r : ℕ) → r < u → as_of r whole ≡ as_of r vs
  above : (r : ℕ) → u ≤ r → u ≤ (as_of r whole).stamp
  top : u ≤ (newest whole).stamp

passed_start : (v : Version) (vs : List Version) → Passed (v ∷ vs) v.stamp vs
passed_start v vs = record {
  below = λ r h. rw (lt-leb v.stamp r h);
  above = λ r h. rw (le-leb v.stamp r h) (omega arith);
  top = omega arith;
}

passed-next : (whole : List Version) (u : ℕ) (v : Version) (vs : List Version) → v.stamp < u → Passed whole u (v ∷ vs) → Passed whole v.stamp vs
passed-next whole u v vs l p = record {
  below = λ r h. p.below r (omega arith) ∙ rw (lt-leb v.stamp r h);
  above = λ r h. go' r h (le_or_lt u r);
  top = omega (arith, p.top);
}
  where
    go' : (r : ℕ) → v.stamp ≤ r → (u ≤ r) ⊎ (r < u) → v.stamp ≤ (as_of r whole).stamp
    go' r h (inl k) = omega (arith, p.above r k)
    go' r h (inr k) = rw (p.below r k, le-leb v.stamp r h) (omega arith)

as_of-le : (r : ℕ) (vs : List Version) → (as_of r vs).stamp ≤ r
as_of-le r [] = omega arith
as_of-le r (v ∷ vs) = go' (leb v.stamp r) refl (as_of-le r vs)
  where
    go' : (b : Bool) → leb v.stamp r ≡ b → (as_of r vs).stamp ≤ r → (get_or (cond b (some v) (pick (λ w. leb w.stamp r) vs)) no_version).stamp ≤ r
    go' true e h = leb-true v.stamp r e
    go' false e h = h

sees : (whole : List Version) (u : ℕ) (v : Version) (vs : List Version) → v.stamp < u → Passed whole u (v ∷ vs) → (r : ℕ) → eqb v.stamp (as_of r whole).stamp ≡ leb v.stamp r && ltb r u
sees whole u v vs l p r = go' (le_or_lt u r) (le_or_lt v.stamp r)
  where
    go' : (u ≤ r) ⊎ (r < u) → (v.stamp ≤ r) ⊎ (r < v.stamp) → eqb v.stamp (as_of r whole).stamp ≡ leb v.stamp r && ltb r u
    go' (inl h) k =
        rw (le-leb v.stamp r (omega arith), le-ltb r u h) (ne_eqb v.stamp (as_of r whole).stamp (λ e. omega (arith, p.above r h)))
    go' (inr h) (inl k) = rw (p.below r h, le-leb v.stamp r k, lt-ltb r u h) (eq-eqb v.stamp v.stamp refl)
    go' (inr h) (inr k) =
        rw (p.below r h, lt-leb v.stamp r k) (ne_eqb v.stamp (as_of r vs).stamp (λ e. omega (arith, as_of-le r vs)))

held_next : (rc : List ℕ) (whole : List Version) (u : ℕ) (v : Version) (vs : List Version) → v.stamp < u → Passed whole u (v ∷ vs) → held (stamps rc) whole v ≡ between rc v.stamp u
unfolding held
held_next rc whole u v vs l p =
    rw (ne_eqb v.stamp (newest whole).stamp (λ e. omega (arith, p.top)))
    (any-ext (λ r. eqb v.stamp (as_of r whole).stamp) (λ r. leb v.stamp r && ltb r u) (sees whole u v vs l p) (stamps rc) ∙ between-stamps rc v.stamp u)

held-newest : (rs : List ℕ) (v : Version) (vs : List Version) → held rs (v ∷ vs) v ≡ true
unfolding held
held-newest rs v vs = rw (eq-eqb v.stamp v.stamp refl)

-- ---- pruning

keep-trim : (rc : List ℕ) (whole : List Version) (u : ℕ) (vs : List Version) → falls u vs ≡ true → Passed whole u vs → keep (held (stamps rc) whole) vs ≡ trim rc u vs
unfolding falls trim
keep-trim rc whole u [] h p = refl
keep-trim rc whole u (v ∷ vs) h p =
    let k = both (ltb v.stamp u) (falls v.stamp vs) h in
    let l = ltb-true v.stamp u k.0 in
    rw (held_next rc whole u v vs l p, keep-trim rc whole v.stamp vs k.1 (passed-next whole u v vs l p))

pub prune-trim : (rc : List ℕ) (v : Version) (vs : List Version) → falls v.stamp vs ≡ true → prune (stamps rc) (v ∷ vs) ≡ v ∷ trim rc v.stamp vs
unfolding prune
prune-trim rc v vs h = rw (held-newest (stamps rc) v vs, keep-trim rc (v ∷ vs) v.stamp vs h (passed_start v vs))

-- ---- the check

unfoldable tight : List ℕ → ℕ → List Version → Bool
tight rc upper [] = true
tight rc upper (v ∷ vs) = between rc v.stamp upper && tight rc v.stamp vs

all-tight : (rc : List ℕ) (whole : List Version) (u : ℕ) (vs : List Version) → falls u vs ≡ true → Passed whole u vs → all (held (stamps rc) whole) vs ≡ tight rc u vs
unfolding falls tight
all-tight rc whole u [] h p = refl
all-tight rc whole u (v ∷ vs) h p =
    let k = both (ltb v.stamp u) (falls v.stamp vs) h in
    let l = ltb-true v.stamp u k.0 in
    rw (held_next rc whole u v vs l p, all-tight rc whole v.stamp vs k.1 (passed-next whole u v vs l p))

chain-split : (rc : List ℕ) (low upper : ℕ) (vs : List Version) → chain rc low upper vs ≡ falls upper vs && (tight rc upper vs && ltb (oldest upper vs) low)
unfolding chain falls tight
chain-split rc low upper [] = refl
chain-split rc low upper (v ∷ vs) =
    rw (chain-split rc low v.stamp vs) (go' (between rc v.stamp upper) refl (ltb v.stamp upper) refl)
  where
    F : Bool
    F = falls v.stamp vs

    T : Bool
    T = tight rc v.stamp vs

    L : Bool
    L = ltb (oldest v.stamp vs) low

    go' : (b : Bool) → between rc v.stamp upper ≡ b → (l : Bool) → ltb v.stamp upper ≡ l → b && (F && (T && L)) ≡ (l && F) && ((b && T) && L)
    go' false e l q = sym (and-false (l && F))
    go' true e true q = refl
    go' true e false q = absurd (true≢false (sym (lt-ltb v.stamp upper (between-falls rc v.stamp upper e)) ∙ q))

oldest-le : (upper : ℕ) (vs : List Version) → falls upper vs ≡ true → oldest upper vs ≤ upper
unfolding falls
oldest-le upper [] h = omega arith
oldest-le upper (v ∷ vs) h =
    let k = both (ltb v.stamp upper) (falls v.stamp vs) h in
    omega (arith, ltb-true v.stamp upper k.0, oldest-le v.stamp vs k.1)

-- the newest version decides whether one is above the timestamp
bound-first : (timestamp : ℕ) (upper : ℕ) (vs : List Version) → falls upper vs ≡ true → leb upper timestamp && all (λ v. leb v.stamp timestamp) vs ≡ leb upper timestamp
unfolding falls
bound-first timestamp upper vs h = go' (leb upper timestamp) refl
  where
    all-le : (u : ℕ) (vs : List Version) → u ≤ timestamp → falls u vs ≡ true → all (λ v. leb v.stamp timestamp) vs ≡ true
    all-le u [] l h = refl
    all-le u (v ∷ vs) l h =
        let k = both (ltb v.stamp u) (falls v.stamp vs) h in
        let m : v.stamp < u = ltb-true v.stamp u k.0 in
        rw (le-leb v.stamp timestamp (omega arith), all-le v.stamp vs (omega arith) k.1)

    go' : (b : Bool) → leb upper timestamp ≡ b → b && all (λ v. leb v.stamp timestamp) vs ≡ b
    go' true e = all-le upper vs (leb-true upper timestamp e) h
    go' false e = refl

-- the oldest version decides whether a reader is served
any-oldest : (r : ℕ) (upper : ℕ) (vs : List Version) → falls upper vs ≡ true → leb upper r || any (λ w. leb w.stamp r) vs ≡ leb (oldest upper vs) r
unfolding falls
any-oldest r upper [] h = or-false (leb upper r)
any-oldest r upper (v ∷ vs) h = go' (any-oldest r v.stamp vs (both (ltb v.stamp upper) (falls v.stamp vs) h).1) (leb upper r) refl
  where
    go' : leb v.stamp r || any (λ w. leb w.stamp r) vs ≡ leb (oldest v.stamp vs) r → (b : Bool) → leb upper r ≡ b → b || (leb v.stamp r || any (λ w. leb w.stamp r) vs) ≡ leb (oldest v.stamp vs) r
    go' i true e =
        let k = both (ltb v.stamp upper) (falls v.stamp vs) h in
        sym (le-leb (oldest v.stamp vs) r (omega (arith, leb-true upper r e, ltb-true v.stamp upper k.0, oldest-le v.stamp vs k.1)))
    go' i false e = i

pub versions-chain : (timestamp : ℕ) (rc : List ℕ) (v : Version) (vs : List Version) → versions_shaped timestamp (stamps rc) (v ∷ vs) ≡ leb v.stamp timestamp && chain rc (lowest (suc timestamp) rc) v.stamp vs
unfolding versions_shaped
versions-chain timestamp rc v vs = rw (falling-falls v vs, chain-split rc (lowest (suc timestamp) rc) v.stamp vs) (go' (falls v.stamp vs) refl)
  where
    S : Bool
    S = all (λ r. leb v.stamp r || any (λ w. leb w.stamp r) vs) (stamps rc)

    B : Bool
    B = leb v.stamp timestamp && all (λ w. leb w.stamp timestamp) vs

    H : Bool
    H = held (stamps rc) (v ∷ vs) v && all (held (stamps rc) (v ∷ vs)) vs

    L : Bool
    L = ltb (oldest v.stamp vs) (lowest (suc timestamp) rc)

    served : falls v.stamp vs ≡ true → S ≡ all (λ r. leb (oldest v.stamp vs) r) (stamps rc)
    served f =
        all-ext (λ r. leb v.stamp r || any (λ w. leb w.stamp r) vs) (λ r. leb (oldest v.stamp vs) r) (λ r. any-oldest r v.stamp vs f) (stamps rc)

    low : v.stamp ≤ timestamp → falls v.stamp vs ≡ true → L ≡ all (λ r. leb (oldest v.stamp vs) r) (stamps rc)
    low l f =
        lowest-below rc (oldest v.stamp vs) (suc timestamp)
        ∙ ap (◌&& all (λ r. leb (oldest v.stamp vs) r) (stamps rc)) (lt-ltb (oldest v.stamp vs) (suc timestamp) (omega (arith, oldest-le v.stamp vs f)))

    each : falls v.stamp vs ≡ true → H ≡ tight rc v.stamp vs
    each f = rw (held-newest (stamps rc) v vs, all-tight rc (v ∷ vs) v.stamp vs f (passed_start v vs))

    end : falls v.stamp vs ≡ true → (b : Bool) → leb v.stamp timestamp ≡ b → b && (H && S) ≡ b && (tight rc v.stamp vs && L)
    end f true e = ap₂ ◌&&◌ (each f) (served f ∙ sym (low (leb-true v.stamp timestamp e) f))
    end f false e = refl

    go' : (f : Bool) → falls v.stamp vs ≡ f → f && (B && (H && (true && S))) ≡ leb v.stamp timestamp && (f && (tight rc v.stamp vs && L))
    go' true f = ap (◌&& (H && S)) (bound-first timestamp v.stamp vs f) ∙ end f (leb v.stamp timestamp) refl
    go' false f = sym (and-false (leb v.stamp timestamp))
