-- What follows from `specs/VersionLaws`. Assumes nothing.
use Rattle.std.specs.Prelude.{◌≡◌, refl, ◌⊎◌, Bool, false, cond, ◌||◌, List, [], ◌∷◌, map, ℕ, zero, suc, ◌≤◌, ◌<◌, ℤ, length, get_or, set}
use Rattle.std.proofs.Common.{sym, ◌∙◌, inl, inr, arith}
use Rattle.std.proofs.Math.Path.{ap}
use Rattle.std.proofs.Math.Bool.{true}
use Rattle.std.proofs.lemmas.Bool.{false≢true}
use Rattle.std.proofs.Math.Option
use Rattle.std.proofs.Math.Option.{Option, none, some}
use Rattle.std.proofs.Math.Dec.{eqb, leb}
use Rattle.std.proofs.Math.ListN.{get_or-map}
use borrow.Author.Tests.{eq-eqb, eqb-true, le-leb, leb-true, lt-leb}
use Rattle.execution.specs.Entries.{Entry, lookup}
use Rattle.execution.specs.Bounds.{Bounds, no_bounds, inside}
use Rattle.execution.proofs.ReadAgreement.{both}
use Rattle.model.specs.Lists.{pick, any, all}
use Rattle.model.specs.declared.Limits.{Limits}
use Rattle.model.specs.Interface.{Opening, by_values, opening}
use Rattle.model.specs.Calls.{Facts, refusal}
use Rattle.model.specs.Start.{Version, no_version, start_of}
use Rattle.model.specs.Replica.{newest, as_of, opens, held, prune, table, pushed, install}
use Rattle.model.specs.ListLaws.{All}
use Rattle.model.proofs.ListLaws.{or_right, any-has, pick-keep, length-mapi, map-mapi, map_mapi-same, map_map-same, all-mapi}
use Rattle.model.specs.VersionLaws.{replaced, overlay, Until, Dated, values_of}

-- ---- pruning

module _ (rs : List ℕ) (vs : List Version) where
  -- the newest version is held
  pub newest-prune : newest (prune rs vs) ≡ newest vs
  unfolding prune held
  newest-prune =
      ap (λ k. Option.get_or k no_version) (pick-keep (λ v. true) (held rs vs) vs (λ x e. rw (e, eq-eqb x.stamp x.stamp refl)))

  -- so is each open reader's
  pub as_of-prune : (r : ℕ) → any (eqb r) rs ≡ true → as_of r (prune rs vs) ≡ as_of r vs
  unfolding prune held
  as_of-prune r h = ap (λ k. Option.get_or k no_version) (pick-keep (λ v. leb v.stamp r) (held rs vs) vs (λ x e. seen x (by_reader x e)))
    where
      by_reader : (x : Version) → pick (λ v. leb v.stamp r) vs ≡ some x → eqb x.stamp (as_of r vs).stamp ≡ true
      by_reader x e = rw e (eq-eqb x.stamp x.stamp refl)

      seen : (x : Version) → eqb x.stamp (as_of r vs).stamp ≡ true → held rs vs x ≡ true
      seen x e =
          or_right (eqb x.stamp (newest vs).stamp) (any (λ r. eqb x.stamp (as_of r vs).stamp) rs) (any-has (λ r. eqb x.stamp (as_of r vs).stamp) r rs h e)

-- ---- a new version

-- it is the newest
newest-pushed : (t : ℕ) (vs : List Version) (k : Option ℤ) → newest (pushed t vs k) ≡ replaced t (newest vs) k
newest-pushed t vs none = refl
newest-pushed t vs (some v) = refl

-- no earlier reader sees it
as_of-pushed : (t : ℕ) (vs : List Version) (k : Option ℤ) (r : ℕ) → r < t → as_of r (pushed t vs k) ≡ as_of r vs
as_of-pushed t vs none r h = refl
as_of-pushed t vs (some v) r h = rw (lt-leb t r h)

-- at the current timestamp a reader sees the newest
pub as_of-now : (t : ℕ) (vs : List Version) → (newest vs).stamp ≤ t → as_of t vs ≡ newest vs
as_of-now t [] h = refl
as_of-now t (v ∷ vs) h = rw (le-leb v.stamp t h)

-- objects whose newest versions are the same, one by one
pub newest-at : (a b : List (List Version)) → map newest a ≡ map newest b → (o : ℕ) → newest (get_or a o []) ≡ newest (get_or b o [])
newest-at a b e o = sym (get_or-map newest a o []) ∙ ap (λ (vs : List Version). get_or vs o no_version) e ∙ get_or-map newest b o []

-- the newest is one of the versions, or none
pub newest-one : (P : Version → Type 0) (vs : List Version) → P no_version → All P vs → P (newest vs)
newest-one P [] n h = n
newest-one P (v ∷ vs) n h = h.0

-- so is what a reader sees
pub as_of-one : (P : Version → Type 0) (r : ℕ) (vs : List Version) → P no_version → All P vs → P (as_of r vs)
as_of-one P r [] n h = n
as_of-one P r (v ∷ vs) n h = go' (leb v.stamp r) (as_of-one P r vs n h.1)
  where
    go' : (b : Bool) → P (as_of r vs) → P (Option.get_or (cond b (some v) (pick (λ w. leb w.stamp r) vs)) no_version)
    go' true k = h.0
    go' false k = k

-- ---- a commit

module _ (t : ℕ) (rs : List ℕ) (writes : List Entry) (objs : List (List Version)) where
  pub newest-install : map newest (install t rs writes objs) ≡ overlay t writes (map newest objs)
  unfolding install overlay
  newest-install =
      map-mapi newest (λ o vs. prune rs (pushed t vs (lookup writes o))) (λ o x. replaced t x (lookup writes o)) objs (λ o vs. newest-prune rs (pushed t vs (lookup writes o)) ∙ newest-pushed t vs (lookup writes o))

  pub as_of-install : (r : ℕ) → any (eqb r) rs ≡ true → r < t → map (as_of r) (install t rs writes objs) ≡ map (as_of r) objs
  unfolding install
  as_of-install r h l =
      map_mapi-same (as_of r) (λ o vs. prune rs (pushed t vs (lookup writes o))) objs (λ o vs. as_of-prune rs (pushed t vs (lookup writes o)) r h ∙ as_of-pushed t vs (lookup writes o) r l)

  pub length-install : length (install t rs writes objs) ≡ length objs
  unfolding install
  length-install = length-mapi (λ o vs. prune rs (pushed t vs (lookup writes o))) objs

pub none-later : (t : ℕ) (vs : List Version) → all (λ v. leb v.stamp t) vs ≡ true → All (λ (v : Version). v.stamp ≤ t) vs
none-later t [] h = tt
none-later t (v ∷ vs) h =
    let k = both (leb v.stamp t) (all (λ v. leb v.stamp t) vs) h in (leb-true v.stamp t k.0, none-later t vs k.1)

pub newest-until : (t : ℕ) (vs : List Version) → all (λ v. leb v.stamp t) vs ≡ true → Until t vs
newest-until t vs h = newest-one (λ (v : Version). v.stamp ≤ t) vs (omega arith) (none-later t vs h)

pub until_prune : (rs : List ℕ) (t : ℕ) (objs : List (List Version)) → All (Until t) objs → All (Until t) (map (prune rs) objs)
until_prune rs t [] h = tt
until_prune rs t (x ∷ l) h = (rw (newest-prune rs x) h.0, until_prune rs t l h.1)

pub until_install : (t t' : ℕ) (rs : List ℕ) (writes : List Entry) (objs : List (List Version)) → t ≤ t' → All (Until t) objs → All (Until t') (install t' rs writes objs)
unfolding install
until_install t t' rs writes objs le h =
    all-mapi (Until t) (Until t') (λ o vs. prune rs (pushed t' vs (lookup writes o))) objs (λ o vs k. rw (newest-prune rs (pushed t' vs (lookup writes o))) (new vs (lookup writes o) k)) h
  where
    new : (vs : List Version) (k : Option ℤ) → Until t vs → Until t' (pushed t' vs k)
    new vs none h = omega arith
    new vs (some v) h = omega arith

-- every start that is accepted is so
pub opening-dated : (l : Limits) (f : Facts) (o : Opening) → refusal l f (opening o) ≡ 0 → Dated (start_of o)
opening-dated l f (by_values n vs los his t) e = go' vs
  where
    go' : (vs : List ℤ) → Dated (start_of (by_values n vs los his t))
    go' [] = tt
    go' (v ∷ vs) = (omega arith, go' vs)

pub table-values : (objs : List (List Version)) (bs : List Bounds) → values_of (map newest objs) bs ≡ table objs bs
table-values objs bs i =
    record {
      look = λ o. (get_or-map newest objs o [] i).value;
      stamp = λ o. (get_or-map newest objs o [] i).stamp;
      allow = λ o. inside (get_or bs o no_bounds);
    }

pub table-prune : (rs : List ℕ) (objs : List (List Version)) (bs : List Bounds) → table (map (prune rs) objs) bs ≡ table objs bs
table-prune rs objs bs =
    sym (table-values (map (prune rs) objs) bs)
    ∙ ap (λ (vs : List Version). values_of vs bs) (map_map-same newest (prune rs) objs (newest-prune rs))
    ∙ table-values objs bs

-- ---- the open readers

-- the open readers' views, one by one
pub views : {B : Type 0} (f g : ℕ → B) (l : List (Option ℕ)) → ((r : ℕ) → any (eqb r) (opens l) ≡ true → f r ≡ g r) → map (Option.map f) l ≡ map (Option.map g) l
views f g [] h = refl
views f g (none ∷ l) h = ap (none ∷◌) (views f g l h)
views f g (some r ∷ l) h =
    rw (h r (rw (eq-eqb r r refl)), views f g l (λ x e. h x (or_right (eqb x r) (any (eqb x) (opens l)) e)))

opens-more : (x : Option ℕ) (l : List (Option ℕ)) (r : ℕ) → any (eqb r) (opens l) ≡ true → any (eqb r) (opens (x ∷ l)) ≡ true
opens-more none l r h = h
opens-more (some y) l r h = or_right (eqb r y) (any (eqb r) (opens l)) h

-- who is open after one reader's entry has changed
pub opens-set : (l : List (Option ℕ)) (i : ℕ) (k : Option ℕ) (r : ℕ) → any (eqb r) (opens (set l i k)) ≡ true → (k ≡ some r) ⊎ (any (eqb r) (opens l) ≡ true)
opens-set [] i k r h = absurd (false≢true h)
opens-set (x ∷ l) zero none r h = inr (opens-more x l r h)
opens-set (x ∷ l) zero (some y) r h = go' (eqb r y) refl h
  where
    go' : (b : Bool) → eqb r y ≡ b → b || any (eqb r) (opens l) ≡ true → (some y ≡ some r) ⊎ (any (eqb r) (opens (x ∷ l)) ≡ true)
    go' true e h = inl (ap some (sym (eqb-true r y e)))
    go' false e h = inr (opens-more x l r h)
opens-set (none ∷ l) (suc i) k r h = opens-set l i k r h
opens-set (some y ∷ l) (suc i) k r h = go' (eqb r y) h (opens-set l i k r)
  where
    go' : (b : Bool) → b || any (eqb r) (opens (set l i k)) ≡ true → (any (eqb r) (opens (set l i k)) ≡ true → (k ≡ some r) ⊎ (any (eqb r) (opens l) ≡ true)) → (k ≡ some r) ⊎ (b || any (eqb r) (opens l) ≡ true)
    go' true h i = inr refl
    go' false h i = i h
