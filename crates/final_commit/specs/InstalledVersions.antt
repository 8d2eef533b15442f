-- Installing a write set, one entry after another: objects that are not written keep their versions, since all of them are held. Assumes nothing.
use Rattle.std.specs.Prelude.{◌≡◌, ◌≢◌, Bool, true, false, not, cond, ℕ, zero, suc, ◌<◌, ℤ, pos, eqb, length, get_or, take}
use Rattle.std.proofs.Math.Path.{refl, ap}
use Rattle.std.proofs.Common.{sym, ◌∙◌, arith, not-suc-le-zero, le_of_suc-le-suc, eq-eqb, ne_eqb}
use Rattle.std.proofs.lemmas.Bool.{false≢true}
use Rattle.std.proofs.Math.Option.{Option, none, some}
use mathlib.Core.List.{List, [], ◌∷◌}
use Rattle.std.proofs.Math.ListN.{set}
use Rattle.std.proofs.Math.Seq.{take-suc}
use Rattle.execution.specs.Entries.{Entry, entry, lookup, append}
use Rattle.execution.proofs.ReadAgreement.{both}
use Rattle.execution.specs.RunShape.{is_some, distinct, every}
use Rattle.model.specs.Lists.{mapi}
use Rattle.model.specs.ListLaws.{All}
use Rattle.model.proofs.ListLaws.{get_or-mapi, set-mapi}
use Rattle.model.specs.Serial.{Version}
use Rattle.model.specs.Replica.{held, prune, pushed, install}
use Rattle.model.specs.Shape.{VersionsShape}
use Rattle.model.proofs.Tests.{keep_all}

-- ---- versions that are all held

pub prune-shaped : (t : ℕ) (rs : List ℕ) (vs : List Version) → VersionsShape t rs vs → prune rs vs ≡ vs
unfolding prune
prune-shaped t rs vs v = keep_all (held rs vs) vs v.each

-- ---- one object changed

lookup-end : (ws : List Entry) (o : ℕ) (v : ℤ) → lookup ws o ≡ none → lookup (append ws o v) o ≡ some v
lookup-end [] o v h = rw (eq-eqb o o refl)
lookup-end (w ∷ ws) o v h = go' (eqb w.object o) h (lookup-end ws o v)
  where
    go' : (b : Bool) → cond b (some w.value) (lookup ws o) ≡ none → (lookup ws o ≡ none → lookup (append ws o v) o ≡ some v) → cond b (some w.value) (lookup (append ws o v) o) ≡ some v
    go' true h k = let z : ◌≡◌ {A = ℕ} 0 1 = cc in absurd (omega arith)
    go' false h k = k h

lookup-before : (ws : List Entry) (o : ℕ) (v : ℤ) (j : ℕ) → j ≢ o → lookup (append ws o v) j ≡ lookup ws j
lookup-before [] o v j h = rw (ne_eqb o j (λ e. h (sym e)))
lookup-before (w ∷ ws) o v j h = rw (lookup-before ws o v j h)

module _ (t : ℕ) (rs : List ℕ) where
  pub install-none : (s : ℕ) (objs : List (List Version)) → All (VersionsShape s rs) objs → install t rs [] objs ≡ objs
  unfolding install
  install-none s [] h = refl
  install-none s (vs ∷ objs) h = rw (prune-shaped s rs vs h.0) (ap (vs ∷◌) (install-none s objs h.1))

  module _ (ws : List Entry) (o : ℕ) (objs : List (List Version)) (new : lookup ws o ≡ none) where
    pub install-one : (v : ℤ) → set (install t rs ws objs) o (prune rs (pushed t (get_or objs o []) (some v))) ≡ install t rs (append ws o v) objs
    unfolding install
    install-one v =
        ap (λ (k : Option ℤ). set (mapi (λ o vs. prune rs (pushed t vs (lookup ws o))) objs) o (prune rs (pushed t (get_or objs o []) k))) (sym (lookup-end ws o v new))
        ∙ set-mapi (λ o vs. prune rs (pushed t vs (lookup ws o))) (λ j vs. prune rs (pushed t vs (lookup (append ws o v) j))) objs o [] _ refl
        (λ j vs n. ap (λ (k : Option ℤ). prune rs (pushed t vs k)) (lookup-before ws o v j n))

    -- an object not yet written
    pub install-before : (s : ℕ) → o < length objs → VersionsShape s rs (get_or objs o []) → get_or (install t rs ws objs) o [] ≡ get_or objs o []
    unfolding install
    install-before s h v =
        get_or-mapi (λ o vs. prune rs (pushed t vs (lookup ws o))) objs o [] [] h
        ∙ ap (λ (k : Option ℤ). prune rs (pushed t (get_or objs o []) k)) new
        ∙ prune-shaped s rs (get_or objs o []) v

-- ---- the entries of a write set, one after another

-- entry i of a set, as a read of it
abbrev pub nth_entry : List Entry → ℕ → Entry
nth_entry ws i = get_or ws i (entry 0 (pos 0))

stands : (ws : List Entry) (i : ℕ) → i < length ws → is_some (lookup ws (nth_entry ws i).object) ≡ true
stands [] i h = absurd (not-suc-le-zero h)
stands (w ∷ ws) zero h = rw (eq-eqb w.object w.object refl)
stands (w ∷ ws) (suc i) h = go' (eqb w.object (nth_entry ws i).object) (stands ws i (le_of_suc-le-suc h))
  where
    go' : (b : Bool) → is_some (lookup ws (nth_entry ws i).object) ≡ true → is_some (cond b (some w.value) (lookup ws (nth_entry ws i).object)) ≡ true
    go' true e = refl
    go' false e = e

first-time : (ws : List Entry) (i : ℕ) → i < length ws → distinct ws ≡ true → lookup (take i ws) (nth_entry ws i).object ≡ none
first-time [] i h d = absurd (not-suc-le-zero h)
first-time (w ∷ ws) zero h d = refl
first-time (w ∷ ws) (suc i) h d =
    let k = both (not (is_some (lookup ws w.object))) (distinct ws) d in
    rw (ne_eqb w.object (nth_entry ws i).object (λ e. never (lookup ws w.object) k.0 (rw e (stands ws i (le_of_suc-le-suc h)))))
    (first-time ws i (le_of_suc-le-suc h) k.1)
  where
    never : (o : Option ℤ) → not (is_some o) ≡ true → is_some o ≡ true → ⊥
    never o p q = false≢true (sym (ap not q) ∙ p)

every-at : (q : Entry → Bool) (ws : List Entry) (i : ℕ) → i < length ws → every q ws ≡ true → q (nth_entry ws i) ≡ true
every-at q [] i l e = absurd (not-suc-le-zero l)
every-at q (w ∷ ws) zero l e = (both (q w) (every q ws) e).0
every-at q (w ∷ ws) (suc i) l e = every-at q ws i (le_of_suc-le-suc l) (both (q w) (every q ws) e).1

module _ (ws : List Entry) where
  pub entries_none : take 0 ws ≡ []
  entries_none = refl

  module _ (i : ℕ) (h : i < length ws) where
    pub entries-end : take (suc i) ws ≡ append (take i ws) (nth_entry ws i).object (nth_entry ws i).value
    entries-end = take-suc ws i (entry 0 (pos 0)) h

    pub entry_new : distinct ws ≡ true → lookup (take i ws) (nth_entry ws i).object ≡ none
    entry_new d = first-time ws i h d

    pub entry-sound : (q : Entry → Bool) → every q ws ≡ true → q (nth_entry ws i) ≡ true
    entry-sound q e = every-at q ws i h e
