-- A table beside a set: agreement with a read set, and a write set laid over it from its last entry on. Entry i of n is f i, wherever it stands.
-- Assumes nothing.
use Prim.Native.Nat.{ℕ, zero, suc, ◌<◌}
use Rattle.std.specs.Prelude.{◌≡◌, Bool, true, false, cond, List, [], ◌∷◌, ◌++◌, ℤ, pos, eqb, set, drop}
use Rattle.std.proofs.Math.Path.{refl, fun_ext}
use Rattle.std.proofs.Common.{sym, ◌∙◌, arith, length-set, get_or-set_same, get_or-set_other, eqb-true, ltb-true}
use Rattle.std.proofs.Math.Bool.{and-false}
use Rattle.std.proofs.Math.Option.{none, some, get_or}
use Rattle.std.proofs.lemmas.Bool.{eqb-false}
use Rattle.arith.specs.Integer.{eq_z, fits}
use Rattle.arith.proofs.IntegerLaws.{eq_eq_z, ne_eq_z}
use Rattle.operation.specs.Body.{listed}
use Rattle.execution.specs.Entries.{Entry, lookup}
use Rattle.execution.specs.Run.{Table, Beside, value_of, table_of, object_count, matches, over}
use Rattle.execution.proofs.ReadAgreement.{both}
use Rattle.execution.specs.RunShape.{sound, every}

-- ---- agreement

module _ (T : Table) where
  pub all-match : (f : ℕ → Entry) (n : ℕ) → ((k : ℕ) → k < n → T.look (f k).object ≡ (f k).value) → matches T (listed f n) ≡ true
  unfolding listed
  all-match f zero h = refl
  all-match f (suc n) h =
      rw (eq_eq_z (T.look (f 0).object) (f 0).value (h 0 (omega arith))) (all-match (λ i. f (suc i)) n (λ k l. h (suc k) (omega arith)))

  pub one-differs : (f : ℕ → Entry) (n i : ℕ) → i < n → (T.look (f i).object ≡ (f i).value → ⊥) → matches T (listed f n) ≡ false
  unfolding listed
  one-differs f zero i l h = absurd (omega arith)
  one-differs f (suc n) zero l h = rw (ne_eq_z (T.look (f 0).object) (f 0).value h)
  one-differs f (suc n) (suc i) l h = rw (one-differs (λ k. f (suc k)) n i (omega arith) h) (and-false (eq_z (T.look (f 0).object) (f 0).value))

-- ---- overlay

pub drop-next : {A : Type 0} (f : ℕ → A) (n i : ℕ) → i < n → drop i (listed f n) ≡ f i ∷ drop (suc i) (listed f n)
unfolding listed
drop-next f zero i l = absurd (omega arith)
drop-next f (suc n) zero l = refl
drop-next f (suc n) (suc i) l = drop-next (λ k. f (suc k)) n i (omega arith)

pub drop-end : {A : Type 0} (f : ℕ → A) (n : ℕ) → drop n (listed f n) ≡ []
unfolding listed
drop-end f zero = refl
drop-end f (suc n) = drop-end (λ k. f (suc k)) n

pub every-at : (q : Entry → Bool) (f : ℕ → Entry) (n i : ℕ) → i < n → every q (listed f n) ≡ true → q (f i) ≡ true
unfolding listed
every-at q f zero i l e = absurd (omega arith)
every-at q f (suc n) zero l e = (both (q (f 0)) _ e).0
every-at q f (suc n) (suc i) l e = every-at q (λ k. f (suc k)) n i (omega arith) (both (q (f 0)) _ e).1

-- a set's last entry is laid first
last-laid : (l : List Entry) (e : Entry) (table : List ℤ) (o : ℕ) → e.object < object_count table
    → get_or (lookup (l ++ e ∷ []) o) (value_of table o) ≡ get_or (lookup l o) (value_of (set table e.object e.value) o)
last-laid [] e table o h = at (eqb e.object o) refl
  where
    at : (t : Bool) → eqb e.object o ≡ t → get_or (cond t (some e.value) none) (value_of table o) ≡ value_of (set table e.object e.value) o
    at true q = sym (rw (← (eqb-true e.object o q)) (get_or-set_same table e.object e.value (pos 0) h))
    at false q = sym (get_or-set_other table e.object o e.value (pos 0) (λ d. eqb-false e.object o q (sym d)))
last-laid (x ∷ l) e table o h =
    let rest = last-laid l e table o h in
    elim (eqb x.object o) as (λ t. get_or (cond t (some x.value) (lookup (l ++ e ∷ []) o)) (value_of table o) ≡ get_or (cond t (some x.value) (lookup l o)) (value_of (set table e.object e.value) o)) [ true ↦ refl | false ↦ rest ]

every-last : (q : Entry → Bool) (l : List Entry) (e : Entry) → every q (l ++ e ∷ []) ≡ true → (every q l ≡ true) × (q e ≡ true)
every-last q [] e h = (refl, (both (q e) true h).0)
every-last q (x ∷ l) e h =
    let k = both (q x) _ h in
    let r = every-last q l e k.1 in
    (rw (k.0, r.0), r.1)

-- the set `writes` over the table `first`
module _ (first : List ℤ) (writes : List Entry) where
  -- `table` is `first` with the last entries laid over it; `rest` are those before them
  pub record Laid (rest : List Entry) (table : List ℤ) : Type 0 where
    pub inside : every (sound (object_count first)) rest ≡ true
    pub same : object_count table ≡ object_count first
    pub values : (o : ℕ) → get_or (lookup rest o) (value_of table o) ≡ get_or (lookup writes o) (value_of first o)

  pub laid_none : every (sound (object_count first)) writes ≡ true → Laid writes first
  laid_none h = record { inside = h; same = refl; values = λ o. refl }

  pub in_table : (rest : List Entry) (e : Entry) (table : List ℤ) → Laid (rest ++ e ∷ []) table → e.object < object_count table
  in_table rest e table k =
      let h = (every-last (sound (object_count first)) rest e k.inside).1 in
      let below = ltb-true _ _ (both _ (fits e.value) h).0 in
      omega (arith, k.same)

  pub laid_one : (rest : List Entry) (e : Entry) (table : List ℤ) → Laid (rest ++ e ∷ []) table → Laid rest (set table e.object e.value)
  laid_one rest e table k =
      record {
        inside = (every-last (sound (object_count first)) rest e k.inside).0;
        same = length-set table e.object e.value ∙ k.same;
        values = λ o. sym (last-laid rest e table o (in_table rest e table k)) ∙ k.values o;
      }

  pub laid-all : (table : List ℤ) → Laid [] table → (b : Beside) → table_of table b ≡ over writes (table_of first b)
  laid-all table k b j = record { look = fun_ext k.values j; stamp = b.stamp; allow = b.allow }
