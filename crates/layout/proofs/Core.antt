-- What is left of the shape check on areas that are laid: what the encoding gives by itself (numbers of 64 bits, lists of fixed length, counts
-- within their limits) is tested no more. Assumes nothing.
use Rattle.std.specs.Prelude.{◌≡◌, refl, Bool, true, false, ◌&&◌, List, [], ◌∷◌, map, ℕ, suc, ◌^◌, ℤ, leb, ltb, length}
use Rattle.std.proofs.Math.Bool.{and-true}
use Rattle.std.specs.Int.Signed.{mag}
use Rattle.std.proofs.Common.{eq-eqb, le-leb, lt-ltb}
use Rattle.cells.specs.Cells.{Below}
use Rattle.arith.specs.Integer.{fits}
use Rattle.operation.specs.Body.{register_count, is_well_formed}
use Rattle.execution.specs.Entries.{Entry}
use Rattle.execution.specs.Bounds.{Bounds, ordered}
use Rattle.execution.specs.Run.{Run}
use Rattle.execution.specs.RunShape.{every, all_fit}
use Rattle.model.specs.declared.Limits.{Limits}
use Rattle.model.specs.Lists.{all, all₂}
use Rattle.model.specs.Calls.{Transaction, clients, last_timestamp}
use Rattle.model.specs.Serial.{Version}
use Rattle.model.specs.Replica.{Pending, Replica, opens}
use Rattle.model.specs.ListLaws.{All}
use Rattle.model.specs.EarlyResults.{sents}
use Rattle.model.specs.Shape.{versions_inside, distinct_keys, size_of, bounds_fit}
use Rattle.model.specs.ShapeCheck.{versions_shaped, key_unspent, run_shaped, in_order, checked, run_encoded, encoded, shaped}
use Rattle.layout.specs.Layout.{row_of, Areas, parse, lengths, laid}
use Rattle.layout.specs.Offsets.{Sane}
use Rattle.layout.specs.Printable.{ValueFits, BoundsFit, VersionFits, EntryFits, RunFits, RowFits, ObjectFits, Printable}
use Rattle.layout.proofs.PrintableLaws.{few_pending}
use Rattle.layout.proofs.RoundTrips.{parse-fits}
use Rattle.layout.specs.Fit.{fit}

unfoldable pub core : Limits → Replica → Bool
core l u =
    let n : ℕ = length u.objects in
    ltb 0 n
    && all (versions_shaped u.timestamp (opens u.readers)) u.objects
    && all ordered u.bounds
    && all₂ versions_inside u.bounds u.objects
    && all (λ r. leb r u.timestamp) (opens u.readers)
    && distinct_keys (sents u.pending)
    && all (key_unspent u.lasts) (sents u.pending)
    && all (λ (s : Transaction). is_well_formed l.operations n s.bytes) (sents u.pending)
    && in_order true u.pending
    && all (λ (j : Pending). run_shaped n u.bounds (size_of j) j.run) u.pending
    && (leb u.timestamp last_timestamp && all (λ s. ltb s (2 ^ 32)) u.lasts)

-- ---- what the encoding gives

all_true : {A : Type 0} (q : A → Bool) (P : A → Type 0) → ((a : A) → P a → q a ≡ true) → (l : List A) → All P l → all q l ≡ true
all_true q P h [] g = refl
all_true q P h (x ∷ l) g = rw (h x g.0, all_true q P h l g.1)

every_true : (es : List Entry) → All EntryFits es → every (λ x. fits x.value) es ≡ true
unfolding fits
every_true [] g = refl
every_true (x ∷ es) g = rw (lt-ltb (mag x.value) (2 ^ 63) g.0.1.sfits, every_true es g.1)

all_fit-true : (g : List ℤ) → All ValueFits g → all_fit g ≡ true
unfolding fits
all_fit-true [] h = refl
all_fit-true (z ∷ g) h = rw (lt-ltb (mag z) (2 ^ 63) h.0.sfits, all_fit-true g h.1)

value-true : (v : Version) → VersionFits v → fits v.value ≡ true
unfolding fits
value-true v g = lt-ltb (mag v.value) (2 ^ 63) g.1.sfits

bounds-true : (b : Bounds) → BoundsFit b → bounds_fit b ≡ true
unfolding fits
bounds-true b g = rw (lt-ltb (mag b.lower) (2 ^ 63) g.0.sfits, lt-ltb (mag b.upper) (2 ^ 63) g.1.sfits)

run-true : (m : ℕ) (p : Run) → RunFits m p → run_encoded p ≡ true
unfolding run_encoded
run-true m p g =
    let r = g.1.1.0 in
    let e = g.1.1.1 in
    rw (eq-eqb (length p.registers) register_count r.0, all_fit-true p.registers r.1, every_true p.reads e.1, every_true p.writes e.2)

module _ (m : ℕ) where
  runs : (js : List Pending) → All (RowFits m) (map row_of js) → all (λ (j : Pending). run_encoded j.run) js ≡ true
  runs [] g = refl
  runs (j ∷ js) g = rw (run-true m j.run g.0.1, runs js g.1)

  sequences : (js : List Pending) → All (RowFits m) (map row_of js) → all (λ (s : Transaction). ltb s.sequence (2 ^ 32)) (sents js) ≡ true
  sequences [] g = refl
  sequences (j ∷ js) g = rw (lt-ltb j.sent.sequence (2 ^ 32) g.0.0.1, sequences js g.1)

pub shaped-core : (l : Limits) (u : Replica) → Printable l u → shaped l u ≡ core l u
unfolding shaped checked encoded core
shaped-core l u g =
    let few = few_pending l u g in
    rw (
      le-leb (length u.objects) l.objects g.objects.0,
      le-leb (length u.pending) l.pending few,
      all_true (λ (vs : List Version). leb (length vs) (suc l.readers)) (ObjectFits l.readers) (λ vs h. le-leb (length vs) (suc l.readers) h.0) u.objects g.objects.1,
      eq-eqb (length u.bounds) (length u.objects) g.bounds.0,
      all_true bounds_fit BoundsFit bounds-true u.bounds g.bounds.1,
      sequences l.operations u.pending g.rows.1,
      eq-eqb (length u.lasts) clients g.lasts.0,
      eq-eqb (length u.readers) l.readers g.readers.0,
      all_true (λ (vs : List Version). all (λ (v : Version). fits v.value) vs) (ObjectFits l.readers) (λ vs h. all_true (λ (v : Version). fits v.value) VersionFits value-true vs h.1) u.objects g.objects.1,
      runs l.operations u.pending g.rows.1,
    )
    (simp and-true)

-- the whole check
pub fit-core : (l : Limits) → Sane l → (a : Areas) → Below 256 a.0 → fit l a ≡ lengths l a && (laid l a && core l (parse l a))
unfolding fit
fit-core l s a x = go' (lengths l a) (laid l a) refl refl
  where
    go' : (n o : Bool) → lengths l a ≡ n → laid l a ≡ o → n && (o && shaped l (parse l a)) ≡ n && (o && core l (parse l a))
    go' true true e f = shaped-core l (parse l a) (parse-fits l s a x e f)
    go' true false e f = refl
    go' false o e f = refl
