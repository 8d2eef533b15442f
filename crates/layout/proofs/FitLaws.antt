-- What follows from `specs/Fit`. Assumes nothing.
use Rattle.std.specs.Prelude.{◌≡◌, refl, true, ℕ, suc, ◌^◌, ◌≤◌, ◌<◌, ℤ, eqb, leb}
use Rattle.std.proofs.Common.{ap, ◌∙◌, arith}
use Rattle.std.proofs.Math.Path.{ap₂}
use Rattle.std.proofs.Math.Bool.{◌&&◌}
use Rattle.std.proofs.Math.Option.{Option, none, some}
use mathlib.Core.List.{List, [], ◌∷◌, map}
use Rattle.std.proofs.Math.Dec.{ltb}
use Rattle.std.specs.Int.Signed.{mag}
use Rattle.std.proofs.Math.ListN.{length, length-map}
use borrow.Author.Tests.{eq-eqb, leb-true, ltb-true, eqb-true}
use Rattle.cells.specs.Cells.{Below}
use Rattle.arith.specs.Integer.{fits}
use Rattle.operation.specs.Body.{is_well_formed}
use Rattle.operation.specs.BodyLaws.{Formed}
use Rattle.operation.proofs.BodyLaws.{formed}
use Rattle.execution.specs.Entries.{Entry}
use Rattle.execution.specs.Bounds.{Bounds}
use Rattle.execution.proofs.ReadAgreement.{both}
use Rattle.execution.specs.RunShape.{every, all_fit}
use Rattle.model.specs.declared.Limits.{Limits}
use Rattle.model.specs.Lists.{any, all}
use Rattle.model.specs.Calls.{clients, last_timestamp, Transaction}
use Rattle.model.specs.Serial.{Version}
use Rattle.model.specs.Replica.{Pending, Replica, opens}
use Rattle.model.specs.ListLaws.{All}
use Rattle.model.proofs.ListLaws.{or_right}
use Rattle.model.proofs.Tests.{all-says}
use Rattle.model.specs.EarlyResults.{sents}
use Rattle.model.specs.Shape.{VersionsShape, Unspent, Sets, size_of, RunEncoded, bounds_fit, Shape}
use Rattle.model.specs.ShapeRuns.{State, Standing}
use Rattle.model.proofs.ShapeRunsLaws.{state-standing, in_order-states}
use Rattle.model.specs.ShapeCheck.{shaped}
use Rattle.model.proofs.ShapeCheckLaws.{shaped-says}
use Rattle.layout.specs.Layout.{row_of, body_of, Areas, parse, print, lengths, laid, record_area, body_area}
use Rattle.layout.specs.Offsets.{Sane, record_length, bodies_length}
use Rattle.layout.specs.Lawful.{Word}
use Rattle.layout.specs.Printable.{ValueFits, BoundsFit, ReaderFits, VersionFits, EntryFits, RunFits, RowFits, ObjectFits, BodyFits, Printable}
use Rattle.layout.proofs.PrintableLaws.{any-all}
use Rattle.layout.proofs.RoundTrips.{print-back, print-lengths, print-laid, print-parse}
use Rattle.layout.specs.Holds.{Holds, HoldsBodies}
use Rattle.layout.proofs.HoldsLaws.{laid-holds, laid-bodies}
use Rattle.layout.specs.Fields.{sizes}
use Rattle.layout.specs.Fit.{fit, Fit}

pub fit-says : (l : Limits) (a : Areas) → fit l a ≡ true → Fit l a
unfolding fit
fit-says l a e =
    let (n, t) = both (lengths l a) (laid l a && shaped l (parse l a)) e in
    let (o, s) = both (laid l a) (shaped l (parse l a)) t in
    record { lengths = n; laid = o; shaped = s }

-- ---- a shaped replica can be printed

value : (z : ℤ) → fits z ≡ true → ValueFits z
unfolding fits
value z e = record { sfits = ltb-true (mag z) (2 ^ 63) e }

bounds : (b : Bounds) → bounds_fit b ≡ true → BoundsFit b
bounds b e = let (lo, hi) = both (fits b.lower) (fits b.upper) e in (value b.lower lo, value b.upper hi)

values : (g : List ℤ) → all_fit g ≡ true → All ValueFits g
values [] e = tt
values (z ∷ g) e = let (a, b) = both (fits z) (all_fit g) e in (value z a, values g b)

entries : (n : ℕ) → n < 2 ^ 64 → (es : List Entry) → every (λ x. ltb x.object n) es ≡ true → every (λ x. fits x.value) es ≡ true → All EntryFits es
entries n h [] e f = tt
entries n h (x ∷ es) e f =
    let (a, a') = both (ltb x.object n) (every (λ x. ltb x.object n) es) e in
    let (b, b') = both (fits x.value) (every (λ x. fits x.value) es) f in
    ((omega (arith, ltb-true x.object n a), value x.value b), entries n h es a' b')

readers : (t : ℕ) → suc t < 2 ^ 64 → (rs : List (Option ℕ)) → ((r : ℕ) → any (eqb r) (opens rs) ≡ true → r ≤ t) → All ReaderFits rs
readers t h [] f = tt
readers t h (none ∷ rs) f = (omega arith, readers t h rs f)
readers t h (some r ∷ rs) f =
    (let k = f r (rw (eq-eqb r r refl)) in omega arith, readers t h rs (λ x e. f x (or_right (eqb x r) (any (eqb x) (opens rs)) e)))

versions : (t : ℕ) → t < 2 ^ 64 → (vs : List Version) → all (λ v. leb v.stamp t) vs ≡ true → all (λ (v : Version). fits v.value) vs ≡ true → All VersionFits vs
versions t h [] e f = tt
versions t h (v ∷ vs) e f =
    let (a, a') = both (leb v.stamp t) (all (λ v. leb v.stamp t) vs) e in
    let (b, b') = both (fits v.value) (all (λ (v : Version). fits v.value) vs) f in
    ((omega (arith, leb-true v.stamp t a), value v.value b), versions t h vs a' b')

objects : (t n : ℕ) (rs : List ℕ) → t < 2 ^ 64 → (xs : List (List Version)) → All (λ (vs : List Version). length vs ≤ suc n) xs → All (VersionsShape t rs) xs
    → All (λ vs. all (λ (v : Version). fits v.value) vs ≡ true) xs → All (ObjectFits n) xs
objects t n rs h [] k v f = tt
objects t n rs h (x ∷ xs) k v f =
    ((k.0, versions t h x v.0.bound f.0), objects t n rs h xs k.1 v.1 f.1)

module _ (l : Limits) (s : Sane l) (n : ℕ) (few : n ≤ l.objects) (lasts : List ℕ) where
  abbrev Bodied : Transaction → Type 0
  Bodied x = is_well_formed l.operations n x.bytes ≡ true

  run : (j : Pending) → Formed l.operations n j.sent.bytes → Standing (size_of j) j.run → Sets n j.run → RunEncoded j.run → RunFits l.operations j.run
  run j b k e c =
      let m = s.operations in
      let q = s.objects in
      let i = k.within in
      let r = b.most in
      let small : n < 2 ^ 64 = omega arith in
      let reads = entries n small j.run.reads e.reads.below c.reads in
      let writes = entries n small j.run.writes e.writes.below c.writes in
      (omega arith, (omega (arith, k.outcome), ((c.count, values j.run.registers c.registers), (omega (arith, e.room), reads, writes))))

  rows : (js : List Pending) → All (Unspent lasts) (sents js) → All (λ (x : Transaction). x.sequence < 2 ^ 32) (sents js) → All Bodied (sents js)
      → All State js → All (λ (j : Pending). Sets n j.run) js → All (λ (j : Pending). RunEncoded j.run) js → All (RowFits l.operations) (map row_of js)
  unfolding clients
  rows [] k q b o e c = tt
  rows (j ∷ js) k q b o e c =
      (((omega (arith, k.0.client), q.0), run j (formed l.operations n j.sent.bytes b.0) (state-standing j o.0) e.0 c.0), rows js k.1 q.1 b.1 o.1 e.1 c.1)

  bodies : (js : List Pending) → All Bodied (sents js) → All (BodyFits l.operations) (map body_of js)
  bodies [] b = tt
  bodies (j ∷ js) b =
      let f = formed l.operations n j.sent.bytes b.0 in
      ((f.whole, omega (arith, f.most, f.whole), any-all j.sent.bytes), bodies js b.1)

module _ (l : Limits) (s : Sane l) (u : Replica) where
  pub shape-fits : Shape l u → Printable l u
  unfolding last_timestamp
  shape-fits k =
      let n = length u.objects in
      let t = k.encoded.timestamp in
      let all-rows = rows l s n k.few_objects u.lasts u.pending k.unspent k.encoded.sequences k.bodies (in_order-states u.pending k.order) k.sets k.encoded.runs in
      record {
        timestamp = omega arith;
        lasts = (k.encoded.last_count, all-says (λ x. ltb x (2 ^ 32)) Word (λ x e. omega (arith, ltb-true x (2 ^ 32) e)) u.lasts k.encoded.lasts);
        readers = (k.encoded.reader_count, readers u.timestamp (omega arith) u.readers k.readers);
        objects = (k.few_objects, objects u.timestamp l.readers (opens u.readers) (omega arith) u.objects k.few_versions k.versions k.encoded.values);
        bounds = (k.bound_count, all-says bounds_fit BoundsFit bounds u.bounds k.encoded.bounds);
        rows = (omega (arith, k.few_pending, length-map u.pending row_of), all-rows);
        tail = (refl, tt);
        bodies = bodies l s n k.few_objects u.lasts u.pending k.bodies;
      }

  -- ---- the round trips

  module _ (e : shaped l u ≡ true) where
    pub shaped-fits : Printable l u
    shaped-fits = shape-fits ((shaped-says l u).0 e)

    pub parse-print : parse l (print l u) ≡ u
    parse-print = print-back l s u shaped-fits

    pub fit-print : fit l (print l u) ≡ true
    unfolding fit
    fit-print =
        ap₂ ◌&&◌ (print-lengths l s u shaped-fits) (ap₂ ◌&&◌ (print-laid l s u shaped-fits) (ap (shaped l) parse-print ∙ e))

pub fit-back : (l : Limits) (s : Sane l) (a : Areas) → Below 256 a.0 → fit l a ≡ true → print l (parse l a) ≡ a
fit-back l s a x e = let f = fit-says l a e in print-parse l s a x f.lengths f.laid

-- ---- what areas that pass the check hold

module _ (l : Limits) (a : Areas) where
  pub lengths-say : lengths l a ≡ true → (length a.0 ≡ record_length l) × (length a.1 ≡ bodies_length l)
  unfolding lengths
  lengths-say n =
      let (r, b) = both (eqb (length a.0) (record_area l).size) (eqb (length a.1) (body_area l 0).size) n in
      (eqb-true (length a.0) (record_area l).size r ∙ (sizes l).2, eqb-true (length a.1) (body_area l 0).size b ∙ (sizes l).3)

  pub right-lengths : length a.0 ≡ record_length l → length a.1 ≡ bodies_length l → lengths l a ≡ true
  unfolding lengths
  right-lengths r b =
      rw ((sizes l).2, (sizes l).3, eq-eqb (length a.0) (record_length l) r, eq-eqb (length a.1) (bodies_length l) b)

  pub fit-shape : fit l a ≡ true → Shape l (parse l a)
  fit-shape e = (shaped-says l (parse l a)).0 (fit-says l a e).shaped

module _ (l : Limits) (s : Sane l) (a : Areas) (x : Below 256 a.0) (e : fit l a ≡ true) where
  pub fit-holds : Holds l a.0 (parse l a)
  fit-holds = let f = fit-says l a e in laid-holds l s a x f.lengths f.laid

  pub fit-bodies : HoldsBodies l a.1 (parse l a)
  fit-bodies = let f = fit-says l a e in laid-bodies l s a x f.lengths f.laid
