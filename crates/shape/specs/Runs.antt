-- A row's run in the scan: what the layout's check and the model's shape say of it. Assumes nothing.
use Rattle.std.specs.Prelude.{◌≡◌, ◌⊎◌, Bool, ◌||◌, List, [], ◌∷◌, map, ℕ, zero, suc, ◌+◌, ◌-◌, ◌*◌, ◌^◌, ◌≤◌, ◌<◌, pos, negsuc, leb, ltb, take, drop}
use Rattle.std.proofs.Math.Path.{refl, sym, ap₂}
use Rattle.std.proofs.Common.{ap, ◌∙◌, inl, inr, drop-drop}
use Rattle.std.proofs.Math.Bool.{true, false, cond, ◌&&◌}
use Rattle.std.proofs.lemmas.Bool.{false≢true}
use native.Mathlib.Omega.{arith}
use Rattle.std.proofs.Math.Dec.{eqb}
use Rattle.std.proofs.Math.ListN.{length}
use Rattle.std.proofs.lemmas.List.{length-map}
use borrow.Author.Tests.{eq-eqb, ne_eqb, eqb-true, eqb-false, leb-true, le-leb, ltb-true, lt-ltb}
use Rattle.std.specs.Int.{w64}
use mir.Val.{to_z, sel}
use Rattle.cells.specs.Zeros.{zeros}
use Rattle.arith.specs.Integer.{eq_z}
use Rattle.operation.specs.Body.{register_count}
use Rattle.execution.proofs.ReadAgreement.{both}
use Rattle.execution.specs.Entries.{Entry}
use Rattle.execution.specs.Bounds.{Bounds}
use Rattle.execution.specs.Run.{Run}
use Rattle.model.specs.Lists.{all}
use Rattle.model.proofs.Tests.{Says, ◌and◌, says-self, says-le, either}
use Rattle.model.specs.ShapeCheck.{names_shaped, stores_inside, at_start, run_shaped}
use Rattle.model.proofs.ListLaws.{map-take, map-drop}
use Rattle.layout.specs.Offsets.{entry_at}
use Rattle.layout.specs.Rows.{chunks}
use Rattle.layout.specs.RowLaws.{length-chunks}
use Rattle.layout.specs.Layout.{entry, row}
use Rattle.layout.proofs.UncheckedRows.{row_ok, dec-counter, dec-outcome, dec-registers, dec-reads, dec-writes}
use Rattle.shape_names.specs.NameScan.{names_in}
use Rattle.shape_row.specs.RowScan.{counter_in, outcome_in, reads_in, entries_in, stores_in, sets_in, begun_in, run_in}
use Rattle.shape.specs.Leaves.{same, names-are}
use Rattle.shape.specs.Stores.{Said, stores-are}

-- ---- a row taken apart

data Nine : List ℕ → Type 0 where
  nine : {a c o f g h i r e : ℕ} {t : List ℕ} → Nine (a ∷ c ∷ o ∷ f ∷ g ∷ h ∷ i ∷ r ∷ e ∷ t)

nine-of : (x : List ℕ) → 9 ≤ length x → Nine x
nine-of [] k = absurd (omega arith)
nine-of (a ∷ []) k = absurd (omega arith)
nine-of (a ∷ c ∷ []) k = absurd (omega arith)
nine-of (a ∷ c ∷ o ∷ []) k = absurd (omega arith)
nine-of (a ∷ c ∷ o ∷ f ∷ []) k = absurd (omega arith)
nine-of (a ∷ c ∷ o ∷ f ∷ g ∷ []) k = absurd (omega arith)
nine-of (a ∷ c ∷ o ∷ f ∷ g ∷ h ∷ []) k = absurd (omega arith)
nine-of (a ∷ c ∷ o ∷ f ∷ g ∷ h ∷ i ∷ []) k = absurd (omega arith)
nine-of (a ∷ c ∷ o ∷ f ∷ g ∷ h ∷ i ∷ r ∷ []) k = absurd (omega arith)
nine-of (a ∷ c ∷ o ∷ f ∷ g ∷ h ∷ i ∷ r ∷ e ∷ t) k = nine

-- ---- registers that are 0

zero-register : (v : ℕ) → eq_z (pos 0) (to_z w64 v) ≡ eqb v 0
zero-register v = go' (ltb v (2 ^ 63)) refl
  where
    go' : (b : Bool) → ltb v (2 ^ 63) ≡ b → eq_z (pos 0) (sel b (pos v) (negsuc (2 ^ 64 - suc v))) ≡ eqb v 0
    go' true e = same (eqb 0 v) (eqb v 0) (λ h. eq-eqb v 0 (sym (eqb-true 0 v h))) (λ h. eq-eqb 0 v (sym (eqb-true v 0 h)))
    go' false e = sym (ne_eqb v 0 (λ h. absurd (let k : ltb v (2 ^ 63) ≡ true = lt-ltb v (2 ^ 63) (omega arith) in false≢true (sym e ∙ k))))

-- ---- reads and writes

take_chunks : (w r e : ℕ) (b : List ℕ) → r ≤ e → take r (chunks w e b) ≡ chunks w r b
unfolding chunks
take_chunks w zero e b h = refl
take_chunks w (suc r) zero b h = absurd (omega arith)
take_chunks w (suc r) (suc e) b h = ap (take w b ∷◌) (take_chunks w r e (drop w b) (omega arith))

drop-chunks : (w r e : ℕ) (b : List ℕ) → r ≤ e → drop r (chunks w e b) ≡ chunks w (e - r) (drop (r * w) b)
unfolding chunks
drop-chunks w zero e b h =
    let k : e ≡ e - 0 = omega arith in
    let z : 0 ≡ 0 * w = omega arith in
    ap₂ (λ (n i : ℕ). chunks w n (drop i b)) k z
drop-chunks w (suc r) zero b h = absurd (omega arith)
drop-chunks w (suc r) (suc e) b h =
    let k : e - r ≡ suc e - suc r = omega arith in
    let z : w + r * w ≡ suc r * w = omega arith in
    drop-chunks w r e (drop w b) (omega arith) ∙ ap (chunks w (e - r)) (drop-drop (r * w) w b) ∙ ap₂ (λ (n i : ℕ). chunks w n (drop i b)) k z

module _ (x : List ℕ) (r e : ℕ) (h : r ≤ e) where
  abbrev both_in : List Entry
  both_in = map entry.dec (chunks 2 e (drop (entry_at 0) x))

  reads-are : take r both_in ≡ map entry.dec (chunks 2 r (drop (entry_at 0) x))
  reads-are = sym (map-take entry.dec r (chunks 2 e (drop (entry_at 0) x))) ∙ ap (map entry.dec) (take_chunks 2 r e (drop (entry_at 0) x) h)

  writes_are : drop r both_in ≡ map entry.dec (chunks 2 (e - r) (drop (entry_at r) x))
  writes_are =
      sym (map-drop entry.dec r (chunks 2 e (drop (entry_at 0) x)))
      ∙ ap (map entry.dec) (drop-chunks 2 r e (drop (entry_at 0) x) h ∙ ap (chunks 2 (e - r)) (drop-drop (r * 2) 9 x))

  read_names : (n : ℕ) → names_in n r (drop (entry_at 0) x) ≡ names_shaped n (take r both_in)
  read_names n = names-are n r (drop (entry_at 0) x) ∙ ap (names_shaped n) (sym reads-are)

  write_names : (n : ℕ) → names_in n (e - r) (drop (entry_at r) x) ≡ names_shaped n (drop r both_in)
  write_names n = names-are n (e - r) (drop (entry_at r) x) ∙ ap (names_shaped n) (sym writes_are)

  -- of writes that name objects below n
  write-stores : (n readers : ℕ) (os : List ℕ) (bs : List Bounds) → Said n readers os bs → names_in n (e - r) (drop (entry_at r) x) ≡ true
      → stores_in readers os (e - r) (drop (entry_at r) x) ≡ stores_inside bs (drop r both_in)
  write-stores n readers os bs s q =
      stores-are n readers os bs s (e - r) (drop (entry_at r) x) q ∙ ap (stores_inside bs) (sym writes_are)

  read_count : length (take r both_in) ≡ r
  read_count =
      ap length reads-are ∙ length-map (chunks 2 r (drop (entry_at 0) x)) entry.dec ∙ length-chunks 2 r (drop (entry_at 0) x)

  write-count : length (drop r both_in) ≡ e - r
  write-count =
      ap length writes_are ∙ length-map (chunks 2 (e - r) (drop (entry_at r) x)) entry.dec ∙ length-chunks 2 (e - r) (drop (entry_at r) x)

-- ---- one run, from its parts

zero-registers : (gs : List ℕ) → all (eq_z (pos 0)) (map (to_z w64) gs) ≡ zeros gs
zero-registers [] = refl
zero-registers (v ∷ gs) = ap₂ ◌&&◌ (zero-register v) (zero-registers gs)

module _ (n : ℕ) (bs : List Bounds) (m c o : ℕ) (gs : List ℕ) (x : List ℕ) (r e : ℕ) (h : r ≤ e) where
  abbrev run_here : Run
  run_here =
      record { counter = c; outcome = o; registers = map (to_z w64) gs; reads = take r (both_in x r e h); writes = drop r (both_in x r e h) }

  abbrev run_tests : Bool
  run_tests =
      (ltb 0 c || (eqb c 0 && eqb o 0 && eqb r 0 && eqb (e - r) 0 && zeros gs)) && leb c m && leb o 3 && (eqb o 0 || eqb (e - r) 0) && leb (r + (e - r)) c && names_in n r (drop (entry_at 0) x) && names_in n (e - r) (drop (entry_at r) x) && stores_inside bs (drop r (both_in x r e h))

  run-tested : run_shaped n bs m run_here ≡ run_tests
  unfolding run_shaped at_start
  run-tested =
      rw (read_count x r e h, write-count x r e h, zero-registers gs, read_names x r e h n, write_names x r e h n)

pub row-size : (most : ℕ) → (row most).size ≡ 9 + 2 * most
unfolding register_count
row-size most = omega arith

module _ (n : ℕ) (bs : List Bounds) (m most : ℕ) (x : List ℕ) (len : length x ≡ 9 + 2 * most) (h : reads_in x ≤ entries_in x) (k : entries_in x ≤ most) where
  run-parts : ((row most).dec x).1 ≡ run_here n bs m (counter_in x) (outcome_in x) (take 4 (drop 3 x)) x (reads_in x) (entries_in x) h
  unfolding register_count
  run-parts =
      let q : length x ≡ (row most).size = len ∙ sym (row-size most) in
      λ j. record { counter = dec-counter most x q j; outcome = dec-outcome most x q j; registers = dec-registers most x q j; reads = dec-reads most x q k j; writes = dec-writes most x q k j }

  -- the model's test of the run, as tests of cells, but for the stores
  run_is-tested : run_shaped n bs m ((row most).dec x).1 ≡ run_tests n bs m (counter_in x) (outcome_in x) (take 4 (drop 3 x)) x (reads_in x) (entries_in x) h
  run_is-tested =
      ap (run_shaped n bs m) run-parts ∙ run-tested n bs m (counter_in x) (outcome_in x) (take 4 (drop 3 x)) x (reads_in x) (entries_in x) h

-- ---- one at its start

zero-cells : (o f g h i r e : ℕ) (t : List ℕ) → zeros (o ∷ f ∷ g ∷ h ∷ i ∷ r ∷ e ∷ t) ≡ true
    → (o ≡ 0) × (f ≡ 0) × (g ≡ 0) × (h ≡ 0) × (i ≡ 0) × (r ≡ 0) × (e ≡ 0) × (zeros t ≡ true)
zero-cells o f g h i r e t z =
    let (o0, z) = both (eqb o 0) (zeros (f ∷ g ∷ h ∷ i ∷ r ∷ e ∷ t)) z in
    let (f0, z) = both (eqb f 0) (zeros (g ∷ h ∷ i ∷ r ∷ e ∷ t)) z in
    let (g0, z) = both (eqb g 0) (zeros (h ∷ i ∷ r ∷ e ∷ t)) z in
    let (h0, z) = both (eqb h 0) (zeros (i ∷ r ∷ e ∷ t)) z in
    let (i0, z) = both (eqb i 0) (zeros (r ∷ e ∷ t)) z in
    let (r0, z) = both (eqb r 0) (zeros (e ∷ t)) z in
    let (e0, z) = both (eqb e 0) (zeros t) z in
    (eqb-true o 0 o0, eqb-true f 0 f0, eqb-true g 0 g0, eqb-true h 0 h0, eqb-true i 0 i0, eqb-true r 0 r0, eqb-true e 0 e0, z)

module _ (n : ℕ) (bs : List Bounds) (m most : ℕ) where
  abbrev Asked : List ℕ → Bool
  Asked x = (row most).ok x && run_shaped n bs m ((row most).dec x).1

  start-asked : (a : ℕ) (t : List ℕ) → length t ≡ 2 * most → zeros t ≡ true → Asked (a ∷ 0 ∷ 0 ∷ 0 ∷ 0 ∷ 0 ∷ 0 ∷ 0 ∷ 0 ∷ t) ≡ true
  unfolding names_in stores_inside chunks
  start-asked a t len z =
      let x = a ∷ 0 ∷ 0 ∷ 0 ∷ 0 ∷ 0 ∷ 0 ∷ 0 ∷ 0 ∷ t in
      let q : length x ≡ 9 + 2 * most = omega arith in
      let ok : (row most).ok x ≡ true = row_ok most x (q ∙ sym (row-size most)) ∙ rw (le-leb 0 most (omega arith), z) in
      let shape : run_shaped n bs m ((row most).dec x).1 ≡ true = run_is-tested n bs m most x q (omega arith) (omega arith) ∙ rw (le-leb 0 m (omega arith)) in
      ap₂ ◌&&◌ ok shape

  start-to : (x : List ℕ) → length x ≡ 9 + 2 * most → counter_in x ≡ 0 → zeros (drop 2 x) ≡ true → Asked x ≡ true
  start-to x len c z = go' (nine-of x (omega arith)) len c z
    where
      go' : {x : List ℕ} → Nine x → length x ≡ 9 + 2 * most → counter_in x ≡ 0 → zeros (drop 2 x) ≡ true → Asked x ≡ true
      go' (nine {a} {c} {o} {f} {g} {h} {i} {r} {e} {t}) len c0 z =
          let (o0, f0, g0, h0, i0, r0, e0, z) = zero-cells o f g h i r e t z in
          rw (c0, o0, f0, g0, h0, i0, r0, e0) (start-asked a t (omega arith) z)

-- ---- what the two tests say, one by one

pub record Begun (readers : ℕ) (os : List ℕ) (n m : ℕ) (x : List ℕ) : Type 0 where
  pub counter : counter_in x ≤ m
  pub outcome : outcome_in x ≤ 3
  pub room : entries_in x ≤ counter_in x
  pub reads : reads_in x ≤ entries_in x
  pub stopped : eqb (outcome_in x) 0 || eqb (reads_in x) (entries_in x) ≡ true
  pub read_names : names_in n (reads_in x) (drop (entry_at 0) x) ≡ true
  pub write_names : names_in n (entries_in x - reads_in x) (drop (entry_at (reads_in x)) x) ≡ true
  pub write_values : stores_in readers os (entries_in x - reads_in x) (drop (entry_at (reads_in x)) x) ≡ true
  pub behind : zeros (drop (entry_at (entries_in x)) x) ≡ true

begun-says : (readers : ℕ) (os : List ℕ) (n m : ℕ) (x : List ℕ) → Says (begun_in readers os n m x) (Begun readers os n m x)
unfolding begun_in sets_in
begun-says readers os n m x =
    let c = counter_in x in
    let o = outcome_in x in
    let r = reads_in x in
    let e = entries_in x in
    let reads = says-self (names_in n r (drop (entry_at 0) x)) in
    let writes = says-self (names_in n (e - r) (drop (entry_at r) x)) in
    let values = says-self (stores_in readers os (e - r) (drop (entry_at r) x)) in
    let sets = reads and (writes and (values and says-self (zeros (drop (entry_at e) x)))) in
    let s = says-le c m and (says-le o 3 and (says-le e c and (says-le r e and (says-self (eqb o 0 || eqb r e) and sets)))) in (
      λ e. (let (c, (o, (m, (r, (s, (p, (q, (i, z)))))))) = s.0 e in record { counter = c; outcome = o; room = m; reads = r; stopped = s; read_names = p; write_names = q; write_values = i; behind = z }),
      λ v. s.1 (v.counter, (v.outcome, (v.room, (v.reads, (v.stopped, (v.read_names, (v.write_names, (v.write_values, v.behind)))))))),
    )

no_writes : (r e : ℕ) → r ≤ e → eqb (e - r) 0 ≡ eqb r e
no_writes r e h =
    same (eqb (e - r) 0) (eqb r e) (λ k. let z = eqb-true (e - r) 0 k in eq-eqb r e (omega arith)) (λ k. let z = eqb-true r e k in eq-eqb (e - r) 0 (omega arith))

module _ (n readers : ℕ) (os : List ℕ) (bs : List Bounds) (said : Said n readers os bs) (m most : ℕ) (small : m ≤ most) (x : List ℕ) (len : length x ≡ 9 + 2 * most) where
  abbrev framed : Bool
  framed = (leb (entries_in x) most && zeros (drop (entry_at (entries_in x)) x)) && leb (reads_in x) (entries_in x)

  framed_is : (row most).ok x ≡ framed
  framed_is = row_ok most x (len ∙ sym (row-size most))

  begun_to : 0 < counter_in x → Begun readers os n m x → Asked n bs m most x ≡ true
  begun_to h b =
      let l = b.room in
      let r = b.counter in
      let k : entries_in x ≤ most = omega arith in
      let one : reads_in x + (entries_in x - reads_in x) ≡ entries_in x = omega (arith, b.reads) in
      let ok : (row most).ok x ≡ true = framed_is ∙ rw (le-leb (entries_in x) most k, b.behind, le-leb (reads_in x) (entries_in x) b.reads) in
      let values = sym (write-stores x (reads_in x) (entries_in x) b.reads n readers os bs said b.write_names) ∙ b.write_values in
      let shape : run_shaped n bs m ((row most).dec x).1 ≡ true =
      run_is-tested n bs m most x len b.reads k
      ∙ rw (lt-ltb 0 (counter_in x) h, le-leb (counter_in x) m b.counter, le-leb (outcome_in x) 3 b.outcome, no_writes (reads_in x) (entries_in x) b.reads, b.stopped, one)
      (rw (le-leb (entries_in x) (counter_in x) b.room, b.read_names, b.write_names, values)) in
      ap₂ ◌&&◌ ok shape

  module _ (e : Asked n bs m most x ≡ true) where
    parts : ((entries_in x ≤ most) × (reads_in x ≤ entries_in x)) × (zeros (drop (entry_at (entries_in x)) x) ≡ true) × (run_shaped n bs m ((row most).dec x).1 ≡ true)
    parts =
        let (o, s) = both ((row most).ok x) (run_shaped n bs m ((row most).dec x).1) e in
        let (f, r) = both (leb (entries_in x) most && zeros (drop (entry_at (entries_in x)) x)) (leb (reads_in x) (entries_in x)) (sym framed_is ∙ o) in
        let (k, z) = both (leb (entries_in x) most) (zeros (drop (entry_at (entries_in x)) x)) f in
        ((leb-true (entries_in x) most k, leb-true (reads_in x) (entries_in x) r), z, s)

    tests : run_tests n bs m (counter_in x) (outcome_in x) (take 4 (drop 3 x)) x (reads_in x) (entries_in x) parts.0.1 ≡ true
    tests = sym (run_is-tested n bs m most x len parts.0.1 parts.0.0) ∙ parts.2

    -- as facts: the first is of one at its start
    known : (ltb 0 (counter_in x) || (eqb (counter_in x) 0 && eqb (outcome_in x) 0 && eqb (reads_in x) 0 && eqb (entries_in x - reads_in x) 0 && zeros (take 4 (drop 3 x))) ≡ true) × Begun readers os n m x
    known =
        let k = counter_in x in
        let u = outcome_in x in
        let r = reads_in x in
        let b = entries_in x in
        let h = parts.0.1 in
        let reads = says-self (names_in n r (drop (entry_at 0) x)) in
        let writes = says-self (names_in n (b - r) (drop (entry_at r) x)) in
        let started = says-self (ltb 0 k || (eqb k 0 && eqb u 0 && eqb r 0 && eqb (b - r) 0 && zeros (take 4 (drop 3 x)))) in
        let s = started and says-le k m and says-le u 3 and says-self (eqb u 0 || eqb (b - r) 0) and says-le (r + (b - r)) k and reads and writes and says-self (stores_inside bs (drop r (both_in x r b h))) in
        let (((((((a, c), o), t), l), p), q), i) = s.0 tests in (
          a,
          record {
            counter = c;
            outcome = o;
            room = omega arith;
            reads = h;
            stopped = ap (λ (u : Bool). eqb (outcome_in x) 0 || u) (sym (no_writes r b h)) ∙ t;
            read_names = p;
            write_names = q;
            write_values = write-stores x r b h n readers os bs said q ∙ i;
            behind = parts.1;
          },
        )

start_back : (o f g h i r e : ℕ) (t : List ℕ) → eqb o 0 && eqb r 0 && eqb (e - r) 0 && zeros (f ∷ g ∷ h ∷ i ∷ []) ≡ true → zeros (drop (e * 2) t) ≡ true → r ≤ e → zeros (o ∷ f ∷ g ∷ h ∷ i ∷ r ∷ e ∷ t) ≡ true
start_back o f g h i r e t k z l =
    let (k, gs) = both (eqb o 0 && eqb r 0 && eqb (e - r) 0) (zeros (f ∷ g ∷ h ∷ i ∷ [])) k in
    let (k, e0) = both (eqb o 0 && eqb r 0) (eqb (e - r) 0) k in
    let (o0, r0) = both (eqb o 0) (eqb r 0) k in
    let (f0, gs) = both (eqb f 0) (zeros (g ∷ h ∷ i ∷ [])) gs in
    let (g0, gs) = both (eqb g 0) (zeros (h ∷ i ∷ [])) gs in
    let (h0, gs) = both (eqb h 0) (zeros (i ∷ [])) gs in
    let (i0, gs) = both (eqb i 0) true gs in
    let d = eqb-true (e - r) 0 e0 in
    let b = eqb-true r 0 r0 in
    let n : e ≡ 0 = omega arith in
    let zt : zeros t ≡ true = ap (λ (u : ℕ). zeros (drop (u * 2) t)) (sym n) ∙ z in
    rw (o0, f0, g0, h0, i0, r0, eq-eqb e 0 n, zt)

module _ (n readers : ℕ) (os : List ℕ) (bs : List Bounds) (said : Said n readers os bs) (m most : ℕ) (small : m ≤ most) (x : List ℕ) (len : length x ≡ 9 + 2 * most) where
  start-from : counter_in x ≡ 0 → Asked n bs m most x ≡ true → zeros (drop 2 x) ≡ true
  start-from c a =
      let (s, b) = known n readers os bs said m most small x len a in
      go' (nine-of x (omega arith)) c b.reads b.behind (either (ltb 0 (counter_in x)) (eqb (counter_in x) 0 && eqb (outcome_in x) 0 && eqb (reads_in x) 0 && eqb (entries_in x - reads_in x) 0 && zeros (take 4 (drop 3 x))) s)
    where
      go' : {x : List ℕ} → Nine x → counter_in x ≡ 0 → reads_in x ≤ entries_in x → zeros (drop (entry_at (entries_in x)) x) ≡ true
          → (ltb 0 (counter_in x) ≡ true) ⊎ (eqb (counter_in x) 0 && eqb (outcome_in x) 0 && eqb (reads_in x) 0 && eqb (entries_in x - reads_in x) 0 && zeros (take 4 (drop 3 x)) ≡ true)
          → zeros (drop 2 x) ≡ true
      go' (nine {a} {c} {o} {f} {g} {h} {i} {r} {e} {t}) c0 l z (inl k) = let h = ltb-true 0 c k in absurd (omega arith)
      go' (nine {a} {c} {o} {f} {g} {h} {i} {r} {e} {t}) c0 l z (inr k) =
          start_back o f g h i r e t (rw (eq-eqb c 0 c0) at k) (ap zeros (drop-drop (e * 2) 9 (a ∷ c ∷ o ∷ f ∷ g ∷ h ∷ i ∷ r ∷ e ∷ t)) ∙ z) l

  -- a run in the scan is what both tests ask
  pub run_is : run_in readers os n m x ≡ (row most).ok x && run_shaped n bs m ((row most).dec x).1
  unfolding run_in
  run_is = go' (eqb (counter_in x) 0) refl
    where
      go' : (b : Bool) → eqb (counter_in x) 0 ≡ b → cond b (zeros (drop 2 x)) (begun_in readers os n m x) ≡ Asked n bs m most x
      go' true e = let c = eqb-true (counter_in x) 0 e in same (zeros (drop 2 x)) (Asked n bs m most x) (start-to n bs m most x len c) (start-from c)
      go' false e =
          let c = eqb-false (counter_in x) 0 e in
          same (begun_in readers os n m x) (Asked n bs m most x) (λ h. begun_to n readers os bs said m most small x len (omega arith) ((begun-says readers os n m x).0 h)) (λ h. (begun-says readers os n m x).1 (known n readers os bs said m most small x len h).1)
