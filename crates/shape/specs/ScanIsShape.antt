-- On areas of the right lengths the scan is the shape check of the definitions. Assumes nothing.
use Rattle.std.specs.Prelude.{◌≡◌, refl, Bool, false, ◌&&◌, List, map, ℕ, ◌+◌, ◌-◌, ◌*◌, ◌^◌, ◌≤◌, eqb, leb, ltb, length, take, drop}
use Rattle.std.proofs.Math.Path.{sym, ap}
use Rattle.std.proofs.Common.{ap₂, ◌∙◌, arith, mul-le-mul_right, length-drop, eq-eqb, eqb-true, leb-true}
use Rattle.std.proofs.Math.Bool.{true}
use Rattle.std.proofs.Math.ListN.{get_or}
use Rattle.std.proofs.lemmas.List.{length-map}
use Rattle.std.proofs.Math.Seq.{slice}
use Rattle.cells.specs.Cells.{cells, Below}
use Rattle.cells.specs.Zeros.{zeros}
use Rattle.cells.specs.CellLaws.{length-cells}
use Rattle.operation.specs.Body.{is_well_formed}
use Rattle.execution.specs.Bounds.{Bounds, no_bounds, ordered}
use Rattle.execution.proofs.ReadAgreement.{both}
use Rattle.model.specs.declared.Limits.{Limits}
use Rattle.model.specs.Lists.{all, all₂}
use Rattle.model.specs.Calls.{Transaction, last_timestamp}
use Rattle.model.specs.Serial.{Version}
use Rattle.model.specs.Replica.{Pending, Replica, opens}
use Rattle.model.specs.EarlyResults.{sents}
use Rattle.model.proofs.Tests.{Says, ◌and◌, says-self}
use Rattle.model.specs.Shape.{versions_inside, distinct_keys, size_of}
use Rattle.model.specs.ShapeCheck.{versions_shaped, key_unspent, run_shaped, in_order, shaped}
use Rattle.versions.specs.Block.{block_versions, block_of, blocks_ok}
use Rattle.layout.specs.Rows.{chunks}
use Rattle.layout.specs.RowLaws.{length-chunks}
use Rattle.layout.specs.Layout.{reader_of, object, record_area, row, body, body_area, Areas, parse, lengths, laid}
use Rattle.layout.specs.Offsets.{Sane, object_width, object_at, pending_at, row_width, row_at, record_length, body_width, body_at, bodies_length}
use Rattle.layout.specs.Field.{drop-take}
use Rattle.layout.specs.Fields.{sizes}
use Rattle.layout.proofs.UncheckedLaws.{chunks-take, laid-is, parsed-timestamp, parsed-lasts, parsed-readers, parsed-objects, parsed-bounds, parsed-pending}
use Rattle.layout.specs.Unchecked.{size_in, pending_in, blocks_in}
use Rattle.layout.proofs.ObjectBlock.{versions-said, bounds-said}
use Rattle.layout.specs.Fit.{fit}
use Rattle.layout.proofs.Core.{core, fit-core}
use Rattle.shape_objects.specs.ObjectScan.{below, readers_of, lasts_of, objects_of, header_in, objects_in}
use Rattle.shape.specs.AreaScan.{used_in, pending_part, scan}
use Rattle.shape.specs.Leaves.{same}
use Rattle.shape.specs.Stores.{Said, bounds-are_said}
use Rattle.shape.specs.Table.{transactions_in, Asked, rows-say}
use Rattle.shape.specs.Objects.{readers-are, all_versions, all_bounds, objects_asked, blocks-are}

module _ (l : Limits) (a : Areas) (e : length a.0 ≡ record_length l) (f : length a.1 ≡ bodies_length l) where
  abbrev w : List ℕ
  w = cells a.0

  abbrev n : ℕ
  n = size_in l w

  abbrev k : ℕ
  k = pending_in l w

  abbrev versions_of : List (List Version)
  versions_of = all_versions l (blocks_in l w)

  abbrev bounds_of : List Bounds
  bounds_of = all_bounds l (blocks_in l w)

  abbrev pending_of : List Pending
  pending_of = transactions_in l.operations n bounds_of (lasts_of w) k (drop (row_at l 0) w) a.1

  abbrev open_of : List ℕ
  open_of = opens (map reader_of (readers_of l w))

  -- what both sides say of areas whose counts are within their limits
  pub record Both : Type 0 where
    pub timestamp : leb (get_or w 0 0) last_timestamp ≡ true
    pub lasts : below (2 ^ 32) (lasts_of w) ≡ true
    pub readers : all (λ r. leb r (get_or w 0 0)) open_of ≡ true
    pub some_object : leb 1 n ≡ true
    pub few_objects : leb n l.objects ≡ true
    pub blocks : all (object l).ok (blocks_in l w) ≡ true
    pub versions : all (versions_shaped (get_or w 0 0) open_of) versions_of ≡ true
    pub ordered : all ordered bounds_of ≡ true
    pub inside : all₂ versions_inside bounds_of versions_of ≡ true
    pub behind_objects : zeros (slice (object_at l n) (pending_at l) w) ≡ true
    pub few_pending : leb k l.pending ≡ true
    pub transactions : Asked l.operations n bounds_of (lasts_of w) true k (drop (row_at l 0) w) a.1
    pub behind_rows : zeros (slice (row_at l k) (row_at l l.pending) w) ≡ true
    pub behind_bodies : zeros (drop (body_at l k) a.1) ≡ true

  -- ---- the scan

  blocks-lent : chunks (object_width l) n (objects_of l w) ≡ blocks_in l w
  blocks-lent =
      let d : object_at l n - object_at l 0 ≡ n * object_width l = omega arith in
      ap (chunks (object_width l) n) (drop-take (object_at l 0) (object_at l n) w ∙ ap (λ (i : ℕ). take i (drop (object_at l 0) w)) d)
      ∙ chunks-take (object_width l) n (n * object_width l) (drop (object_at l 0) w) (omega arith)

  -- what the scan asks of the objects
  objects-say : Says (blocks_ok l.readers (get_or w 0 0) (readers_of l w) n (objects_of l w))
      (((all (object l).ok (blocks_in l w) ≡ true) × (all (versions_shaped (get_or w 0 0) open_of) versions_of ≡ true)) × ((all ordered bounds_of ≡ true) × (all₂ versions_inside bounds_of versions_of ≡ true)))
  objects-say =
      let e = blocks-are l (get_or w 0 0) (readers_of l w) n (objects_of l w) ∙ ap (objects_asked l (get_or w 0 0) open_of) blocks-lent in
      let versions = says-self (all (object l).ok (blocks_in l w)) and says-self (all (versions_shaped (get_or w 0 0) open_of) versions_of) in
      let s = versions and (says-self (all ordered bounds_of) and says-self (all₂ versions_inside bounds_of versions_of)) in
      (λ b. s.0 (sym e ∙ b), λ v. e ∙ s.1 v)

  bounds-here : Said n l.readers (objects_of l w) bounds_of
  bounds-here o h =
      bounds-are_said l.readers n (objects_of l w) o h ∙ ap (λ (os : List (List ℕ)). get_or (all_bounds l os) o no_bounds) blocks-lent

  rows-room : k ≤ l.pending → (k * row_width l ≤ length (drop (row_at l 0) w)) × (k * body_width l ≤ length a.1)
  rows-room h =
      let p = mul-le-mul_right (row_width l) h in
      let q = mul-le-mul_right (body_width l) h in
      (omega (arith, length-drop (row_at l 0) w, length-cells a.0), omega arith)

  scan-says : Says (scan l a) Both
  unfolding scan header_in objects_in pending_part
  scan-says =
      let t = get_or w 0 0 in
      let header = says-self (leb t last_timestamp) and (says-self (below (2 ^ 32) (lasts_of w)) and says-self (below (t + 2) (readers_of l w))) in
      let objects = says-self (leb 1 n) and (says-self (leb n l.objects) and (objects-say and says-self (zeros (slice (object_at l n) (pending_at l) w)))) in
      let unused = says-self (zeros (slice (row_at l k) (row_at l l.pending) w)) and says-self (zeros (drop (body_at l k) a.1)) in
      let pending = says-self (leb k l.pending) and (says-self (used_in l k w a.1) and unused) in
      let s = header and (objects and pending) in (
        λ z.
            (let ((ts, (ls, rs)), ((one, (few, (((ok, vs), (low, ins)), zo))), (ks, (ws, (zr, zb))))) = s.0 z in
            let room = rows-room (leb-true k l.pending ks) in
            record {
              timestamp = ts;
              lasts = ls;
              readers = sym (readers-are t (readers_of l w)) ∙ rs;
              some_object = one;
              few_objects = few;
              blocks = ok;
              versions = vs;
              ordered = low;
              inside = ins;
              behind_objects = zo;
              few_pending = ks;
              transactions = (rows-say l.operations n bounds_of (lasts_of w) l.readers (objects_of l w) bounds-here k true (drop (row_at l 0) w) a.1 room.0 room.1).0 ws;
              behind_rows = zr;
              behind_bodies = zb;
            }),
        λ v.
            (let room = rows-room (leb-true k l.pending v.few_pending) in
            let ws = (rows-say l.operations n bounds_of (lasts_of w) l.readers (objects_of l w) bounds-here k true (drop (row_at l 0) w) a.1 room.0 room.1).1 v.transactions in
            let rs = readers-are t (readers_of l w) ∙ v.readers in
            s.1 ((v.timestamp, (v.lasts, rs)), ((v.some_object, (v.few_objects, (((v.blocks, v.versions), (v.ordered, v.inside)), v.behind_objects))), (v.few_pending, (ws, (v.behind_rows, v.behind_bodies)))))),
      )

  -- ---- the definitions

  -- what is parsed, where the counts are within their limits
  abbrev parsed : Replica
  parsed =
      record { timestamp = get_or w 0 0; objects = versions_of; lasts = lasts_of w; pending = pending_of; readers = map reader_of (readers_of l w); bounds = bounds_of }

  parsed-is : n ≤ l.objects → k ≤ l.pending → parse l a ≡ parsed
  parsed-is h g =
      let objects = parsed-objects l a e h ∙ versions-said l (blocks_in l w) in
      let bounds = parsed-bounds l a e h ∙ bounds-said l (blocks_in l w) in
      λ i. record { timestamp = parsed-timestamp l a e i; objects = objects i; lasts = parsed-lasts l a e i; pending = parsed-pending l a e g i; readers = parsed-readers l a e i; bounds = bounds i }

  object_count : length versions_of ≡ n
  object_count =
      length-map (blocks_in l w) (λ oc. block_versions (block_of l.readers oc)) ∙ length-chunks (object_width l) n (drop (object_at l 0) w)

  -- the check on what is parsed, over m objects
  abbrev core_of : ℕ → Bool
  core_of m =
      ltb 0 m
      && all (versions_shaped (get_or w 0 0) open_of) versions_of
      && all ordered bounds_of
      && all₂ versions_inside bounds_of versions_of
      && all (λ r. leb r (get_or w 0 0)) open_of
      && distinct_keys (sents pending_of)
      && all (key_unspent (lasts_of w)) (sents pending_of)
      && all (λ (s : Transaction). is_well_formed l.operations m s.bytes) (sents pending_of)
      && in_order true pending_of
      && all (λ (j : Pending). run_shaped m bounds_of (size_of j) j.run) pending_of
      && (leb (get_or w 0 0) last_timestamp && all (λ s. ltb s (2 ^ 32)) (lasts_of w))

  core_is : n ≤ l.objects → k ≤ l.pending → core l (parse l a) ≡ core_of n
  unfolding core
  core_is h g = ap (core l) (parsed-is h g) ∙ ap core_of object_count

  fit-says : Says (laid l a && core l (parse l a)) Both
  fit-says =
      let b = blocks_in l w in
      let rs = chunks (row_width l) k (drop (row_at l 0) w) in
      let bs = chunks (body_width l) k a.1 in
      let js = pending_of in
      let objects = says-self (leb n l.objects) and (says-self (all (object l).ok b) and says-self (zeros (slice (object_at l n) (pending_at l) w))) in
      let rows = says-self (leb k l.pending) and (says-self (all (row l.operations).ok rs) and says-self (zeros (slice (row_at l k) (row_at l l.pending) w))) in
      let bodies = says-self (leb k l.pending) and (says-self (all (body l.operations).ok bs) and says-self (zeros (drop (body_at l k) a.1))) in
      let laids = (objects and rows) and bodies in
      let versions = says-self (all (versions_shaped (get_or w 0 0) open_of) versions_of) in
      let bounds = says-self (all ordered bounds_of) in
      let insides = says-self (all₂ versions_inside bounds_of versions_of) in
      let open-readers = says-self (all (λ r. leb r (get_or w 0 0)) open_of) in
      let unspent = says-self (all (key_unspent (lasts_of w)) (sents js)) in
      let formed = says-self (all (λ (s : Transaction). is_well_formed l.operations n s.bytes) (sents js)) in
      let runs = says-self (all (λ (j : Pending). run_shaped n bounds_of (size_of j) j.run) js) in
      let header = says-self (leb (get_or w 0 0) last_timestamp) and says-self (all (λ s. ltb s (2 ^ 32)) (lasts_of w)) in
      let cores = says-self (ltb 0 n) and versions and bounds and insides and open-readers and says-self (distinct_keys (sents js)) and unspent and formed and says-self (in_order true js) and runs and header in (
        λ z.
            (let (o, c) = both (laid l a) (core l (parse l a)) z in
            let (((few, (ok, zo)), (ks, (rok, zr))), (ks', (bok, zb))) = laids.0 (sym (laid-is l a e) ∙ o) in
            let c = sym (core_is (leb-true n l.objects few) (leb-true k l.pending ks)) ∙ c in
            let ((((((((((one, vs), low), ins), rs), ds), us), fs), os), ss), (ts, ls)) = cores.0 c in
            record {
              timestamp = ts;
              lasts = ls;
              readers = rs;
              some_object = one;
              few_objects = few;
              blocks = ok;
              versions = vs;
              ordered = low;
              inside = ins;
              behind_objects = zo;
              few_pending = ks;
              transactions = record { rows_ok = rok; bodies_ok = bok; distinct = ds; unspent = us; formed = fs; order = os; shaped = ss };
              behind_rows = zr;
              behind_bodies = zb;
            }),
        λ v.
            (let q = v.transactions in
            let few = core_is (leb-true n l.objects v.few_objects) (leb-true k l.pending v.few_pending) in
            ap₂ ◌&&◌ (laid-is l a e ∙ laids.1 (((v.few_objects, (v.blocks, v.behind_objects)), (v.few_pending, (q.rows_ok, v.behind_rows))), (v.few_pending, (q.bodies_ok, v.behind_bodies))))
            (few ∙ cores.1 ((((((((((v.some_object, v.versions), v.ordered), v.inside), v.readers), q.distinct), q.unspent), q.formed), q.order), q.shaped), (v.timestamp, v.lasts)))),
      )

  pub scan-is : scan l a ≡ laid l a && core l (parse l a)
  scan-is = same (scan l a) (laid l a && core l (parse l a)) (λ z. fit-says.1 (scan-says.0 z)) (λ z. scan-says.1 (fit-says.0 z))

-- ---- the whole check

pub fit-scan : (l : Limits) → Sane l → (a : Areas) → Below 256 a.0 → length a.0 ≡ record_length l → length a.1 ≡ bodies_length l → fit l a ≡ scan l a
unfolding lengths
fit-scan l s a x e f =
    let right : lengths l a ≡ true = ap₂ ◌&&◌ (eq-eqb (length a.0) (record_area l).size (e ∙ sym (sizes l).2)) (eq-eqb (length a.1) (body_area l 0).size (f ∙ sym (sizes l).3)) in
    fit-core l s a x ∙ ap (λ (t : Bool). t && (laid l a && core l (parse l a))) right ∙ sym (scan-is l a e f)

-- areas of other lengths
pub fit-other : (l : Limits) (a : Areas) → (length a.0 ≡ record_length l → length a.1 ≡ bodies_length l → ⊥) → fit l a ≡ false
unfolding fit lengths
fit-other l a h = go' (eqb (length a.0) (record_area l).size) (eqb (length a.1) (body_area l 0).size) refl refl
  where
    go' : (p q : Bool) → eqb (length a.0) (record_area l).size ≡ p → eqb (length a.1) (body_area l 0).size ≡ q → (p && q) && (laid l a && shaped l (parse l a)) ≡ false
    go' true true e f =
        absurd (h (eqb-true (length a.0) (record_area l).size e ∙ (sizes l).2) (eqb-true (length a.1) (body_area l 0).size f ∙ (sizes l).3))
    go' true false e f = refl
    go' false q e f = refl

-- areas whose header passes have a timestamp of 32 bits
pub header-timestamp : (l : Limits) (w : List ℕ) → header_in l w ≡ true → get_or w 0 0 ≤ last_timestamp
unfolding header_in
header-timestamp l w e =
    leb-true (get_or w 0 0) last_timestamp (both (leb (get_or w 0 0) last_timestamp) (below (2 ^ 32) (lasts_of w) && below (get_or w 0 0 + 2) (readers_of l w)) e).0

-- those whose objects pass have no more of them than the limit
pub objects-few : (l : Limits) (w : List ℕ) → objects_in l w ≡ true → size_in l w ≤ l.objects
unfolding objects_in
objects-few l w e =
    let blocks = blocks_ok l.readers (get_or w 0 0) (readers_of l w) (size_in l w) (objects_of l w) && zeros (slice (object_at l (size_in l w)) (pending_at l) w) in
    let (one, e) = both (leb 1 (size_in l w)) (leb (size_in l w) l.objects && blocks) e in
    leb-true (size_in l w) l.objects (both (leb (size_in l w) l.objects) blocks e).0

-- ---- part by part

module _ (l : Limits) (s : Sane l) (a : Areas) (x : Below 256 a.0) (e : length a.0 ≡ record_length l) (f : length a.1 ≡ bodies_length l) (p : Bool) (h : p ≡ header_in l (cells a.0)) where
  fit_parts : fit l a ≡ p && (objects_in l (cells a.0) && pending_part l (cells a.0) a.1)
  unfolding scan
  fit_parts =
      fit-scan l s a x e f ∙ ap (λ (t : Bool). t && (objects_in l (cells a.0) && pending_part l (cells a.0) a.1)) (sym h)

  pub fit-header : p ≡ false → false ≡ fit l a
  fit-header k = sym (fit_parts ∙ ap (λ (t : Bool). t && (objects_in l (cells a.0) && pending_part l (cells a.0) a.1)) k)

  module _ (k : p ≡ true) (q : Bool) (i : q ≡ objects_in l (cells a.0)) where
    fit-rest : fit l a ≡ q && pending_part l (cells a.0) a.1
    fit-rest = fit_parts ∙ ap₂ (λ (t u : Bool). t && (u && pending_part l (cells a.0) a.1)) k (sym i)

    pub fit-objects : q ≡ false → false ≡ fit l a
    fit-objects j = sym (fit-rest ∙ ap (λ (t : Bool). t && pending_part l (cells a.0) a.1) j)

    pub fit-pending : q ≡ true → (z : Bool) → z ≡ pending_part l (cells a.0) a.1 → z ≡ fit l a
    fit-pending j z g = g ∙ sym (fit-rest ∙ ap (λ (t : Bool). t && pending_part l (cells a.0) a.1) j)
