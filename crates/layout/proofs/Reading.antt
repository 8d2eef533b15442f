-- What code reads from a record area that holds a replica, cell by cell and part by part. Assumes nothing.
use Rattle.std.specs.Prelude.{◌≡◌, List, [], map, ℕ, ◌+◌, ◌-◌, ◌*◌, ◌≤◌, ◌<◌, ◌^◌, length, drop, get_or}
use Rattle.std.proofs.Math.Path.{refl, ap}
use Rattle.std.proofs.Common.{sym, ap₂, ◌∙◌, arith, mul_assoc, of_z}
use Rattle.std.proofs.Math.Option.{none}
use Rattle.std.proofs.lemmas.List.{length-map}
use Rattle.std.proofs.Math.ListN.{get_or-map}
use borrow.Rule.Slice.PartMut.{mid_of}
use Rattle.std.specs.Int.{w64}
use Rattle.cells.specs.Cells.{cells, uncells}
use Rattle.cells.specs.Uncells.{uncells-part}
use Rattle.execution.specs.Bounds.{no_bounds}
use Rattle.model.specs.declared.Limits.{Limits}
use Rattle.model.specs.Calls.{clients, last_timestamp}
use Rattle.model.specs.Replica.{Pending, Replica}
use Rattle.model.specs.ListLaws.{All}
use Rattle.model.specs.Shape.{Shape}
use Rattle.layout.specs.Rows.{flat, table}
use Rattle.layout.proofs.RowLaws.{table-full}
use Rattle.layout.specs.Codec.{Codec, counted, bytewise}
use Rattle.layout.specs.Layout.{of_reader, Row, row, Stored, RecordArea, versions, object, record_cells, stored_of, row_of, record_of}
use Rattle.layout.specs.Offsets.{Sane, last_at, reader_at, size_at, object_width, versions_width, lower_at, upper_at, object_at, pending_at, row_width, row_at}
use Rattle.layout.specs.Printable.{ObjectsFit, RowsFit, RecordFits}
use Rattle.layout.proofs.PrintableLaws.{length-stored, stored_at, stored-fit, record_fits, few_pending}
use Rattle.layout.specs.Lawful.{Sized}
use Rattle.layout.specs.Field.{Field, cell-read, in_bytes}
use Rattle.layout.proofs.TableChanges.{bytes-table, field_places}
use Rattle.layout.proofs.RowCells.{array-cells}
use Rattle.layout.specs.Fields.{With, ObjectThere, RowThere}
use Rattle.layout.proofs.FieldsLaws.{object-there, row-there, sized-object, sized-objects, sized_rows, timestamp_field, readers_field, objects_field, rows_field, last_field, reader_field, versions_field, bounds_field}
use Rattle.layout.proofs.FieldsLaws.{row_field, table-offsets, last-offset, reader-offset, versions-offset, bounds-offset, row-offset}
use Rattle.layout.specs.Fields.{sizes}
use Rattle.layout.specs.Holds.{Holds}
use Rattle.layout.proofs.HoldsLaws.{holds-cells, holds-long}
use Rattle.layout.proofs.OffsetLaws.{object-cell}

module _ (l : Limits) (s : Sane l) (b : List ℕ) (u : Replica) (h : Holds l b u) where
  -- ---- any field: its cells, and the part of the area that it is

  module _ {B : Type 0} {P : RecordArea → Type 0} {f : Codec B} {Q : B → Type 0} (F : Field (record_cells l) P f Q) (p : P (record_of u)) where
    get-field : (k : ℕ) → k < f.size → (i : ℕ) → F.at + k ≡ i → get_or (cells b) i 0 ≡ get_or (f.enc (F.get (record_of u))) k 0
    get-field k low i e =
        ap (λ (w : List ℕ). get_or w i 0) (holds-cells l s b u h)
        ∙ ap (λ (j : ℕ). get_or ((record_cells l).enc (record_of u)) j 0) (sym e)
        ∙ cell-read F (record_of u) p k low

    field_part : (i n : ℕ) → F.at ≡ i → f.size ≡ n → mid_of (i * 8) (n * 8) b ≡ uncells (f.enc (F.get (record_of u)))
    field_part i n e q =
        ap (mid_of (i * 8) (n * 8)) h.same
        ∙ ap₂ (λ (j k : ℕ). mid_of (j * 8) (k * 8) (uncells ((record_cells l).enc (record_of u)))) (sym e) (sym q)
        ∙ (in_bytes F).read (record_of u) p

  -- the rows of a table from i on, with the places up to q
  module _ {B : Type 0} {P : RecordArea → Type 0} {c : Codec B} {R : B → Type 0} {n : ℕ} (z : Sized c R) (F : Field (record_cells l) P (counted n c) (λ xs. (length xs ≤ n) × All R xs)) (p : P (record_of u)) where
    pub table-part : (i q : ℕ) → i ≤ length (F.get (record_of u)) → length (F.get (record_of u)) ≤ q → q ≤ n → (a k : ℕ) → F.at + (1 + i * c.size) ≡ a → c.size ≡ k
        → mid_of (a * 8) ((q - i) * (k * 8)) b ≡ table (q - i) (k * 8) (map (bytewise c).enc (drop i (F.get (record_of u))))
    table-part i q low few most a k e w =
        let xs = F.get (record_of u) in
        let m : (q - i) * (k * 8) ≡ (q - i) * c.size * 8 = ap (λ (j : ℕ). (q - i) * (j * 8)) (sym w) ∙ sym (mul_assoc (q - i) c.size 8) in
        ap (mid_of (a * 8) ((q - i) * (k * 8))) h.same
        ∙ ap₂ (λ (j k : ℕ). mid_of (j * 8) k (uncells ((record_cells l).enc (record_of u)))) (sym e) m
        ∙ uncells-part (F.at + (1 + i * c.size)) ((q - i) * c.size) ((record_cells l).enc (record_of u))
        ∙ ap uncells (field_places z F (record_of u) p i q low few most)
        ∙ bytes-table c (q - i) (drop i xs)
        ∙ ap (λ (j : ℕ). table (q - i) (j * 8) (map (bytewise c).enc (drop i xs))) w

  known : RecordFits l (record_of u)
  known = record_fits l u h.fits

  -- ---- single cells

  pub get-timestamp : get_or (cells b) 0 0 ≡ u.timestamp
  get-timestamp =
      get-field (timestamp_field l (sized-objects l s) (sized_rows l s)) known 0 (omega arith) 0 refl

  pub get-last : (c : ℕ) → c < clients → get_or (cells b) (last_at c) 0 ≡ get_or u.lasts c 0
  get-last c k =
      get-field (last_field l (sized-objects l s) (sized_rows l s) c k) known 0 (omega arith) (last_at c) (omega (arith, last-offset l s c k))

  pub get-reader : (r : ℕ) → r < l.readers → get_or (cells b) (reader_at r) 0 ≡ of_reader (get_or u.readers r none)
  get-reader r k =
      get-field (reader_field l (sized-objects l s) (sized_rows l s) r k) known 0 (omega arith) (reader_at r) (omega (arith, reader-offset l s r k))

  pub get-size : get_or (cells b) (size_at l) 0 ≡ length u.objects
  get-size =
      get-field (objects_field l (sized-objects l s) (sized_rows l s)) known 0 (omega arith) (size_at l) (omega (arith, (table-offsets l s).0))
      ∙ length-stored u.objects u.bounds

  pub get-pending : get_or (cells b) (pending_at l) 0 ≡ length u.pending
  get-pending =
      get-field (rows_field l (sized-objects l s) (sized_rows l s)) known 0 (omega arith) (pending_at l) (omega (arith, (table-offsets l s).1))
      ∙ length-map u.pending row_of

  -- all readers
  pub readers-part : mid_of (reader_at 0 * 8) (l.readers * 8) b ≡ uncells (map of_reader u.readers)
  unfolding clients
  readers-part =
      field_part (readers_field l (sized-objects l s) (sized_rows l s)) known (reader_at 0) l.readers refl (omega arith)
      ∙ ap uncells (array-cells of_reader l.readers u.readers h.fits.readers.0)

  -- ---- object i: the block of its versions, a cell of it, and its bounds

  module _ (i : ℕ) (k : i < length u.objects) where
    object-low : i < l.objects
    object-low = omega (arith, h.fits.objects.0)

    object-known : With l (ObjectThere l i) (RowsFit l) (record_of u)
    object-known = object-there l u h.fits i k

    the_object : get_or (stored_of u) i ([], no_bounds) ≡ (get_or u.objects i [], get_or u.bounds i no_bounds)
    the_object = stored_at u.objects u.bounds i k ([], no_bounds)

    pub object-part : mid_of (object_at l i * 8) (versions_width l * 8) b ≡ uncells ((versions l).enc (get_or u.objects i []))
    object-part =
        field_part (versions_field l s i object-low) object-known (object_at l i) (versions_width l) (versions-offset l s i object-low) refl
        ∙ ap (λ (x : Stored). uncells ((versions l).enc x.0)) the_object

    pub get-object : (j : ℕ) → j < versions_width l → get_or (cells b) (object_at l i + j) 0 ≡ get_or ((versions l).enc (get_or u.objects i [])) j 0
    get-object j low =
        get-field (versions_field l s i object-low) object-known j low (object_at l i + j) (omega (arith, versions-offset l s i object-low))
        ∙ ap (λ (x : Stored). get_or ((versions l).enc x.0) j 0) the_object

    pub get-lower : get_or (cells b) (object_at l i + lower_at l) 0 ≡ of_z w64 (get_or u.bounds i no_bounds).lower
    get-lower =
        get-field (bounds_field l s i object-low) object-known 0 (omega arith) (object_at l i + lower_at l) (omega (arith, bounds-offset l s i object-low))
        ∙ ap (λ (x : Stored). of_z w64 x.1.lower) the_object

    pub get-upper : get_or (cells b) (object_at l i + upper_at l) 0 ≡ of_z w64 (get_or u.bounds i no_bounds).upper
    get-upper =
        get-field (bounds_field l s i object-low) object-known 1 (omega arith) (object_at l i + upper_at l) (omega (arith, bounds-offset l s i object-low))
        ∙ ap (λ (x : Stored). of_z w64 x.1.upper) the_object

  -- the cells of all objects
  pub objects-part : mid_of (object_at l 0 * 8) (length u.objects * (object_width l * 8)) b ≡ flat (map (bytewise (object l)).enc (stored_of u))
  objects-part =
      let n = length (stored_of u) in
      let z : n - 0 ≡ n = omega arith in
      ap (λ (j : ℕ). mid_of (object_at l 0 * 8) (j * (object_width l * 8)) b) (sym (z ∙ length-stored u.objects u.bounds))
      ∙ table-part (sized-object l s) (objects_field l (sized-objects l s) (sized_rows l s)) known 0 n (omega arith) (omega arith) (stored-fit l u h.fits).0 (object_at l 0) (object_width l) (omega (arith, (table-offsets l s).0)) (sizes l).0
      ∙ table-full (object_width l * 8) (map (bytewise (object l)).enc (stored_of u)) (n - 0) (length-map (stored_of u) (bytewise (object l)).enc ∙ sym z)

  -- ---- row i: its cells as a part, and one of them

  module _ (i : ℕ) (k : i < length u.pending) (d : Pending) where
    row_low : i < l.pending
    row_low = omega (arith, few_pending l u h.fits)

    row-known : With l (ObjectsFit l) (RowThere l i) (record_of u)
    row-known = row-there l u h.fits i k

    the_row : get_or (map row_of u.pending) i (row_of d) ≡ row_of (get_or u.pending i d)
    the_row = get_or-map row_of u.pending i d

    pub row-part : mid_of (row_at l i * 8) (row_width l * 8) b ≡ uncells ((row l.operations).enc (row_of (get_or u.pending i d)))
    row-part =
        field_part (row_field l s i row_low (row_of d)) row-known (row_at l i) (row_width l) (row-offset l s i row_low (row_of d)) (sizes l).1
        ∙ ap (λ (r : Row). uncells ((row l.operations).enc r)) the_row

    pub get-row : (j : ℕ) → j < row_width l → get_or (cells b) (row_at l i + j) 0 ≡ get_or ((row l.operations).enc (row_of (get_or u.pending i d))) j 0
    get-row j low =
        get-field (row_field l s i row_low (row_of d)) row-known j (omega (arith, (sizes l).1)) (row_at l i + j) (omega (arith, row-offset l s i row_low (row_of d)))
        ∙ ap (λ (r : Row). get_or ((row l.operations).enc r) j 0) the_row

  -- ---- bounds on offsets and on what the cells say

  -- timestamp, last numbers, readers and the number of objects
  pub cell-inside : (i : ℕ) → i ≤ size_at l → i * 8 + 8 ≤ length b
  cell-inside i k = omega (arith, holds-long l s b u h, (object-cell l s 0 (omega arith) (size_at l) (object_width l) refl refl).inside)

  -- what was read at cell a
  module _ (a n : ℕ) (e : n ≡ get_or (cells b) a 0) where
    pub last-read : (c : ℕ) → c < clients → a ≡ last_at c → n ≡ get_or u.lasts c 0
    last-read c k ea = e ∙ ap (λ (i : ℕ). get_or (cells b) i 0) ea ∙ get-last c k

    pub size-read : a ≡ size_at l → n ≡ length u.objects
    size-read ea = e ∙ ap (λ (i : ℕ). get_or (cells b) i 0) ea ∙ get-size

    pub size_few : a ≡ size_at l → n ≤ l.objects
    size_few ea = omega (arith, size-read ea, h.fits.objects.0)

    pub count-read : a ≡ pending_at l → n ≡ length u.pending
    count-read ea = e ∙ ap (λ (i : ℕ). get_or (cells b) i 0) ea ∙ get-pending

  pub timestamp-low : Shape l u → get_or (cells b) 0 0 < 2 ^ 32
  unfolding last_timestamp
  timestamp-low g = omega (arith, get-timestamp, g.encoded.timestamp)

  -- object i begins in the area, or where the area ends
  pub object-inside : (i a : ℕ) → i ≤ l.objects → a ≡ object_at l i → a * 8 ≤ length b
  object-inside i a k e = omega (arith, holds-long l s b u h, (object-cell l s i k (size_at l) (object_width l) refl refl).inside)
