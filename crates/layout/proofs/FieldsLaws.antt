-- What follows from `specs/Fields`. Assumes nothing.
use Rattle.std.specs.Prelude.{◌≡◌, refl, List, [], ℕ, ◌+◌, ◌<◌, length}
use Rattle.std.proofs.Math.Option.{none}
use native.Mathlib.Omega.{arith}
use Rattle.std.proofs.lemmas.List.{length-map}
use Rattle.operation.specs.Body.{register_count}
use Rattle.execution.specs.Bounds.{no_bounds}
use Rattle.model.specs.declared.Limits.{Limits}
use Rattle.model.specs.Calls.{clients}
use Rattle.model.specs.Replica.{Replica}
use Rattle.layout.specs.Codec.{cell, pair, array, counted}
use Rattle.layout.specs.Layout.{reader, Row, row, Stored, versions, bounds, object, front, tail, record_cells, row_of, record_of}
use Rattle.layout.specs.Offsets.{Sane, last_at, reader_at, size_at, lower_at, object_at, pending_at, row_at}
use Rattle.layout.specs.Lawful.{Sized, Word}
use Rattle.layout.proofs.LawfulLaws.{sized, lawful_cell, lawful_rows}
use Rattle.layout.specs.Printable.{ReaderFits, RowFits, LastsFit, ReadersFit, ObjectFits, BoundsFit, StoredFits, ObjectsFit, RowsFit, TailFits, Printable}
use Rattle.layout.proofs.PrintableLaws.{length-stored, stored-fit, lawful_reader, lawful_row, lawful_bounds, lawful_versions, lawful_object, lawful_objects, lawful_rows-of}
use Rattle.layout.proofs.FieldLaws.{narrow, ◌▸◌, first, second, sized-pair, sized-counted, row_in, item}
use Rattle.layout.specs.Field.{Field}
use Rattle.layout.specs.Fields.{FrontWith, With, ObjectThere, RowThere}

pub one_word : Sized cell Word
one_word = record { len = λ a h. refl }

pub some-lasts : Sized (array clients cell) LastsFit
some-lasts = sized (lawful_rows lawful_cell (omega arith) clients clients (omega arith))

pub some-readers : (l : Limits) → Sized (array l.readers reader) (ReadersFit l.readers)
some-readers l = sized (lawful_rows lawful_reader (omega arith) l.readers l.readers (omega arith))

pub some-tail : (l : Limits) → Sized (tail l) (TailFits l)
some-tail l = sized (lawful_rows lawful_cell (omega arith) 0 0 (omega arith))

module _ (l : Limits) {O : List Stored → Type 0} {Q : List Row → Type 0} (o : Sized (counted l.objects (object l)) O) (q : Sized (counted l.pending (row l.operations)) Q) where
  -- what stands behind each part of the front
  abbrev behind_readers : Sized (pair (counted l.objects (object l)) (counted l.pending (row l.operations))) (λ x. O x.0 × Q x.1)
  behind_readers = sized-pair o q

  abbrev behind_lasts : Sized (pair (array l.readers reader) (pair (counted l.objects (object l)) (counted l.pending (row l.operations)))) (λ x. ReadersFit l.readers x.0 × (O x.1.0 × Q x.1.1))
  behind_lasts = sized-pair (some-readers l) behind_readers

  abbrev pub front_field : Field (record_cells l) (With l O Q) (front l) (FrontWith l O Q)
  front_field = first (sized-pair one_word (sized-pair some-lasts behind_lasts)) (some-tail l)

  abbrev pub timestamp_field : Field (record_cells l) (With l O Q) cell Word
  timestamp_field = front_field ▸ first one_word (sized-pair some-lasts behind_lasts)

  abbrev pub lasts_field : Field (record_cells l) (With l O Q) (array clients cell) LastsFit
  lasts_field = front_field ▸ second one_word (sized-pair some-lasts behind_lasts) ▸ first some-lasts behind_lasts

  abbrev pub readers_field : Field (record_cells l) (With l O Q) (array l.readers reader) (ReadersFit l.readers)
  readers_field =
      front_field ▸ second one_word (sized-pair some-lasts behind_lasts) ▸ second some-lasts behind_lasts ▸ first (some-readers l) behind_readers

  abbrev pub objects_field : Field (record_cells l) (With l O Q) (counted l.objects (object l)) O
  objects_field =
      front_field ▸ second one_word (sized-pair some-lasts behind_lasts) ▸ second some-lasts behind_lasts ▸ second (some-readers l) behind_readers ▸ first o q

  abbrev pub rows_field : Field (record_cells l) (With l O Q) (counted l.pending (row l.operations)) Q
  rows_field =
      front_field ▸ second one_word (sized-pair some-lasts behind_lasts) ▸ second some-lasts behind_lasts ▸ second (some-readers l) behind_readers ▸ second o q

  abbrev pub last_field : (c : ℕ) → c < clients → Field (record_cells l) (With l O Q) cell Word
  last_field c h = lasts_field ▸ item one_word clients c 0 h

  abbrev pub reader_field : (r : ℕ) → r < l.readers → Field (record_cells l) (With l O Q) reader ReaderFits
  reader_field r h = readers_field ▸ item (sized lawful_reader) l.readers r none h

-- ---- object i and row i, where they are

module _ (l : Limits) (s : Sane l) where
  pub sized-versions : Sized (versions l) (ObjectFits l.readers)
  sized-versions = sized (lawful_versions l s)

  pub sized-object : Sized (object l) (StoredFits l.readers)
  sized-object = sized (lawful_object l s)

  pub sized_row : Sized (row l.operations) (RowFits l.operations)
  sized_row = sized (lawful_row l.operations (omega (arith, s.operations)))

  pub sized-objects : Sized (counted l.objects (object l)) (ObjectsFit l)
  sized-objects = sized (lawful_objects l s)

  pub sized_rows : Sized (counted l.pending (row l.operations)) (RowsFit l)
  sized_rows = sized (lawful_rows-of l s)

-- of a replica that the areas can hold
module _ (l : Limits) (u : Replica) (g : Printable l u) (i : ℕ) where
  pub object-there : i < length u.objects → With l (ObjectThere l i) (RowsFit l) (record_of u)
  object-there k =
      let o = stored-fit l u g in
      ((g.timestamp, (g.lasts, (g.readers, ((o.0, o.1, omega (arith, length-stored u.objects u.bounds)), g.rows)))), g.tail)

  pub row-there : i < length u.pending → With l (ObjectsFit l) (RowThere l i) (record_of u)
  row-there k =
      ((g.timestamp, (g.lasts, (g.readers, (stored-fit l u g, (g.rows.0, g.rows.1, omega (arith, length-map u.pending row_of)))))), g.tail)

module _ (l : Limits) (s : Sane l) (i : ℕ) where
  abbrev pub object_field : i < l.objects → Field (record_cells l) (With l (ObjectThere l i) (RowsFit l)) (object l) (StoredFits l.readers)
  object_field h =
      objects_field l (narrow (sized-counted (sized-object l s) l.objects) (λ xs k. (k.0, k.1))) (sized_rows l s) ▸ row_in (sized-object l s) l.objects i ([], no_bounds) h

  -- its versions, and its bounds
  abbrev pub versions_field : i < l.objects → Field (record_cells l) (With l (ObjectThere l i) (RowsFit l)) (versions l) (ObjectFits l.readers)
  versions_field h = object_field h ▸ first (sized-versions l s) (sized lawful_bounds)

  abbrev pub bounds_field : i < l.objects → Field (record_cells l) (With l (ObjectThere l i) (RowsFit l)) bounds BoundsFit
  bounds_field h = object_field h ▸ second (sized-versions l s) (sized lawful_bounds)

  abbrev pub row_field : i < l.pending → Row → Field (record_cells l) (With l (ObjectsFit l) (RowThere l i)) (row l.operations) (RowFits l.operations)
  row_field h d =
      rows_field l (sized-objects l s) (narrow (sized-counted (sized_row l s) l.pending) (λ xs k. (k.0, k.1))) ▸ row_in (sized_row l s) l.pending i d h

module _ (l : Limits) (s : Sane l) where
  pub table-offsets : ((objects_field l (sized-objects l s) (sized_rows l s)).at ≡ size_at l) × ((rows_field l (sized-objects l s) (sized_rows l s)).at ≡ pending_at l)
  unfolding clients
  table-offsets = (omega arith, omega arith)

  pub last-offset : (c : ℕ) (h : c < clients) → (last_field l (sized-objects l s) (sized_rows l s) c h).at ≡ last_at c
  last-offset c h = omega arith

  pub reader-offset : (r : ℕ) (h : r < l.readers) → (reader_field l (sized-objects l s) (sized_rows l s) r h).at ≡ reader_at r
  unfolding clients
  reader-offset r h = omega arith

  pub object-offset : (i : ℕ) (h : i < l.objects) → (object_field l s i h).at ≡ object_at l i
  unfolding clients
  object-offset i h = omega arith

  pub versions-offset : (i : ℕ) (h : i < l.objects) → (versions_field l s i h).at ≡ object_at l i
  unfolding clients
  versions-offset i h = omega arith

  pub bounds-offset : (i : ℕ) (h : i < l.objects) → (bounds_field l s i h).at ≡ object_at l i + lower_at l
  unfolding clients
  bounds-offset i h = omega arith

  pub row-offset : (i : ℕ) (h : i < l.pending) (d : Row) → (row_field l s i h d).at ≡ row_at l i
  unfolding clients register_count
  row-offset i h d = omega arith
