-- What a write to a record area that holds a replica leaves: an area that holds the changed replica. Assumes nothing.
use Rattle.std.specs.Prelude.{◌≡◌, refl, List, [], ◌∷◌, ◌++◌, map, ℕ, ◌+◌, ◌-◌, ◌*◌, ◌≤◌, ◌<◌, length, take, drop, set}
use Rattle.std.proofs.Common.{sym, ap, ap₂, ◌∙◌, subst, arith, mul_assoc, mul-le-mul_right, zero-add, length-append, length-drop, length-set, length-take-le}
use Rattle.std.proofs.Math.Option.{Option}
use Rattle.std.proofs.lemmas.List.{length-map}
use borrow.Rule.Slice.PartMut.{put_mid, same_len_mid}
use Rattle.cells.specs.Cells.{uncells, cell_put, Put}
use Rattle.cells.specs.Uncells.{uncells-back, uncells-set}
use Rattle.execution.specs.Bounds.{Bounds, no_bounds}
use Rattle.model.specs.declared.Limits.{Limits}
use Rattle.model.specs.Calls.{clients}
use Rattle.model.specs.Serial.{Version}
use Rattle.model.specs.Replica.{Replica}
use Rattle.model.specs.ListLaws.{All}
use Rattle.model.proofs.ListLaws.{all_join, all_take, all_set}
use Rattle.layout.specs.Rows.{flat, table}
use Rattle.layout.proofs.RowLaws.{split_rows, table-length, table-full}
use Rattle.layout.specs.Codec.{Codec, counted, bytewise}
use Rattle.layout.specs.Layout.{of_reader, Stored, RecordArea, versions, object, record_cells, record_area, stored_from, stored_of, row_of, tail_of, record_of}
use Rattle.layout.specs.Offsets.{Sane, last_at, reader_at, size_at, object_width, versions_width, object_at}
use Rattle.layout.specs.Lawful.{Sized, Word}
use Rattle.layout.proofs.LawfulLaws.{uniform}
use Rattle.layout.specs.Printable.{ReaderFits, ObjectFits, BoundsFit, RecordFits, Printable}
use Rattle.layout.proofs.PrintableLaws.{length-stored, all-stored, stored-set, stored-fit, record_fits, fits-record}
use Rattle.layout.specs.Field.{Field, cell-write, part-write, count-write, in_bytes}
use Rattle.layout.proofs.TableChanges.{bytes-table, rows-replace, counted-replace}
use Rattle.layout.proofs.FieldsLaws.{object-there, sized-object, sized-objects, sized_rows, timestamp_field, objects_field, last_field, reader_field, versions_field, table-offsets, last-offset, reader-offset, versions-offset}
use Rattle.layout.specs.Fields.{sizes}
use Rattle.layout.specs.Holds.{Holds, with_timestamp, with_objects, with_lasts, with_readers, with_bounds}

module _ (l : Limits) (s : Sane l) (b : List ℕ) (u : Replica) (h : Holds l b u) where
  -- ---- any field: one cell, a part, and the rows of a table from i on

  module _ {B : Type 0} {P : RecordArea → Type 0} {f : Codec B} {Q : B → Type 0} (F : Field (record_cells l) P f Q) (p : P (record_of u)) (x : B) (q : Q x) (ys : List ℕ) where
    pub put-field : f.size ≡ 1 → (v : ℕ) → f.enc x ≡ v ∷ [] → (i : ℕ) → F.at ≡ i → Put b ys i v → ys ≡ (record_area l).enc (F.put x (record_of u))
    put-field one v e i at w =
        let c = (record_cells l).enc (record_of u) in
        w.whole ∙ ap₂ (λ (z : List ℕ) (j : ℕ). cell_put z j v) h.same (sym at)
        ∙ uncells-set c F.at v (omega (arith, F.inside, F.len (record_of u) p))
        ∙ ap uncells (cell-write F (record_of u) p one x q v e)

    pub write-field : (i n : ℕ) → F.at ≡ i → f.size ≡ n → ys ≡ put_mid (i * 8) (n * 8) b (uncells (f.enc x)) → ys ≡ (record_area l).enc (F.put x (record_of u))
    write-field i n at w e =
        e ∙ ap (λ (z : List ℕ). put_mid (i * 8) (n * 8) z (uncells (f.enc x))) h.same
        ∙ ap₂ (λ (j k : ℕ). put_mid (j * 8) (k * 8) (uncells ((record_cells l).enc (record_of u))) (uncells (f.enc x))) (sym at) (sym w)
        ∙ (in_bytes F).write (record_of u) p x q

  module _ {B : Type 0} {P : RecordArea → Type 0} {c : Codec B} {R : B → Type 0} {n : ℕ} (z : Sized c R) (F : Field (record_cells l) P (counted n c) (λ xs. (length xs ≤ n) × All R xs)) (p : P (record_of u)) where
    -- xs in the places from i up to q, which hold all rows from i on; and then the count
    pub replace_field : (i q : ℕ) → i ≤ length (F.get (record_of u)) → length (F.get (record_of u)) ≤ q → q ≤ n → (xs : List B) → All R xs → length xs ≤ q - i
        → (a k t : ℕ) → F.at + (1 + i * c.size) ≡ a → c.size ≡ k → F.at ≡ t
        → (ys zs : List ℕ) → ys ≡ put_mid (a * 8) ((q - i) * (k * 8)) b (table (q - i) (k * 8) (map (bytewise c).enc xs)) → Put ys zs t (i + length xs)
        → zs ≡ (record_area l).enc (F.put (take i (F.get (record_of u)) ++ xs) (record_of u))
    replace_field i q low few most xs g room a k t e w at ys zs ey ez =
        let W = (record_cells l).enc (record_of u) in
        let olds = F.get (record_of u) in
        let rs = map c.enc xs in
        let m : (q - i) * (k * 8) ≡ (q - i) * c.size * 8 = ap (λ (j : ℕ). (q - i) * (j * 8)) (sym w) ∙ sym (mul_assoc (q - i) c.size 8) in
        let v : table (q - i) (k * 8) (map (bytewise c).enc xs) ≡ uncells (table (q - i) c.size rs) =
        ap (λ (j : ℕ). table (q - i) (j * 8) (map (bytewise c).enc xs)) (sym w) ∙ sym (bytes-table c (q - i) xs) in
        let y : ys ≡ uncells (put_mid (F.at + (1 + i * c.size)) ((q - i) * c.size) W (table (q - i) c.size rs)) =
        ey ∙ ap (λ (x : List ℕ). put_mid (a * 8) ((q - i) * (k * 8)) x (table (q - i) (k * 8) (map (bytewise c).enc xs))) h.same
        ∙ ap₂ (λ (j : ℕ) (x : List ℕ). put_mid (j * 8) ((q - i) * (k * 8)) (uncells W) x) (sym e) v
        ∙ ap (λ (j : ℕ). put_mid ((F.at + (1 + i * c.size)) * 8) j (uncells W) (uncells (table (q - i) c.size rs))) m
        ∙ uncells-back (F.at + (1 + i * c.size)) ((q - i) * c.size) W (table (q - i) c.size rs) in
        let len : length (table (q - i) c.size rs) ≡ (q - i) * c.size =
        table-length (q - i) c.size rs (uniform z xs g) (omega (arith, length-map xs c.enc)) in
        let fit : 1 + i * c.size + (q - i) * c.size ≤ 1 + n * c.size =
        omega (arith, split_rows q i c.size (omega arith), mul-le-mul_right c.size most) in
        let new : length (take i olds ++ xs) ≤ n = omega (arith, length-append (take i olds) xs, length-take-le i olds low) in
        let inside = F.inside in
        let wide : length (put_mid (F.at + (1 + i * c.size)) ((q - i) * c.size) W (table (q - i) c.size rs)) ≡ length W =
        same_len_mid (F.at + (1 + i * c.size)) ((q - i) * c.size) W (table (q - i) c.size rs)
        (len ∙ sym (length-take-le ((q - i) * c.size) (drop (F.at + (1 + i * c.size)) W) (omega (arith, length-drop (F.at + (1 + i * c.size)) W, F.len (record_of u) p)))) in
        ez.whole ∙ ap₂ (λ (x : List ℕ) (j : ℕ). cell_put x j (i + length xs)) y (sym at)
        ∙ uncells-set (put_mid (F.at + (1 + i * c.size)) ((q - i) * c.size) W (table (q - i) c.size rs)) F.at (i + length xs) (omega (arith, F.len (record_of u) p))
        ∙ ap uncells
        (count-write F (record_of u) p (take i olds ++ xs) (new, all_join R (take i olds) xs (all_take R i olds (F.got (record_of u) p).1) g)
        (1 + i * c.size) ((q - i) * c.size) (i + length xs) (table (q - i) c.size rs) (omega arith) fit len
        (counted-replace z n olds (F.got (record_of u) p).1 i q low few most xs room))

    -- xs in the place of the rows from i on, as many as they are
    pub rewrite_field : (i : ℕ) → i ≤ length (F.get (record_of u)) → (xs : List B) → All R xs → length xs ≡ length (F.get (record_of u)) - i
        → (a k : ℕ) → F.at + (1 + i * c.size) ≡ a → c.size ≡ k
        → (ys : List ℕ) → ys ≡ put_mid (a * 8) (length xs * (k * 8)) b (flat (map (bytewise c).enc xs))
        → ys ≡ (record_area l).enc (F.put (take i (F.get (record_of u)) ++ xs) (record_of u))
    rewrite_field i low xs g same a k e w ys ey =
        let W = (record_cells l).enc (record_of u) in
        let olds = F.get (record_of u) in
        let old = F.got (record_of u) p in
        let y = length xs in
        let N = length olds in
        let m : y * (k * 8) ≡ y * c.size * 8 = ap (λ (j : ℕ). y * (j * 8)) (sym w) ∙ sym (mul_assoc y c.size 8) in
        let v : flat (map (bytewise c).enc xs) ≡ uncells (table y c.size (map c.enc xs)) =
        sym (table-full (c.size * 8) (map (bytewise c).enc xs) y (length-map xs (bytewise c).enc)) ∙ sym (bytes-table c y xs) in
        let n' : length (take i olds ++ xs) ≡ N = omega (arith, length-append (take i olds) xs, length-take-le i olds low) in
        let fit : 1 + i * c.size + y * c.size ≤ 1 + n * c.size =
        omega (arith, ap (λ (j : ℕ). j * c.size) same, split_rows N i c.size low, mul-le-mul_right c.size old.0) in
        let t : put_mid (1 + i * c.size) (y * c.size) ((counted n c).enc olds) (table y c.size (map c.enc xs)) ≡ (counted n c).enc (take i olds ++ xs) =
        ap (λ (j : ℕ). put_mid (1 + i * c.size) (j * c.size) ((counted n c).enc olds) (table j c.size (map c.enc xs))) same
        ∙ rows-replace z n olds old.1 i N low (omega arith) old.0 1 (N ∷ []) refl xs (omega arith)
        ∙ ap (λ (j : ℕ). j ∷ table n c.size (map c.enc (take i olds ++ xs))) (sym n') in
        ey ∙ ap₂ (λ (x v : List ℕ). put_mid (a * 8) (y * (k * 8)) x v) h.same v
        ∙ ap₂ (λ (j k : ℕ). put_mid (j * 8) k (uncells W) (uncells (table y c.size (map c.enc xs)))) (sym e) m
        ∙ uncells-back (F.at + (1 + i * c.size)) (y * c.size) W (table y c.size (map c.enc xs))
        ∙ ap uncells
        (part-write F (record_of u) p (take i olds ++ xs) (omega (arith, old.0), all_join R (take i olds) xs (all_take R i olds old.1) g) (1 + i * c.size) (y * c.size) (table y c.size (map c.enc xs)) fit t)

  known : RecordFits l (record_of u)
  known = record_fits l u h.fits

  -- ---- single cells

  pub put-timestamp : (v : ℕ) → Word v → (ys : List ℕ) → Put b ys 0 v → Holds l ys (with_timestamp v u)
  put-timestamp v g ys w =
      let F = timestamp_field l (sized-objects l s) (sized_rows l s) in
      record {
        same = put-field F known v g ys refl v refl 0 refl w;
        fits = fits-record l (with_timestamp v u) h.fits.bounds.0 (F.put_fits (record_of u) known v g) h.fits.bodies;
      }

  pub put_last : (c : ℕ) → c < clients → (v : ℕ) → Word v → (ys : List ℕ) → Put b ys (last_at c) v → Holds l ys (with_lasts (set u.lasts c v) u)
  put_last c k v g ys w =
      let F = last_field l (sized-objects l s) (sized_rows l s) c k in
      record {
        same = put-field F known v g ys refl v refl (last_at c) (last-offset l s c k) w;
        fits = fits-record l (with_lasts (set u.lasts c v) u) h.fits.bounds.0 (F.put_fits (record_of u) known v g) h.fits.bodies;
      }

  pub put-reader : (r : ℕ) → r < l.readers → (x : Option ℕ) → ReaderFits x → (ys : List ℕ) → Put b ys (reader_at r) (of_reader x) → Holds l ys (with_readers (set u.readers r x) u)
  put-reader r k x g ys w =
      let F = reader_field l (sized-objects l s) (sized_rows l s) r k in
      record {
        same = put-field F known x g ys refl (of_reader x) refl (reader_at r) (reader-offset l s r k) w;
        fits = fits-record l (with_readers (set u.readers r x) u) h.fits.bounds.0 (F.put_fits (record_of u) known x g) h.fits.bodies;
      }

  -- ---- objects

  -- the same record, with other objects
  abbrev with_stored : List Stored → RecordArea
  with_stored os = ((u.timestamp, (u.lasts, (u.readers, (os, map row_of u.pending)))), tail_of u)

  fits-objects : (xs : List (List Version)) → length xs ≡ length u.objects → All (ObjectFits l.readers) xs → Printable l (with_objects xs u)
  fits-objects xs n g =
      let f = h.fits in
      record { timestamp = f.timestamp; lasts = f.lasts; readers = f.readers; objects = (omega (arith, f.objects.0), g); bounds = (f.bounds.0 ∙ sym n, f.bounds.1); rows = f.rows; tail = f.tail; bodies = f.bodies }

  -- the versions of object i
  pub write-object : (i : ℕ) → i < length u.objects → (vs : List Version) → ObjectFits l.readers vs → (ys : List ℕ) → ys ≡ put_mid (object_at l i * 8) (versions_width l * 8) b (uncells ((versions l).enc vs))
      → Holds l ys (with_objects (set u.objects i vs) u)
  write-object i k vs g ys e =
      let few = h.fits.objects.0 in
      let low : i < l.objects = omega arith in
      record {
        same =
            write-field (versions_field l s i low) (object-there l u h.fits i k) vs g ys (object_at l i) (versions_width l) (versions-offset l s i low) refl e
            ∙ ap (λ (os : List Stored). (record_area l).enc (with_stored os)) (stored-set u.objects u.bounds i vs ([], no_bounds));
        fits = fits-objects (set u.objects i vs) (length-set u.objects i vs) (all_set (ObjectFits l.readers) u.objects i vs h.fits.objects.1 g);
      }

  -- all of them, as many as there are, with their bounds
  pub write-objects : (xs : List (List Version)) → length xs ≡ length u.objects → All (ObjectFits l.readers) xs
      → (ys : List ℕ) → ys ≡ put_mid (object_at l 0 * 8) (length xs * (object_width l * 8)) b (flat (map (bytewise (object l)).enc (stored_from xs u.bounds))) → Holds l ys (with_objects xs u)
  write-objects xs n g ys e =
      let os = stored_from xs u.bounds in
      let fit = fits-objects xs n g in
      let m = length-stored xs u.bounds in
      record {
        same =
            rewrite_field (sized-object l s) (objects_field l (sized-objects l s) (sized_rows l s)) known 0 (omega arith) os (stored-fit l (with_objects xs u) fit).1 (omega (arith, m, length-stored u.objects u.bounds))
            (object_at l 0) (object_width l) (omega (arith, (table-offsets l s).0)) (sizes l).0 ys (e ∙ rw m);
        fits = fit;
      }

  -- the first ones
  pub open_objects : u.objects ≡ [] → (xs : List (List Version)) (bs : List Bounds) → length xs ≤ l.objects → All (ObjectFits l.readers) xs → length bs ≡ length xs → All BoundsFit bs
      → (ys zs : List ℕ) → ys ≡ put_mid (object_at l 0 * 8) (length xs * (object_width l * 8)) b (flat (map (bytewise (object l)).enc (stored_from xs bs))) → Put ys zs (size_at l) (length xs)
      → Holds l zs (with_bounds bs (with_objects xs u))
  open_objects none xs bs few g n f ys zs ey ez =
      let os = stored_from xs bs in
      let m : length os ≡ length xs = length-stored xs bs in
      let y = length os in
      let z : y - 0 ≡ y = omega arith in
      let fit : Printable l (with_bounds bs (with_objects xs u)) = record { timestamp = h.fits.timestamp; lasts = h.fits.lasts; readers = h.fits.readers; objects = (few, g); bounds = (n, f); rows = h.fits.rows; tail = h.fits.tail; bodies = h.fits.bodies } in
      let full : flat (map (bytewise (object l)).enc os) ≡ table (y - 0) (object_width l * 8) (map (bytewise (object l)).enc os) =
      sym (table-full (object_width l * 8) (map (bytewise (object l)).enc os) (y - 0) (length-map os (bytewise (object l)).enc ∙ sym z)) in
      let e : ys ≡ put_mid (object_at l 0 * 8) ((y - 0) * (object_width l * 8)) b (table (y - 0) (object_width l * 8) (map (bytewise (object l)).enc os)) =
      ey ∙ ap₂ (λ (j : ℕ) (v : List ℕ). put_mid (object_at l 0 * 8) (j * (object_width l * 8)) b v) (sym (z ∙ m)) full in
      let empty : length (stored_of u) ≡ 0 = length-stored u.objects u.bounds ∙ ap length none in
      record {
        same =
            replace_field (sized-object l s) (objects_field l (sized-objects l s) (sized_rows l s)) known 0 y (omega arith) (omega (arith, empty)) (omega (arith, m)) os (all-stored l.readers xs bs n g f) (omega arith)
            (object_at l 0) (object_width l) (size_at l) (omega (arith, (table-offsets l s).0)) (sizes l).0 (table-offsets l s).0 ys zs e (subst (Put ys zs (size_at l)) (sym (zero-add y ∙ m)) ez);
        fits = fit;
      }
