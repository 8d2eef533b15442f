-- Changes to the rows of a record area: one row, the rows from a place on, one more, one back to its start. Assumes nothing.
use Rattle.std.specs.Prelude.{◌≡◌, take, get_or, set, replicate}
use Rattle.std.proofs.Math.Path.{refl, sym, ap, ap₂, subst}
use Rattle.std.proofs.Common.{◌∙◌, not-suc-le-zero, mul-le-mul_right, length-append, length-set, length-take-le}
use mathlib.Core.List.{List, [], ◌∷◌, ◌++◌, map, map-append, append-nil}
use Prim.Native.Nat.{ℕ, zero, suc, ◌+◌, ◌-◌, ◌*◌, ◌≤◌, ◌<◌}
use native.Mathlib.Omega.{arith}
use Rattle.std.proofs.Math.Nat.{sub-zero}
use Rattle.std.proofs.Math.ListN.{length, drop, length-map, length-replicate, drop_of_length-le, get_or-map}
use Rattle.std.proofs.Math.Seq.{take-length, drop-length, drop-drop}
use borrow.Rule.Slice.PartMut.{mid_of, put_mid, set_mid_at}
use Rattle.cells.specs.Cells.{uncells, splice, cell_put, Put}
use Rattle.cells.specs.Splice.{splice-back}
use Rattle.cells.specs.Uncells.{uncells-back, uncells-set, uncells-splice, uncells-zeros}
use Rattle.execution.specs.Run.{start}
use Rattle.model.specs.declared.Limits.{Limits}
use Rattle.model.specs.Replica.{Pending, Replica, restarted}
use Rattle.model.specs.ListLaws.{All}
use Rattle.model.proofs.ListLaws.{map-set, all_join, all_take, all_in, all_set, map-take}
use Rattle.layout.specs.Rows.{flat, table, blank}
use Rattle.layout.proofs.RowLaws.{table-full}
use Rattle.layout.specs.Codec.{bytewise}
use Rattle.layout.specs.Layout.{of_key, Row, row, RecordArea, record_cells, record_area, stored_of, row_of, body_of, tail_of, record_of}
use Rattle.layout.specs.Offsets.{Sane, pending_at, row_width, row_at}
use Rattle.layout.specs.Printable.{KeyFits, RowFits, BodyFits, RecordFits, Printable}
use Rattle.layout.proofs.PrintableLaws.{start_fits, record_fits}
use Rattle.layout.specs.Field.{put-put}
use Rattle.layout.proofs.TableChanges.{field_places}
use Rattle.layout.proofs.RowCells.{row-start}
use Rattle.layout.proofs.FieldsLaws.{row-there, sized_row, sized-objects, sized_rows, rows_field, row_field, table-offsets, row-offset}
use Rattle.layout.specs.Fields.{sizes}
use Rattle.layout.specs.Holds.{Holds, with_pending}
use Rattle.layout.proofs.Writing.{write-field, replace_field}

alone : (r : List ℕ) → flat (r ∷ []) ≡ r
unfolding flat
alone r = append-nil r

module _ (l : Limits) (s : Sane l) (b : List ℕ) (u : Replica) (h : Holds l b u) where
  known : RecordFits l (record_of u)
  known = record_fits l u h.fits

  -- the same record, with other rows
  abbrev with_rows : List Row → RecordArea
  with_rows rs = ((u.timestamp, (u.lasts, (u.readers, (stored_of u, rs)))), tail_of u)

  -- ---- pending transactions that fit

  fits-pending : (js : List Pending) → length js ≤ l.pending → All (RowFits l.operations) (map row_of js) → All (BodyFits l.operations) (map body_of js) → Printable l (with_pending js u)
  fits-pending js few r b =
      let g = h.fits in
      record { timestamp = g.timestamp; lasts = g.lasts; readers = g.readers; objects = g.objects; bounds = g.bounds; rows = (omega (arith, length-map js row_of), r); tail = g.tail; bodies = b }

  module _ {B : Type 0} (f : Pending → B) (P : B → Type 0) (a : All P (map f u.pending)) where
    all_after : (i : ℕ) (js : List Pending) → All P (map f js) → All P (map f (take i u.pending ++ js))
    all_after i js g =
        rw (map-append f (take i u.pending) js, map-take f i u.pending) (all_join P (take i (map f u.pending)) (map f js) (all_take P i (map f u.pending) a) g)

    all_changed : (i : ℕ) (j : Pending) → P (f j) → All P (map f (set u.pending i j))
    all_changed i j g = rw (map-set f u.pending i j) (all_set P (map f u.pending) i (f j) a g)

  rows_of : (i : ℕ) (js : List Pending) → take i (map row_of u.pending) ++ map row_of js ≡ map row_of (take i u.pending ++ js)
  rows_of i js =
      sym (map-append row_of (take i u.pending) js ∙ ap (◌++ map row_of js) (map-take row_of i u.pending))

  first-at : (i : ℕ) → (rows_field l (sized-objects l s) (sized_rows l s)).at + (1 + i * (row l.operations).size) ≡ row_at l i
  first-at i = omega (arith, (table-offsets l s).1, ap (λ (w : ℕ). i * w) (sizes l).1)

  -- ---- row i

  pub write-row : (i : ℕ) → i < length u.pending → (j : Pending) → RowFits l.operations (row_of j) → BodyFits l.operations (body_of j)
      → (ys : List ℕ) → ys ≡ put_mid (row_at l i * 8) (row_width l * 8) b (uncells ((row l.operations).enc (row_of j)))
      → Holds l ys (with_pending (set u.pending i j) u)
  write-row i k j r g ys e =
      let n = length-map u.pending row_of in
      let few = h.fits.rows.0 in
      let low : i < l.pending = omega arith in
      let there = row-there l u h.fits i k in
      record {
        same =
            write-field l s b u h (row_field l s i low (row_of j)) there (row_of j) r ys (row_at l i) (row_width l) (row-offset l s i low (row_of j)) (sizes l).1 e
            ∙ ap (λ (rs : List Row). (record_area l).enc (with_rows rs)) (sym (map-set row_of u.pending i j));
        fits =
            fits-pending (set u.pending i j) (omega (arith, length-set u.pending i j))
            (all_changed row_of (RowFits l.operations) h.fits.rows.1 i j r) (all_changed body_of (BodyFits l.operations) h.fits.bodies i j g);
      }

  -- ---- the rows from i on: others in the places up to q, with the new count

  module _ (i : ℕ) (k : i ≤ length u.pending) (js : List Pending) (r : All (RowFits l.operations) (map row_of js)) (g : All (BodyFits l.operations) (map body_of js)) where
    fits_after : i + length js ≤ l.pending → Printable l (with_pending (take i u.pending ++ js) u)
    fits_after few =
        fits-pending (take i u.pending ++ js) (omega (arith, length-append (take i u.pending) js, length-take-le i u.pending k))
        (all_after row_of (RowFits l.operations) h.fits.rows.1 i js r) (all_after body_of (BodyFits l.operations) h.fits.bodies i js g)

    pub replace_rows : (q : ℕ) → length u.pending ≤ q → q ≤ l.pending → length js ≤ q - i
        → (ys zs : List ℕ) → ys ≡ put_mid (row_at l i * 8) ((q - i) * (row_width l * 8)) b (table (q - i) (row_width l * 8) (map (bytewise (row l.operations)).enc (map row_of js))) → Put ys zs (pending_at l) (i + length js)
        → Holds l zs (with_pending (take i u.pending ++ js) u)
    replace_rows q few most room ys zs ey ez =
        let m = length-map u.pending row_of in
        let n : length (map row_of js) ≡ length js = length-map js row_of in
        record {
          same =
              replace_field l s b u h (sized_row l s) (rows_field l (sized-objects l s) (sized_rows l s)) known i q (omega arith) (omega arith) most (map row_of js) r (omega arith)
              (row_at l i) (row_width l) (pending_at l) (first-at i) (sizes l).1 (table-offsets l s).1 ys zs ey
              (subst (λ (c : ℕ). Put ys zs (pending_at l) (i + c)) (sym n) ez)
              ∙ ap (λ (rs : List Row). (record_area l).enc (with_rows rs)) (rows_of i js);
          fits = fits_after (omega arith);
        }

  -- ---- one more row

  append-row : length u.pending < l.pending → (j : Pending) → RowFits l.operations (row_of j) → BodyFits l.operations (body_of j)
      → (ys zs : List ℕ) → ys ≡ put_mid (row_at l (length u.pending) * 8) (row_width l * 8) b (uncells ((row l.operations).enc (row_of j))) → Put ys zs (pending_at l) (length u.pending + 1)
      → Holds l zs (with_pending (u.pending ++ (j ∷ [])) u)
  append-row room j r g ys zs ey ez =
      let n = length u.pending in
      let c = row l.operations in
      let one : (n + 1) - n ≡ 1 = omega arith in
      let full : uncells (c.enc (row_of j)) ≡ table 1 (row_width l * 8) (uncells (c.enc (row_of j)) ∷ []) =
      sym (table-full (row_width l * 8) (uncells (c.enc (row_of j)) ∷ []) 1 refl ∙ alone (uncells (c.enc (row_of j)))) in
      let w : row_width l * 8 ≡ 1 * (row_width l * 8) = omega arith in
      let e : ys ≡ put_mid (row_at l n * 8) ((n + 1 - n) * (row_width l * 8)) b (table (n + 1 - n) (row_width l * 8) (uncells (c.enc (row_of j)) ∷ [])) =
      ey ∙ ap₂ (λ (k : ℕ) (v : List ℕ). put_mid (row_at l n * 8) k b v) w full
      ∙ ap (λ (k : ℕ). put_mid (row_at l n * 8) (k * (row_width l * 8)) b (table k (row_width l * 8) (uncells (c.enc (row_of j)) ∷ []))) (sym one) in
      subst (λ (js : List Pending). Holds l zs (with_pending (js ++ (j ∷ [])) u)) (take-length u.pending)
      (replace_rows n (omega arith) (j ∷ []) (r, tt) (g, tt) (n + 1) (omega arith) (omega arith) (omega arith) ys zs e ez)

  -- ---- a row at its start is its key and zeros

  abbrev W : List ℕ
  W = (record_cells l).enc (record_of u)

  in_area : (i : ℕ) → i < l.pending → row_at l i + row_width l ≤ length W
  in_area i k =
      omega (arith, mul-le-mul_right (row_width l) k, (sizes l).2, (rows_field l (sized-objects l s) (sized_rows l s)).len (record_of u) known)

  -- the first unused place
  unused : length u.pending < l.pending → mid_of (row_at l (length u.pending)) (row_width l) W ≡ blank (row_width l)
  unfolding table flat
  unused room =
      let n = length u.pending in
      let m = length-map u.pending row_of in
      let c = row l.operations in
      let one : (n + 1) - n ≡ 1 = omega arith in
      let e : (n + 1 - n) * c.size ≡ row_width l = ap (λ (k : ℕ). k * c.size) one ∙ omega (arith, (sizes l).1) in
      let d : drop n (map row_of u.pending) ≡ [] = ap (λ (k : ℕ). drop k (map row_of u.pending)) (sym m) ∙ drop-length (map row_of u.pending) in
      ap₂ (λ (a k : ℕ). mid_of a k W) (sym (first-at n)) (sym e)
      ∙ field_places (sized_row l s) (rows_field l (sized-objects l s) (sized_rows l s)) (record_of u) known n (n + 1) (omega arith) (omega arith) (omega arith)
      ∙ ap (λ (rs : List Row). table (n + 1 - n) c.size (map c.enc rs)) d
      ∙ ap blank (ap (λ (k : ℕ). k * c.size) (sub-zero (n + 1 - n)) ∙ e)

  -- one more, at its start: the code writes only its key and the count
  pub append-new : length u.pending < l.pending → (j : Pending) → j.run ≡ start → KeyFits (row_of j).0 → BodyFits l.operations (body_of j)
      → (ys zs : List ℕ) → Put b ys (row_at l (length u.pending)) (of_key (row_of j).0) → Put ys zs (pending_at l) (length u.pending + 1)
      → Holds l zs (with_pending (u.pending ++ (j ∷ [])) u)
  append-new room j begun k g ys zs ey ez =
      let n = length u.pending in
      let at = row_at l n in
      let w = row_width l in
      let key = of_key (row_of j).0 in
      let r : row_of j ≡ ((row_of j).0, start) = λ i. ((row_of j).0, begun i) in
      let pos : 0 < length (mid_of at w W) = omega (arith, ap length (unused room), length-replicate {A = ℕ} w 0) in
      let z : at + 0 ≡ at = omega arith in
      let new : set (blank w) 0 key ≡ (row l.operations).enc (row_of j) = first_of w key (omega arith) ∙ sym (ap (row l.operations).enc r ∙ row-start l.operations (row_of j).0) in
      let e : set W at key ≡ put_mid at w W ((row l.operations).enc (row_of j)) =
      ap (λ (a : ℕ). set W a key) (sym z) ∙ sym (set_mid_at at w 0 W key pos) ∙ ap (λ (x : List ℕ). put_mid at w W (set x 0 key)) (unused room) ∙ ap (put_mid at w W) new in
      append-row room j (subst (RowFits l.operations) (sym r) (start_fits l.operations (row_of j).0 k)) g ys zs
      (ey.whole ∙ ap (λ (x : List ℕ). cell_put x at key) h.same ∙ uncells-set W at key (omega (arith, in_area n room)) ∙ ap uncells e
      ∙ sym (uncells-back at w W ((row l.operations).enc (row_of j))) ∙ ap (λ (x : List ℕ). put_mid (at * 8) (w * 8) x (uncells ((row l.operations).enc (row_of j)))) (sym h.same))
      ez
    where
      first_of : (w k : ℕ) → 0 < w → set (blank w) 0 k ≡ k ∷ blank (w - 1)
      first_of (suc w) k p = let e : suc w - 1 ≡ w = omega arith in rw e
      first_of zero k p = absurd (not-suc-le-zero p)

  -- ---- row i back to its start: zeros behind its key

  module _ (i : ℕ) (k : i < length u.pending) (d : Pending) where
    abbrev old : Pending
    old = get_or u.pending i d

    pub restart_row : (ys : List ℕ) → ys ≡ splice b ((row_at l i + 1) * 8) (replicate ((row_width l - 1) * 8) 0) → Holds l ys (with_pending (set u.pending i (restarted old)) u)
    unfolding restarted
    restart_row ys e =
        let at = row_at l i in
        let w = row_width l in
        let c = row l.operations in
        let n = length-map u.pending row_of in
        let few = h.fits.rows.0 in
        let low : i < l.pending = omega arith in
        let room = in_area i low in
        let there = row-there l u h.fits i k in
        let fit : RowFits l.operations (row_of old) =
        subst (RowFits l.operations) (get_or-map row_of u.pending i d) ((row_field l s i low (row_of d)).got (record_of u) there) in
        let body : BodyFits l.operations (body_of old) =
        subst (BodyFits l.operations) (get_or-map body_of u.pending i d) (all_in (BodyFits l.operations) (map body_of u.pending) i (body_of d) h.fits.bodies (omega (arith, length-map u.pending body_of))) in
        let block : mid_of at w W ≡ c.enc (row_of old) =
        ap₂ (λ (a k : ℕ). mid_of a k W) (sym (row-offset l s i low (row_of d))) (sym (sizes l).1) ∙ (row_field l s i low (row_of d)).read (record_of u) there ∙ ap c.enc (get_or-map row_of u.pending i d) in
        let key = (row_of old).0 in
        let len : length (blank (w - 1)) ≡ w - 1 = length-replicate (w - 1) 0 in
        let new : put_mid 1 (w - 1) (c.enc (row_of old)) (blank (w - 1)) ≡ c.enc (key, start) =
        ap (λ (x : List ℕ). of_key key ∷ (blank (w - 1) ++ x)) (past (c.enc (row_of old)) (w - 1) (omega (arith, (sized_row l s).len (row_of old) fit, (sizes l).1)))
        ∙ ap (of_key key ∷◌) (append-nil (blank (w - 1))) ∙ sym (row-start l.operations key) in
        let q : splice W (at + 1) (blank (w - 1)) ≡ put_mid at w W (c.enc (key, start)) =
        sym (splice-back W (blank (w - 1)) (blank (w - 1)) (at + 1) (w - 1) refl (sym len))
        ∙ sym (put-put at w 1 (w - 1) W (blank (w - 1)) (omega arith) room)
        ∙ ap (λ (x : List ℕ). put_mid at w W (put_mid 1 (w - 1) x (blank (w - 1)))) block
        ∙ ap (put_mid at w W) new in
        write-row i k (record { sent = old.sent; run = start }) (start_fits l.operations key fit.0) body ys
        (e ∙ ap₂ (λ (x z : List ℕ). splice x ((at + 1) * 8) z) h.same (sym (uncells-zeros (w - 1)))
        ∙ uncells-splice W (at + 1) (blank (w - 1)) ∙ ap uncells q
        ∙ sym (uncells-back at w W (c.enc (key, start))) ∙ ap (λ (x : List ℕ). put_mid (at * 8) (w * 8) x (uncells (c.enc (key, start)))) (sym h.same))
      where
        past : (x : List ℕ) (n : ℕ) → length x ≡ suc n → drop n (drop 1 x) ≡ []
        past x n e = drop-drop n 1 x ∙ drop_of_length-le x {i = 1 + n} (omega arith)
