-- What an opening needs of the areas it is lent, what it leaves in the objects' cells, and a turn of the loop that writes them. Assumes nothing.
use Rattle.std.specs.Prelude.{◌≡◌, ℕ, suc, ◌+◌, ◌-◌, ◌*◌, ◌^◌, ◌<◌, ◌≤◌, List, [], ◌∷◌, ◌++◌, map, length, take, drop, set, replicate, ℤ, pos, slice_index_or, slice_set}
use Rattle.std.proofs.Math.Path.{refl, sym, ap}
use Rattle.std.proofs.Common.{ap₂, ◌∙◌, mul_assoc, add-one, drop-cons, take_at, take_all}
use mathlib.Core.List.{append_assoc, append-nil}
use native.Mathlib.Omega.{arith}
use Rattle.std.proofs.Math.ListN.{length-append, length-set, length-replicate, length-map, drop_of_length-le}
use Rattle.std.proofs.Math.Seq.{drop-drop, get_or-drop, drop-append-add, take-suc}
use Rattle.std.proofs.lemmas.List.Edits.{sets-eq}
use mir.Syntax.{w64}
use mir.Val.{of_z}
use borrow.Rule.Slice.PartMut.{mid_of, put_mid}
use Rattle.cells.specs.Cells.{uncells, cell_put, Put, splice}
use Rattle.cells.specs.Uncells.{length-uncells, uncells-append, uncells-set, uncells-zeros}
use Rattle.model.specs.declared.Limits.{Limits}
use Rattle.model.specs.Calls.{by_values, bounds_from}
use Rattle.model.specs.Start.{Version, start_of}
use Rattle.model.specs.Replica.{Replica, opened}
use Rattle.model.specs.ListLaws.{All}
use Rattle.model.proofs.ListLaws.{all_append, all-mapped}
use Rattle.versions.specs.Block as versions
use Rattle.versions.specs.Block.{width, object_cells, block}
use Rattle.layout.specs.Rows.{flat, blank}
use Rattle.layout.proofs.RowLaws.{blanks, drop-blank}
use Rattle.layout.specs.Codec.{bytewise}
use Rattle.layout.specs.Layout.{object, stored_from, print}
use Rattle.layout.specs.Offsets.{Sane, object_width, object_at, size_at, record_length, bodies_length}
use Rattle.layout.proofs.OffsetLaws.{object-span}
use Rattle.layout.specs.Printable.{ValueFits, BoundsFit, ObjectFits}
use Rattle.layout.specs.Holds.{Holds, HoldsBodies, with_timestamp, with_objects, with_bounds}
use Rattle.layout.proofs.HoldsLaws.{holds-print}
use Rattle.layout.proofs.Writing.{put-timestamp, open_objects}
use Rattle.layout.proofs.EmptyAreas.{empty, opened-empty, empty_holds, empty-bodies}

-- areas of the right lengths, whatever they hold, and start values within the limit, with bounds for each
pub record Lent (l : Limits) (b c : List ℕ) (vs los his : List ℤ) : Type 0 where
  pub sane : Sane l
  pub record_area : length b ≡ record_length l
  pub body_area : length c ≡ bodies_length l
  pub few : length vs ≤ l.objects
  pub lowers : length los ≡ length vs
  pub uppers : length his ≡ length vs

-- objects of zeros, one for each value
pub record Blank (r : ℕ) (b : List ℕ) (vs los his : List ℤ) : Type 0 where
  pub few : r ≤ 65536
  pub zeros : b ≡ blank (length vs * (object_cells r * 8))
  pub lowers : length los ≡ length vs
  pub uppers : length his ≡ length vs

-- each object's versions: one, with the start timestamp
abbrev pub started : ℕ → List ℤ → List (List Version)
started t vs = map (λ v. record { stamp = t; value = v } ∷ []) vs

-- the cells of one object
abbrev opened_object : ℕ → ℕ → ℤ → ℤ → ℤ → List ℕ
opened_object r t v lo hi = block r (record { stamp = t; value = v } ∷ []) ++ (of_z w64 lo ∷ of_z w64 hi ∷ [])

-- of all
unfoldable pub opened_objects : ℕ → ℕ → List ℤ → List ℤ → List ℤ → List ℕ
opened_objects r t [] los his = []
opened_objects r t (v ∷ vs) los his =
    uncells (opened_object r t v (slice_index_or los 0 (pos 0)) (slice_index_or his 0 (pos 0))) ++ opened_objects r t vs (drop 1 los) (drop 1 his)

-- a block with one version
opened-block : (r t : ℕ) (v : ℤ) → block r (record { stamp = t; value = v } ∷ []) ≡ 1 ∷ t ∷ of_z w64 v ∷ blank (2 * r)
unfolding block versions.flat
opened-block r t v =
    let e : 2 * (suc r - 1) ≡ 2 * r = omega arith in ap (λ (k : ℕ). 1 ∷ t ∷ of_z w64 v ∷ blank k) e

-- what `put_objects` leaves; and values and bounds are 64-bit numbers, which their type says of each that is read
pub record Started (r t : ℕ) (vs los his : List ℤ) (b : List ℕ) : Type 0 where
  pub whole : b ≡ opened_objects r t vs los his
  pub fits : All ValueFits vs
  pub lowers : All ValueFits los
  pub uppers : All ValueFits his

-- ---- an area filled with 0, and a part of it

pub cleared : (xs : List ℕ) (n : ℕ) → length xs ≡ n → splice xs 0 (replicate (n - 0) 0) ≡ blank n
unfolding splice
cleared xs n e =
    let z : n - 0 ≡ n = omega arith in
    rw (z, drop_of_length-le xs {i = 0 + length (blank n)} (omega (arith, length-replicate {A = ℕ} n 0))) (append-nil (blank n))

pub blank_part : (a k n : ℕ) → a + k ≤ n → mid_of a k (blank n) ≡ blank k
blank_part a k n h =
    ap (take k) (drop-blank a n ∙ sym (blanks k (n - a - k) (n - a) (omega arith)))
    ∙ take_at (blank k) (blank (n - a - k)) k (length-replicate k 0)

-- ---- put_objects: what stands in front is done, the rest is 0

-- cells set one behind the other, where zeros begin
set-three : (front : List ℕ) (rest at a b c : ℕ) → length front ≡ at → slice_set (slice_set (slice_set (front ++ blank (3 + rest)) at a) (at + 1) b) (at + 2) c ≡ front ++ (a ∷ b ∷ c ∷ blank rest)
set-three front rest at a b c e =
    let cs : List ℕ = front ++ blank (3 + rest) in
    let xs : List ℕ = a ∷ b ∷ c ∷ [] in
    let next : at + 1 ≡ suc at = omega arith in
    let last : at + 2 ≡ suc (suc at) = omega arith in
    let d : at + 3 ≡ length front + 3 = omega arith in
    let less : 3 + rest - 3 ≡ rest = omega arith in
    let long : at + 3 ≤ length cs = omega (arith, length-append front (blank (3 + rest)), length-replicate {A = ℕ} (3 + rest) 0) in
    let before : take at cs ≡ front = take_at front (blank (3 + rest)) at e in
    let behind : drop (at + 3) cs ≡ blank rest = ap (λ (k : ℕ). drop k cs) d ∙ drop-append-add front (blank (3 + rest)) 3 ∙ drop-blank 3 (3 + rest) ∙ ap blank less in
    rw (next, last) (sets-eq xs cs at long ∙ ap₂ (λ (f g : List ℕ). (f ++ xs) ++ g) before behind ∙ append_assoc front xs (blank rest))

set-two : (front : List ℕ) (rest at a b : ℕ) → length front ≡ at → slice_set (slice_set (front ++ blank (2 + rest)) at a) (at + 1) b ≡ front ++ (a ∷ b ∷ blank rest)
set-two front rest at a b e =
    let cs : List ℕ = front ++ blank (2 + rest) in
    let xs : List ℕ = a ∷ b ∷ [] in
    let next : at + 1 ≡ suc at = omega arith in
    let d : at + 2 ≡ length front + 2 = omega arith in
    let less : 2 + rest - 2 ≡ rest = omega arith in
    let long : at + 2 ≤ length cs = omega (arith, length-append front (blank (2 + rest)), length-replicate {A = ℕ} (2 + rest) 0) in
    let before : take at cs ≡ front = take_at front (blank (2 + rest)) at e in
    let behind : drop (at + 2) cs ≡ blank rest = ap (λ (k : ℕ). drop k cs) d ∙ drop-append-add front (blank (2 + rest)) 2 ∙ drop-blank 2 (2 + rest) ∙ ap blank less in
    rw next (sets-eq xs cs at long ∙ ap₂ (λ (f g : List ℕ). (f ++ xs) ++ g) before behind ∙ append_assoc front xs (blank rest))

pub record Filling (r t : ℕ) (vs los his : List ℤ) (ys : List ℕ) (at i : ℕ) : Type 0 where
  pub front : List ℕ
  pub size : length front ≡ at
  pub now : ys ≡ uncells (front ++ blank (length (drop i vs) * object_cells r))
  pub fits : All ValueFits (take i vs)
  pub lowers : All ValueFits (take i los)
  pub uppers : All ValueFits (take i his)
  pub done : uncells front ++ opened_objects r t (drop i vs) (drop i los) (drop i his) ≡ opened_objects r t vs los his

module _ (r t : ℕ) (vs los his : List ℤ) (ys : List ℕ) where
  pub filling-start : ys ≡ blank (length vs * (object_cells r * 8)) → Filling r t vs los his ys 0 0
  filling-start e =
      record {
        front = [];
        size = refl;
        now = e ∙ ap blank (sym (mul_assoc (length vs) (object_cells r) 8)) ∙ sym (uncells-zeros (length vs * object_cells r));
        fits = tt;
        lowers = tt;
        uppers = tt;
        done = refl;
      }

  module _ (at i : ℕ) (p : Filling r t vs los his ys at i) where
    end-bytes : length vs ≤ i → ys ≡ opened_objects r t vs los his
    unfolding opened_objects
    end-bytes h =
        let e : drop i vs ≡ [] = drop_of_length-le vs {i = i} h in
        let none : 0 * object_cells r ≡ 0 = omega arith in
        p.now
        ∙ ap (λ (x : List ℤ). uncells (p.front ++ blank (length x * object_cells r))) e
        ∙ ap (λ (k : ℕ). uncells (p.front ++ blank k)) none
        ∙ ap uncells (append-nil p.front)
        ∙ sym (append-nil (uncells p.front))
        ∙ sym (ap (λ (x : List ℤ). uncells p.front ++ opened_objects r t x (drop i los) (drop i his)) e)
        ∙ p.done

    pub filling-end : length los ≡ length vs → length his ≡ length vs → length vs ≤ i → Started r t vs los his ys
    filling-end lows highs h =
        record {
          whole = end-bytes h;
          fits = rw (take_all i vs h) at p.fits;
          lowers = rw (take_all i los (omega arith)) at p.lowers;
          uppers = rw (take_all i his (omega arith)) at p.uppers;
        }

    module _ (h : i < length vs) where
      here : drop i vs ≡ slice_index_or vs i (pos 0) ∷ drop (i + 1) vs
      here = rw add-one (drop-cons vs i (pos 0) h)

      -- the zeros behind this turn's object
      rest : ℕ
      rest = length (drop (i + 1) vs) * object_cells r

      cells-now : List ℕ
      cells-now = p.front ++ blank (3 + (2 * r + (2 + rest)))

      left : ys ≡ uncells cells-now
      unfolding rest cells-now
      left =
          let n : ℕ = length (drop (i + 1) vs) in
          let e : suc n * object_cells r ≡ 3 + (2 * r + (2 + n * object_cells r)) = omega arith in
          p.now
          ∙ ap (λ (k : ℕ). uncells (p.front ++ blank k)) (ap (λ (x : List ℤ). length x * object_cells r) here ∙ e)

      long : length cells-now ≡ at + (3 + (2 * r + (2 + rest)))
      unfolding cells-now
      long = omega (arith, length-append p.front (blank (3 + (2 * r + (2 + rest)))), length-replicate {A = ℕ} (3 + (2 * r + (2 + rest))) 0, p.size)

      pub filling-room : (at + width r) * 8 + 16 ≤ length ys
      filling-room = omega (arith, ap length left, length-uncells cells-now, long)

      -- the cells of the one version, and those of the bounds
      module _ (x lo hi : ℕ) where
        abbrev new : List ℕ
        new = 1 ∷ t ∷ x ∷ blank (2 * r)

        abbrev versioned : List ℕ
        versioned = slice_set (slice_set (slice_set cells-now at 1) (at + 1) t) (at + 2) x

        front-size : length (p.front ++ new) ≡ at + width r
        front-size = omega (arith, length-append p.front new, length-replicate {A = ℕ} (2 * r) 0, p.size)

        one-version : versioned ≡ (p.front ++ new) ++ blank (2 + rest)
        unfolding cells-now
        one-version =
            set-three p.front (2 * r + (2 + rest)) at 1 t x p.size
            ∙ ap (λ (f : List ℕ). p.front ++ (1 ∷ t ∷ x ∷ f)) (sym (blanks (2 * r) (2 + rest) (2 * r + (2 + rest)) refl))
            ∙ sym (append_assoc p.front new (blank (2 + rest)))

        bounded : (b : ℕ) → b ≡ at + width r → slice_set (slice_set versioned b lo) (b + 1) hi ≡ (p.front ++ (new ++ (lo ∷ hi ∷ []))) ++ blank rest
        bounded b e =
            ap (λ (f : List ℕ). set (slice_set f b lo) (b + 1) hi) one-version
            ∙ set-two (p.front ++ new) rest b lo hi (front-size ∙ sym e)
            ∙ sym (append_assoc (p.front ++ new) (lo ∷ hi ∷ []) (blank rest))
            ∙ ap (◌++ blank rest) (append_assoc p.front new (lo ∷ hi ∷ []))

      -- the five writes of a turn
      module _ (y₁ y₂ y₃ y₄ y₅ : List ℕ) (x lo hi b : ℕ) (eb : b ≡ at + width r) (p₁ : Put ys y₁ at 1) (p₂ : Put y₁ y₂ (at + 1) t) (p₃ : Put y₂ y₃ (at + 2) x) (p₄ : Put y₃ y₄ b lo) (p₅ : Put y₄ y₅ (b + 1) hi) where
        write : (f : List ℕ) (u v : List ℕ) (k z : ℕ) → u ≡ uncells f → length f ≡ length cells-now → Put u v k z → k < length cells-now → v ≡ uncells (slice_set f k z)
        write f u v k z e n w l =
            w.whole ∙ ap (λ (g : List ℕ). cell_put g k z) e ∙ uncells-set f k z (omega arith)

        c₁ : List ℕ
        c₁ = slice_set cells-now at 1

        c₂ : List ℕ
        c₂ = slice_set c₁ (at + 1) t

        c₃ : List ℕ
        c₃ = slice_set c₂ (at + 2) x

        c₄ : List ℕ
        c₄ = slice_set c₃ b lo

        written : y₅ ≡ uncells (slice_set c₄ (b + 1) hi)
        unfolding c₁ c₂ c₃ c₄
        written =
            let n₁ : length c₁ ≡ length cells-now = length-set cells-now at 1 in
            let n₂ : length c₂ ≡ length cells-now = length-set c₁ (at + 1) t ∙ n₁ in
            let n₃ : length c₃ ≡ length cells-now = length-set c₂ (at + 2) x ∙ n₂ in
            let n₄ : length c₄ ≡ length cells-now = length-set c₃ b lo ∙ n₃ in
            let e₁ = write cells-now ys y₁ at 1 left refl p₁ (omega (arith, long)) in
            let e₂ = write c₁ y₁ y₂ (at + 1) t e₁ n₁ p₂ (omega (arith, long)) in
            let e₃ = write c₂ y₂ y₃ (at + 2) x e₂ n₂ p₃ (omega (arith, long)) in
            let e₄ = write c₃ y₃ y₄ b lo e₃ n₃ p₄ (omega (arith, long)) in
            write c₄ y₄ y₅ (b + 1) hi e₄ n₄ p₅ (omega (arith, long))

        pub filling-next : x ≡ of_z w64 (slice_index_or vs i (pos 0)) → lo ≡ of_z w64 (slice_index_or los i (pos 0)) → hi ≡ of_z w64 (slice_index_or his i (pos 0)) → i < length los → i < length his
            → ValueFits (slice_index_or vs i (pos 0)) → ValueFits (slice_index_or los i (pos 0)) → ValueFits (slice_index_or his i (pos 0)) → Filling r t vs los his y₅ (b + 2) (i + 1)
        unfolding rest opened_objects c₁ c₂ c₃ c₄
        filling-next ex elo ehi jl jh f fl fh =
            let object : List ℕ = new x lo hi ++ (lo ∷ hi ∷ []) in
            let others : List ℕ = opened_objects r t (drop (i + 1) vs) (drop (i + 1) los) (drop (i + 1) his) in
            let same : object ≡ opened_object r t (slice_index_or vs i (pos 0)) (slice_index_or los i (pos 0)) (slice_index_or his i (pos 0)) =
            rw (ex, elo, ehi) (ap (λ (f : List ℕ). f ++ (of_z w64 (slice_index_or los i (pos 0)) ∷ of_z w64 (slice_index_or his i (pos 0)) ∷ [])) (sym (opened-block r t (slice_index_or vs i (pos 0))))) in
            let z : i + 0 ≡ i = omega arith in
            let head : uncells object ++ others ≡ opened_objects r t (drop i vs) (drop i los) (drop i his) =
            ap (λ (f : List ℕ). uncells f ++ others) same
            ∙ rw (here, get_or-drop i los 0 (pos 0), get_or-drop i his 0 (pos 0), drop-drop 1 i los, drop-drop 1 i his, z) in
            record {
              front = p.front ++ object;
              size = omega (arith, length-append p.front object, length-append (new x lo hi) (lo ∷ hi ∷ []), length-replicate {A = ℕ} (2 * r) 0, p.size);
              now = written ∙ ap uncells (bounded x lo hi b eb);
              fits = rw (add-one, take-suc vs i (pos 0) h) (all_append ValueFits (take i vs) (slice_index_or vs i (pos 0)) p.fits f);
              lowers = rw (add-one, take-suc los i (pos 0) jl) (all_append ValueFits (take i los) (slice_index_or los i (pos 0)) p.lowers fl);
              uppers = rw (add-one, take-suc his i (pos 0) jh) (all_append ValueFits (take i his) (slice_index_or his i (pos 0)) p.uppers fh);
              done =
                  ap (λ (f : List ℕ). f ++ others) (uncells-append p.front object)
                  ∙ append_assoc (uncells p.front) (uncells object) others
                  ∙ ap (uncells p.front ++◌) head
                  ∙ p.done;
            }

-- ---- the cells of n objects in a record area that was filled with 0, from cell f up to cell e

module _ (l : Limits) (xs rs : List ℕ) (z : length xs ≡ record_length l) (c : rs ≡ splice xs 0 (replicate (length xs - 0) 0)) (n f e : ℕ) (ef : f ≡ object_at l 0) (ee : e ≡ object_at l n) where
  clear : rs ≡ blank (record_length l)
  clear = c ∙ cleared xs (length xs) refl ∙ ap blank z

  span : e * 8 - f * 8 ≡ n * (object_width l * 8)
  span = rw (ef, ee) (object-span l 0 n (omega arith) ∙ ap (λ (k : ℕ). k * (object_width l * 8)) (omega arith))

  pub lent-blank : e * 8 ≤ record_length l → mid_of (f * 8) (e * 8 - f * 8) rs ≡ blank (n * (object_width l * 8))
  lent-blank h =
      ap (mid_of (f * 8) (e * 8 - f * 8)) clear ∙ blank_part (f * 8) (e * 8 - f * 8) (record_length l) (omega (arith, ef, ee)) ∙ ap blank span

  pub put_back : (bs vs : List ℕ) → bs ≡ vs → put_mid (f * 8) (e * 8 - f * 8) rs bs ≡ put_mid (object_at l 0 * 8) (n * (object_width l * 8)) (blank (record_length l)) vs
  put_back bs vs eb = rw (span, ef, eb, clear)

-- ---- the whole

-- as the layout has them
module _ (l : Limits) (t : ℕ) where
  laid-objects : (vs los his : List ℤ) → length los ≡ length vs → length his ≡ length vs
      → opened_objects l.readers t vs los his ≡ flat (map (bytewise (object l)).enc (stored_from (started t vs) (bounds_from los his)))
  unfolding opened_objects flat
  laid-objects [] los his e f = refl
  laid-objects (v ∷ vs) [] his e f = absurd (omega arith)
  laid-objects (v ∷ vs) (lo ∷ los) [] e f = absurd (omega arith)
  laid-objects (v ∷ vs) (lo ∷ los) (hi ∷ his) e f =
      ap (uncells (opened_object l.readers t v lo hi) ++◌) (laid-objects vs los his (omega arith) (omega arith))

  bounds_fit : (los his : List ℤ) → All ValueFits los → All ValueFits his → All BoundsFit (bounds_from los his)
  bounds_fit [] his g f = tt
  bounds_fit (lo ∷ los) [] g f = tt
  bounds_fit (lo ∷ los) (hi ∷ his) g f = ((g.0, f.0), bounds_fit los his g.1 f.1)

  bounds-long : (los his : List ℤ) → length his ≡ length los → length (bounds_from los his) ≡ length los
  bounds-long [] his e = refl
  bounds-long (lo ∷ los) [] e = absurd (omega arith)
  bounds-long (lo ∷ los) (hi ∷ his) e = ap suc (bounds-long los his (omega arith))

module _ (l : Limits) (s : Sane l) (vs los his : List ℤ) (few : length vs ≤ l.objects) (lows : length los ≡ length vs) (highs : length his ≡ length vs) (t : ℕ) (word : t < 2 ^ 64) (b : List ℕ) (k : Started l.readers t vs los his b) where
  started-fits : All (ObjectFits l.readers) (started t vs)
  started-fits = all-mapped (ObjectFits l.readers) (λ v. record { stamp = t; value = v } ∷ []) vs (each vs k.fits)
    where
      each : (vs : List ℤ) → All ValueFits vs → All (λ v. ObjectFits l.readers (record { stamp = t; value = v } ∷ [])) vs
      each [] f = tt
      each (v ∷ vs) f = ((omega arith, ((word, f.0), tt)), each vs f.1)

  -- c: the record area with the objects' cells, which are b; d: with their number too, at cell i; e: with the timestamp too
  pub opened-areas : (c d e : List ℕ) → c ≡ put_mid (object_at l 0 * 8) (length vs * (object_width l * 8)) (blank (record_length l)) b
      → (i : ℕ) → i ≡ size_at l → Put c d i (length vs) → Put d e 0 t → (bs : List ℕ) → bs ≡ blank (bodies_length l) → (e, bs) ≡ print l (opened l (start_of (by_values (length vs) vs los his t)))
  unfolding opened
  opened-areas c d e ec i ei p q bs eb =
      let limits = bounds_from los his in
      let n : length (started t vs) ≡ length vs = length-map vs (λ v. record { stamp = t; value = v } ∷ []) in
      let m : length limits ≡ length (started t vs) = bounds-long l t los his (highs ∙ sym lows) ∙ lows ∙ sym n in
      let u : Replica = with_bounds limits (with_objects (started t vs) (empty l)) in
      let h : Holds l d u =
      open_objects l s (blank (record_length l)) (empty l) (empty_holds l) refl (started t vs) limits (omega arith) started-fits m (bounds_fit l t los his k.lowers k.uppers) c d
      (ec ∙ rw (n, k.whole, laid-objects l t vs los his lows highs)) (rw (n, ← ei) p) in
      let done = put-timestamp l s d u h t word e q in
      let bodies : HoldsBodies l bs (with_timestamp t u) = record { same = eb ∙ (empty-bodies l).same; fits = done.fits } in
      holds-print l e bs (with_timestamp t u) done bodies
      ∙ ap (print l) (sym (opened-empty l (length vs) vs los his t))
