-- A run of pending transactions moved down, their rows and their bodies. Assumes nothing.
use Rattle.std.specs.Prelude.{◌≡◌, refl, ℕ, zero, suc, ◌+◌, ◌*◌, ◌-◌, ◌≤◌, ◌<◌, get_or, set}
use Rattle.std.proofs.Math.Path.{sym, ap, ap₂}
use Rattle.std.proofs.Common.{◌∙◌, subst, mul-le-mul_right, zero-add, suc-mul, add-mul, take-append-drop, get_or-drop, take-add, drop-drop}
use Rattle.std.proofs.Math.Option.{none}
use mathlib.Core.List.{List, [], ◌∷◌, ◌++◌, map, append_assoc}
use native.Mathlib.Omega.{arith}
use Rattle.std.proofs.Math.ListN.{length, take, drop, length-drop}
use Rattle.std.proofs.lemmas.List.{length-map}
use Rattle.std.proofs.Math.Seq.{length-take-le, paste, paste-zero, paste-suc}
use Rattle.std.proofs.lemmas.List.Edits.{length-paste, take-paste, drop-paste}
use borrow.Rule.Slice.PartMut.{mid_of, put_mid}
use Rattle.cells.specs.Cells.{splice}
use Rattle.cells.specs.Splice.{splice-back}
use Rattle.cells.specs.Uncells.{length-uncells}
use Rattle.model.specs.declared.Limits.{Limits}
use Rattle.model.proofs.ListLaws.{map-set}
use Rattle.model.specs.Replica.{Pending, Replica, pending_of}
use Rattle.layout.specs.Rows.{table}
use Rattle.layout.specs.RowLaws.{Uniform}
use Rattle.layout.proofs.RowLaws.{row_read, row_write}
use Rattle.layout.specs.Layout.{row, row_of, body_of, body}
use Rattle.layout.specs.Offsets.{Sane, row_width, row_at, record_length, body_width, body_at, bodies_length}
use Rattle.layout.specs.Printable.{RowFits, BodyFits}
use Rattle.layout.proofs.PrintableLaws.{lawful_body, few_pending}
use Rattle.layout.proofs.LawfulLaws.{sized, uniform}
use Rattle.layout.proofs.FieldsLaws.{sized_row}
use Rattle.layout.specs.Fields.{sizes}
use Rattle.layout.specs.Holds.{Holds, HoldsBodies, with_pending}
use Rattle.layout.proofs.HoldsLaws.{holds-long, bodies-long}
use Rattle.layout.proofs.Reading.{row-part}
use Rattle.layout.proofs.WritingRows.{write-row}
use Rattle.final_commit.specs.Positions.{at, fits-at, Both}

-- n elements from place i on, copied to place k
abbrev pub moved : {A : Type 0} → ℕ → ℕ → ℕ → List A → List A
moved k i n js = paste js k (drop i js) n

-- both areas hold a replica, and n of its transactions, from position i on, move down to position k
pub record Moving (l : Limits) (b c : List ℕ) (k i n : ℕ) : Type 0 where
  pub replica : Replica
  pub holds : Holds l b replica
  pub bodies : HoldsBodies l c replica
  pub below : k ≤ i
  pub within : i + n ≤ length replica.pending

-- the areas, b and c before, are d and e after it
pub record Moves (l : Limits) (k i n : ℕ) (b c d e : List ℕ) : Type 0 where
  pub both : (p : Moving l b c k i n) → Both l d e (with_pending (moved k i n p.replica.pending) p.replica)

-- ---- places of w bytes, one behind the other

-- n of them from byte f on, copied to byte t; one more is one more place copied
module _ (b : List ℕ) (t f : ℕ) (low : t ≤ f) where
  pub moved-splice : (n : ℕ) → f + n ≤ length b → moved t f n b ≡ splice b t (take n (drop f b))
  unfolding splice
  moved-splice n h =
      let z : length (take n (drop f b)) ≡ n = length-take-le n (drop f b) (omega (arith, length-drop f b)) in
      ap (λ (m : ℕ). (take t b ++ take n (drop f b)) ++ drop (t + m) b) (sym z) ∙ append_assoc (take t b) (take n (drop f b)) (drop (t + length (take n (drop f b))) b)

  module _ (n w : ℕ) (room : f + n + w ≤ length b) where
    abbrev d : List ℕ
    d = moved t f n b

    from : n ≤ length (drop f b)
    from = omega (arith, length-drop f b)

    -- what lies behind the places copied is as it was
    behind : (x : ℕ) → drop (t + n + x) d ≡ drop (t + n + x) b
    behind x =
        sym (drop-drop x (t + n) d) ∙ ap (drop x) (drop-paste b t (drop f b) n (omega arith) from) ∙ drop-drop x (t + n) b

    new : take w (drop (f + n) d) ≡ take w (drop n (drop f b))
    new =
        let z : t + n + (f - t) ≡ f + n = omega arith in
        ap (take w) (ap (λ (x : ℕ). drop x d) (sym z) ∙ behind (f - t) ∙ ap (λ (x : ℕ). drop x b) z ∙ sym (drop-drop n f b))

    pub moved_more : splice d (t + n) (take w (drop (f + n) d)) ≡ moved t f (n + w) b
    unfolding splice
    moved_more =
        let size : length (take w (drop (f + n) d)) ≡ w = ap length new ∙ length-take-le w (drop n (drop f b)) (omega (arith, length-drop n (drop f b), length-drop f b)) in
        let z : t + n + w ≡ t + (n + w) = omega arith in
        ap₂ (λ (x : List ℕ) (m : ℕ). take (t + n) d ++ (x ++ drop (t + n + m) d)) new size
        ∙ ap₂ (λ (x y : List ℕ). x ++ (take w (drop n (drop f b)) ++ y)) (take-paste b t (drop f b) n (omega arith) from) (behind w ∙ ap (λ (x : ℕ). drop x b) z)
        ∙ sym (append_assoc (take t b ++ take n (drop f b)) (take w (drop n (drop f b))) (drop (t + (n + w)) b))
        ∙ ap (◌++ drop (t + (n + w)) b) (append_assoc (take t b) (take n (drop f b)) (take w (drop n (drop f b))) ∙ ap (take t b ++◌) (sym (take-add n w (drop f b))))

-- a part of k numbers copied to place a
pub copied : (b vs : List ℕ) (a k : ℕ) → k ≡ length vs → splice b a vs ≡ put_mid a k b vs
copied b vs a k e = sym (splice-back b vs vs a k refl e)

-- ---- one transaction

module _ (l : Limits) (s : Sane l) (b c : List ℕ) (u : Replica) (h : Holds l b u) (g : HoldsBodies l c u) (k i : ℕ) (low : k ≤ i) (there : i < length u.pending) where
  abbrev j : Pending
  j = at u.pending i

  fits-row : RowFits l.operations (row_of j)
  fits-row = fits-at row_of (RowFits l.operations) u.pending i there h.fits.rows.1

  fits-body : BodyFits l.operations (body_of j)
  fits-body = fits-at body_of (BodyFits l.operations) u.pending i there h.fits.bodies

  one-row : Holds l (splice b (row_at l k * 8) (take (row_width l * 8) (drop (row_at l i * 8) b))) (with_pending (set u.pending k j) u)
  one-row =
      let z = row-part l s b u h i there (pending_of none) in
      let a = row_at l k * 8 in
      let w = row_width l * 8 in
      let len : w ≡ length (mid_of (row_at l i * 8) w b) = sym (ap length z ∙ length-uncells ((row l.operations).enc (row_of j)) ∙ ap (λ (n : ℕ). n * 8) ((sized_row l s).len (row_of j) fits-row ∙ (sizes l).1)) in
      write-row l s b u h k (omega arith) j fits-row fits-body (splice b a (mid_of (row_at l i * 8) w b)) (copied b (mid_of (row_at l i * 8) w b) a w len ∙ ap (put_mid a w b) z)

  abbrev places : List (List ℕ)
  places = map (body l.operations).enc (map body_of u.pending)

  even : Uniform (body_width l) places
  even = uniform (sized (lawful_body l s)) (map body_of u.pending) h.fits.bodies

  place-count : length places ≡ length u.pending
  place-count = length-map (map body_of u.pending) (body l.operations).enc ∙ length-map u.pending body_of

  few : length u.pending ≤ l.pending
  few = few_pending l u h.fits

  the_place : mid_of (body_at l i) (body_width l) c ≡ (body l.operations).enc (body_of j)
  the_place =
      ap (mid_of (body_at l i) (body_width l)) g.same
      ∙ ap (λ (a : ℕ). mid_of a (body_width l) (table l.pending (body_width l) places)) (sym (zero-add (body_at l i)))
      ∙ row_read l.pending (body_width l) [] places even i (omega (arith, place-count, few))
      ∙ get_or-in u.pending i there
    where
      get_or-in : (js : List Pending) (i : ℕ) → i < length js → get_or (map (body l.operations).enc (map body_of js)) i [] ≡ (body l.operations).enc (body_of (at js i))
      get_or-in [] i h = absurd (omega arith)
      get_or-in (j ∷ js) zero h = refl
      get_or-in (j ∷ js) (suc i) h = get_or-in js i (omega arith)

  one-body : HoldsBodies l (splice c (body_at l k) (take (body_width l) (drop (body_at l i) c))) (with_pending (set u.pending k j) u)
  one-body =
      let w = body_width l in
      let f = (body l.operations).enc in
      let x = body_of j in
      let len : w ≡ length (mid_of (body_at l i) w c) = sym (ap length the_place ∙ (sized (lawful_body l s)).len x fits-body) in
      record {
        same =
            copied c (mid_of (body_at l i) w c) (body_at l k) w len
            ∙ ap₂ (λ (y z : List ℕ). put_mid (body_at l k) w y z) g.same the_place
            ∙ ap (λ (a : ℕ). put_mid a w (table l.pending w places) (f x)) (sym (zero-add (body_at l k)))
            ∙ row_write l.pending w [] places even k (omega (arith, place-count, few)) (f x)
            ∙ ap (table l.pending w) (sym (map-set f (map body_of u.pending) k x) ∙ ap (map f) (sym (map-set body_of u.pending k j)));
        fits = one-row.fits;
      }

-- ---- a run of them

module _ {l : Limits} {b c : List ℕ} {k i n : ℕ} (s : Sane l) (p : Moving l b c k i n) where
  abbrev u : Replica
  u = p.replica

  pub moving_within : i + n ≤ l.pending
  moving_within = omega (arith, p.within, few_pending l u p.holds.fits)

  pub record_sized : length b ≡ record_length l
  record_sized = holds-long l s b u p.holds

  pub body-sized : length c ≡ bodies_length l
  body-sized = bodies-long l s c u p.bodies

  module _ (m : ℕ) (h : m ≤ n) where
    within : i + m ≤ l.pending
    within = omega (arith, moving_within)

    row_room : row_at l i * 8 + m * (row_width l * 8) ≤ length b
    row_room = omega (arith, add-mul i m (row_width l), mul-le-mul_right (row_width l) within, record_sized)

    body-room : body_at l i + m * body_width l ≤ length c
    body-room = omega (arith, add-mul i m (body_width l), mul-le-mul_right (body_width l) within, body-sized)

  row-after : (x m : ℕ) → row_at l (x + m) * 8 ≡ row_at l x * 8 + m * (row_width l * 8)
  row-after x m = omega (arith, add-mul x m (row_width l))

  body-after : (x m : ℕ) → body_at l (x + m) ≡ body_at l x + m * body_width l
  body-after x m = add-mul x m (body_width l)

  row_low : row_at l k * 8 ≤ row_at l i * 8
  row_low = omega (arith, mul-le-mul_right (row_width l) p.below)

  body-low : body_at l k ≤ body_at l i
  body-low = mul-le-mul_right (body_width l) p.below

  abbrev js : List Pending
  js = p.replica.pending

  -- the areas when m of them are moved
  abbrev rows_of : ℕ → List ℕ
  rows_of m = moved (row_at l k * 8) (row_at l i * 8) (m * (row_width l * 8)) b

  abbrev places_of : ℕ → List ℕ
  places_of m = moved (body_at l k) (body_at l i) (m * body_width l) c

  -- the next one
  module _ (m : ℕ) (h : m < n) where
    abbrev ks : List Pending
    ks = moved k i m js

    some : m ≤ length (drop i js)
    some = omega (arith, length-drop i js, p.within)

    same_count : length ks ≡ length js
    same_count = length-paste js k (drop i js) m (omega (arith, p.below, p.within)) some

    same-one : at ks (i + m) ≡ get_or (drop i js) m (pending_of none)
    same-one =
        let z : k + m + (i - k) ≡ i + m = omega (arith, p.below) in
        ap (at ks) (sym z) ∙ sym (get_or-drop (k + m) ks (i - k) (pending_of none))
        ∙ ap (λ (x : List Pending). at x (i - k)) (drop-paste js k (drop i js) m (omega (arith, p.below, p.within)) some)
        ∙ get_or-drop (k + m) js (i - k) (pending_of none) ∙ ap (at js) z ∙ sym (get_or-drop i js m (pending_of none))

    one_more : set ks (k + m) (at ks (i + m)) ≡ moved k i (suc m) js
    one_more =
        ap (set ks (k + m)) same-one
        ∙ paste-suc js k (drop i js) m (pending_of none) (omega (arith, p.below, p.within)) (omega (arith, length-drop i js, p.within))

    -- places of w bytes: t and f are the first ones, x and y those of this one
    module _ (a : List ℕ) (t f w x y : ℕ) (low : t ≤ f) (ex : x ≡ t + m * w) (ey : y ≡ f + m * w) (room : f + suc m * w ≤ length a) where
      place-more : splice (moved t f (m * w) a) x (take w (drop y (moved t f (m * w) a))) ≡ moved t f (suc m * w) a
      place-more =
          ap₂ (λ (x y : ℕ). splice (moved t f (m * w) a) x (take w (drop y (moved t f (m * w) a)))) ex ey
          ∙ moved_more a t f low (m * w) w (omega (arith, suc-mul m w))
          ∙ ap (λ (z : ℕ). moved t f z a) (sym (suc-mul m w))

    next : Both l (rows_of m) (places_of m) (with_pending ks u) → Both l (rows_of (suc m)) (places_of (suc m)) (with_pending (moved k i (suc m) js) u)
    next q =
        let there : i + m < length ks = omega (arith, same_count, p.within) in
        let v : Replica = with_pending ks u in
        let r = one-row l s (rows_of m) (places_of m) v q.holds q.bodies (k + m) (i + m) (omega (arith, p.below)) there in
        let o = one-body l s (rows_of m) (places_of m) v q.holds q.bodies (k + m) (i + m) (omega (arith, p.below)) there in
        let er = place-more b (row_at l k * 8) (row_at l i * 8) (row_width l * 8) (row_at l (k + m) * 8) (row_at l (i + m) * 8) row_low (row-after k m) (row-after i m) (row_room (suc m) h) in
        let eo = place-more c (body_at l k) (body_at l i) (body_width l) (body_at l (k + m)) (body_at l (i + m)) body-low (body-after k m) (body-after i m) (body-room (suc m) h) in
        let more : Replica = with_pending (set ks (k + m) (at ks (i + m))) u in
        subst (λ (x : List Pending). Both l (rows_of (suc m)) (places_of (suc m)) (with_pending x u)) one_more
        (record { holds = subst (λ (x : List ℕ). Holds l x more) er r; bodies = subst (λ (x : List ℕ). HoldsBodies l x more) eo o })

  -- the first m of the n
  part : (m : ℕ) → m ≤ n → Both l (rows_of m) (places_of m) (with_pending (moved k i m js) u)
  part zero h =
      let none : (w x y : ℕ) (a : List ℕ) → a ≡ moved x y (0 * w) a =
      λ w x y a. let z : 0 ≡ 0 * w = omega arith in paste-zero a x (drop y a) ∙ ap (λ (z : ℕ). moved x y z a) z in
      let er = none (row_width l * 8) (row_at l k * 8) (row_at l i * 8) b in
      let eo = none (body_width l) (body_at l k) (body_at l i) c in
      subst (λ (x : List Pending). Both l (rows_of 0) (places_of 0) (with_pending x u)) (paste-zero js k (drop i js))
      (record { holds = subst (λ (x : List ℕ). Holds l x u) er p.holds; bodies = subst (λ (x : List ℕ). HoldsBodies l x u) eo p.bodies })
  part (suc m) h = next m h (part m (omega arith))

  -- ---- the code's numbers: rows from byte t on, places from byte x on, both by so many places of w and v bytes

  module _ {t x w v : ℕ} (et : t ≡ row_at l k * 8) (ex : x ≡ body_at l k) (ew : w ≡ row_width l * 8) (ev : v ≡ body_width l) where
    far_row : t + (i - k) * w ≡ row_at l i * 8
    far_row =
        let z : k + (i - k) ≡ i = omega (arith, p.below) in
        ap₂ (λ (t w : ℕ). t + (i - k) * w) et ew ∙ sym (row-after k (i - k)) ∙ ap (λ (y : ℕ). row_at l y * 8) z

    far_body : x + (i - k) * v ≡ body_at l i
    far_body =
        let z : k + (i - k) ≡ i = omega (arith, p.below) in
        ap₂ (λ (x v : ℕ). x + (i - k) * v) ex ev ∙ sym (body-after k (i - k)) ∙ ap (λ (y : ℕ). body_at l y) z

    pub rows_inside : t + (i - k) * w + n * w ≤ length b
    rows_inside = omega (arith, far_row, row_room n (omega arith), ap (λ (y : ℕ). n * y) ew)

    pub bodies-inside : x + (i - k) * v + n * v ≤ length c
    bodies-inside = omega (arith, far_body, body-room n (omega arith), ap (λ (y : ℕ). n * y) ev)

    pub run_moved : {d e : List ℕ} → d ≡ moved t (t + (i - k) * w) (n * w) b → e ≡ moved x (x + (i - k) * v) (n * v) c → Both l d e (with_pending (moved k i n p.replica.pending) p.replica)
    run_moved {d} {e} ed ee =
        let q = part n (omega arith) in
        let zd = ed ∙ ap₂ (λ (y z : ℕ). moved t y (n * z) b) far_row ew ∙ ap (λ (y : ℕ). moved y (row_at l i * 8) (n * (row_width l * 8)) b) et in
        let ze = ee ∙ ap₂ (λ (y z : ℕ). moved x y (n * z) c) far_body ev ∙ ap (λ (y : ℕ). moved y (body_at l i) (n * body_width l) c) ex in
        record { holds = subst (λ (y : List ℕ). Holds l y (with_pending (moved k i n js) u)) (sym zd) q.holds; bodies = subst (λ (y : List ℕ). HoldsBodies l y (with_pending (moved k i n js) u)) (sym ze) q.bodies }

-- in their place already
pub moved_none : {l : Limits} {b c : List ℕ} {k i n : ℕ} (p : Moving l b c k i n) → i ≤ k → Both l b c (with_pending (moved k i n p.replica.pending) p.replica)
moved_none {l} {b} {c} {k} {i} {n} p h =
    let js = p.replica.pending in
    let e : k ≡ i = omega (arith, p.below) in
    let z : moved k i n js ≡ js = ap (λ (x : ℕ). moved x i n js) e ∙ stands js i n in
    record {
      holds = subst (λ (x : List Pending). Holds l b (with_pending x p.replica)) (sym z) p.holds;
      bodies = subst (λ (x : List Pending). HoldsBodies l c (with_pending x p.replica)) (sym z) p.bodies;
    }
  where
    stands : (xs : List Pending) (i n : ℕ) → moved i i n xs ≡ xs
    stands xs i n = ap (◌++ drop (i + n) xs) (sym (take-add i n xs)) ∙ take-append-drop (i + n) xs
