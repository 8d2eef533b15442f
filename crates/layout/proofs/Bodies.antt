-- The body area: where body i lies (Show body), and what a write leaves. Each change gives the new replica as one that the areas can hold: the
-- record area's law has it. Assumes nothing.
use Rattle.std.specs.Prelude.{◌≡◌, ℕ, ◌+◌, ◌-◌, ◌*◌, ◌≤◌, ◌<◌, get_or}
use Rattle.std.proofs.Math.Path.{refl, sym, ap, ap₂, subst}
use Rattle.std.proofs.Common.{◌∙◌, zero-add, add-zero}
use mathlib.Core.List.{List, [], ◌∷◌, ◌++◌, map, map-append, append-nil}
use native.Mathlib.Omega.{arith}
use Rattle.std.proofs.Math.Nat.{mul-le-mul_right, sub-zero}
use Rattle.std.proofs.Math.ListN.{length, take, drop, length-append, length-map, get_or-map}
use Rattle.std.proofs.Math.Seq.{take_at, take-length, drop-length}
use borrow.Rule.Slice.PartMut.{put_mid, mid_of}
use Rattle.operation.specs.Body.{size, body_length}
use Rattle.model.specs.declared.Limits.{Limits}
use Rattle.model.specs.Replica.{Pending, Replica}
use Rattle.model.specs.ListLaws.{All}
use Rattle.model.proofs.ListLaws.{all_in, map-take, get_or_map-in}
use Rattle.layout.specs.Rows.{flat, table, blank, pad_to}
use Rattle.layout.proofs.RowLaws.{drop-blank, table-length, table-full, row_read}
use Rattle.layout.specs.Codec.{Codec}
use Rattle.layout.specs.Layout.{row_of, body_of, body}
use Rattle.layout.specs.Offsets.{Sane, body_width, body_at}
use Rattle.layout.specs.Lawful.{Sized}
use Rattle.layout.proofs.LawfulLaws.{sized, uniform}
use Rattle.layout.specs.Printable.{BodyFits, Printable}
use Rattle.layout.proofs.PrintableLaws.{lawful_body, few_pending}
use Rattle.layout.proofs.FieldLaws.{mid_mid}
use Rattle.layout.specs.Field.{mid_at, put-put}
use Rattle.layout.proofs.TableChanges.{rows-places, rows-replace}
use Rattle.layout.specs.Holds.{HoldsBodies, with_pending}

module _ (l : Limits) (s : Sane l) (b : List ℕ) (u : Replica) (h : HoldsBodies l b u) where
  abbrev c : Codec (List ℕ)
  c = body l.operations

  even : Sized (body l.operations) (BodyFits l.operations)
  even = sized (lawful_body l s)

  count : length (map body_of u.pending) ≡ length u.pending
  count = length-map u.pending body_of

  few : length u.pending ≤ l.pending
  few = few_pending l u h.fits

  -- ---- reading

  module _ (i : ℕ) (k : i < length u.pending) (d : Pending) where
    abbrev bytes : List ℕ
    bytes = body_of (get_or u.pending i d)

    fits : BodyFits l.operations bytes
    fits =
        subst (BodyFits l.operations) (get_or-map body_of u.pending i d) (all_in (BodyFits l.operations) (map body_of u.pending) i (body_of d) h.fits.bodies (omega (arith, count)))

    place : mid_of (body_at l i) (body_width l) b ≡ pad_to (body_width l) bytes
    place =
        ap (mid_of (body_at l i) (body_width l)) h.same
        ∙ ap (λ (a : ℕ). mid_of a (body_width l) (table l.pending (body_width l) (map c.enc (map body_of u.pending)))) (sym (zero-add (body_at l i)))
        ∙ row_read l.pending (body_width l) [] (map c.enc (map body_of u.pending)) (uniform even (map body_of u.pending) h.fits.bodies) i (omega (arith, length-map (map body_of u.pending) c.enc, count))
        ∙ get_or_map-in c.enc (map body_of u.pending) i (body_of d) [] (omega (arith, count))
        ∙ ap c.enc (get_or-map body_of u.pending i d)

    -- "the very bytes of the body area that hold it, of its own length"
    pub body-part : mid_of (body_at l i) (length bytes) b ≡ bytes
    unfolding pad_to
    body-part =
        let z : body_at l i ≡ body_at l i + 0 = omega arith in
        ap (λ (a : ℕ). mid_of a (length bytes) b) z
        ∙ sym (mid_mid (body_at l i) (body_width l) 0 (length bytes) b (omega (arith, fits.1)))
        ∙ ap (mid_of 0 (length bytes)) place
        ∙ take_at bytes (blank (body_width l - length bytes)) (length bytes) refl

    -- its first byte says its length
    pub body-size : get_or b (body_at l i) 0 ≡ size bytes
    body-size =
        let z : body_at l i + 0 ≡ body_at l i = omega arith in
        ap (λ (a : ℕ). get_or b a 0) (sym z)
        ∙ sym (mid_at b (body_at l i) (length bytes) 0 (omega (arith, fits.0)))
        ∙ ap (λ (x : List ℕ). get_or x 0 0) body-part

    pub body-span : length bytes ≡ body_length (size bytes)
    body-span = fits.0

  -- ---- writing

  -- a change that no body takes part in
  pub same-bodies : (v : Replica) → Printable l v → map body_of v.pending ≡ map body_of u.pending → HoldsBodies l b v
  same-bodies v g e =
      record { same = h.same ∙ ap (λ (x : List (List ℕ)). table l.pending (body_width l) (map c.enc x)) (sym e); fits = g }

  -- js in the places from i up to q, which hold all from i on
  pub replace_bodies : (i q : ℕ) → i ≤ length u.pending → length u.pending ≤ q → q ≤ l.pending → (js : List Pending) → length js ≤ q - i → Printable l (with_pending (take i u.pending ++ js) u)
      → (ys : List ℕ) → ys ≡ put_mid (body_at l i) ((q - i) * body_width l) b (table (q - i) (body_width l) (map (body l.operations).enc (map body_of js)))
      → HoldsBodies l ys (with_pending (take i u.pending ++ js) u)
  replace_bodies i q low high most js room g ys e =
      record {
        same =
            e ∙ ap₂ (λ (a : ℕ) (x : List ℕ). put_mid a ((q - i) * body_width l) x (table (q - i) (body_width l) (map c.enc (map body_of js)))) (sym (zero-add (body_at l i))) h.same
            ∙ rows-replace even l.pending (map body_of u.pending) h.fits.bodies i q (omega (arith, count)) (omega (arith, count)) most 0 [] refl (map body_of js) (omega (arith, length-map js body_of))
            ∙ ap (λ (x : List (List ℕ)). table l.pending (body_width l) (map c.enc x)) (sym (map-append body_of (take i u.pending) js ∙ ap (◌++ map body_of js) (map-take body_of i u.pending)));
        fits = g;
      }

  -- one more, into the first unused place
  pub append-body : (j : Pending) → Printable l (with_pending (u.pending ++ (j ∷ [])) u) → (ys : List ℕ) → ys ≡ put_mid (body_at l (length u.pending)) (length (body_of j)) b (body_of j)
      → HoldsBodies l ys (with_pending (u.pending ++ (j ∷ [])) u)
  unfolding pad_to table flat
  append-body j g ys e =
      let n = length u.pending in
      let w = body_width l in
      let x = body_of j in
      let more : n < l.pending = omega (arith, g.rows.0, length-map (u.pending ++ (j ∷ [])) row_of, length-append u.pending (j ∷ [])) in
      let one : n + 1 - n ≡ 1 = omega arith in
      let wide : (n + 1 - n) * w ≡ w = ap (λ (k : ℕ). k * w) one ∙ omega arith in
      let fit : BodyFits l.operations x = last_fits u.pending g.bodies in
      let whole : length b ≡ l.pending * w =
      ap length h.same
      ∙ table-length l.pending w (map c.enc (map body_of u.pending)) (uniform even (map body_of u.pending) h.fits.bodies) (omega (arith, few, length-map (map body_of u.pending) c.enc, count)) in
      let none : drop n (map body_of u.pending) ≡ [] = ap (λ (k : ℕ). drop k (map body_of u.pending)) (sym count) ∙ drop-length (map body_of u.pending) in
      let free : mid_of (body_at l n) w b ≡ blank w =
      ap₂ (λ (k : ℕ) (z : List ℕ). mid_of (body_at l n) k z) (sym wide) h.same
      ∙ ap (λ (a : ℕ). mid_of a ((n + 1 - n) * w) (table l.pending w (map c.enc (map body_of u.pending)))) (sym (zero-add (body_at l n)))
      ∙ rows-places even l.pending (map body_of u.pending) h.fits.bodies n (n + 1) (omega (arith, count)) (omega (arith, count)) (omega arith) 0 [] refl
      ∙ ap (λ (z : List (List ℕ)). table (n + 1 - n) w (map c.enc z)) none
      ∙ ap blank (ap (λ (k : ℕ). k * w) (sub-zero (n + 1 - n)) ∙ wide) in
      let put : put_mid (body_at l n) (length x) b x ≡ put_mid (body_at l n) w b (c.enc x) =
      ap (λ (a : ℕ). put_mid a (length x) b x) (sym (add-zero (body_at l n)))
      ∙ sym (put-put (body_at l n) w 0 (length x) b x (omega (arith, fit.1)) (omega (arith, whole, mul-le-mul_right w more)))
      ∙ ap (λ (z : List ℕ). put_mid (body_at l n) w b (put_mid 0 (length x) z x)) free
      ∙ ap (λ (z : List ℕ). put_mid (body_at l n) w b (x ++ z)) (drop-blank (length x) w) in
      let full : c.enc x ≡ table (n + 1 - n) w (c.enc x ∷ []) = sym (table-full w (c.enc x ∷ []) (n + 1 - n) (sym one) ∙ append-nil (c.enc x)) in
      let a : take n u.pending ≡ u.pending = take-length u.pending in
      subst (λ (js : List Pending). HoldsBodies l ys (with_pending (js ++ (j ∷ [])) u)) a
      (replace_bodies n (n + 1) (omega arith) (omega arith) (omega arith) (j ∷ []) (omega arith) (subst (λ (js : List Pending). Printable l (with_pending (js ++ (j ∷ [])) u)) (sym a) g) ys
      (e ∙ put ∙ ap₂ (λ (k : ℕ) (z : List ℕ). put_mid (body_at l n) k b z) (sym wide) full))
    where
      last_fits : (ps : List Pending) → All (BodyFits l.operations) (map body_of (ps ++ (j ∷ []))) → BodyFits l.operations (body_of j)
      last_fits [] k = k.0
      last_fits (p ∷ ps) k = last_fits ps k.1
