-- What follows from `specs/Field`. Assumes nothing.
use Rattle.std.specs.Prelude.{◌≡◌, List, [], ◌∷◌, ◌++◌, map, ℕ, ◌+◌, ◌-◌, ◌*◌, ◌≤◌, ◌<◌, length, drop, get_or, set}
use Rattle.std.proofs.Common.{sym, ap, ◌∙◌, append-nil, mul-le-mul_right, arith, length-append, length-set, take_at, drop_at, drop-drop, take-take}
use Rattle.std.proofs.lemmas.List.{length-map}
use borrow.Rule.Slice.PartMut.{put_mid, mid_of}
use Rattle.model.specs.ListLaws.{All}
use Rattle.model.proofs.ListLaws.{map-set, all_in, all_set, get_or_map-in}
use Rattle.layout.proofs.RowLaws.{put-seam, mid_seam, table-length, row_read, row_write}
use Rattle.layout.specs.Codec.{Codec, pair, array, counted}
pub use Rattle.layout.specs.Lawful.{Sized}
pub use Rattle.layout.proofs.LawfulLaws.{sized, uniform}
use Rattle.layout.specs.Field.{drop-take, put-put, Field}

pub mid_mid : (a n o k : ℕ) (b : List ℕ) → o + k ≤ n → mid_of o k (mid_of a n b) ≡ mid_of (a + o) k b
mid_mid a n o k b h = rw (drop-take o n (drop a b), take-take k (n - o) (drop o (drop a b)) (omega arith), drop-drop o a b)

-- ---- fields

pub narrow : {A : Type 0} {c : Codec A} {P Q : A → Type 0} → Sized c P → ((a : A) → Q a → P a) → Sized c Q
narrow u f = record { len = λ a h. u.len a (f a h) }

-- a field of a field
abbrev pub ◌▸◌ : {A B C : Type 0} {c : Codec A} {P : A → Type 0} {f : Codec B} {Q : B → Type 0} {g : Codec C} {R : C → Type 0} → Field c P f Q → Field f Q g R → Field c P g R
◌▸◌ {c} {f} {g} x y = record {
  at = x.at + y.at;
  get = λ a. y.get (x.get a);
  put = λ b a. x.put (y.put b (x.get a)) a;
  inside = omega (arith, x.inside, y.inside);
  len = x.len;
  read = λ a h. sym (mid_mid x.at f.size y.at g.size (c.enc a) y.inside) ∙ ap (mid_of y.at g.size) (x.read a h) ∙ y.read (x.get a) (x.got a h);
  write = λ a h b k.
      sym (put-put x.at f.size y.at g.size (c.enc a) (g.enc b) y.inside (omega (arith, x.inside, x.len a h)))
      ∙ ap (λ (z : List ℕ). put_mid x.at f.size (c.enc a) (put_mid y.at g.size z (g.enc b))) (x.read a h)
      ∙ ap (put_mid x.at f.size (c.enc a)) (y.write (x.get a) (x.got a h) b k)
      ∙ x.write a h (y.put b (x.get a)) (y.put_fits (x.get a) (x.got a h) b k);
  got = λ a h. y.got (x.get a) (x.got a h);
  put_fits = λ a h b k. x.put_fits a h (y.put b (x.get a)) (y.put_fits (x.get a) (x.got a h) b k);
}

infixr 60 ◌▸◌
module _ {A B : Type 0} {c : Codec A} {d : Codec B} {P : A → Type 0} {Q : B → Type 0} (u : Sized c P) (v : Sized d Q) where
  pub sized-pair : Sized (pair c d) (λ x. P x.0 × Q x.1)
  sized-pair = record { len = λ x h. omega (arith, length-append (c.enc x.0) (d.enc x.1), u.len x.0 h.0, v.len x.1 h.1) }

  abbrev pub first : Field (pair c d) (λ x. P x.0 × Q x.1) c P
  first = record {
    at = 0;
    get = λ x. x.0;
    put = λ a x. (a, x.1);
    inside = omega arith;
    len = sized-pair.len;
    read = λ x h. take_at (c.enc x.0) (d.enc x.1) c.size (u.len x.0 h.0);
    write = λ x h a k. ap (λ (z : List ℕ). c.enc a ++ z) (drop_at (c.enc x.0) (d.enc x.1) c.size (u.len x.0 h.0));
    got = λ x h. h.0;
    put_fits = λ x h a k. (k, h.1);
  }

  abbrev pub second : Field (pair c d) (λ x. P x.0 × Q x.1) d Q
  second = record {
    at = c.size;
    get = λ x. x.1;
    put = λ b x. (x.0, b);
    inside = omega arith;
    len = sized-pair.len;
    read = λ x h. ap (λ (z : List ℕ). mid_of c.size d.size (c.enc x.0 ++ z)) (sym (append-nil (d.enc x.1))) ∙ mid_seam c.size d.size (c.enc x.0) (d.enc x.1) [] (u.len x.0 h.0) (v.len x.1 h.1);
    write = λ x h b k. ap (λ (z : List ℕ). put_mid c.size d.size (c.enc x.0 ++ z) (d.enc b)) (sym (append-nil (d.enc x.1)))
        ∙ put-seam c.size d.size (c.enc x.0) (d.enc x.1) [] (d.enc b) (u.len x.0 h.0) (v.len x.1 h.1) ∙ ap (λ (z : List ℕ). c.enc x.0 ++ z) (append-nil (d.enc b));
    got = λ x h. h.1;
    put_fits = λ x h b k. (h.0, k);
  }

-- ---- row i of a table
module _ {A : Type 0} {c : Codec A} {P : A → Type 0} (u : Sized c P) where
  module _ (p : ℕ) where
    pub sized-counted : Sized (counted p c) (λ xs. (length xs ≤ p) × All P xs)
    sized-counted = record { len = λ xs h. omega (arith, table-length p c.size (map c.enc xs) (uniform u xs h.1) (omega (arith, length-map xs c.enc, h.0))) }

    module _ (i : ℕ) (d : A) (h : i < p) where
      -- of a counted table
      abbrev pub row_in : Field (counted p c) (λ xs. (length xs ≤ p) × All P xs × (i < length xs)) c P
      row_in = record {
        at = 1 + i * c.size;
        get = λ xs. get_or xs i d;
        put = λ x xs. set xs i x;
        inside = omega (arith, mul-le-mul_right c.size h);
        len = λ xs g. sized-counted.len xs (g.0, g.1);
        read = λ xs g. row_read p c.size (length xs ∷ []) (map c.enc xs) (uniform u xs g.1) i (omega (arith, g.2, length-map xs c.enc)) ∙ get_or_map-in c.enc xs i d [] g.2;
        write = λ xs g x k. row_write p c.size (length xs ∷ []) (map c.enc xs) (uniform u xs g.1) i (omega (arith, g.2, length-map xs c.enc)) (c.enc x)
            ∙ rw (length-set xs i x, map-set);
        got = λ xs g. all_in P xs i d g.1 g.2;
        put_fits = λ xs g x k. (omega (arith, length-set xs i x, g.0), all_set P xs i x g.1 k, omega (arith, length-set xs i x, g.2));
      }

      -- of an array
      abbrev pub item : Field (array p c) (λ xs. (length xs ≡ p) × All P xs) c P
      item = record {
        at = 0 + i * c.size;
        get = λ xs. get_or xs i d;
        put = λ x xs. set xs i x;
        inside = omega (arith, mul-le-mul_right c.size h);
        len = λ xs g. table-length p c.size (map c.enc xs) (uniform u xs g.1) (omega (arith, length-map xs c.enc, g.0));
        read = λ xs g. row_read p c.size [] (map c.enc xs) (uniform u xs g.1) i (omega (arith, g.0, length-map xs c.enc)) ∙ get_or_map-in c.enc xs i d [] (omega (arith, g.0));
        write = λ xs g x k. row_write p c.size [] (map c.enc xs) (uniform u xs g.1) i (omega (arith, g.0, length-map xs c.enc)) (c.enc x) ∙ rw map-set;
        got = λ xs g. all_in P xs i d g.1 (omega (arith, g.0));
        put_fits = λ xs g x k. (omega (arith, length-set xs i x, g.0), all_set P xs i x g.1 k);
      }
