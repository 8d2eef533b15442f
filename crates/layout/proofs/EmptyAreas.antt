-- Areas of zeros hold the empty replica: where an opening starts from. Assumes nothing.
use Rattle.std.specs.Prelude.{◌≡◌, refl, List, [], ◌∷◌, ◌++◌, map, ℕ, zero, suc, ◌+◌, ◌-◌, ◌*◌, ℤ, replicate}
use Rattle.std.proofs.Common.{sym, ap, ap₂, ◌∙◌, arith}
use Rattle.std.proofs.Math.Option.{none}
use Rattle.std.proofs.lemmas.Simd.{map-map}
use Rattle.std.proofs.lemmas.List.{length-replicate}
use Rattle.cells.specs.Cells.{uncells}
use Rattle.cells.specs.Uncells.{uncells-zeros}
use Rattle.model.specs.declared.Limits.{Limits}
use Rattle.model.specs.Calls.{by_values, plain, bounds_from, clients}
use Rattle.model.specs.Start.{Version, start_of}
use Rattle.model.specs.Replica.{Replica, with_timestamp, with_objects, with_bounds, opened}
use Rattle.model.specs.ListLaws.{All}
use Rattle.model.proofs.ListLaws.{map-replicate}
use Rattle.layout.specs.Rows.{flat, table, blank}
use Rattle.layout.proofs.RowLaws.{blanks}
use Rattle.layout.specs.Codec.{Codec, counted}
use Rattle.layout.specs.Layout.{of_reader, row, object, front, tail, record_cells, front_of, tail_of, record_of}
use Rattle.layout.specs.Offsets.{record_length, body_width, bodies_length}
use Rattle.layout.specs.Lawful.{Word}
use Rattle.layout.specs.Printable.{ReaderFits, Printable}
use Rattle.layout.proofs.RowCells.{array-cells}
use Rattle.layout.specs.Fields.{sizes}
use Rattle.layout.specs.Holds.{Holds, HoldsBodies}

-- no object, at timestamp 0: no opening that is accepted gives it
abbrev pub empty : Limits → Replica
empty l = opened l (start_of (plain [] 0))

-- what an opening by values sets: the timestamp, the objects and their bounds
pub opened-empty : (l : Limits) (n : ℕ) (vs los his : List ℤ) (t : ℕ) → opened l (start_of (by_values n vs los his t))
    ≡ with_bounds (bounds_from los his) (with_objects (map (λ v. record { stamp = t; value = v } ∷ []) vs) (with_timestamp t (empty l)))
unfolding opened
opened-empty l n vs los his t =
    ap (λ (x : List (List Version)). with_bounds (bounds_from los his) (with_objects x (with_timestamp t (empty l)))) (map-map (λ (v : Version). v ∷ []) (λ v. record { stamp = t; value = v }) vs)

-- ---- all zero

all-zero : {A : Type 0} (P : A → Type 0) (a : A) → P a → (n : ℕ) → All P (replicate n a)
all-zero P a h zero = tt
all-zero P a h (suc n) = (h, all-zero P a h n)

pub empty-fits : (l : Limits) → Printable l (empty l)
unfolding opened
empty-fits l =
    record {
      timestamp = omega arith;
      lasts = (length-replicate clients 0, all-zero Word 0 (omega arith) clients);
      readers = (length-replicate l.readers none, all-zero ReaderFits none (omega arith) l.readers);
      objects = (omega arith, tt);
      bounds = (refl, tt);
      rows = (omega arith, tt);
      tail = (refl, tt);
      bodies = tt;
    }

array-zero : {A : Type 0} (f : A → ℕ) (a : A) → f a ≡ 0 → (n : ℕ) → table n 1 (map (λ x. f x ∷ []) (replicate n a)) ≡ blank n
array-zero f a e n =
    array-cells f n (replicate n a) (length-replicate n a) ∙ map-replicate f n a ∙ ap (replicate n) e

none_in : {A : Type 0} (p : ℕ) (c : Codec A) → (counted p c).enc [] ≡ blank (1 + p * c.size)
unfolding table flat
none_in p c =
    let e : p - 0 ≡ p = omega arith in
    ap (λ (k : ℕ). 0 ∷ blank (k * c.size)) e ∙ blanks 1 (p * c.size) (1 + p * c.size) (omega arith)

pub empty_holds : (l : Limits) → Holds l (blank (record_length l)) (empty l)
unfolding opened
empty_holds l =
    record { same = sym (ap uncells whole ∙ uncells-zeros (record_cells l).size ∙ ap blank (sizes l).2); fits = empty-fits l }
  where
    n : ℕ
    n = 1 + l.objects * (object l).size

    p : ℕ
    p = 1 + l.pending * (row l.operations).size

    front-zero : (front l).enc (front_of (empty l)) ≡ blank (front l).size
    front-zero =
        ap₂ (λ (x y : List ℕ). 0 ∷ (x ++ y)) (array-zero (λ x. x) 0 refl clients) (ap₂ ◌++◌ (array-zero of_reader none refl l.readers) (ap₂ ◌++◌ (none_in l.objects (object l)) (none_in l.pending (row l.operations))))
        ∙ ap (λ (x : List ℕ). 0 ∷ (blank clients ++ (blank l.readers ++ x))) (blanks n p (n + p) refl)
        ∙ ap (λ (x : List ℕ). 0 ∷ (blank clients ++ x)) (blanks l.readers (n + p) (l.readers + (n + p)) refl)
        ∙ ap (λ (x : List ℕ). 0 ∷ x) (blanks clients (l.readers + (n + p)) (clients + (l.readers + (n + p))) refl)
        ∙ blanks 1 (clients + (l.readers + (n + p))) (front l).size (omega arith)

    tail-zero : (tail l).enc (tail_of (empty l)) ≡ blank (tail l).size
    tail-zero = array-zero (λ x. x) 0 refl 0

    whole : (record_cells l).enc (record_of (empty l)) ≡ blank (record_cells l).size
    whole = ap₂ ◌++◌ front-zero tail-zero ∙ blanks (front l).size (tail l).size (record_cells l).size refl

pub empty-bodies : (l : Limits) → HoldsBodies l (blank (bodies_length l)) (empty l)
unfolding opened table flat
empty-bodies l =
    let e : l.pending ≡ l.pending - 0 = omega arith in
    record { same = ap (λ (k : ℕ). blank (k * body_width l)) e; fits = empty-fits l }
