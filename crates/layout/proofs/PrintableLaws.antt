-- What follows from `specs/Printable`. Assumes nothing.
use Rattle.std.specs.Prelude.{◌≡◌, refl, true, List, [], ◌∷◌, ◌++◌, ℕ, zero, suc, ◌+◌, ◌*◌, ◌/◌, ◌%◌, ◌^◌, ◌≤◌, ◌<◌, ℤ, pos, length, get_or, set, drop, replicate}
use Rattle.std.proofs.Common.{ap, ◌∙◌, arith, length-append, length-drop, take-append-drop, get_or-drop, take_at, drop_at, length-take-le, le-leb, leb-true, to_z, of_z, SFits, to_z-of_z}
use Rattle.std.proofs.Math.Option.{Option, none, some}
use Rattle.std.proofs.lemmas.List.{length-map, length-replicate}
use Rattle.std.specs.Int.{w64}
use Rattle.std.proofs.Math.Facts.{of_z-to_z, sfits_to_z}
use Rattle.operation.specs.Body.{register_count, body_length}
use Rattle.execution.specs.Bounds.{Bounds, no_bounds}
use Rattle.execution.specs.Run.{start}
use Rattle.model.specs.declared.Limits.{Limits}
use Rattle.model.specs.Calls.{clients}
use Rattle.model.specs.Serial.{Version}
use Rattle.model.specs.Replica.{Replica}
use Rattle.model.specs.ListLaws.{All}
use Rattle.model.proofs.ListLaws.{all_join, all_take, all_drop}
use Rattle.versions.specs.Block.{block_versions, block, Small}
use Rattle.versions.proofs.Round.{count-few, small-block_versions, length_block-versions, versions_of-block, length-block, below-block, framed-block, block_of-versions}
use Rattle.layout.specs.Codec.{Codec, counted}
use Rattle.layout.specs.Layout.{signed, reader, reader_of, of_reader, key_of, of_key, key, entry_of, of_entry, entry, parted, joined, within, two, run_of, of_run, run}
use Rattle.layout.specs.Layout.{row, Stored, versions, bounds_of, of_bounds, bounds, object, stored_from, stored_of, front, tail, record_cells, record_area, body, body_area, row_of, record_of, bodies_of}
use Rattle.layout.specs.Offsets.{Sane}
use Rattle.layout.specs.Lawful.{Lawful, Byte, Word}
use Rattle.layout.proofs.LawfulLaws.{lawful_cell, lawful_pair, lawful_via, lawful_iso, lawful_rows, lawful_counted, lawful_padded, lawful_bytes, below_all, all-below}
use Rattle.layout.specs.Printable.{ValueFits, ReaderFits, KeyFits, BoundsFit, VersionFits, EntryFits, TwoFit, RunFits, RowFits, ObjectFits, StoredFits, ObjectsFit, RowsFit, FrontFits, TailFits, RecordFits, Any, BodyFits, Printable}

bits_word : (z : ℤ) → SFits w64 z → of_z w64 z < 2 ^ 64
bits_word (ℤ.pos n) f = let l = f.sfits in omega arith
bits_word (ℤ.negsuc n) f = let l = f.sfits in omega arith

pub lawful_signed : Lawful Word signed ValueFits
lawful_signed =
    lawful_via lawful_cell (to_z w64) (of_z w64) (λ x. true)
    (record { there = bits_word; round = λ z f. to_z-of_z f; fine = λ z f. refl; again = λ n h e. of_z-to_z {w = w64} (record { fits = h }); onto = λ n h e. sfits_to_z {w = w64} (record { fits = h }) })

reader-round : (x : Option ℕ) → reader_of (of_reader x) ≡ x
reader-round none = refl
reader-round (some s) = refl

reader-again : (n : ℕ) → of_reader (reader_of n) ≡ n
reader-again zero = refl
reader-again (suc n) = refl

pub lawful_reader : Lawful Word reader ReaderFits
lawful_reader = lawful_iso lawful_cell reader_of of_reader reader-round reader-again

key-round : (c s : ℕ) → s < 2 ^ 32 → ((c * 2 ^ 32 + s) / 2 ^ 32 ≡ c) × ((c * 2 ^ 32 + s) % 2 ^ 32 ≡ s)
key-round c s h = (omega arith, omega arith)

pub lawful_key : Lawful Word key KeyFits
lawful_key =
    lawful_via lawful_cell key_of of_key (λ x. true)
    (record {
      there = λ x h. let a = h.0 in let b = h.1 in omega arith;
      round = λ x h. (let e = key-round x.0 x.1 h.1 in λ i. (e.0 i, e.1 i));
      fine = λ x h. refl;
      again = λ n h e. omega arith;
      onto = λ n h e. (omega arith, omega arith);
    })

pub lawful_bounds : Lawful Word bounds BoundsFit
lawful_bounds = lawful_iso (lawful_pair lawful_signed lawful_signed) bounds_of of_bounds (λ b. refl) (λ x. refl)

-- the same, in the words of `versions`
pub fits-small : (vs : List Version) → All VersionFits vs → Small vs
fits-small [] g = tt
fits-small (v ∷ vs) g = (g.0.1, g.0.0, fits-small vs g.1)

small-fits : (vs : List Version) → Small vs → All VersionFits vs
small-fits [] g = tt
small-fits (v ∷ vs) g = ((g.1, g.0), small-fits vs g.2)

pub lawful_entry : Lawful Word entry EntryFits
lawful_entry = lawful_iso (lawful_pair lawful_cell lawful_signed) entry_of of_entry (λ e. refl) (λ x. refl)

module _ {A : Type 0} {c : Codec A} {P : A → Type 0} (u : Lawful Word c P) (p : ℕ) (room : p < 2 ^ 64) where
  pub lawful_two : Lawful Word (two p c) (TwoFit P p)
  lawful_two =
      lawful_via (lawful_pair lawful_cell (lawful_counted u (omega arith) p (λ n h. omega arith))) parted joined within
      (record {
        there = λ y h. let a = h.0 in
            (omega arith, (omega (arith, length-append y.0 y.1), all_join P y.0 y.1 h.1 h.2));
        round = λ y h. λ i. (take_at y.0 y.1 (length y.0) refl i, drop_at y.0 y.1 (length y.0) refl i);
        fine = λ y h. le-leb (length y.0) (length (y.0 ++ y.1)) (omega (arith, length-append y.0 y.1));
        again = λ x h e. (let l = length-take-le x.0 x.1 (leb-true x.0 (length x.1) e) in λ i. (l i, take-append-drop x.0 x.1 i));
        onto = λ x h e. let k = h.1.0 in
            let l = leb-true x.0 (length x.1) e in
            (omega (arith, length-take-le x.0 x.1 l, length-drop x.0 x.1), all_take P x.0 x.1 h.1.1, all_drop P x.0 x.1 h.1.1);
      })

module _ (m : ℕ) (room : m < 2 ^ 64) where
  pub lawful_run : Lawful Word (run m) (RunFits m)
  lawful_run =
      lawful_iso
      (lawful_pair lawful_cell (lawful_pair lawful_cell (lawful_pair (lawful_rows lawful_signed (omega arith) register_count register_count (omega arith)) (lawful_two lawful_entry m room))))
      run_of of_run (λ p. refl) (λ x. refl)

  pub lawful_row : Lawful Word (row m) (RowFits m)
  lawful_row = lawful_pair lawful_key lawful_run

-- a transaction at its start
values-zero : (n : ℕ) → All ValueFits (replicate n (pos 0))
values-zero zero = tt
values-zero (suc n) = (record { sfits = omega arith }, values-zero n)

pub start_fits : (m : ℕ) (k : ℕ × ℕ) → KeyFits k → RowFits m (k, start)
unfolding start
start_fits m k g =
    (g, (omega arith, (omega arith, ((length-replicate register_count (pos 0), values-zero register_count), (omega arith, tt, tt)))))

pub any-all : (xs : List ℕ) → All Any xs
any-all [] = tt
any-all (x ∷ xs) = (tt, any-all xs)

module _ (l : Limits) (s : Sane l) where
  pub lawful_rows-of : Lawful Word (counted l.pending (row l.operations)) (RowsFit l)
  lawful_rows-of =
      lawful_counted (lawful_row l.operations (omega (arith, s.operations))) (omega arith) l.pending (λ n h. omega (arith, s.pending))

  pub lawful_versions : Lawful Word (versions l) (ObjectFits l.readers)
  lawful_versions =
      let n = l.readers in
      record {
        len = λ vs h. length-block n vs h.0;
        small = λ vs h. below_all (2 ^ 64) (block n vs) (below-block n vs (fits-small vs h.1) (omega (arith, h.0, s.readers)));
        back = λ vs h. versions_of-block n vs (fits-small vs h.1);
        okay = λ vs h. framed-block n vs h.0;
        forth = λ b h k e. block_of-versions n b h (all-below (2 ^ 64) b (omega arith) k) e;
        good = λ b h k e. (omega (arith, length_block-versions b, count-few n b e), small-fits (block_versions b) (small-block_versions b (all-below (2 ^ 64) b (omega arith) k)));
      }

  pub lawful_object : Lawful Word (object l) (StoredFits l.readers)
  lawful_object = lawful_pair lawful_versions lawful_bounds

  pub lawful_objects : Lawful Word (counted l.objects (object l)) (ObjectsFit l)
  lawful_objects = lawful_counted lawful_object (omega arith) l.objects (λ n h. omega (arith, s.objects))

  lawful_front : Lawful Word (front l) (FrontFits l)
  lawful_front =
      lawful_pair lawful_cell
      (lawful_pair (lawful_rows lawful_cell (omega arith) clients clients (omega arith))
      (lawful_pair (lawful_rows lawful_reader (omega arith) l.readers l.readers (omega arith))
      (lawful_pair lawful_objects lawful_rows-of)))

  pub lawful_tail : Lawful Word (tail l) (TailFits l)
  lawful_tail = lawful_rows lawful_cell (omega arith) 0 0 (omega arith)

  pub lawful_record-cells : Lawful Word (record_cells l) (RecordFits l)
  lawful_record-cells = lawful_pair lawful_front lawful_tail

  pub lawful_record : Lawful Byte (record_area l) (RecordFits l)
  lawful_record = lawful_bytes lawful_record-cells

  -- ---- the body area

  pub lawful_body : Lawful Any (body l.operations) (BodyFits l.operations)
  lawful_body = lawful_padded Any (body_length l.operations) body_length tt (λ n. omega arith)

  pub lawful_bodies : (k : ℕ) → k ≤ l.pending → Lawful Any (body_area l k) (λ xs. (length xs ≡ k) × All (BodyFits l.operations) xs)
  lawful_bodies k h = lawful_rows lawful_body tt l.pending k h

pub few_pending : (l : Limits) (u : Replica) → Printable l u → length u.pending ≤ l.pending
few_pending l u g = omega (arith, g.rows.0, length-map u.pending row_of)

-- versions and bounds, side by side and apart
pub length-stored : (objs : List (List Version)) (bs : List Bounds) → length (stored_from objs bs) ≡ length objs
length-stored [] bs = refl
length-stored (vs ∷ objs) bs = ap suc (length-stored objs (drop 1 bs))

module _ (n : ℕ) where
  pub all-stored : (objs : List (List Version)) (bs : List Bounds) → length bs ≡ length objs → All (ObjectFits n) objs → All BoundsFit bs → All (StoredFits n) (stored_from objs bs)
  all-stored [] bs e g f = tt
  all-stored (vs ∷ objs) [] e g f = absurd (omega arith)
  all-stored (vs ∷ objs) (b ∷ bs) e g f = ((g.0, f.0), all-stored objs bs (omega arith) g.1 f.1)

  stored-apart : (objs : List (List Version)) (bs : List Bounds) → length bs ≡ length objs → All (StoredFits n) (stored_from objs bs) → All (ObjectFits n) objs × All BoundsFit bs
  stored-apart [] [] e g = (tt, tt)
  stored-apart [] (b ∷ bs) e g = absurd (omega arith)
  stored-apart (vs ∷ objs) [] e g = absurd (omega arith)
  stored-apart (vs ∷ objs) (b ∷ bs) e g =
      let k = stored-apart objs bs (omega arith) g.1 in ((g.0.0, k.0), (g.0.1, k.1))

pub stored_at : (objs : List (List Version)) (bs : List Bounds) (i : ℕ) → i < length objs → (d : Stored) → get_or (stored_from objs bs) i d ≡ (get_or objs i [], get_or bs i no_bounds)
stored_at [] bs i h d = absurd (omega arith)
stored_at (vs ∷ objs) bs zero h d = refl
stored_at (vs ∷ objs) bs (suc i) h d =
    let e : 1 + i ≡ suc i = omega arith in
    stored_at objs (drop 1 bs) i (omega arith) d ∙ ap (λ (b : Bounds). (get_or objs i [], b)) (get_or-drop 1 bs i no_bounds ∙ ap (λ (k : ℕ). get_or bs k no_bounds) e)

-- one object's versions anew
pub stored-set : (objs : List (List Version)) (bs : List Bounds) (i : ℕ) (vs : List Version) (d : Stored) → set (stored_from objs bs) i (vs, (get_or (stored_from objs bs) i d).1) ≡ stored_from (set objs i vs) bs
stored-set [] bs i vs d = refl
stored-set (x ∷ objs) bs zero vs d = refl
stored-set (x ∷ objs) bs (suc i) vs d = ap ((x, get_or bs 0 no_bounds) ∷◌) (stored-set objs (drop 1 bs) i vs d)

pub stored-fit : (l : Limits) (u : Replica) → Printable l u → ObjectsFit l (stored_of u)
stored-fit l u g =
    (omega (arith, g.objects.0, length-stored u.objects u.bounds), all-stored l.readers u.objects u.bounds g.bounds.0 g.objects.1 g.bounds.1)

pub record_fits : (l : Limits) (u : Replica) → Printable l u → RecordFits l (record_of u)
record_fits l u g = ((g.timestamp, (g.lasts, (g.readers, (stored-fit l u g, g.rows)))), g.tail)

pub fits-record : (l : Limits) (u : Replica) → length u.bounds ≡ length u.objects → RecordFits l (record_of u) → All (BodyFits l.operations) (bodies_of u) → Printable l u
fits-record l u e r b =
    let f = r.0 in
    let o = f.1.1.1.0 in
    let k = stored-apart l.readers u.objects u.bounds e o.1 in
    record {
      timestamp = f.0;
      lasts = f.1.0;
      readers = f.1.1.0;
      objects = (omega (arith, o.0, length-stored u.objects u.bounds), k.0);
      bounds = (e, k.1);
      rows = f.1.1.1.1;
      tail = r.1;
      bodies = b;
    }
