-- The areas say the replica, and the replica the areas. Assumes nothing.
use Rattle.std.specs.Prelude.{◌≡◌, refl, true, List, [], ◌∷◌, map, ℕ, ◌≤◌, drop}
use Rattle.std.proofs.Math.Path.{sym, ap, ap₂}
use Rattle.std.proofs.Common.{◌∙◌, subst, arith}
use Rattle.std.proofs.Math.Bool.{◌&&◌}
use Rattle.std.proofs.Math.ListN.{length, length-map}
use borrow.Author.Tests.{eqb-true, eq-eqb}
use Rattle.cells.specs.Cells.{Below}
use Rattle.execution.proofs.ReadAgreement.{both}
use Rattle.execution.specs.Bounds.{Bounds}
use Rattle.model.specs.declared.Limits.{Limits}
use Rattle.model.specs.Serial.{Version}
use Rattle.model.specs.Replica.{Pending, Replica}
use Rattle.model.specs.ListLaws.{All}
use Rattle.layout.specs.Layout.{Row, Stored, Tail, RecordArea, record_area, body_area, stored_from, versions_of, bounds_in, row_of, body_of, all_from, record_of, bodies_of, replica_from, Areas, row_count, parse, print, lengths, laid}
use Rattle.layout.specs.Offsets.{Sane}
use Rattle.layout.specs.Lawful.{Byte}
use Rattle.layout.proofs.LawfulLaws.{below_all}
use Rattle.layout.specs.Printable.{RecordFits, BodyFits, Printable}
use Rattle.layout.proofs.PrintableLaws.{any-all, lawful_record, lawful_bodies, record_fits, fits-record, few_pending}

-- ---- rows and bodies, joined and parted

pending-back : (js : List Pending) → all_from (map row_of js) (map body_of js) ≡ js
pending-back [] = refl
pending-back (j ∷ js) = ap (j ∷◌) (pending-back js)

rows_back : (rs : List Row) (bs : List (List ℕ)) → map row_of (all_from rs bs) ≡ rs
rows_back [] bs = refl
rows_back (r ∷ rs) bs = ap (r ∷◌) (rows_back rs (drop 1 bs))

bodies-back : (rs : List Row) (bs : List (List ℕ)) → length bs ≡ length rs → map body_of (all_from rs bs) ≡ bs
bodies-back [] [] h = refl
bodies-back [] (b ∷ bs) h = absurd (omega arith)
bodies-back (r ∷ rs) [] h = absurd (omega arith)
bodies-back (r ∷ rs) (b ∷ bs) h = ap (b ∷◌) (bodies-back rs bs (omega arith))

-- versions and bounds, joined and parted

pub versions-back : (objs : List (List Version)) (bs : List Bounds) → map versions_of (stored_from objs bs) ≡ objs
versions-back [] bs = refl
versions-back (vs ∷ objs) bs = ap (vs ∷◌) (versions-back objs (drop 1 bs))

bounds-back : (objs : List (List Version)) (bs : List Bounds) → length bs ≡ length objs → map bounds_in (stored_from objs bs) ≡ bs
bounds-back [] [] e = refl
bounds-back [] (b ∷ bs) e = absurd (omega arith)
bounds-back (vs ∷ objs) [] e = absurd (omega arith)
bounds-back (vs ∷ objs) (b ∷ bs) e = ap (b ∷◌) (bounds-back objs bs (omega arith))

stored_back : (os : List Stored) → stored_from (map versions_of os) (map bounds_in os) ≡ os
stored_back [] = refl
stored_back (x ∷ os) = ap (x ∷◌) (stored_back os)

-- the tail of every record area, which has no cell
no_tail : (t : Tail) → length t ≡ 0 → [] ≡ t
no_tail [] h = refl
no_tail (x ∷ t) h = absurd (omega arith)

module _ (l : Limits) (s : Sane l) where
  -- ---- a replica that the areas can hold

  module _ (u : Replica) (g : Printable l u) where
    record_back : (record_area l).dec ((record_area l).enc (record_of u)) ≡ record_of u
    record_back = (lawful_record l s).back (record_of u) (record_fits l u g)

    few : length u.pending ≤ l.pending
    few = few_pending l u g

    count : row_count (record_of u) ≡ length u.pending
    count = length-map u.pending row_of

    in_use : (length (bodies_of u) ≡ length u.pending) × All (BodyFits l.operations) (bodies_of u)
    in_use = (length-map u.pending body_of, g.bodies)

    pub print-back : parse l (print l u) ≡ u
    unfolding parse print
    print-back =
        let b = (body_area l (length u.pending)).enc (bodies_of u) in
        ap (λ (r : RecordArea). replica_from r ((body_area l (row_count r)).dec b)) record_back
        ∙ ap (λ (k : ℕ). replica_from (record_of u) ((body_area l k).dec b)) count
        ∙ ap (replica_from (record_of u)) ((lawful_bodies l s (length u.pending) few).back (bodies_of u) in_use)
        ∙ (λ i. record { timestamp = u.timestamp; objects = versions-back u.objects u.bounds i; lasts = u.lasts; pending = pending-back u.pending i; readers = u.readers; bounds = bounds-back u.objects u.bounds g.bounds.0 i })

    pub print-lengths : lengths l (print l u) ≡ true
    unfolding lengths print
    print-lengths =
        rw (eq-eqb _ _ ((lawful_record l s).len (record_of u) (record_fits l u g)), eq-eqb _ _ ((lawful_bodies l s (length u.pending) few).len (bodies_of u) in_use))

    pub print-laid : laid l (print l u) ≡ true
    unfolding laid print
    print-laid =
        let b = (body_area l (length u.pending)).enc (bodies_of u) in
        let e : row_count ((record_area l).dec ((record_area l).enc (record_of u))) ≡ length u.pending = ap row_count record_back ∙ count in
        ap₂ ◌&&◌ ((lawful_record l s).okay (record_of u) (record_fits l u g))
        (ap (λ (k : ℕ). (body_area l k).ok b) e ∙ (lawful_bodies l s (length u.pending) few).okay (bodies_of u) in_use)

  -- ---- areas of the right lengths that pass the layout's check; the record area's bytes are below 256, as a slice's type says

  module _ (a : Areas) (x : Below 256 a.0) (n : lengths l a ≡ true) (o : laid l a ≡ true) where
    pub area_lengths : (length a.0 ≡ (record_area l).size) × (length a.1 ≡ (body_area l 0).size)
    unfolding lengths
    area_lengths = let t = both _ _ n in (eqb-true _ _ t.0, eqb-true _ _ t.1)

    abbrev R : RecordArea
    R = (record_area l).dec a.0

    okays : ((record_area l).ok a.0 ≡ true) × ((body_area l (row_count R)).ok a.1 ≡ true)
    unfolding laid
    okays = both ((record_area l).ok a.0) ((body_area l (row_count R)).ok a.1) o

    bytes : All Byte a.0
    bytes = below_all 256 a.0 x

    good-record : RecordFits l R
    good-record = (lawful_record l s).good a.0 area_lengths.0 bytes okays.0

    places : row_count R ≤ l.pending
    places = good-record.0.1.1.1.1.0

    good-bodies : (length ((body_area l (row_count R)).dec a.1) ≡ row_count R) × All (BodyFits l.operations) ((body_area l (row_count R)).dec a.1)
    good-bodies =
        (lawful_bodies l s (row_count R) places).good a.1 area_lengths.1 (any-all a.1) okays.1

    record_same : record_of (parse l a) ≡ R
    unfolding parse
    record_same =
        let f = R.0 in
        let rs = rows_back f.1.1.1.1 ((body_area l (row_count R)).dec a.1) in
        let t = no_tail R.1 good-record.1.0 in
        λ i. ((f.0, (f.1.0, (f.1.1.0, (stored_back f.1.1.1.0 i, rs i)))), t i)

    bodies-same : bodies_of (parse l a) ≡ (body_area l (row_count R)).dec a.1
    unfolding parse
    bodies-same = bodies-back R.0.1.1.1.1 ((body_area l (row_count R)).dec a.1) good-bodies.0

    pub print-parse : print l (parse l a) ≡ a
    unfolding print
    print-parse =
        let k : length (parse l a).pending ≡ row_count R = sym (length-map (parse l a).pending row_of) ∙ ap row_count record_same in
        let p = ap (record_area l).enc record_same ∙ (lawful_record l s).forth a.0 area_lengths.0 bytes okays.0 in
        let q =
        ap (body_area l (length (parse l a).pending)).enc bodies-same
        ∙ ap (λ (n : ℕ). (body_area l n).enc ((body_area l (row_count R)).dec a.1)) k
        ∙ (lawful_bodies l s (row_count R) places).forth a.1 area_lengths.1 (any-all a.1) okays.1 in
        λ i. (p i, q i)

    parsed-bounds : length (parse l a).bounds ≡ length (parse l a).objects
    unfolding parse
    parsed-bounds = length-map R.0.1.1.1.0 bounds_in ∙ sym (length-map R.0.1.1.1.0 versions_of)

    pub parse-fits : Printable l (parse l a)
    parse-fits =
        fits-record l (parse l a) parsed-bounds (subst (RecordFits l) (sym record_same) good-record) (subst (All (BodyFits l.operations)) (sym bodies-same) good-bodies.1)
