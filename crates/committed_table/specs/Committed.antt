-- The committed state as a list of values, where its stamps and bounds stand, and what the code asks of a record area to read them. Assumes nothing.
use Rattle.std.specs.Prelude.{◌≡◌, refl, Bool, true, false, cond, List, [], ℕ, ◌+◌, ◌*◌, ◌≤◌, ◌<◌, ℤ, pos, ltb, length, take, get_or}
use Rattle.std.proofs.Common.{sym, ap, ap₂, ◌∙◌, arith, mul-le-mul_right, suc-mul, get_or-take, length-take-le, ltb-true, ltb-false, to_z, to_z-of_z}
use Rattle.std.proofs.Math.Path.{fun_ext}
use Rattle.std.proofs.Math.ListN.{get_or-eq_default}
use Rattle.std.specs.Int.{w64}
use borrow.Rule.Slice.PartMut.{mid_of}
use Rattle.cells.specs.Cells.{cells}
use Rattle.execution.specs.declared.ObjectsAt.{ObjectsAt}
use Rattle.execution.specs.Bounds.{Bounds, no_bounds, inside}
use Rattle.execution.specs.Run.{beside, value_of, table_of, object_count}
use Rattle.execution.specs.LentTable.{bounds_cell, stamp_cell, object_bounds, lent_bounds, lent_allowed, lent_stamp, lent_beside, lent_table, BoundsWithin}
use Rattle.model.specs.declared.Limits.{Limits}
use Rattle.model.specs.Serial.{Version}
use Rattle.model.specs.Replica.{Replica, newest, as_of, opens, committed_table}
use Rattle.model.specs.Shape.{falling, VersionsShape, Shape}
use Rattle.model.specs.ListLaws.{All}
use Rattle.model.proofs.ListLaws.{all_in, all-implies}
use Rattle.model.specs.VersionLaws.{Until}
use Rattle.model.proofs.VersionLaws.{as_of-now, newest-until}
use Rattle.versions.specs.Block.{seen_from, SortedBlock}
use Rattle.layout.specs.Offsets.{Sane, size_at, object_width, versions_width, object_at, stamp_at, lower_at, upper_at, record_length}
use Rattle.layout.specs.Printable.{BoundsFit}
use Rattle.layout.proofs.RowCells.{block-newest}
use Rattle.layout.specs.Holds.{Holds}
use Rattle.layout.proofs.HoldsLaws.{holds-long}
use Rattle.layout.proofs.Reading.{get-timestamp, get-size, get-object, get-lower, get-upper}
use Rattle.layout.proofs.LentBlockLaws.{lent-object, lent-sorted}

-- what the lookup gives of object i at the replica's own timestamp: "so does the lookup below it, which a load from the committed table uses from now on"
abbrev pub looked_up : Limits → List ℕ → ℕ → Version
looked_up l b i = seen_from b (get_or (cells b) 0 0) (versions_width l * 8) (object_at l i * 8)

-- where the stamps and bounds stand in the area
abbrev pub objects_place : Limits → ObjectsAt
objects_place l = record { stamp = object_at l 0 + stamp_at 0; lower = object_at l 0 + lower_at l; stride = object_width l }

-- a record area of its length, with no more objects than the limit and the local array allow
pub record Laid (l : Limits) (b : List ℕ) : Type 0 where
  pub whole : length b ≡ record_length l
  pub few : get_or (cells b) (size_at l) 0 ≤ l.objects
  pub room : l.objects ≤ 128

-- a lookup may go through every object's block
abbrev pub BlocksSorted : Limits → List ℕ → Type 0
BlocksSorted l b =
    (o : ℕ) → o < get_or (cells b) (size_at l) 0 → SortedBlock (mid_of (object_at l o * 8) (versions_width l * 8) b)

-- n is the number of objects, and the first n values are those that the lookup gives
pub record Committed (l : Limits) (b : List ℕ) (n : ℕ) (vs : List ℤ) : Type 0 where
  pub size : n ≡ get_or (cells b) (size_at l) 0
  pub few : n ≤ 128
  pub room : length vs ≡ 128
  pub values : (o : ℕ) → o < n → value_of vs o ≡ (looked_up l b o).value

-- an object has a version, the newest is not later than t, and stamps fall
abbrev Versioned : ℕ → List Version → Type 0
Versioned t vs = (0 < length vs) × Until t vs × (falling vs ≡ true)

-- so have all of a replica at its timestamp
abbrev pub Current : Replica → Type 0
Current u = All (Versioned u.timestamp) u.objects

pub current : {l : Limits} (u : Replica) → Shape l u → Current u
current u h =
    all-implies (VersionsShape u.timestamp (opens u.readers)) (Versioned u.timestamp) (λ vs k. (k.least, newest-until u.timestamp vs k.bound, k.order)) u.objects h.versions

-- ---- offsets

-- an object's cells lie in the area
pub object_cell-inside : (l : Limits) (i j : ℕ) → i < l.objects → j < object_width l → (object_at l i + j) * 8 + 8 ≤ record_length l
object_cell-inside l i j h k = omega (arith, mul-le-mul_right (object_width l) h, suc-mul i (object_width l))

-- where object i begins, from where the first does
pub object-along : (l : Limits) (i a w : ℕ) → a ≡ object_at l 0 → w ≡ object_width l → a + i * w ≡ object_at l i
object-along l i a w ea ew = omega (arith, ea, ap (λ (k : ℕ). i * k) ew)

pub size-inside : (l : Limits) → size_at l * 8 + 8 ≤ record_length l
size-inside l = omega arith

-- where object i's stamp and bounds stand
stamp-along : (l : Limits) (i : ℕ) → stamp_cell (objects_place l) i ≡ object_at l i + stamp_at 0
stamp-along l i = omega arith

bounds-along : (l : Limits) (i : ℕ) → bounds_cell (objects_place l) i ≡ object_at l i + lower_at l
bounds-along l i = omega arith

-- ---- of an area that holds a replica

-- bounds with equal ends
pair_same : {a b x y : ℤ} → a ≡ b → x ≡ y → ◌≡◌ {A = Bounds} (record { lower = a; upper = x }) (record { lower = b; upper = y })
pair_same e f j = record { lower = e j; upper = f j }

module _ (l : Limits) (s : Sane l) (b : List ℕ) (u : Replica) (h : Holds l b u) where
  pub bounds-back : (i : ℕ) → i < length u.objects → object_bounds (objects_place l) (cells b) i ≡ get_or u.bounds i no_bounds
  bounds-back i k =
      let g = all_in BoundsFit u.bounds i no_bounds h.fits.bounds.1 (omega (arith, h.fits.bounds.0)) in
      let upper : bounds_cell (objects_place l) i + 1 ≡ object_at l i + upper_at l = omega arith in
      pair_same (read (bounds-along l i) ∙ ap (to_z w64) (get-lower l s b u h i k) ∙ to_z-of_z g.0) (read upper ∙ ap (to_z w64) (get-upper l s b u h i k) ∙ to_z-of_z g.1)
    where
      read : {x y : ℕ} → x ≡ y → to_z w64 (get_or (cells b) x 0) ≡ to_z w64 (get_or (cells b) y 0)
      read e = ap (λ (a : ℕ). to_z w64 (get_or (cells b) a 0)) e

  -- the bounds of the objects, and of any other none
  bounds-there : (o : ℕ) → lent_bounds (length u.objects) (objects_place l) (cells b) o ≡ get_or u.bounds o no_bounds
  bounds-there o = go' (ltb o (length u.objects)) refl
    where
      go' : (t : Bool) → ltb o (length u.objects) ≡ t → cond t (object_bounds (objects_place l) (cells b) o) no_bounds ≡ get_or u.bounds o no_bounds
      go' true e = bounds-back o (ltb-true o (length u.objects) e)
      go' false e = let m = ltb-false o (length u.objects) e in sym (get_or-eq_default u.bounds no_bounds (omega (arith, h.fits.bounds.0)))

  pub allowed-back : lent_allowed (length u.objects) (objects_place l) (cells b) ≡ (committed_table u).allow
  allowed-back = fun_ext (λ o. ap inside (bounds-there o))

  pub bounds-within : BoundsWithin (objects_place l) (length u.objects) (length b)
  bounds-within o k =
      let m : o < l.objects = omega (arith, h.fits.objects.0) in
      omega (arith, bounds-along l o, object_cell-inside l o (upper_at l) m (omega arith), holds-long l s b u h)

  module _ (latest : Current u) where
    versioned : (i : ℕ) → i < length u.objects → Versioned u.timestamp (get_or u.objects i [])
    versioned i k = all_in (Versioned u.timestamp) u.objects i [] latest k

    pub blocks-sorted : BlocksSorted l b
    blocks-sorted o k =
        let low : o < length u.objects = omega (arith, get-size l s b u h) in
        lent-sorted l s b u h o low (object_at l o) (versions_width l * 8) refl refl (versioned o low).2

    -- the lookup gives the newest version
    pub looked_back : (i : ℕ) → i < length u.objects → looked_up l b i ≡ newest (get_or u.objects i [])
    looked_back i k =
        let vs = get_or u.objects i [] in
        ap₂ as_of (get-timestamp l s b u h) (lent-object l s b u h i k (object_at l i) (versions_width l * 8) refl refl)
        ∙ as_of-now u.timestamp vs (versioned i k).1

    -- the stamp where it stands is the newest version's
    stamp-back : (i : ℕ) → i < length u.objects → get_or (cells b) (stamp_cell (objects_place l) i) 0 ≡ (newest (get_or u.objects i [])).stamp
    stamp-back i k =
        ap (λ (a : ℕ). get_or (cells b) a 0) (stamp-along l i)
        ∙ get-object l s b u h i k (stamp_at 0) (omega arith)
        ∙ (block-newest l (get_or u.objects i []) (versioned i k).0).0

    -- a run's table has the stamps that the lookup gives beside its values
    pub stamp-looked_up : (i : ℕ) → i < length u.objects → get_or (cells b) (stamp_cell (objects_place l) i) 0 ≡ (looked_up l b i).stamp
    stamp-looked_up i k = stamp-back i k ∙ sym (ap (λ (v : Version). v.stamp) (looked_back i k))

    -- the stamps of the objects, and of any other 0
    stamp-there : (o : ℕ) → lent_stamp (length u.objects) (objects_place l) (cells b) o ≡ (newest (get_or u.objects o [])).stamp
    stamp-there o = go' (ltb o (length u.objects)) refl
      where
        go' : (t : Bool) → ltb o (length u.objects) ≡ t → cond t (get_or (cells b) (stamp_cell (objects_place l) o) 0) 0 ≡ (newest (get_or u.objects o [])).stamp
        go' true e = stamp-back o (ltb-true o (length u.objects) e)
        go' false e =
            let m = ltb-false o (length u.objects) e in
            ap (λ (vs : List Version). (newest vs).stamp) (sym (get_or-eq_default u.objects [] (omega arith)))

    pub beside_back : lent_beside (length u.objects) (objects_place l) (cells b) ≡ beside (committed_table u)
    beside_back j = record { stamp = fun_ext stamp-there j; allow = allowed-back j }

    -- the code's values, up to the last object's, are the model's
    module _ {n : ℕ} {ts : List ℤ} (c : Committed l b n ts) where
      pub committed-size : n ≡ length u.objects
      committed-size = c.size ∙ get-size l s b u h

      pub committed-room : n ≤ length ts
      committed-room = omega (arith, c.few, c.room)

      pub committed-count : object_count (take n ts) ≡ length u.objects
      committed-count = length-take-le n ts committed-room ∙ committed-size

      value_there : (o : ℕ) → value_of (take n ts) o ≡ (newest (get_or u.objects o [])).value
      value_there o = go' (ltb o n) refl
        where
          go' : (t : Bool) → ltb o n ≡ t → value_of (take n ts) o ≡ (newest (get_or u.objects o [])).value
          go' true e =
              let m = ltb-true o n e in
              get_or-take n ts o (pos 0) m ∙ c.values o m ∙ ap (λ (v : Version). v.value) (looked_back o (omega (arith, committed-size)))
          go' false e =
              let m = ltb-false o n e in
              get_or-eq_default (take n ts) (pos 0) (omega (arith, length-take-le n ts committed-room))
              ∙ ap (λ (vs : List Version). (newest vs).value) (sym (get_or-eq_default u.objects [] (omega (arith, committed-size))))

      pub committed-back : table_of (take n ts) (beside (committed_table u)) ≡ committed_table u
      committed-back j = record { look = fun_ext value_there j; stamp = (committed_table u).stamp; allow = (committed_table u).allow }

      -- with the stamps and bounds where they stand
      pub committed-lent : lent_table (take n ts) (objects_place l) (cells b) ≡ committed_table u
      committed-lent =
          ap (λ (k : ℕ). table_of (take n ts) (lent_beside k (objects_place l) (cells b))) committed-count
          ∙ ap (table_of (take n ts)) beside_back
          ∙ committed-back
