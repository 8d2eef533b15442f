-- A table by the cells in which its values stand: object o's in cell ps[o] of the record area. Assumes nothing.
use Rattle.std.specs.Prelude.{◌≡◌, refl, Bool, true, ◌&&◌, List, [], ◌∷◌, ℕ, ◌+◌, ◌*◌, ◌≤◌, ◌<◌, ℤ, ltb, length, get_or}
use Rattle.std.proofs.Common.{ap, ap₂, ◌∙◌, arith, mul-le-mul_right, to_z, to_z-of_z, ltb-true}
use Rattle.std.proofs.Math.Option
use Rattle.std.specs.Int.{w64}
use Rattle.cells.specs.Cells.{cells}
use Rattle.arith.specs.Integer.{fits, eq_z}
use Rattle.execution.specs.Entries.{Entry, lookup}
use Rattle.execution.specs.Run.{Table, matches, over}
use Rattle.execution.proofs.ReadAgreement.{both}
use Rattle.execution.specs.RunShape.{every, sound}
use Rattle.model.specs.declared.Limits.{Limits}
use Rattle.model.specs.Serial.{Version}
use Rattle.model.specs.Replica.{Replica, newest, committed_table}
use Rattle.model.specs.ListLaws.{All}
use Rattle.model.proofs.ListLaws.{all_in}
use Rattle.model.proofs.VersionLaws.{newest-one}
use Rattle.layout.specs.Offsets.{Sane, object_width, object_at, value_at}
use Rattle.layout.specs.Printable.{VersionFits, ObjectFits}
use Rattle.layout.proofs.RowCells.{block-newest}
use Rattle.layout.specs.Holds.{Holds}
use Rattle.layout.proofs.HoldsLaws.{holds-long}
use Rattle.layout.proofs.Reading.{get-object}

-- It is compared with what was read, and nothing is stored on it: which values it allows is not asked, nor a stamp.
abbrev pub table_in : List ℕ → List ℕ → Table
table_in cs ps = record { look = λ o. to_z w64 (get_or cs (get_or ps o 0) 0); stamp = λ o. 0; allow = λ o v. true }

-- the places of the first n objects lie in the area b
pub record Inside (b : List ℕ) (n : ℕ) (ps : List ℕ) : Type 0 where
  pub room : length ps ≡ 128
  pub few : n ≤ 128
  pub inside : (o : ℕ) → o < n → get_or ps o 0 * 8 + 8 ≤ length b

-- every object of these entries has a place in the area b
pub record Reaching (b ps : List ℕ) (es : List Entry) : Type 0 where
  pub count : ℕ
  pub inside : Inside b count ps
  pub sound : every (sound count) es ≡ true

-- the places of the first n objects are those of their newest values
pub record Placed (l : Limits) (n : ℕ) (ps : List ℕ) : Type 0 where
  pub room : length ps ≡ 128
  pub at : (o : ℕ) → o < n → get_or ps o 0 ≡ object_at l o + value_at 0

-- ---- tables that give the same values of the first n objects

abbrev pub Same : ℕ → Table → Table → Type 0
Same n S T = (o : ℕ) → o < n → S.look o ≡ T.look o

pub over-same : {n : ℕ} (S T : Table) (ws : List Entry) → Same n S T → Same n (over ws S) (over ws T)
over-same S T ws h o k = ap (Option.get_or (lookup ws o)) (h o k)

pub matches-same : (n : ℕ) (S T : Table) → Same n S T → (es : List Entry) → every (sound n) es ≡ true → matches S es ≡ matches T es
unfolding fits
matches-same n S T h [] e = refl
matches-same n S T h (x ∷ es) e =
    let k = both (sound n x) (every (sound n) es) e in
    let low = ltb-true x.object n (both (ltb x.object n) (fits x.value) k.0).0 in
    ap₂ (λ (v : ℤ) (t : Bool). eq_z v x.value && t) (h x.object low) (matches-same n S T h es k.1)

-- ---- the committed state

pub placed-inside : {l : Limits} {b : List ℕ} {u : Replica} {ps : List ℕ} → Sane l → Holds l b u → length u.objects ≤ 128 → Placed l (length u.objects) ps → Inside b (length u.objects) ps
placed-inside {l} {b} {u} {ps} s h few p =
    let most = h.fits.objects.0 in
    record {
      room = p.room;
      few = few;
      inside = λ o k. let low : o < l.objects = omega arith in omega (arith, p.at o k, holds-long l s b u h, mul-le-mul_right (object_width l) low);
    }

module _ (l : Limits) (s : Sane l) (b : List ℕ) (u : Replica) (h : Holds l b u) (some-version : All (λ (vs : List Version). 0 < length vs) u.objects) where
  -- the newest version's value where it stands
  value-back : (i : ℕ) → i < length u.objects → to_z w64 (get_or (cells b) (object_at l i + value_at 0) 0) ≡ (newest (get_or u.objects i [])).value
  value-back i k =
      let vs = get_or u.objects i [] in
      let fits = (all_in (ObjectFits l.readers) u.objects i [] h.fits.objects.1 k).1 in
      let some = all_in (λ (vs : List Version). 0 < length vs) u.objects i [] some-version k in
      ap (to_z w64) (get-object l s b u h i k (value_at 0) (omega arith) ∙ (block-newest l vs some).1)
      ∙ to_z-of_z (newest-one VersionFits vs (omega arith, record { sfits = omega arith }) fits).1

  pub placed-table : (ps : List ℕ) → Placed l (length u.objects) ps → Same (length u.objects) (table_in (cells b) ps) (committed_table u)
  placed-table ps p o k =
      ap (λ (i : ℕ). to_z w64 (get_or (cells b) i 0)) (p.at o k) ∙ value-back o k
