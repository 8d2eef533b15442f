-- What follows from `specs/LentBlock`. Assumes nothing.
use Rattle.std.specs.Prelude.{◌≡◌, refl, true, List, [], ℕ, ◌*◌, ◌<◌, length, get_or}
use Rattle.std.proofs.Common.{ap, ap₂, ◌∙◌, arith}
use Rattle.std.proofs.Math.Option.{none, some}
use borrow.Rule.Slice.PartMut.{mid_of}
use Rattle.cells.specs.Cells.{cells, uncells}
use Rattle.cells.specs.Uncells.{length-uncells}
use Rattle.model.specs.declared.Limits.{Limits}
use Rattle.model.specs.Replica.{Replica}
use Rattle.model.specs.Shape.{falling}
use Rattle.model.proofs.ListLaws.{all_in}
use Rattle.model.specs.LookedAt.{looked_at}
use Rattle.versions.specs.Block.{block_versions, block, SortedBlock}
use Rattle.versions.proofs.Round.{length-block, length_block-versions, parsed}
use Rattle.layout.specs.Layout.{of_reader}
use Rattle.layout.specs.Offsets.{Sane, versions_width, object_at}
use Rattle.layout.specs.Printable.{ObjectFits}
use Rattle.layout.proofs.PrintableLaws.{fits-small}
use Rattle.layout.specs.Holds.{Holds}
use Rattle.layout.proofs.Reading.{get-reader, object-part}
use Rattle.layout.specs.LentBlock.{reader_stamp, versions_looked_at}

-- object i's: k bytes from cell a on
module _ (l : Limits) (s : Sane l) (b : List ℕ) (u : Replica) (h : Holds l b u) (i : ℕ) (low : i < length u.objects) (a k : ℕ) (ea : a ≡ object_at l i) (ek : k ≡ versions_width l * 8) where
  fits : ObjectFits l.readers (get_or u.objects i [])
  fits = all_in (ObjectFits l.readers) u.objects i [] h.fits.objects.1 low

  lent-part : mid_of (a * 8) k b ≡ uncells (block l.readers (get_or u.objects i []))
  lent-part = rw (ea, ek) (object-part l s b u h i low)

  pub lent-object : block_versions (cells (mid_of (a * 8) k b)) ≡ get_or u.objects i []
  lent-object =
      let vs = get_or u.objects i [] in
      parsed l.readers vs (mid_of (a * 8) k b) (fits-small vs fits.1) (omega (arith, fits.0, s.readers)) lent-part

  lent-long : length (mid_of (a * 8) k b) ≡ versions_width l * 8
  lent-long =
      let vs = get_or u.objects i [] in
      ap length lent-part
      ∙ length-uncells (block l.readers vs)
      ∙ ap (λ (n : ℕ). n * 8) (length-block l.readers vs fits.0)

  -- a lookup may go through it
  pub lent-sorted : falling (get_or u.objects i []) ≡ true → SortedBlock (mid_of (a * 8) k b)
  lent-sorted order =
      record { room = omega (arith, lent-long, length_block-versions (cells (mid_of (a * 8) k b)), ap length lent-object, fits.0); order = ap falling lent-object ∙ order }

-- where the area holds a replica, that many of the replica's versions
pub holds-looked_at : (l : Limits) (s : Sane l) (b : List ℕ) (u : Replica) → Holds l b u → (r t : ℕ) → r < l.readers → get_or u.readers r none ≡ some t → (o : ℕ) → o < length u.objects
    → versions_looked_at l b r o ≡ looked_at t (get_or u.objects o [])
holds-looked_at l s b u h r t seated entry o low =
    let since : reader_stamp b r ≡ t = omega (arith, get-reader l s b u h r seated, ap of_reader entry) in
    ap₂ looked_at since (lent-object l s b u h o low (object_at l o) (versions_width l * 8) refl refl)
