-- The fields of the record area, and their offsets. Assumes nothing.
use Rattle.std.specs.Prelude.{◌≡◌, refl, List, ℕ, ◌≤◌, ◌<◌, length}
use native.Mathlib.Omega.{arith}
use Rattle.operation.specs.Body.{register_count}
use Rattle.model.specs.declared.Limits.{Limits}
use Rattle.model.specs.Calls.{clients}
use Rattle.model.specs.ListLaws.{All}
use Rattle.layout.specs.Layout.{Row, row, Stored, Front, RecordArea, object, record_area, body_area}
use Rattle.layout.specs.Offsets.{object_width, row_width, record_length, bodies_length}
use Rattle.layout.specs.Lawful.{Word}
use Rattle.layout.specs.Printable.{RowFits, LastsFit, ReadersFit, StoredFits, TailFits}

-- ---- the record area, with what is known of its objects and its rows

abbrev pub FrontWith : Limits → (List Stored → Type 0) → (List Row → Type 0) → Front → Type 0
FrontWith l O Q f =
    Word f.0 × (LastsFit f.1.0 × (ReadersFit l.readers f.1.1.0 × (O f.1.1.1.0 × Q f.1.1.1.1)))

abbrev pub With : Limits → (List Stored → Type 0) → (List Row → Type 0) → RecordArea → Type 0
With l O Q r = FrontWith l O Q r.0 × TailFits l r.1

abbrev pub ObjectThere : Limits → ℕ → List Stored → Type 0
ObjectThere l i xs = (length xs ≤ l.objects) × All (StoredFits l.readers) xs × (i < length xs)

abbrev pub RowThere : Limits → ℕ → List Row → Type 0
RowThere l i xs = (length xs ≤ l.pending) × All (RowFits l.operations) xs × (i < length xs)

-- ---- sizes and offsets, as the code computes them

pub sizes : (l : Limits) → ((object l).size ≡ object_width l) × ((row l.operations).size ≡ row_width l) × ((record_area l).size ≡ record_length l) × ((body_area l 0).size ≡ bodies_length l)
unfolding clients register_count
sizes l = (omega arith, omega arith, omega arith, refl)
