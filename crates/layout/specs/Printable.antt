-- Which values each part of the areas can hold, and the laws of the two areas, by composition. Assumes nothing.
use Rattle.std.specs.Prelude.{◌≡◌, List, map, ℕ, suc, ◌+◌, ◌^◌, ◌≤◌, ◌<◌, ℤ, length}
use Rattle.std.proofs.Common.{SFits}
use Rattle.std.proofs.Math.Option.{Option}
use Rattle.std.specs.Int.{w64}
use Rattle.operation.specs.Body.{register_count, body_length}
use Rattle.execution.specs.Entries.{Entry}
use Rattle.execution.specs.Bounds.{Bounds}
use Rattle.execution.specs.Run.{Run}
use Rattle.model.specs.declared.Limits.{Limits}
use Rattle.model.specs.Calls.{clients}
use Rattle.model.specs.Serial.{Version}
use Rattle.model.specs.Replica.{Replica}
use Rattle.model.specs.ListLaws.{All}
use Rattle.layout.specs.Layout.{of_reader}
use Rattle.layout.specs.Layout.{Row, Stored, Front, Tail, RecordArea, row_of, body_of, tail_of}
use Rattle.layout.specs.Lawful.{Padded, Word}

-- ---- one cell

abbrev pub ValueFits : ℤ → Type 0
ValueFits z = SFits w64 z

abbrev pub ReaderFits : Option ℕ → Type 0
ReaderFits x = of_reader x < 2 ^ 64

abbrev pub KeyFits : ℕ × ℕ → Type 0
KeyFits x = (x.0 < 2 ^ 32) × (x.1 < 2 ^ 32)

-- ---- bounds, versions and entries

abbrev pub BoundsFit : Bounds → Type 0
BoundsFit b = ValueFits b.lower × ValueFits b.upper

abbrev pub VersionFits : Version → Type 0
VersionFits v = Word v.stamp × ValueFits v.value

abbrev pub EntryFits : Entry → Type 0
EntryFits e = Word e.object × ValueFits e.value

-- ---- two lists in one table

abbrev pub TwoFit : {A : Type 0} → (A → Type 0) → ℕ → List A × List A → Type 0
TwoFit P p y = (length y.0 + length y.1 ≤ p) × All P y.0 × All P y.1

-- ---- runs and rows

abbrev pub RegistersFit : List ℤ → Type 0
RegistersFit g = (length g ≡ register_count) × All ValueFits g

abbrev pub RunFits : ℕ → Run → Type 0
RunFits m p =
    Word p.counter × (Word p.outcome × (RegistersFit p.registers × TwoFit EntryFits m (p.reads, p.writes)))

abbrev pub RowFits : ℕ → Row → Type 0
RowFits m r = KeyFits r.0 × RunFits m r.1

-- ---- the record area

abbrev pub LastsFit : List ℕ → Type 0
LastsFit xs = (length xs ≡ clients) × All Word xs

abbrev pub ReadersFit : ℕ → List (Option ℕ) → Type 0
ReadersFit n xs = (length xs ≡ n) × All ReaderFits xs

abbrev pub ObjectFits : ℕ → List Version → Type 0
ObjectFits n vs = (length vs ≤ suc n) × All VersionFits vs

abbrev pub StoredFits : ℕ → Stored → Type 0
StoredFits n x = ObjectFits n x.0 × BoundsFit x.1

abbrev pub ObjectsFit : Limits → List Stored → Type 0
ObjectsFit l xs = (length xs ≤ l.objects) × All (StoredFits l.readers) xs

abbrev pub RowsFit : Limits → List Row → Type 0
RowsFit l xs = (length xs ≤ l.pending) × All (RowFits l.operations) xs

abbrev pub FrontFits : Limits → Front → Type 0
FrontFits l f =
    Word f.0 × (LastsFit f.1.0 × (ReadersFit l.readers f.1.1.0 × (ObjectsFit l f.1.1.1.0 × RowsFit l f.1.1.1.1)))

abbrev pub TailFits : Limits → Tail → Type 0
TailFits l t = (length t ≡ 0) × All Word t

abbrev pub RecordFits : Limits → RecordArea → Type 0
RecordFits l r = FrontFits l r.0 × TailFits l r.1

-- a slice's type says that a body's bytes are bytes: the layout asks nothing of them
abbrev pub Any : ℕ → Type 0
Any n = Unit {0}

abbrev pub BodyFits : ℕ → List ℕ → Type 0
BodyFits m = Padded Any (body_length m) body_length

-- ---- a replica that the areas can hold

pub record Printable (l : Limits) (u : Replica) : Type 0 where
  pub timestamp : Word u.timestamp
  pub lasts : LastsFit u.lasts
  pub readers : ReadersFit l.readers u.readers
  pub objects : (length u.objects ≤ l.objects) × All (ObjectFits l.readers) u.objects
  pub bounds : (length u.bounds ≡ length u.objects) × All BoundsFit u.bounds
  pub rows : RowsFit l (map row_of u.pending)
  pub tail : TailFits l (tail_of u)
  pub bodies : All (BodyFits l.operations) (map body_of u.pending)
