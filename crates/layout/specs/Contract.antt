-- What every call promises, inside as at the face: its answer and both areas are those of `act`; and how it follows from what a call leaves. Assumes nothing.
use Rattle.std.specs.Prelude.{◌≡◌, true, List, ℕ, ◌≤◌}
use Rattle.cells.specs.Cells.{Below}
use Rattle.model.specs.declared.Limits.{Limits}
use Rattle.model.specs.Calls.{Call, Answer}
use Rattle.model.specs.Replica.{Replica, call}
use Rattle.model.specs.Shape.{Shape}
use Rattle.layout.specs.Layout.{Areas, parse}
use Rattle.layout.specs.Offsets.{Sane}
use Rattle.layout.specs.Holds.{Holds, HoldsBodies}
use Rattle.layout.specs.Fit.{fit}
use Rattle.layout.specs.Act.{act}

-- Limits that the local arrays have room for.
pub record Supported (l : Limits) : Type 0 where
  pub sane : Sane l
  pub objects : l.objects ≤ 128
  pub readers : l.readers ≤ 16
  pub operations : l.operations ≤ 16

-- The contract of a call: its answer and both areas after it are those of `act`, outright.
pub record Met (l : Limits) (c : Call) (before : Areas) (answer : Answer) (after : Areas) : Type 0 where
  pub answers : answer ≡ (act l c before).0
  pub areas : after ≡ (act l c before).1

-- ---- a call that changes the record area alone

-- what areas that pass the check hold
pub record Passed (l : Limits) (a : Areas) : Type 0 where
  pub holds : Holds l a.0 (parse l a)
  pub bodies : HoldsBodies l a.1 (parse l a)
  pub shape : Shape l (parse l a)

-- ---- a call that is lent the record area alone

-- what it asks: the area passes the check beside some body area, and so holds a shaped replica
pub record HoldsShaped (l : Limits) (b : List ℕ) : Type 0 where
  pub bytes : Below 256 b
  pub replica : Replica
  pub holds : Holds l b replica
  pub shape : Shape l replica

-- what it ensures: `Met` beside every body area with which the record area passes the check, b at entry and b' now; the bodies stay
abbrev pub MetBeside : Limits → Call → List ℕ → List ℕ → Answer → Type 0
MetBeside l c b b' r = (bodies : List ℕ) → fit l (b, bodies) ≡ true → Met l c (b, bodies) r (b', bodies)

-- the answer and the area are those of a call on u
pub record Answered (l : Limits) (c : Call) (u : Replica) (b : List ℕ) (a : Answer) : Type 0 where
  pub answer : a ≡ (call l u c).0
  pub after : Holds l b (call l u c).1
