-- An object's block, lent out of an area that holds a replica: it says the object's versions, and how many of them a lookup looks at. Assumes nothing.
use Rattle.std.specs.Prelude.{List, ℕ, ◌-◌, ◌*◌, get_or}
use Rattle.cells.specs.Cells.{cells}
use Rattle.model.specs.declared.Limits.{Limits}
use Rattle.versions.specs.Block.{looked_at_from}
use Rattle.layout.specs.Offsets.{reader_at, versions_width, object_at}

-- ---- what a read looks at

-- an open reader's stamp: its cell has 1 added
abbrev pub reader_stamp : List ℕ → ℕ → ℕ
reader_stamp b r = get_or (cells b) (reader_at r) 0 - 1

-- how many versions of object o a read of reader r looks at, whose lookup is lent the object's block
abbrev pub versions_looked_at : Limits → List ℕ → ℕ → ℕ → ℕ
versions_looked_at l b r o = looked_at_from b (reader_stamp b r) (versions_width l * 8) (object_at l o * 8)
