-- The shape check of the header and the objects as the code goes, for limits l: w are the cells of the record area. Assumes nothing.
use Rattle.std.specs.Prelude.{Bool, ◌&&◌, List, ℕ, ◌+◌, ◌^◌, leb, ltb, take, drop, get_or}
use Rattle.std.proofs.Math.Seq.{slice}
use Rattle.cells.specs.Zeros.{zeros}
use Rattle.model.specs.Lists.{all}
use Rattle.model.specs.declared.Limits.{Limits}
use Rattle.model.specs.Calls.{clients, last_timestamp}
use Rattle.versions.specs.Block.{blocks_ok}
use Rattle.layout.specs.Offsets.{last_at, reader_at, object_at, pending_at}
use Rattle.layout.specs.Unchecked.{size_in}

-- every cell is below a bound
abbrev pub below : ℕ → List ℕ → Bool
below b xs = all (λ x. ltb x b) xs

-- the readers' cells, 0 where closed, else the timestamp + 1
abbrev pub readers_of : Limits → List ℕ → List ℕ
readers_of l w = take l.readers (drop (reader_at 0) w)

abbrev pub lasts_of : List ℕ → List ℕ
lasts_of w = take clients (drop (last_at 0) w)

-- the objects' cells: each one's versions and bounds
abbrev pub objects_of : Limits → List ℕ → List ℕ
objects_of l w = slice (object_at l 0) (object_at l (size_in l w)) w

-- timestamp, last numbers, readers
unfoldable pub header_in : Limits → List ℕ → Bool
header_in l w =
    leb (get_or w 0 0) last_timestamp && (below (2 ^ 32) (lasts_of w) && below (get_or w 0 0 + 2) (readers_of l w))

-- n, the objects, and zeros behind them
unfoldable pub objects_in : Limits → List ℕ → Bool
objects_in l w =
    leb 1 (size_in l w) && (leb (size_in l w) l.objects
    && (blocks_ok l.readers (get_or w 0 0) (readers_of l w) (size_in l w) (objects_of l w) && zeros (slice (object_at l (size_in l w)) (pending_at l) w)))
