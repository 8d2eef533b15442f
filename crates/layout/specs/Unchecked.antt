-- Areas of the right lengths that are not checked yet: their tables as cells, and what the check asks of each. Assumes nothing.
use Rattle.std.specs.Prelude.{Bool, ℕ, get_or, leb}
use Rattle.std.proofs.Math.Bool.{◌&&◌}
use mathlib.Core.List.{List}
use Rattle.std.proofs.Math.ListN.{drop}
use Rattle.std.proofs.Math.Seq.{slice}
use Rattle.cells.specs.Zeros.{zeros}
use Rattle.model.specs.declared.Limits.{Limits}
use Rattle.model.specs.Lists.{all}
use Rattle.layout.specs.Rows.{chunks}
use Rattle.layout.specs.Layout.{row, object}
use Rattle.layout.specs.Offsets.{size_at, object_width, object_at, pending_at, row_width, row_at, tail_at}

-- ---- the tables in the cells w

abbrev pub size_in : Limits → List ℕ → ℕ
size_in l w = get_or w (size_at l) 0

abbrev pub pending_in : Limits → List ℕ → ℕ
pending_in l w = get_or w (pending_at l) 0

abbrev pub blocks_in : Limits → List ℕ → List (List ℕ)
blocks_in l w = chunks (object_width l) (size_in l w) (drop (object_at l 0) w)

abbrev pub rows_in : Limits → List ℕ → List (List ℕ)
rows_in l w = chunks (row_width l) (pending_in l w) (drop (row_at l 0) w)

-- the check of each: its count, its rows, and zeros behind them
abbrev pub objects_laid : Limits → List ℕ → Bool
objects_laid l w =
    leb (size_in l w) l.objects && (all (object l).ok (blocks_in l w) && zeros (slice (object_at l (size_in l w)) (pending_at l) w))

abbrev pub rows_laid : Limits → List ℕ → Bool
rows_laid l w =
    leb (pending_in l w) l.pending && (all (row l.operations).ok (rows_in l w) && zeros (slice (row_at l (pending_in l w)) (tail_at l) w))
