-- Versions: what a commit, pruning and a reader's close leave to the newest version and to the open readers. Assumes nothing.
use Rattle.std.specs.Prelude.{List, ℕ, ◌≤◌, ℤ, get_or}
use Rattle.std.proofs.Math.Option.{Option, none, some}
use Rattle.execution.specs.Entries.{Entry, lookup}
use Rattle.execution.specs.Bounds.{Bounds, no_bounds, inside}
use Rattle.execution.specs.Run.{Table}
use Rattle.model.specs.Lists.{mapi}
use Rattle.model.specs.Start.{Version, no_version, Start}
use Rattle.model.specs.Replica.{newest}
use Rattle.model.specs.ListLaws.{All}

-- ---- a committed state with a write set over it, at a timestamp

abbrev pub replaced : ℕ → Version → Option ℤ → Version
replaced t x none = x
replaced t x (some v) = record { stamp = t; value = v }

unfoldable pub overlay : ℕ → List Entry → List Version → List Version
overlay t writes objs = mapi (λ o x. replaced t x (lookup writes o)) objs

-- ---- no version is later than the timestamp

abbrev pub Until : ℕ → List Version → Type 0
Until t vs = (newest vs).stamp ≤ t

-- the same of where an opening starts
abbrev pub Dated : Start → Type 0
Dated s = All (λ (v : Version). v.stamp ≤ s.timestamp) s.versions

-- ---- the committed state as a table

abbrev pub values_of : List Version → List Bounds → Table
values_of objs bs =
    record { look = λ o. (get_or objs o no_version).value; stamp = λ o. (get_or objs o no_version).stamp; allow = λ o. inside (get_or bs o no_bounds) }
