-- S-4 of document 02, for dispatch, on the two lent areas: any areas, early results that no calls led to included. Assumes nothing.
use Rattle.std.specs.Prelude.{◌≡◌, List, map}
use Prim.Native.Nat.{ℕ}
use Rattle.model.specs.declared.Limits.{Limits}
use Rattle.model.specs.Interface.{Version, previewed, done, executed, committed, observed, Answer, refused, yielded}
use Rattle.model.specs.Calls.{final, dry_run}
use Rattle.model.specs.DryRun.{preview_of}
use Rattle.model.specs.Replica.{newest}
use Rattle.layout.specs.Layout.{Areas, parse}
use Rattle.layout.specs.Act.{act}

-- What a dry run shows of a final delivery that answered this and left these newest versions: a refusal as it is. No final delivery answers anything else.
abbrev pub previewed_as : Answer → List Version → Answer
previewed_as (refused k) vs = refused k
previewed_as (yielded (committed r)) vs = yielded (observed (previewed (preview_of r vs)))
previewed_as (yielded done) vs = yielded done
previewed_as (yielded (executed n f)) vs = yielded (executed n f)
previewed_as (yielded (observed o)) vs = yielded (observed o)

-- the newest versions that the areas say
abbrev pub newest_on : Limits → Areas → List Version
newest_on l a = map newest (parse l a).objects

pub record DoneAside (l : Limits) (c s : ℕ) (a : Areas) : Type 0 where
  -- "It equals the final delivery done on a copy of both areas, refusals and their order included,
  pub answer : (act l (dry_run c s) a).0 ≡ previewed_as (act l (final c s) a).0 (newest_on l (act l (final c s) a).1)
  -- and the areas themselves keep their bytes."
  pub areas : (act l (dry_run c s) a).1 ≡ a
