-- S-10 of document 02, for sizing, on the two lent areas: any areas that pass the shape check, early results that no calls led to included.
-- Assumes nothing.
use Rattle.std.specs.Prelude.{◌≡◌, Bool, false, ℕ, ◌*◌, ◌≤◌, length}
use Rattle.std.proofs.Math.Bool.{true}
use Rattle.operation.specs.Body.{size}
use Rattle.execution.specs.Run.{whole_count}
use Rattle.model.specs.declared.Limits.{Limits}
use Rattle.model.specs.Lists.{all}
use Rattle.model.specs.Calls.{execute, executed}
use Rattle.model.specs.Replica.{committed_table, program, finished, keyed}
use Rattle.model.proofs.Ceiling.{unfinished}
use Rattle.layout.specs.Layout.{Areas, parse}
use Rattle.layout.specs.Act.{act}

-- ---- the rework of a final delivery

-- The final delivery of (c, s) has answered that it is kept, or not, and that it carried out w operations.
pub record Reworked (l : Limits) (a : Areas) (c s : ℕ) (kept : Bool) (w : ℕ) : Type 0 where
  pub none_kept : kept ≡ true → w ≡ 0  -- "none if kept,
  -- otherwise exactly those in the definition of that run,
  pub run_again : kept ≡ false → w ≡ whole_count (committed_table (parse l a)) (program (keyed (parse l a) c s))
  pub body : w ≤ size (keyed (parse l a) c s).sent.bytes
  pub most : w ≤ l.operations  -- at most 16"

-- ---- work

-- Work of k operations finishes every pending transaction: the answer says so, and so do the areas after it. It carries out at most as many operations as
-- a body may have for each transaction that was not finished.
pub record AllFinished (l : Limits) (a : Areas) (k : ℕ) : Type 0 where
  pub used : ℕ
  pub answer : (act l (execute k) a).0 ≡ executed used (length (parse l a).pending)
  pub most : used ≤ l.operations * unfinished (parse l a).pending
  pub after : all finished (parse l (act l (execute k) a).1).pending ≡ true
