-- What follows from `specs/LentTable`. Assumes nothing.
use Rattle.std.specs.Prelude.{ℕ, ◌<◌, ◌≡◌, cond, List, ℤ}
use Rattle.std.proofs.Common.{ap, lt-ltb}
use Rattle.execution.specs.declared.ObjectsAt.{ObjectsAt}
use Rattle.execution.specs.Bounds.{no_bounds, inside}
use Rattle.execution.specs.LentTable.{object_bounds, lent_allowed}

pub allowed_at : (n : ℕ) (p : ObjectsAt) (cs : List ℕ) (o : ℕ) → o < n → (v : ℤ) → lent_allowed n p cs o v ≡ inside (object_bounds p cs o) v
allowed_at n p cs o h v = ap (λ t. inside (cond t (object_bounds p cs o) no_bounds) v) (lt-ltb o n h)
