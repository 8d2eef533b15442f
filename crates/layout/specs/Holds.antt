-- What code knows of an area while it works on it: which replica it holds. Reading.antt and Writing.antt have the laws. Assumes nothing.
use Rattle.std.specs.Prelude.{◌≡◌, List, ℕ, length}
use Rattle.model.specs.declared.Limits.{Limits}
use Rattle.model.specs.Replica.{Replica}
pub use Rattle.model.specs.Replica.{with_timestamp, with_objects, with_lasts, with_pending, with_readers, with_bounds}
use Rattle.layout.specs.Layout.{record_area, body_area, record_of, bodies_of}
use Rattle.layout.specs.Printable.{Printable}

-- the record area b holds u
pub record Holds (l : Limits) (b : List ℕ) (u : Replica) : Type 0 where
  pub same : b ≡ (record_area l).enc (record_of u)
  pub fits : Printable l u

-- the body area b holds the bodies of u
pub record HoldsBodies (l : Limits) (b : List ℕ) (u : Replica) : Type 0 where
  pub same : b ≡ (body_area l (length u.pending)).enc (bodies_of u)
  pub fits : Printable l u

-- the record area b holds some replica
pub record Holding (l : Limits) (b : List ℕ) : Type 0 where
  pub replica : Replica
  pub holds : Holds l b replica
