-- Where an opening starts: the timestamp, the last numbers, and each object's one version and its bounds. Assumes nothing.
-- The replica and the serial table are both opened from it, so the theorem that they agree cannot catch a mistake in it; specs/CallExamples.antt computes it.
use Rattle.std.specs.Prelude.{List, [], ◌∷◌, map, ℕ, ℤ, get_or, drop, replicate}
use Rattle.execution.specs.Bounds.{Bounds, no_bounds}
use Rattle.model.specs.Interface.{Opening, by_values}
pub use Rattle.model.specs.Interface.{Version, no_version}
use Rattle.model.specs.Calls.{clients, bounds_from}

pub record Start : Type 0 where
  pub timestamp : ℕ
  pub lasts : List ℕ  -- each client's last committed sequence number
  pub versions : List Version  -- each object's one version
  pub bounds : List Bounds  -- each object's bounds

-- "the values given, the start stamp as the unit's and every object's, last numbers 0", and the bounds given
abbrev pub start_of : Opening → Start
start_of (by_values n vs los his t) =
    record { timestamp = t; lasts = replicate clients 0; versions = map (λ v. record { stamp = t; value = v }) vs; bounds = bounds_from los his }

-- An object as tables are compared: "The limits join the object's record".
pub record Object : Type 0 where
  pub stamp : ℕ
  pub value : ℤ
  pub lower : ℤ
  pub upper : ℤ

-- one version and the bounds of each
abbrev pub objects_from : List Version → List Bounds → List Object
objects_from [] bs = []
objects_from (v ∷ vs) bs =
    let b : Bounds = get_or bs 0 no_bounds in
    record { stamp = v.stamp; value = v.value; lower = b.lower; upper = b.upper } ∷ objects_from vs (drop 1 bs)
