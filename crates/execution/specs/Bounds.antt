-- An object's bounds (document 02, S-1: its lower and upper limit), and which values lie inside them. Assumes nothing.
use Rattle.std.specs.Prelude.{Bool, ◌&&◌, ℤ, pos, negsuc}
use Rattle.std.specs.Int.Signed.{le_z}

pub record Bounds : Type 0 where
  pub lower : ℤ
  pub upper : ℤ

-- of an object that is not there
abbrev pub no_bounds : Bounds
no_bounds = record { lower = pos 0; upper = pos 0 }

-- all of 64 bits: "Document 01's cases take the widest limits"
abbrev pub widest : Bounds
widest = record { lower = negsuc 9223372036854775807; upper = pos 9223372036854775807 }

-- "each lower limit not above its upper"
abbrev pub ordered : Bounds → Bool
ordered b = le_z b.lower b.upper

-- not below the lower bound and not above the upper one: a value at a bound is inside
unfoldable pub inside : Bounds → ℤ → Bool
inside b v = le_z b.lower v && le_z v b.upper
