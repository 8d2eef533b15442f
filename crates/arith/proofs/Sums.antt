-- What the library's checked sums and differences answer is `bounded`. Assumes nothing.
use Rattle.std.specs.Prelude.{◌≡◌, refl, Bool, true, false, ℤ, Option, Some, None}
use Rattle.std.proofs.Common.{FitsSigned, w64}
use Rattle.std.specs.Option.{SomeIff}
use Rattle.arith.specs.Integer.{fits, bounded}
use Rattle.arith.proofs.IntegerLaws.{fits→SFits, SFits→fits}

pub checked : (r : Option ℤ) (z : ℤ) → SomeIff r (FitsSigned w64 z) z → r ≡ bounded z
checked (Some x) z h = rw (SFits→fits h.0, h.1) refl
checked None z h = by (fits z) refl
  where
    by : (t : Bool) → fits z ≡ t → None ≡ bounded z
    by true e = absurd (h (fits→SFits z e))
    by false e = rw e refl
