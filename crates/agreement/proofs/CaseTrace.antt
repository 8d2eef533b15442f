-- The trace of a starred case on areas of 30,160 and 5,664 bytes, whatever they hold. Assumes nothing.
use Rattle.std.specs.Prelude.{◌≡◌, true, ◌≤◌, length}
use Rattle.std.proofs.Common.{arith}
use Rattle.arith.specs.Integer.{fits}
use Rattle.model.specs.Lists.{all}
use Rattle.model.specs.Calls.{last_timestamp}
use Rattle.model.specs.Limits.{standard}
use Rattle.model.specs.ListLaws.{All}
use Rattle.model.proofs.ShapeKept.{Typed, plain-typed}
use Rattle.model.specs.Cases.{Case}
use Rattle.layout.specs.Layout.{Areas}
use Rattle.layout.proofs.OffsetLaws.{standard-sane}
use Rattle.agreement.specs.Trace.{Trace}
use Rattle.agreement.proofs.TraceLaws.{right-lengths, trace_on}

-- arguments that the code's types can hold
abbrev pub Small : Case → Type 0
Small x = (1 ≤ length x.0) × (length x.0 ≤ 128) × All Typed x.1

module _ (a : Areas) (e : length a.0 ≡ 30160) (f : length a.1 ≡ 5664) where
  unfoldable pub trace : (x : Case) → Small x → all fits x.0 ≡ true → Trace standard
  unfolding standard last_timestamp
  trace x h v =
      trace_on standard standard-sane a (right-lengths standard a e f) x.0 0 x.1 h.0 h.1 (plain-typed x.0 0 v (omega arith), h.2)
