-- S-14 at work: on areas with any contents two transactions are delivered early and worked on, and a planner exchanges their final deliveries.
-- Assumes nothing.
use Rattle.std.specs.Prelude.{◌≡◌, true, List, [], ◌∷◌, ℕ, ℤ, pos}
use Rattle.std.proofs.Math.Path.{refl}
use Rattle.std.proofs.Common.{ap, ◌∙◌, arith}
use Rattle.arith.specs.Integer.{fits}
use Rattle.operation.specs.Encode.{encode}
use Rattle.operation.specs.declared.Operation.TheVariants.{Load, Store, Set, Add}
use Rattle.model.specs.Calls.{Call, optimistic, execute, last_timestamp}
use Rattle.model.proofs.ShapeKept.{plain-typed}
use Rattle.model.specs.Limits.{standard}
use Rattle.model.specs.Replica.{Replica}
use Rattle.model.specs.Exchange.{Key, exchangeable, deliverable, may_pass, apart, disjoint, alone}
use Rattle.model.proofs.Computing.{computing}
use Rattle.layout.specs.Layout.{Areas, lengths}
use Rattle.layout.proofs.OffsetLaws.{standard-sane}
use Rattle.agreement.specs.Trace.{Trace, areas}
use Rattle.agreement.proofs.TraceLaws.{trace_on, last, replica-same}
use Rattle.agreement.specs.ExchangeOnAreas.{Exchanged}
use Rattle.agreement.proofs.ExchangeOnAreasLaws.{exchange}

-- 5 more in object 0
abbrev adds : List ℕ
adds = encode (Load 0 0 ∷ Set 1 (pos 5) ∷ Add 0 1 ∷ Store 0 0 ∷ [])

-- object 1 copied to object 2
abbrev copies : List ℕ
copies = encode (Load 0 1 ∷ Store 0 2 ∷ [])

abbrev start : List ℤ
start = pos 10 ∷ pos 20 ∷ pos 30 ∷ []

abbrev works_ahead : List Call
works_ahead = optimistic 1 1 adds ∷ optimistic 2 1 copies ∷ execute 5 ∷ []

abbrev first : Key
first = record { client = 1; sequence = 1 }

abbrev second : Key
second = record { client = 2; sequence = 1 }

module _ (a : Areas) (e : lengths standard a ≡ true) where
  pub planned : Trace standard
  unfolding standard last_timestamp fits
  planned =
      trace_on standard standard-sane a e start 0 works_ahead (omega arith) (omega arith) (plain-typed start 0 refl (omega arith), omega arith)

  may_change : exchangeable (last planned) (first ∷ second ∷ []) ≡ true
  unfolding planned computing exchangeable deliverable may_pass apart disjoint alone
  may_change = refl

  pub example_exchanged : Exchanged standard (areas planned) first second
  example_exchanged =
      exchange planned first second (ap (λ (u : Replica). exchangeable u (first ∷ second ∷ [])) (replica-same planned) ∙ may_change)
