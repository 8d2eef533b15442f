-- Two replicas of two kinds: a standard one gets S and T early and works ahead, a small one gets T before S, opens a reader and does no work. Both finally
-- deliver T, then S: their histories are equal, so they agree, on areas with any contents. Assumes nothing.
use Rattle.std.specs.Prelude.{◌≡◌, true, List, [], ◌∷◌, ℕ, ℤ, pos}
use Rattle.std.proofs.Math.Path.{refl, sym, ap}
use Rattle.std.proofs.Common.{◌∙◌, arith}
use Rattle.arith.specs.Integer.{fits}
use Rattle.operation.specs.Encode.{encode}
use Rattle.operation.specs.declared.Operation.TheVariants.{Load, Store}
use Rattle.model.specs.Calls.{plain, Call, optimistic, execute, final, open_reader, last_timestamp}
use Rattle.model.proofs.ShapeKept.{plain-typed}
use Rattle.model.specs.Start.{start_of}
use Rattle.model.specs.Replica.{opened}
use Rattle.model.specs.Limits.{standard, small}
use Rattle.model.proofs.Replicas as states
use Rattle.model.proofs.Replicas.{SameCommits}
use Rattle.model.proofs.Computing.{computing}
use Rattle.layout.specs.Layout.{Areas, lengths}
use Rattle.layout.proofs.OffsetLaws.{standard-sane, small-sane}
use Rattle.agreement.specs.Trace.{Trace, answers, replica}
use Rattle.agreement.proofs.TraceLaws.{trace_on, history-same}
use Rattle.agreement.proofs.AgreementLaws.{demand_3-on_areas}

abbrev S : List ℕ
S = encode (Load 0 0 ∷ Store 0 1 ∷ [])

abbrev T : List ℕ
T = encode (Load 0 1 ∷ Store 0 0 ∷ [])

abbrev start : List ℤ
start = pos 10 ∷ pos 20 ∷ []

abbrev works_ahead : List Call
works_ahead = optimistic 1 1 S ∷ optimistic 2 1 T ∷ execute 100 ∷ final 2 1 ∷ final 1 1 ∷ []

abbrev runs_late : List Call
runs_late = optimistic 2 1 T ∷ open_reader 0 ∷ optimistic 1 1 S ∷ final 2 1 ∷ final 1 1 ∷ []

same-history : states.history standard (opened standard (start_of (plain start 0))) works_ahead ≡ states.history small (opened small (start_of (plain start 0))) runs_late
unfolding computing states.history
same-history = refl

module _ (a b : Areas) (e : lengths standard a ≡ true) (f : lengths small b ≡ true) where
  pub ahead : Trace standard
  unfolding standard last_timestamp fits
  ahead =
      trace_on standard standard-sane a e start 0 works_ahead (omega arith) (omega arith) (plain-typed start 0 refl (omega arith), omega arith)

  pub behind : Trace small
  unfolding small last_timestamp fits
  behind =
      trace_on small small-sane b f start 0 runs_late (omega arith) (omega arith) (plain-typed start 0 refl (omega arith), omega arith)

  pub example_agrees : SameCommits (answers ahead, replica ahead) (answers behind, replica behind)
  unfolding ahead behind
  example_agrees =
      (demand_3-on_areas ahead).agreement behind (history-same ahead ∙ ap (states.reopening (start_of (plain start 0)) ∷◌) same-history ∙ sym (history-same behind))
