-- Demand 3 speaks of what the public calls ensure: a chain of calls that meet their contracts is a trace. Assumes nothing.
use Rattle.std.specs.Prelude.{◌≡◌, List, [], ◌∷◌}
use Rattle.model.specs.declared.Limits.{Limits}
use Rattle.model.specs.Calls.{Call, Answer}
use Rattle.layout.specs.Layout.{Areas}
use Rattle.layout.specs.Contract.{Met}
use Rattle.agreement.specs.Trace.{Trace, list, answers, areas}
use Rattle.agreement.specs.Agreement.{Demand3}

-- Calls, their answers, and the areas after the last: each meets its contract on the areas as the one before left them.
pub data AllMet (l : Limits) : Areas → List Call → List Answer → Areas → Type 0 where
  stop : {a : Areas} → AllMet l a [] [] a
  next : {a b z : Areas} {c : Call} {r : Answer} {cs : List Call} {rs : List Answer} → Met l c a r b → AllMet l b cs rs z → AllMet l a (c ∷ cs) (r ∷ rs) z

-- A chain is a trace, and demand 3 holds of it.
pub record Traced (l : Limits) (a : Areas) (cs : List Call) (rs : List Answer) (z : Areas) : Type 0 where
  pub trace : Trace l
  pub same_start : trace.before ≡ a
  pub same_calls : list trace ≡ cs
  pub same_answers : answers trace ≡ rs
  pub same_areas : areas trace ≡ z
  pub demand_3 : Demand3 trace
