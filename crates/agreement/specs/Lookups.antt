-- S-3 of document 02, for the analysts who asked: how many versions a read looks at, on the two lent areas. Assumes nothing.
use Rattle.std.specs.Prelude.{◌≡◌, List, ◌∷◌, ℕ, suc, ◌≤◌}
use Rattle.model.specs.declared.Limits.{Limits}
use Rattle.model.specs.Calls.{Call, open_reader}
use Rattle.model.proofs.UntouchedLaws.{store_count}
use Rattle.layout.specs.Act.{acts}
use Rattle.layout.specs.LentBlock.{versions_looked_at}
use Rattle.agreement.specs.Trace.{Trace, areas, replica}

-- Reader r was opened on these areas, and then came any calls but its close or a new opening: of object o's versions a read of it looks at these many.
abbrev pub looks_at : {l : Limits} → Trace l → ℕ → List Call → ℕ → ℕ
looks_at {l} x r cs o = versions_looked_at l (acts l (open_reader r ∷ cs) (areas x)).1.0 r o

-- how often accepted calls have stored the object since: its commits, since no opening is among them
abbrev pub commits_since : {l : Limits} → Trace l → ℕ → List Call → ℕ → ℕ
commits_since {l} x r cs o = store_count l o (replica x) (open_reader r ∷ cs)

pub record FewLookedAt {l : Limits} (x : Trace l) (r : ℕ) (cs : List Call) (o : ℕ) : Type 0 where
  pub recent : commits_since x r cs o ≡ 0 → looks_at x r cs o ≡ 1  -- a reader opened after the last commit of an object looks at one version,
  pub since : looks_at x r cs o ≤ suc (commits_since x r cs o)  -- in general at most one more than the commits of that object since it was opened,
  pub most : looks_at x r cs o ≤ suc l.readers  -- and never more than readers + 1
