-- The calls on the two areas, as the public contracts cite them. Assumes nothing.
use Rattle.std.specs.Prelude.{Bool, cond, List, [], ◌∷◌}
use Rattle.model.specs.declared.Limits.{Limits}
use Rattle.model.specs.Interface.{Call, opening, update, query, read, find, show_body, dry_run, Answer, refused}
use Rattle.model.specs.Calls.{body, refusal, judged}
use Rattle.model.specs.Replica.{Replica, facts, perform}
use Rattle.layout.specs.Layout.{Areas, parse, print, lengths}
use Rattle.layout.specs.Fit.{fit}

-- what a call asks of the areas; an opening looks at their lengths alone
abbrev pub asked : Limits → Call → Areas → Bool
asked l (opening o) a = lengths l a
asked l (update c) a = fit l a
asked l (query q) a = fit l a

-- the answer where the areas are not as asked: 1; of Show body "the empty part exactly when Find refuses"
abbrev pub unfit : Call → Answer
unfit (opening o) = refused 1
unfit (update c) = refused 1
unfit (query (read r o)) = refused 1
unfit (query (find c s)) = refused 1
unfit (query (show_body c s)) = body []
unfit (query (dry_run c s)) = refused 1

abbrev pub printed : {A : Type 0} → Limits → A × Replica → A × Areas
printed l r = (r.0, print l r.1)

-- a call on areas: a refusal leaves them as they are
unfoldable pub act : Limits → Call → Areas → Answer × Areas
act l c a =
    cond (asked l c a) (judged a (printed l (perform l (parse l a) c)) (refusal l (facts (parse l a)) c)) (unfit c, a)

-- a list of calls: the answers in order, and the areas after them
unfoldable pub acts : Limits → List Call → Areas → List Answer × Areas
acts l [] a = ([], a)
acts l (c ∷ cs) a =
    let r : List Answer × Areas = acts l cs (act l c a).1 in ((act l c a).0 ∷ r.0, r.1)
