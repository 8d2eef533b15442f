-- What `admit` says of the replica that the areas hold is a refusal, or what `commit_at` asks.
use Rattle.std.proofs.Common.{rules}
use Rattle.std.proofs.lemmas.Result.{err_from_is_err_and}
use Rattle.cells.specs.Cells.{Below}
use Rattle.final_admission.specs.Admission.{Shaped, shaped-passed, admits_at, admits_refused}
use Rattle.final_delivery.specs.Deliver.{met-refused, fit_found, met-committed}
use Rattle.final_delivery.proofs.deliver_final.Goals as goal
use Rattle.final_delivery.proofs.deliver_final.Goals.{Start}

-- the areas at entry
shaped : (c : Start) → Below 256 c.args.records.now → (let a = c.args in Shaped a.l (a.records.now, a.bodies.now))
shaped c bytes = record { sane = c.requires.supported.sane; bytes = bytes; fits = c.requires.bodies_value }

pub admit-requires-clause-holding : goal.admit-requires-clause-holding
admit-requires-clause-holding c =
    let q = shaped (goal.at.admit-requires-clause-holding c).Start (search rules) in
    record { replica = _; holds = (shaped-passed q).holds }

pub commit_at-done-requires-clause-found : goal.commit_at-done-requires-clause-found
commit_at-done-requires-clause-found c =
    let q = shaped (goal.at.commit_at-done-requires-clause-found c).Start (search rules) in
    let f = admits_at (shaped-passed q).holds c.admit.ensures c.in_ok-position.was in
    (fit_found q f, f.client)

pub returns-in_err-position : goal.returns-in_err-position
returns-in_err-position c =
    let q = shaped (goal.at.returns-in_err-position c).Start (search rules) in
    let p = err_from_is_err_and c.from_residual.result c.from_residual.ensures.1 in
    rw (p.1, p.2) (met-refused q _ (admits_refused (shaped-passed q).holds c.admit.ensures c.in_err-position.was))

pub returns : goal.returns
returns c =
    let q = shaped (goal.at.returns c).Start (search rules) in
    met-committed q (admits_at (shaped-passed q).holds c.admit.ensures c.in_ok-position.was) c.commit_at-done.ensures
