-- What `admit` says of the replica that the areas hold is a refusal, or what `preview_at` asks.
use Rattle.std.proofs.Common.{rules}
use Rattle.std.proofs.lemmas.Result.{err_from_is_err_and}
use Rattle.cells.specs.Cells.{Below}
use Rattle.final_admission.specs.Admission.{Shaped, shaped-passed, admits_at, admits_refused}
use Rattle.dry_run.specs.Tried.{tried-refused, tried_found, tried-accepted}
use Rattle.dry_run.proofs.dry_run.Goals as goal
use Rattle.dry_run.proofs.dry_run.Goals.{Start}

-- the areas at entry
shaped : (c : Start) → Below 256 c.args.records.now → (let a = c.args in Shaped a.l (a.records.now, a.bodies.now))
shaped c bytes = record { sane = c.requires.supported.sane; bytes = bytes; fits = c.requires.bodies_value }

pub admit-requires-clause-holding : goal.admit-requires-clause-holding
admit-requires-clause-holding c =
    let q = shaped (goal.at.admit-requires-clause-holding c).Start (search rules) in
    record { replica = _; holds = (shaped-passed q).holds }

pub preview_at-requires-clause-found : goal.preview_at-requires-clause-found
preview_at-requires-clause-found c =
    let q = shaped (goal.at.preview_at-requires-clause-found c).Start (search rules) in
    tried_found q _ _ (admits_at (shaped-passed q).holds c.admit.ensures c.in_ok-position.was)

pub returns-in_err-position : goal.returns-in_err-position
returns-in_err-position c =
    let q = shaped (goal.at.returns-in_err-position c).Start (search rules) in
    let p = err_from_is_err_and c.from_residual.result c.from_residual.ensures.1 in
    rw (p.1, p.2) (tried-refused q _ _ (admits_refused (shaped-passed q).holds c.admit.ensures c.in_err-position.was))

pub returns : goal.returns
returns c =
    let q = shaped (goal.at.returns c).Start (search rules) in
    tried-accepted q _ _ (admits_at (shaped-passed q).holds c.admit.ensures c.in_ok-position.was) c.preview_at.ensures
