-- From the first transaction that no longer matches on, all go back to their start.
use Rattle.final_walk.specs.Walk.{walk-done}
use Rattle.final_walk.proofs.walk.Goals as goal

pub returns : goal.returns
returns c = walk-done c.first_stale-stale.ensures c.restart_from.ensures
