-- What follows from `specs/Cases`. Assumes nothing.
use Rattle.std.specs.Prelude.{◌≡◌, refl, map}
use Rattle.model.specs.Calls.{seen}
use Rattle.model.proofs.Computing.{computing}
use Rattle.model.specs.Cases.{outcome, cases, expected, on_replica, on_serial, serially, bounded_programs, alone, worked_on, run_again, kept, run_serially, History, bounded_histories, called, stamp_history, rework_history}

pub cases-hold : map outcome cases ≡ expected
unfolding computing outcome cases expected
cases-hold = refl

unfoldable bounding : Unit {0}
unfolding computing serially on_replica on_serial
bounding = tt

-- run at the final delivery; worked on first, and kept; and on the serial table
pub bounded_programs-hold :
    (map (λ x. on_replica (alone x.0)) bounded_programs ≡ map run_again bounded_programs)
    × (map (λ x. on_replica (worked_on x.0)) bounded_programs ≡ map kept bounded_programs)
    × (map (λ x. on_serial (alone x.0)) bounded_programs ≡ map run_serially bounded_programs)
unfolding bounding bounded_programs
bounded_programs-hold = (refl, refl, refl)

pub bounded_histories-hold :
    (map (λ x. on_replica (called x)) bounded_histories ≡ map (λ (x : History). (map (λ c. c.1) x.0, x.1)) bounded_histories)
    × (map (λ x. on_serial (called x)) bounded_histories ≡ map (λ (x : History). (map (λ c. seen c.1) x.0, x.1)) bounded_histories)
unfolding bounding bounded_histories
bounded_histories-hold = (refl, refl)

pub stamp_history-holds :
    (on_replica (called stamp_history) ≡ (map (λ c. c.1) stamp_history.0, stamp_history.1))
    × (on_serial (called stamp_history) ≡ (map (λ c. seen c.1) stamp_history.0, stamp_history.1))
unfolding bounding stamp_history
stamp_history-holds = (refl, refl)

pub rework_history-holds :
    (on_replica (called rework_history) ≡ (map (λ c. c.1) rework_history.0, rework_history.1))
    × (on_serial (called rework_history) ≡ (map (λ c. seen c.1) rework_history.0, rework_history.1))
unfolding bounding rework_history
rework_history-holds = (refl, refl)
