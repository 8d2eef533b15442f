-- Each step leaves what the next one asks.
use Rattle.std.proofs.Common.{refl, arith}
use Rattle.final_admission.specs.NextTimestamp.{timestamp-left}
use Rattle.final_decision.specs.FoundAt.{found-laid, found_deciding, outcome-small, stored-lent, stored-few, operations-few}
use Rattle.final_delivery.specs.Commit.{found-few, found_publishing, found_marking, found_paired, found-walking, found-done}
use Rattle.final_delivery.proofs.commit_at.Goals as goal

pub committed_places-requires-clause-laid : goal.committed_places-requires-clause-laid
committed_places-requires-clause-laid c =
    let s = c.requires.sane in
    (found-laid s.0 s.1 c.requires.found.0, refl)

pub decide-d-requires-clause-deciding : goal.decide-d-requires-clause-deciding
decide-d-requires-clause-deciding c =
    let s = c.requires.sane in
    (found_deciding s.0 s.1 c.requires.found.0 c.committed_places.ensures, refl)

pub next_timestamp-timestamp-requires : goal.next_timestamp-timestamp-requires
next_timestamp-timestamp-requires c =
    let p = c.requires.found.0 in
    timestamp-left c.requires.sane.0 p.holds p.before

pub slice_bounds-writes-end : goal.slice_bounds-writes-end
slice_bounds-writes-end c =
    let s = c.requires.sane in
    (stored-lent s.0 s.1 c.requires.found.0 c.committed_places.ensures c.decide-d.ensures).0

pub slice_bounds-publish-end : goal.slice_bounds-publish-end
slice_bounds-publish-end c =
    let s = c.requires.sane in
    (stored-lent s.0 s.1 c.requires.found.0 c.committed_places.ensures c.decide-d.ensures).1

pub publish-requires-clause-few : goal.publish-requires-clause-few
publish-requires-clause-few c =
    let s = c.requires.sane in
    let p = c.requires.found in
    found-few s.0 s.1 p.0 p.1

pub publish-requires-clause-publishing : goal.publish-requires-clause-publishing
publish-requires-clause-publishing c =
    let s = c.requires.sane in
    let p = c.requires.found in
    found_publishing s.0 s.1 p.0 p.1 c.committed_places.ensures c.decide-d.ensures c.next_timestamp-timestamp.ensures

pub mark-requires-clause-marking : goal.mark-requires-clause-marking
mark-requires-clause-marking c =
    let s = c.requires.sane in
    let p = c.requires.found in
    found_marking s.0 s.1 p.0 p.1 c.committed_places.ensures c.decide-d.ensures c.next_timestamp-timestamp.ensures c.publish.ensures

pub leave-requires-clause-paired : goal.leave-requires-clause-paired
leave-requires-clause-paired c =
    let s = c.requires.sane in
    let p = c.requires.found in
    found_paired s.0 s.1 p.0 p.1 c.committed_places.ensures c.decide-d.ensures c.next_timestamp-timestamp.ensures c.publish.ensures c.mark.ensures

pub walk-requires-clause-walking : goal.walk-requires-clause-walking
walk-requires-clause-walking c =
    let s = c.requires.sane in
    let p = c.requires.found in
    found-walking s.0 s.1 p.0 p.1 c.committed_places.ensures c.decide-d.ensures c.next_timestamp-timestamp.ensures c.publish.ensures c.mark.ensures
    c.leave.ensures

-- ---- the answer's numbers are small

pub overflow_cast-result : goal.overflow_cast-result
overflow_cast-result c =
    let s = c.requires.sane in
    omega (arith, outcome-small s.0 s.1 c.requires.found.0 c.committed_places.ensures c.decide-d.ensures)

pub overflow_cast-result-2 : goal.overflow_cast-result-2
overflow_cast-result-2 c =
    let s = c.requires.sane in
    omega (arith, stored-few s.0 s.1 c.requires.found.0 c.committed_places.ensures c.decide-d.ensures)

pub overflow_cast-result-3 : goal.overflow_cast-result-3
overflow_cast-result-3 c =
    let s = c.requires.sane in
    omega (arith, operations-few s.0 s.1 c.requires.found.0 c.committed_places.ensures c.decide-d.ensures)

pub returns : goal.returns
returns c =
    let s = c.requires.sane in
    record {
      answered = λ p known. found-done s.0 s.1 p known c.committed_places.ensures c.decide-d.ensures c.next_timestamp-timestamp.ensures c.publish.ensures
          c.mark.ensures c.leave.ensures c.walk.ensures refl refl refl refl refl;
    }
