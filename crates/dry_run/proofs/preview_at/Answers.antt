-- The decision is the final delivery's, and the values are the committed ones with its write set over them.
use Rattle.std.proofs.Common.{refl, arith}
use Rattle.final_admission.specs.NextTimestamp.{timestamp-left}
use Rattle.final_decision.specs.FoundAt.{found-laid, found_deciding, outcome-small, stored-lent}
use Rattle.dry_run.specs.Values.{all-zero}
use Rattle.dry_run.specs.Foreseen.{places-inside, writes-placed, foreseen}
use Rattle.dry_run.proofs.preview_at.Goals as goal

pub committed_places-requires-clause-laid : goal.committed_places-requires-clause-laid
committed_places-requires-clause-laid c =
    let s = c.requires.sane in
    (found-laid s.0 s.1 c.requires.found, refl)

pub decide-d-requires-clause-deciding : goal.decide-d-requires-clause-deciding
decide-d-requires-clause-deciding c =
    let s = c.requires.sane in
    (found_deciding s.0 s.1 c.requires.found c.committed_places.ensures, refl)

pub gather-requires-clause-laid : goal.gather-requires-clause-laid
gather-requires-clause-laid c =
    let s = c.requires.sane in
    let p = c.requires.found in
    (found-laid s.0 s.1 p, places-inside s.0 s.1 p c.committed_places.ensures, refl)

pub slice_bounds-writes-end : goal.slice_bounds-writes-end
slice_bounds-writes-end c =
    let s = c.requires.sane in
    (stored-lent s.0 s.1 c.requires.found c.committed_places.ensures c.decide-d.ensures).0

pub slice_bounds-overlay-end-2 : goal.slice_bounds-overlay-end-2
slice_bounds-overlay-end-2 c =
    let s = c.requires.sane in
    (stored-lent s.0 s.1 c.requires.found c.committed_places.ensures c.decide-d.ensures).1

pub overlay-requires : goal.overlay-requires
overlay-requires c =
    let s = c.requires.sane in
    let p = c.requires.found in
    let places = c.committed_places.ensures in
    let d = c.decide-d.ensures in
    writes-placed s.0 s.1 p places d c.gather.new.values c.gather.ensures.room

pub next_timestamp-timestamp-requires : goal.next_timestamp-timestamp-requires
next_timestamp-timestamp-requires c =
    let p = c.requires.found in
    timestamp-left c.requires.sane.0 p.holds p.before

pub overflow_cast-result : goal.overflow_cast-result
overflow_cast-result c =
    let s = c.requires.sane in
    omega (arith, outcome-small s.0 s.1 c.requires.found c.committed_places.ensures c.decide-d.ensures)

pub returns : goal.returns
returns c =
    let s = c.requires.sane in
    record {
      shows = λ p cl sq. foreseen s.0 s.1 p c.committed_places.ensures c.decide-d.ensures (all-zero 128) c.gather.ensures
          c.overlay.new.table c.overlay.ensures.table c.overlay.ensures.size c.next_timestamp-timestamp.ensures cl sq;
    }
