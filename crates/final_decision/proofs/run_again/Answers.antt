-- The values of the committed state are gathered, and the body is run on them; stamps and bounds are lent.
use Rattle.std.proofs.Common.{refl}
use Rattle.final_decision.specs.Decide.{rerun_laid, rerun_sorted, values-formed, bounds-there, values-ran}
use Rattle.final_decision.proofs.run_again.Goals as goal

pub committed_values-n-requires : goal.committed_values-n-requires
committed_values-n-requires c =
    let s = c.requires.sane in
    let p = c.requires.rerunning.0 in
    (s.0, rerun_laid s.0 s.1 p, rerun_sorted s.0 s.1 p, refl)

pub run-requires-clause-body_value : goal.run-requires-clause-body_value
run-requires-clause-body_value c =
    let s = c.requires.sane in
    let p = c.requires.rerunning in
    (values-formed s.0 s.1 p.0 c.committed_values-n.ensures, refl, p.1)

pub run-requires-clause-bounds_within : goal.run-requires-clause-bounds_within
run-requires-clause-bounds_within c =
    let s = c.requires.sane in
    bounds-there s.0 s.1 c.requires.rerunning.0 c.committed_values-n.ensures c.objects_place-objects.ensures

pub returns : goal.returns
returns c =
    let s = c.requires.sane in
    record {
      ran = λ p. values-ran s.0 s.1 p c.committed_values-n.ensures c.objects_place-objects.ensures _ _ _ c.run.ensures.run c.run.ensures.lent c.run.ensures.count;
    }
