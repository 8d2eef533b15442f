-- All that a closed example of calls unfolds, under one name: `unfolding computing`. Assumes nothing.
use Rattle.arith.specs.Integer.{fits, rounds_up, quotient}
use Rattle.operation.specs.Body.{register_count, longest_skip, most_divisor, listed, operations, allowed, each, is_well_formed}
use Rattle.operation.specs.Encode.{written, encode}
use Rattle.execution.specs.Bounds.{inside}
use Rattle.execution.specs.Run.{sum, move, start, obey, step, steps, whole, counted, whole_count}
use Rattle.model.specs.Calls.{clients, most_work, last_timestamp, preview_places, numbers, causes, refusal}
use Rattle.model.specs.DryRun.{placed}
use Rattle.model.specs.Replica.{held, prune, install, advance, worked, work_count, restarted, walk, validated, result, rework, facts, commit, opened, perform, call, calls}
use Rattle.model.specs.Limits.{standard, small}

-- bodies and runs
unfoldable running : Unit {0}
unfolding fits inside rounds_up quotient register_count longest_skip most_divisor listed operations allowed each is_well_formed written encode sum move start obey step steps whole counted whole_count
running = tt

unfoldable pub computing : Unit {0}
unfolding running clients most_work last_timestamp preview_places numbers causes refusal placed held prune install advance worked work_count restarted walk validated result rework facts commit opened perform call calls standard small
computing = tt
