-- Of the list as it stands, restarting all from i on gives what is asked.
use Rattle.std.proofs.Common.{◌≡◌}
use Rattle.host.specs.HostRestart.{restarted_behind}
use Rattle.host.proofs.jobstore_restart_from.Given as goal

abbrev pub invariant-loop-i : goal.invariant-loop-i
invariant-loop-i l = restarted_behind l.i l.rows ≡ restarted_behind l.place l.initial.rows
