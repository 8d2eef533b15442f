-- What the counters are after a delivery and after work, and the number that a delivery answers. Assumes nothing.
use Rattle.std.specs.Prelude.{cond, ℕ, ◌+◌, leb}
use Rattle.model.specs.Calls.{last_timestamp}
use Rattle.host.specs.declared.Counters.{Counters}

-- "the stamp up by 1"; the highest stays
abbrev pub timestamp_after : ℕ → ℕ
timestamp_after t = cond (leb last_timestamp t) t (t + 1)

-- "at the highest stamp, 9"
abbrev pub number_of_delivery : ℕ → ℕ
number_of_delivery t = cond (leb last_timestamp t) 9 0

-- "one delivery counted: the stamp up by 1, its other counts as before; at the highest stamp, 9 and no change"
abbrev pub delivered : Counters → Counters
delivered c = record { timestamp = timestamp_after c.timestamp; pending = c.pending; finished = c.finished }

-- as many finished as work answered; more than are pending are not taken, and the count stays
abbrev pub finished_after : ℕ → ℕ → ℕ → ℕ
finished_after pending before k = cond (leb k pending) k before

-- work counted; the paper names no number for it, so none is answered
abbrev pub worked : Counters → ℕ → Counters
worked c k =
    record { timestamp = c.timestamp; pending = c.pending; finished = finished_after c.pending c.finished k }
