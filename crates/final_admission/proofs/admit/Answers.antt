-- Each test says what it says of every replica that the area holds.
use Rattle.std.proofs.Common.{◌<◌}
use Rattle.std.proofs.lemmas.Result.{err_from_is_err_and}
use Rattle.model.specs.Calls.{clients, last_timestamp}
use Rattle.model.specs.Replica.{Replica}
use Rattle.layout.specs.Holds.{Holds}
use Rattle.final_admission.specs.Admission.{Fresh, Standing, no_client, is_spent, is-fresh, is-missing, is-standing, is_last, is-admitted}
use Rattle.final_admission.proofs.admit.Goals as goal
use Rattle.final_admission.proofs.admit.Goals.{Else-client-ge-CLIENTS, Else-is_spent, In_ok-position}

-- a client's key
client : (c : Else-client-ge-CLIENTS) → c.args.client < clients
unfolding clients
client c = c.if-client-ge-CLIENTS.false

-- that is not spent
fresh : (c : Else-is_spent) (u : Replica) → Holds c.args.l c.args.records.now u → Fresh u c.args.client c.args.sequence
unfolding clients
fresh c u h = is-fresh c.requires.sane h c.if-client-ge-CLIENTS.false c.is_spent.ensures c.if-is_spent.false

-- and stands in the queue
standing : (c : In_ok-position) (u : Replica) → Holds c.args.l c.args.records.now u → Standing u c.args.client c.args.sequence c.in_ok-position.position.0
unfolding clients
standing c u h =
    let f = is-fresh c.requires.sane h c.if-client-ge-CLIENTS.false c.is_spent.ensures c.if-is_spent.false in
    is-standing c.requires.sane h f c.locate-place.ensures c.in_ok-position.ensures.ok_part

pub returns-then-client-ge-CLIENTS : goal.returns-then-client-ge-CLIENTS
unfolding clients
returns-then-client-ge-CLIENTS c =
    record { judged = λ u h. no_client c.requires.sane h c.args.sequence c.if-client-ge-CLIENTS.true }

pub is_spent-requires-clause-sane : goal.is_spent-requires-clause-sane
is_spent-requires-clause-sane c = (c.requires.sane, client c)

pub returns-then-is_spent : goal.returns-then-is_spent
unfolding clients
returns-then-is_spent c =
    record { judged = λ u h. is_spent c.requires.sane h c.if-client-ge-CLIENTS.false c.is_spent.ensures c.if-is_spent.true }

pub returns-in_err-position : goal.returns-in_err-position
returns-in_err-position c =
    let f = fresh (goal.at.returns-in_err-position c).Else-is_spent in
    let p = err_from_is_err_and c.from_residual.result c.from_residual.ensures.1 in
    rw (p.1, p.2) (record { judged = λ u h. is-missing c.requires.sane h (f u h) c.locate-place.ensures c.in_err-position.ensures.value })

pub returns-then-get-ge-LAST_TIMESTAMP : goal.returns-then-get-ge-LAST_TIMESTAMP
unfolding last_timestamp
returns-then-get-ge-LAST_TIMESTAMP c =
    let w = standing (goal.at.returns-then-get-ge-LAST_TIMESTAMP c).In_ok-position in
    record { judged = λ u h. is_last c.requires.sane h (w u h) c.get.ensures c.if-get-ge-LAST_TIMESTAMP.true }

pub returns : goal.returns
unfolding last_timestamp
returns c =
    let w = standing (goal.at.returns c).In_ok-position in
    record { judged = λ u h. is-admitted c.requires.sane h (w u h) c.get.ensures c.if-get-ge-LAST_TIMESTAMP.false }
