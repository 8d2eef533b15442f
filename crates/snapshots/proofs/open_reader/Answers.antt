-- Each way out is a law of specs/ReaderAnswers.
use Rattle.std.proofs.Common.{◌≡◌, ◌+◌, ◌*◌, ◌≤◌, List, ℕ, length, arith}
use Rattle.std.proofs.lemmas.Result.{err_from_is_err_and}
use Rattle.model.specs.Calls.{open_reader, Answer}
use Rattle.model.specs.Replica.{Replica}
use Rattle.model.specs.Shape.{Shape}
use Rattle.layout.specs.Holds.{Holds}
use Rattle.layout.specs.Offsets.{reader_at}
use Rattle.layout.specs.Contract.{Answered, MetBeside}
use Rattle.layout.proofs.Reading.{cell-inside, timestamp-low}
use Rattle.layout.proofs.ContractLaws.{met-beside}
use Rattle.snapshots.specs.ReaderAnswers.{open_reader-bodies, open_no_reader, open_again, open_done}
use Rattle.snapshots.proofs.open_reader.Goals as goal
use Rattle.snapshots.proofs.open_reader.Goals.{Start, In_ok-at}

-- by what the call comes to for whichever replica the record area holds
met : (c : Start) {b : List ℕ} {r : Answer} → ((u : Replica) → Holds c.args.l c.args.records.now u → Shape c.args.l u → Answered c.args.l (open_reader c.args.reader) u b r)
    → MetBeside c.args.l (open_reader c.args.reader) c.args.records.now b r
met c = met-beside c.args.l c.requires.supported.sane (open_reader c.args.reader) c.args.records.now c.requires.holds_shaped.bytes _ _ (open_reader-bodies c.args.l c.args.reader)

-- the reader's cell lies in the area
inside : (c : In_ok-at) → c.in_ok-at.at * 8 + 8 ≤ length c.args.records.now
inside c =
    let p = c.requires.holds_shaped in
    let e = c.in_ok-at.ensures in
    omega (arith, e.1.exact, cell-inside c.args.l c.requires.supported.sane c.args.records.now p.replica p.holds (reader_at c.args.reader) (omega (arith, e.0)))

pub returns-in_err-at : goal.returns-in_err-at
returns-in_err-at c =
    let e = c.in_err-at.ensures in
    let p = err_from_is_err_and c.from_residual.result c.from_residual.ensures.1 in
    rw (p.1, p.2, e.0) (met (goal.at.returns-in_err-at c).Start (λ u h g. open_no_reader c.args.l c.requires.supported.sane c.args.records.now u h c.args.reader e.1))

pub get-requires : goal.get-requires
get-requires c = inside c

pub returns-then-get-gt0 : goal.returns-then-get-gt0
returns-then-get-gt0 c =
    let e = c.in_ok-at.ensures in
    met (goal.at.returns-then-get-gt0 c).Start
    (λ u h g. open_again c.args.l c.requires.supported.sane c.args.records.now u h c.args.reader e.0 _ e.1.exact c.get.result c.get.ensures c.if-get-gt0.true)

pub overflow_add-timestamp : goal.overflow_add-timestamp
overflow_add-timestamp c =
    let a = c.args in
    let p = c.requires.holds_shaped in
    omega (arith, c.get-timestamp.ensures, timestamp-low a.l c.requires.supported.sane a.records.now p.replica p.holds p.shape)

pub put-requires : goal.put-requires
put-requires c = inside (goal.at.put-requires c).In_ok-at

pub returns : goal.returns
returns c =
    let e = c.in_ok-at.ensures in
    let x = c.get in
    let t = c.get-timestamp in
    let shut : x.result ≡ 0 = omega arith in
    met (goal.at.returns c).Start
    (λ u h g. open_done c.args.l c.requires.supported.sane c.args.records.now u h c.args.reader e.0 _ e.1.exact x.result x.ensures shut g t.result t.ensures _ c.put.ensures)
