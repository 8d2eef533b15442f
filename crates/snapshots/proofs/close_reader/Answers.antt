-- Each way out is a law of specs/ReaderAnswers.
use Rattle.std.proofs.Common.{refl, ◌+◌, ◌*◌, ◌-◌, ◌≤◌, ◌<◌, List, ℕ, length, replicate, arith, length-take-le}
use Rattle.std.proofs.Math.ListN.{set}
use Rattle.std.proofs.Math.Option.{none}
use Rattle.std.proofs.lemmas.Result.{err_from_is_err_and}
use Rattle.model.specs.Calls.{close_reader, Answer}
use Rattle.model.specs.Replica.{Replica}
use Rattle.model.specs.Shape.{Shape}
use Rattle.layout.specs.Holds.{Holds, with_readers}
use Rattle.layout.specs.Offsets.{reader_at}
use Rattle.layout.specs.Contract.{Answered, MetBeside}
use Rattle.layout.proofs.Reading.{cell-inside}
use Rattle.layout.proofs.ContractLaws.{met-beside}
use Rattle.snapshots.specs.ReaderAnswers.{close_reader-bodies, last-small, before-close, close_no_reader, put-cell, close_not_open, close_done}
use Rattle.snapshots.proofs.close_reader.Goals as goal
use Rattle.snapshots.proofs.close_reader.Goals.{Start, In_ok-at}

-- by what the call comes to for whichever replica the record area holds
met : (c : Start) {b : List ℕ} {r : Answer} → ((u : Replica) → Holds c.args.l c.args.records.now u → Shape c.args.l u → Answered c.args.l (close_reader c.args.reader) u b r)
    → MetBeside c.args.l (close_reader c.args.reader) c.args.records.now b r
met c = met-beside c.args.l c.requires.supported.sane (close_reader c.args.reader) c.args.records.now c.requires.holds_shaped.bytes _ _ (close_reader-bodies c.args.l c.args.reader)

-- the reader's cell lies in the area
inside : (c : In_ok-at) → c.in_ok-at.at * 8 + 8 ≤ length c.args.records.now
inside c =
    let p = c.requires.holds_shaped in
    let e = c.in_ok-at.ensures in
    omega (arith, e.1.exact, cell-inside c.args.l c.requires.supported.sane c.args.records.now p.replica p.holds (reader_at c.args.reader) (omega (arith, e.0)))

pub returns-in_err-at : goal.returns-in_err-at
returns-in_err-at c =
    let e = c.in_err-at.ensures in
    let p = err_from_is_err_and c.from_residual.result c.from_residual.ensures.1 in
    rw (p.1, p.2, e.0) (met (goal.at.returns-in_err-at c).Start (λ u h g. close_no_reader c.args.l c.requires.supported.sane c.args.records.now u h c.args.reader e.1))

pub get-cell-requires : goal.get-cell-requires
get-cell-requires c = inside c

pub returns-then-cell-eq0 : goal.returns-then-cell-eq0
returns-then-cell-eq0 c =
    let e = c.in_ok-at.ensures in
    let x = c.get-cell in
    met (goal.at.returns-then-cell-eq0 c).Start
    (λ u h g. close_not_open c.args.l c.requires.supported.sane c.args.records.now u h c.args.reader e.0 _ e.1.exact x.result x.ensures c.if-cell-eq0.true)

pub put-requires : goal.put-requires
put-requires c = inside (goal.at.put-requires c).In_ok-at

pub prune-requires : goal.prune-requires
prune-requires c =
    let a = c.args in
    let s = c.requires.supported.sane in
    let p = c.requires.holds_shaped in
    let e = c.in_ok-at.ensures in
    let x = c.get-cell in
    let w = c.put in
    let open_cell : 0 < x.result = omega arith in
    let fit : a.l.readers * 8 ≤ 128 = omega (arith, c.requires.supported.readers) in
    record {
      sane = s;
      replica = with_readers (set p.replica.readers a.reader none) p.replica;
      holds = put-cell a.l s a.records.now p.replica p.holds a.reader e.0 _ e.1.exact none (omega arith) 0 refl w.new.area w.ensures;
      reader = x.result - 1;
      cell = omega arith;
      few = omega (arith, last-small, p.shape.encoded.timestamp);
      versions = before-close a.l s a.records.now p.replica p.holds a.reader e.0 _ e.1.exact x.result x.ensures open_cell p.shape;
      room = length-take-le (a.l.readers * 8) (replicate 128 0) fit;
    }

pub returns : goal.returns
returns c =
    let e = c.in_ok-at.ensures in
    let x = c.get-cell in
    let open_cell : 0 < x.result = omega arith in
    met (goal.at.returns c).Start
    (λ u h g. close_done c.args.l c.requires.supported.sane c.args.records.now u h c.args.reader e.0 _ e.1.exact x.result x.ensures open_cell g c.put.new.area _ c.put.ensures c.prune.ensures)
