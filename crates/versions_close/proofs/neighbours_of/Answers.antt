-- A turn with a cell on either side, and the end.
use Rattle.std.proofs.Common.{◌≡◌, max, min, ltb, leb}
use Rattle.versions_close.specs.Beside.{lower-start, upper-start, max-taken, min-taken, greater_high, smaller_low, beside-next, beside_end}
use Rattle.versions_close.proofs.neighbours_of.Goals as goal
use Rattle.versions_close.proofs.neighbours_of.Goals.{then-x-c, else-x-c}

pub loop-i-init : goal.loop-i-init
loop-i-init c = record { upto = λ s. lower-start _ s _; above = λ u h. upper-start _ _ u h }

pub loop-i-preserved : goal.loop-i-preserved
loop-i-preserved c =
    let a = c.args in
    let i = c.loop-i in
    let x = c.get-x in
    elim c.if-x-c.branch [
      | then-x-c w ↦ let greater : c.if-x-c.p ≡ max i.p x.result = cc in record {
        upto = λ s. beside-next a.readers i.i a.snapshots.now c.requires s a.c _ (ltb s i.p) (i.invariant.upto s) c.loop-i-test.true x.result x.ensures (ltb s c.if-x-c.p)
            (rw greater (max-taken i.p x.result a.c w.if-x-c.true s));
        above = λ u h. beside-next a.readers i.i a.snapshots.now c.requires a.c u _ (leb i.q u) (i.invariant.above u h) c.loop-i-test.true x.result x.ensures (leb c.if-x-c.q u)
            (rw w.q-is (smaller_low i.q x.result a.c w.if-x-c.true u));
      }
      | else-x-c w ↦ let less : c.if-x-c.q ≡ min i.q x.result = cc in record {
        upto = λ s. beside-next a.readers i.i a.snapshots.now c.requires s a.c _ (ltb s i.p) (i.invariant.upto s) c.loop-i-test.true x.result x.ensures (ltb s c.if-x-c.p)
            (rw w.p-is (greater_high i.p x.result a.c w.if-x-c.false s));
        above = λ u h. beside-next a.readers i.i a.snapshots.now c.requires a.c u _ (leb i.q u) (i.invariant.above u h) c.loop-i-test.true x.result x.ensures (leb c.if-x-c.q u)
            (rw less (min-taken i.q x.result a.c w.if-x-c.false u));
      }
    ]

pub returns : goal.returns
returns c =
    let a = c.args in
    let i = c.loop-i in
    record {
      upto = λ s. beside_end a.readers i.i a.snapshots.now c.requires s a.c _ (ltb s i.p) (i.invariant.upto s) c.loop-i-test.false;
      above = λ u h. beside_end a.readers i.i a.snapshots.now c.requires a.c u _ (leb i.q u) (i.invariant.above u h) c.loop-i-test.false;
    }
