-- The copied cells say which readers are open, and the blocks that are lent are given back pruned.
use Rattle.std.proofs.Common.{◌≡◌, refl, sym, ap₂, ◌∙◌, ℕ, ◌+◌, ◌-◌, ◌*◌, ◌≤◌, List, ◌++◌, length, take, drop, ap, arith, append-nil, take_all, drop_of_length-le}
use Rattle.layout.specs.Holds.{Holds}
use Rattle.layout.specs.Offsets.{size_at, object_width}
use Rattle.layout.proofs.OffsetLaws.{blocks-span}
use Rattle.layout.proofs.Reading.{cell-inside, size-read, size_few, object-inside}
use Rattle.cells.specs.Cells.{cells}
use Rattle.model.specs.Replica.{Replica, opens}
use Rattle.versions.specs.Block.{stamps}
use Rattle.snapshots.specs.ReaderBlocks.{copied-readers, lent-checked, pruned-back}
use Rattle.snapshots.proofs.prune.Goals as goal
use Rattle.snapshots.proofs.prune.Goals.{After-size_at-size, After-get-n, After-object_at-end}

-- a copy as long as what it is put over is that alone
all-copied : (src old new : List ℕ) → length new ≡ length old → new ≡ src → new ≡ take (length src) src ++ drop (length src) old
all-copied src old new l e =
    e ∙ sym (ap₂ (λ (x y : List ℕ). x ++ y) (take_all (length src) src (omega arith)) (drop_of_length-le old {i = length src} (omega (arith, l, ap length e))) ∙ append-nil src)

-- the number of objects lies in the area, and so do their blocks
inside : (c : After-size_at-size) → c.size_at-size.result * 8 + 8 ≤ length c.args.records.now
inside c =
    let p = c.requires in
    omega (arith, c.size_at-size.ensures.exact, cell-inside c.args.l p.sane c.args.records.now p.replica p.holds (size_at c.args.l) (omega arith))

few : (c : After-get-n) → c.get-n.result ≤ c.args.l.objects
few c =
    let p = c.requires in
    size_few c.args.l p.sane c.args.records.now p.replica p.holds c.size_at-size.result c.get-n.result c.get-n.ensures c.size_at-size.ensures.exact

-- of whichever replica the area holds: how many objects it has, and which readers are open
module _ (c : After-object_at-end) (u : Replica) (h : Holds c.args.l c.args.records.now u) where
  count : c.get-n.result ≡ length u.objects
  count = size-read c.args.l c.requires.sane c.args.records.now u h c.size_at-size.result c.get-n.result c.get-n.ensures c.size_at-size.ensures.exact

  held : stamps (cells c.copy_from_slice.new.self) ≡ opens u.readers
  held =
      let a = c.args in
      let q = c.reader_at-readers in
      let z = c.size_at-size in
      let r = c.copy_from_slice in
      copied-readers a.l c.requires.sane a.records.now u h q.result z.result q.ensures.exact z.ensures.exact a.snapshots.now r.new.self c.requires.room (all-copied _ a.snapshots.now r.new.self r.ensures.len r.ensures.after)

span : (c : After-object_at-end) → c.object_at-end.result * 8 - c.object_at-first.result * 8 ≡ c.get-n.result * (object_width c.args.l * 8)
span c = blocks-span c.args.l c.get-n.result c.object_at-first.result c.object_at-end.result c.object_at-first.ensures.exact c.object_at-end.ensures.exact

pub slice_bounds-copy_from_slice-end : goal.slice_bounds-copy_from_slice-end
slice_bounds-copy_from_slice-end c = omega (arith, inside (goal.at.slice_bounds-copy_from_slice-end c).After-size_at-size)

pub get-n-requires : goal.get-n-requires
get-n-requires c = inside (goal.at.get-n-requires c).After-size_at-size

pub object_at-end-requires-clause-i_le_objects : goal.object_at-end-requires-clause-i_le_objects
object_at-end-requires-clause-i_le_objects c = few (goal.at.object_at-end-requires-clause-i_le_objects c).After-get-n

pub slice_bounds-prune_objects-end : goal.slice_bounds-prune_objects-end
slice_bounds-prune_objects-end c =
    let p = c.requires in
    let low = few (goal.at.slice_bounds-prune_objects-end c).After-get-n in
    omega (arith, object-inside c.args.l p.sane c.args.records.now p.replica p.holds c.get-n.result c.object_at-end.result low c.object_at-end.ensures.exact)

pub prune_objects-requires-clause-checked : goal.prune_objects-requires-clause-checked
prune_objects-requires-clause-checked c =
    let a = c.args in
    let p = c.requires in
    let f = c.object_at-first in
    let k = (goal.at.prune_objects-requires-clause-checked c).After-object_at-end in
    lent-checked a.l p.sane a.records.now p.replica p.holds c.get-n.result f.result _ (count k p.replica p.holds) f.ensures.exact (span k)
    p.replica.timestamp a.cell p.reader (cells c.copy_from_slice.new.self) p.cell p.few (held k p.replica p.holds) p.versions

pub returns : goal.returns
returns c =
    let a = c.args in
    let f = c.object_at-first in
    let k = (goal.at.returns c).After-object_at-end in
    λ u h. pruned-back a.l c.requires.sane a.records.now u h c.get-n.result f.result _ (count k u h) f.ensures.exact (span k) _ c.prune_objects.new.blocks _ (held k u h) c.prune_objects.ensures refl
