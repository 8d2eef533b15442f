-- The new version is the newest, `rebuild` keeps those of the others that are held, and the model's bound on the versions of an object after a commit
-- says that there is room.
use Rattle.std.proofs.Common.{◌∙◌, ap, ◌-◌, ◌^◌, List, ℕ, w64, of_z, to_z-of_z, arith, rules}
use Rattle.cells.specs.Cells.{cells, uncells, Below}
use Rattle.cells.specs.CellLaws.{cells-below, length_cells-whole}
use Rattle.versions.proofs.Round.{count-few, ok-framed}
use Rattle.versions_push.specs.Push.{push_done, push_room}
use Rattle.versions_push.proofs.push_version.Goals as goal

pub rebuild-requires : goal.rebuild-requires
rebuild-requires c =
    let a = c.args in
    let rc : List ℕ = cells a.snapshots.now in
    let bc : List ℕ = cells a.block.now in
    let bytes : Below 256 a.block.now = λ i. search rules in
    let below : Below (2 ^ 64) bc = cells-below a.block.now bytes in
    let few = count-few a.readers bc (ok-framed a.readers (a.stamp - 1) rc bc c.requires.2) in
    let room = push_room a.readers (a.stamp - 1) a.value rc bc below c.requires.2 a.stamp (omega arith) (length_cells-whole a.readers a.snapshots.now c.requires.0.reader_cells) in
    record { lent = c.requires.0; behind = omega arith; inside = omega (arith, few, c.get-count.ensures); room = rw c.get-count.ensures room }

pub returns : goal.returns
returns c =
    let a = c.args in
    let rc : List ℕ = cells a.snapshots.now in
    let bc : List ℕ = cells a.block.now in
    let bytes : Below 256 a.block.now = λ i. search rules in
    let below : Below (2 ^ 64) bc = cells-below a.block.now bytes in
    c.rebuild.ensures
    ∙ ap uncells (push_done a.readers (a.stamp - 1) a.value rc bc below c.requires.2 a.stamp (omega arith) c.get-count.result c.unsigned-v.result c.get-count.ensures (c.unsigned-v.ensures ∙ ap (of_z w64) (to_z-of_z c.ranges.value)))
