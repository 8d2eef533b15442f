-- The rules hold of all objects where they hold of each: `blocks-passed`.
use Rattle.std.proofs.Common.{true, refl, rules}
use Rattle.cells.specs.Cells.{cells}
use Rattle.shape_versions_quick.specs.EachObject.{blocks-passed}
use Rattle.shape_versions_quick.specs.ObjectTests.{ObjectSound}
use Rattle.shape_versions_quick.proofs.objects_quick.Goals as goal

pub returns : goal.returns
returns c =
    let a = c.args in
    let b = a.b in
    let rc = cells b.snapshots.now in
    λ yes. blocks-passed b.readers b.timestamp rc a.blocks.now a.n (λ i h.
    let k = c.each_object.ensures.passed yes i h in
    let m = k.says.met in
    let sound : ObjectSound b.readers b.timestamp b.low c.sort_open.new.d.places k.shown.now true = search rules in
    rw (← c.object_cells-width.ensures, ← k.shows) (sound rc c.sort_open.ensures b.least refl))
