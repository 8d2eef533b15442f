-- The answer at each object decides, and so does that at all: `blocks-decided`.
use Rattle.std.proofs.Common.{◌≡◌, true, false, List, [], ℕ, sym, rules}
use Rattle.cells.specs.Cells.{cells}
use Rattle.versions.specs.Block.{object_ok}
use Rattle.shape_versions_quick.specs.EachObject.{blocks-decided}
use Rattle.shape_versions.proofs.objects_alone.Goals as goal

pub returns : goal.returns
returns c =
    let a = c.args in
    let rc : List ℕ = [] in
    let e = c.each_object.ensures in
    blocks-decided a.readers a.timestamp rc a.blocks.now a.n c.each_object.result
    (λ yes i h.
    let k = e.passed yes i h in
    let met = k.says.met in
    let at : true ≡ object_ok a.readers a.timestamp rc (cells k.shown.now) = search rules in
    rw (← c.object_cells-width.ensures, ← k.shows) (sym at))
    (λ no.
    let (i, h, k) = e.failed no in
    let met = k.says.met in
    let at : false ≡ object_ok a.readers a.timestamp rc (cells k.shown.now) = search rules in
    (i, h, rw (← c.object_cells-width.ensures, ← k.shows) (sym at)))
