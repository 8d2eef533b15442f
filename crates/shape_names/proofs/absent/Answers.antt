-- There is none where no block is found.
use Rattle.std.proofs.Common.{◌≡◌, ◌<◌, Bool, true, false, not, ℕ, Option, Some, None, MatchOption, sym, ◌∙◌, arith, le-leb}
use Rattle.std.proofs.Math.Dec.{leb}
use Rattle.std.proofs.lemmas.Bool.{lt-leb}
use Rattle.std.specs.Option.{is_some}
use Rattle.cells.specs.Cells.{cells}
use Rattle.shape_names.specs.NameTests.{absent-index}
use Rattle.shape_names.proofs.absent.Goals as goal

none_found : (r : Option ℕ) (b : Bool) (n i : ℕ) → is_some r ≡ not b → MatchOption r (i ≡ n) (λ j. (j < n) × (j ≡ i)) → b ≡ leb n i
none_found None true n i s e = sym (le-leb n i (omega arith))
none_found None false n i s e = cc
none_found (Some j) true n i s e = cc
none_found (Some j) false n i s (l, e) = sym (lt-leb n i (omega arith))

pub returns : goal.returns
returns c =
    let a = c.args in
    none_found c.key_index.result c.is_none.result a.count _ c.is_none.ensures c.key_index.ensures
    ∙ sym (absent-index a.width a.count a.key (cells a.blocks.now) c.requires.0)
