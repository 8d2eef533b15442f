-- A test of the header or of the number of objects that fails. The check finds these laws itself, whatever the code's tests compare with.
use Rattle.std.specs.Prelude.{◌≡◌, false, List, ℕ, ◌<◌, get_or}
use Rattle.std.proofs.Common.{refl, arith}
use Rattle.cells.specs.Cells.{cells}
use Rattle.model.specs.declared.Limits.{Limits}
use Rattle.layout.specs.Unchecked.{size_in}
use Rattle.shape_objects.specs.ObjectScan.{header_in, objects_in}
use Rattle.shape_objects.specs.HeaderParts.{header-late, objects-none, objects-many}

module _ (l : Limits) (xs : List ℕ) where
  pub late : 4294967295 < get_or (cells xs) 0 0 → false ≡ header_in l (cells xs)
  late h = header-late l xs (get_or (cells xs) 0 0) refl h

  pub none : size_in l (cells xs) < 1 → false ≡ objects_in l (cells xs)
  none h = objects-none l xs (size_in l (cells xs)) refl h

  pub many : 0 < size_in l (cells xs) → l.objects < size_in l (cells xs) → false ≡ objects_in l (cells xs)
  many some h = objects-many l xs (size_in l (cells xs)) refl (omega arith) h

pub ruleset failing_tests = (late, none, many)
