-- Bodies written out from their operations, for examples. Assumes nothing.
use Rattle.std.specs.Prelude.{ℕ, List, [], ◌∷◌, ◌++◌, map, length}
use Rattle.std.specs.Int.{w64}
use Rattle.std.proofs.Common.{of_z}
use Rattle.cells.specs.Cells.{uncells}
use Rattle.operation.specs.declared.Operation.{Operation}
use Rattle.operation.specs.declared.Operation.TheVariants.{Load, Store, Set, Add, Subtract, Skip, Fail, Divide}

-- what a body has for one operation, allowed or not: kind, first, second and the bits of its constant
abbrev pub Row : Type 0
Row = ℕ × ℕ × ℕ × ℕ

abbrev pub row : Operation → Row
row (Load r o) = (0, r, o, 0)
row (Store r o) = (1, r, o, 0)
row (Set r v) = (2, r, 0, of_z w64 v)
row (Add r s) = (3, r, s, 0)
row (Subtract r s) = (4, r, s, 0)
row (Skip r k) = (5, r, k, 0)
row Fail = (6, 0, 0, 0)
row (Divide r d) = (7, r, 0, d)

abbrev pub heads : List Row → List ℕ
heads [] = []
heads (r ∷ rs) = r.0 ∷ r.1 ∷ r.2 ∷ heads rs

unfoldable pub written : List Row → List ℕ
written rs = length rs ∷ (heads rs ++ uncells (map (λ r. r.3) rs))

unfoldable pub encode : List Operation → List ℕ
encode p = written (map row p)
