-- A read set or a write set: objects with their values, no object twice. Assumes nothing.
use Rattle.std.specs.Prelude.{cond, List, [], ◌∷◌, ◌++◌, ℕ, ℤ, eqb}
use Rattle.std.proofs.Math.Option.{Option, none, some}
use Rattle.execution.specs.declared.Entry as declared

-- the struct of src/, under the name that other crates import: a re-export of what src/ declares ends at the crate
abbrev pub Entry : Type 0
Entry = declared.Entry

abbrev pub entry : ℕ → ℤ → Entry
entry o v = record { object = o; value = v }

-- the value that stands for an object
abbrev pub lookup : List Entry → ℕ → Option ℤ
lookup [] o = none
lookup (e ∷ l) o = cond (eqb e.object o) (some e.value) (lookup l o)

-- an object's value anew: in its place, else at the end
abbrev pub update : List Entry → ℕ → ℤ → List Entry
update [] o v = entry o v ∷ []
update (e ∷ l) o v = cond (eqb e.object o) (entry o v ∷ l) (e ∷ update l o v)

-- one more at the end
abbrev pub append : List Entry → ℕ → ℤ → List Entry
append l o v = l ++ (entry o v ∷ [])
