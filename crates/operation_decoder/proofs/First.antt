-- The first byte of a body, as `first` answers it. Assumes nothing.
use Rattle.std.specs.Prelude.{ℕ, ◌≡◌, refl, List, [], ◌∷◌, length, slice_get, Some, None}
use Rattle.operation.specs.Body.{size}

pub size_first : (b : List ℕ) (x : ℕ) → Some x ≡ slice_get b 0 → x ≡ size b
size_first [] x e = cc
size_first (y ∷ b) x e = cc

pub no_first : (b : List ℕ) → None ≡ slice_get b 0 → length b ≡ 0
no_first [] e = refl
no_first (y ∷ b) e = cc
