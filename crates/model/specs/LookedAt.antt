-- S-3 of document 02: how many versions a lookup looks at, why those above are those that stand before the one that is seen, and that a recent reader's
-- are few. Assumes nothing.
use Rattle.std.specs.Prelude.{Bool, leb, ltb}
use mathlib.Core.List.{List}
use Prim.Native.Nat.{ℕ, suc}
use Rattle.model.specs.Lists.{count, index}
use Rattle.model.specs.Start.{Version}

-- ---- the number

-- a version "above the reader's stamp", r
abbrev pub is_above : ℕ → Version → Bool
is_above r v = ltb r v.stamp

-- "the number of versions looked at: those above the reader's stamp, and one"
abbrev pub looked_at : ℕ → List Version → ℕ
looked_at r vs = suc (count (is_above r) vs)

-- "go from the newest down and end at the first that is not above the reader's stamp": how many stand before that one
abbrev pub seen_index : ℕ → List Version → ℕ
seen_index r vs = index (λ v. leb v.stamp r) vs
