-- What every run of a well-formed body keeps, and what the shape check asks of a run on record: the program counter at most m, both sets of
-- different objects below n and together no more than the counter, values of 64 bits, no writes after an early stop. Assumes nothing.
use Rattle.std.specs.Prelude.{◌≡◌, ◌⊎◌, Bool, true, false, not, ◌&&◌, ℤ, ltb, length}
use Rattle.std.proofs.Math.Option.{Option, none, some}
use mathlib.Core.List.{List, [], ◌∷◌}
use Prim.Native.Nat.{ℕ, ◌+◌, ◌≤◌, ◌<◌}
use Rattle.arith.specs.Integer.{fits}
use Rattle.operation.specs.Body.{register_count}
use Rattle.operation.specs.declared.Operation.{Operation}
use Rattle.execution.specs.Entries.{Entry, lookup}
use Rattle.execution.specs.Run.{Move, get, put, go, halt, Run, start}

abbrev pub is_some : {A : Type 0} → Option A → Bool
is_some none = false
is_some (some a) = true

-- no object stands twice
abbrev pub distinct : List Entry → Bool
distinct [] = true
distinct (x ∷ l) = not (is_some (lookup l x.object)) && distinct l

-- an object below n, and a value of 64 bits
abbrev pub sound : ℕ → Entry → Bool
sound n x = ltb x.object n && fits x.value

abbrev pub every : (Entry → Bool) → List Entry → Bool
every q [] = true
every q (x ∷ l) = q x && every q l

pub record Entries (n : ℕ) (l : List Entry) : Type 0 where
  pub names : distinct l ≡ true
  pub values : every (sound n) l ≡ true

-- ---- registers

abbrev pub all_fit : List ℤ → Bool
all_fit [] = true
all_fit (z ∷ l) = fits z && all_fit l

-- ---- a run

pub record Shaped (n : ℕ) (b : List Operation) (p : Run) : Type 0 where
  pub begun : (0 < p.counter) ⊎ (p ≡ start)
  pub within : p.counter ≤ length b
  pub outcome : p.outcome ≤ 3
  pub stopped : (p.outcome ≡ 0) ⊎ (p.writes ≡ [])
  pub room : length p.reads + length p.writes ≤ p.counter
  pub reads : Entries n p.reads
  pub writes : Entries n p.writes
  pub count : length p.registers ≡ register_count
  pub values : all_fit p.registers ≡ true

-- what a move of a well-formed body may be, before `left` more operations
abbrev pub Fine : ℕ → ℕ → Move → Type 0
Fine n left (get r o) = o < n
Fine n left (put o v) = (o < n) × (fits v ≡ true)
Fine n left (go h k) = (k ≤ left) × (length h ≡ register_count) × (all_fit h ≡ true)
Fine n left (halt s) = Unit {0}

-- ---- bounds: every store on record is one that the table allows

abbrev pub AllInside : (ℕ → ℤ → Bool) → List Entry → Type 0
AllInside allow l = every (λ x. allow x.object x.value) l ≡ true
