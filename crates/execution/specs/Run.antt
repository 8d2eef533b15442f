-- The run of a transaction's body on a table, with its read set and write set (document 01, "A job's body"). Assumes nothing.
use Rattle.std.specs.Prelude.{Bool, true, false, cond, ◌&&◌, ℕ, zero, suc, ◌+◌, ℤ, pos, ◌+ℤ◌, ◌-ℤ◌, length, get_or, set, drop, replicate}
use Rattle.std.proofs.Math.Option
use Rattle.std.proofs.Math.Option.{Option, none, some}
use mathlib.Core.List.{List, [], ◌∷◌, head?}
use Rattle.std.specs.Int.Signed.{lt_z}
use Rattle.arith.specs.Integer.{fits, quotient, eq_z}
use Rattle.operation.specs.Body.{register_count}
use Rattle.operation.specs.declared.Operation.{Operation}
use Rattle.operation.specs.declared.Operation.TheVariants.{Load, Store, Set, Add, Subtract, Skip, Fail, Divide}
use Rattle.execution.specs.Entries.{Entry, lookup, update, append}

-- What a run sees of the objects: their values, and which values each may take. Beside a value stands the stamp of the object's committed version, on
-- which no run depends (specs/OtherStamps.antt).
pub record Table : Type 0 where
  pub look : ℕ → ℤ
  pub stamp : ℕ → ℕ
  pub allow : ℕ → ℤ → Bool

-- all of a table but the values
pub record Beside : Type 0 where
  pub stamp : ℕ → ℕ
  pub allow : ℕ → ℤ → Bool

abbrev pub beside : Table → Beside
beside T = record { stamp = T.stamp; allow = T.allow }

-- an object's value in a list of values; past its end 0
abbrev pub value_of : List ℤ → ℕ → ℤ
value_of vs o = get_or vs o (pos 0)

-- such a list as a table, with what stands beside it
abbrev pub table_of : List ℤ → Beside → Table
table_of vs b = record { look = value_of vs; stamp = b.stamp; allow = b.allow }

-- how many objects it has
abbrev pub object_count : List ℤ → ℕ
object_count vs = length vs

-- Why a run stops before its end, and the outcome that says so: "1 fail, 2 overflow (an add or subtract that leaves 64 bits)" and, since S-1 of
-- document 02, "a store of a value outside .. stops the job with outcome 3"
pub data Stop : Type 0 where
  failed overflowed outside : Stop

abbrev pub outcome_of : Stop → ℕ
outcome_of failed = 1
outcome_of overflowed = 2
outcome_of outside = 3

-- What an operation asks for, given the registers. All that both interpreters, this one and the serial table's, see of an operation.
pub data Move : Type 0 where
  get : ℕ → ℕ → Move  -- this register takes this object
  put : ℕ → ℤ → Move  -- this object takes this value
  go : List ℤ → ℕ → Move  -- new registers, and how many operations are passed over
  halt : Stop → Move

-- a register's value
abbrev pub register : List ℤ → ℕ → ℤ
register g r = get_or g r (pos 0)

-- a register takes a sum or difference, if 64 bits hold it
unfoldable pub sum : List ℤ → ℕ → ℤ → Move
sum g r z = cond (fits z) (go (set g r z) 0) (halt overflowed)

unfoldable pub move : Operation → List ℤ → Move
move (Load r o) g = get r o
move (Store r o) g = put o (register g r)
move (Set r v) g = go (set g r v) 0
move (Add r s) g = sum g r (register g r +ℤ register g s)
move (Subtract r s) g = sum g r (register g r -ℤ register g s)
move (Skip r k) g = go g (cond (lt_z (register g r) (pos 0)) k 0)
move Fail g = halt failed
move (Divide r d) g = go (set g r (quotient (register g r) d)) 0

-- A run on record. The counter is document 01's place: the operations carried out or passed over. The outcome is 0 until the run stops early.
pub record Run : Type 0 where
  pub counter : ℕ
  pub outcome : ℕ
  pub registers : List ℤ
  pub reads : List Entry  -- the values read from outside
  pub writes : List Entry  -- the values stored

unfoldable pub start : Run
start =
    record { counter = 0; outcome = 0; registers = replicate register_count (pos 0); reads = []; writes = [] }

abbrev pub or_else : Option ℤ → Option ℤ → Option ℤ
or_else (some v) k = some v
or_else none k = k

-- "A load gives the job's own latest store of that object, else the value it read before, else the table's value" (none)
abbrev pub known : Run → ℕ → Option ℤ
known p o = or_else (lookup p.writes o) (lookup p.reads o)

-- the read set after a load: longer where the table was asked
abbrev pub recorded : List Entry → ℕ → ℤ → Option ℤ → List Entry
recorded l o v (some k) = l
recorded l o v none = append l o v

abbrev pub got : Table → ℕ → ℕ → Run → Option ℤ → Run
got T r o p k =
    record {
      counter = suc p.counter;
      outcome = 0;
      registers = set p.registers r (Option.get_or k (T.look o));
      reads = recorded p.reads o (T.look o) k;
      writes = p.writes;
    }

abbrev pub put_in : ℕ → ℤ → Run → Run
put_in o v p =
    record { counter = suc p.counter; outcome = 0; registers = p.registers; reads = p.reads; writes = update p.writes o v }

-- "With outcome 1 or 2 nothing is stored", nor with 3. The operation that stops the run counts as carried out.
abbrev pub stopped : Stop → Run → Run
stopped s p =
    record { counter = suc p.counter; outcome = outcome_of s; registers = p.registers; reads = p.reads; writes = [] }

abbrev pub apply : Table → Move → Run → Run
apply T (get r o) p = got T r o p (known p o)
apply T (put o v) p = cond (T.allow o v) (put_in o v p) (stopped outside p)
apply T (go g k) p =
    record { counter = suc (p.counter + k); outcome = 0; registers = g; reads = p.reads; writes = p.writes }
apply T (halt s) p = stopped s p

-- the operation that is due: none where the run has stopped or is past the last
abbrev pub due_at : List Operation → ℕ → ℕ → Option Operation
due_at b i zero = head? (drop i b)
due_at b i (suc c) = none

abbrev pub due : List Operation → Run → Option Operation
due b p = due_at b p.counter p.outcome

abbrev pub is_none : Option Operation → Bool
is_none none = true
is_none (some x) = false

abbrev pub ended : List Operation → Run → Bool
ended b p = is_none (due b p)

unfoldable pub obey : Table → Run → Option Operation → Run
obey T p none = p
obey T p (some x) = apply T (move x p.registers) p

-- one operation; an ended run stays
unfoldable pub step : Table → List Operation → Run → Run
step T b p = obey T p (due b p)

unfoldable pub steps : Table → List Operation → ℕ → Run → Run
steps T b zero p = p
steps T b (suc k) p = step T b (steps T b k p)

-- a whole run: each operation moves on, so as many operations as the body has are enough
unfoldable pub whole : Table → List Operation → Run
whole T b = steps T b (length b) start

-- how many of c operations are carried out before the run ends; "A passed-over operation is not counted"
unfoldable pub counted : Table → List Operation → ℕ → Run → ℕ
counted T b zero p = 0
counted T b (suc c) p = cond (ended b p) 0 (suc (counted T b c (step T b p)))

-- how many operations a whole run carries out
unfoldable pub whole_count : Table → List Operation → ℕ
whole_count T b = counted T b (length b) start

-- "every value it read from outside itself equals" the table's
abbrev pub matches : Table → List Entry → Bool
matches T [] = true
matches T (e ∷ l) = eq_z (T.look e.object) e.value && matches T l

-- the table with a write set over it; stamps and bounds stay
abbrev pub over : List Entry → Table → Table
over s T = record { look = λ o. Option.get_or (lookup s o) (T.look o); stamp = T.stamp; allow = T.allow }
