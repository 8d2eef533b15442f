-- S-14 of document 02, "Neighbours that may change places": which pending transactions they are, and what is the same in every order. Assumes nothing.
use Rattle.std.specs.Prelude.{◌≡◌, Bool, true, false, not, ◌&&◌, ◌||◌, List, [], ◌∷◌, map, ℕ, ◌+◌, ℤ, eqb, leb, length}
use Rattle.std.proofs.Math.Option.{Option, none, some}
use Rattle.operation.specs.declared.Operation.{Operation}
use Rattle.operation.specs.declared.Operation.TheVariants.{Load, Store, Set, Add, Subtract, Skip, Fail, Divide}
use Rattle.execution.specs.Entries.{Entry, lookup}
use Rattle.execution.specs.Run.{Run, whole}
use Rattle.model.specs.Lists.{any, all}
use Rattle.model.specs.Interface.{Committed, Yield, done, executed, committed, observed, Answer, refused, yielded}
use Rattle.model.specs.Calls.{Call, final, last_timestamp}
use Rattle.model.specs.Serial.{is_some}
use Rattle.model.specs.Replica.{Replica, newest, committed_table, program, has_key, keyed, facts}

-- a transaction's key
pub record Key : Type 0 where
  pub client : ℕ
  pub sequence : ℕ

abbrev pub deliver : Key → Call
deliver k = final k.client k.sequence

-- "delivered finally one directly after the other"
abbrev pub deliveries : List Key → List Call
deliveries ks = map deliver ks

-- ---- the condition

-- no object is in both sets
unfoldable pub disjoint : List Entry → List Entry → Bool
disjoint xs ys = not (any (λ (x : Entry). is_some (lookup ys x.object)) xs)

-- "neither stores an object that the other reads or stores": reads are those from outside, and a run that stops stores nothing
unfoldable pub apart : Run → Run → Bool
apart p q = disjoint p.writes q.reads && disjoint q.writes p.reads && disjoint p.writes q.writes

-- the body of a pending key
abbrev pub body_of : Replica → Key → List Operation
body_of u k = program (keyed u k.client k.sequence)

-- "each run on the table before them": whole, whatever its early results are
unfoldable pub alone : Replica → Key → Run
alone u k = whole (committed_table u) (body_of u k)

-- "jobs of different clients", and apart
unfoldable pub may_pass : Replica → Key → Key → Bool
may_pass u j k = not (eqb j.client k.client) && apart (alone u j) (alone u k)

abbrev pub is_pending : Replica → Key → Bool
is_pending u k = any (has_key k.client k.sequence) u.pending

-- "pending .. with stamps left for both", or for all
unfoldable pub deliverable : Replica → List Key → Bool
deliverable u ks = leb (u.timestamp + length ks) last_timestamp && all (is_pending u) ks

-- each with all that come after it
abbrev pub pairwise : {A : Type 0} → (A → A → Bool) → List A → Bool
pairwise r [] = true
pairwise r (x ∷ l) = all (r x) l && pairwise r l

-- the condition whole, of two or of more
unfoldable pub exchangeable : Replica → List Key → Bool
exchangeable u ks = deliverable u ks && pairwise (may_pass u) ks

-- ---- the same told by the bodies alone, on every table

-- the object that an operation loads, or stores
abbrev pub loaded : Operation → Option ℕ
loaded (Load r o) = some o
loaded (Store r o) = none
loaded (Set r v) = none
loaded (Add r s) = none
loaded (Subtract r s) = none
loaded (Skip r k) = none
loaded Fail = none
loaded (Divide r d) = none

abbrev pub stored : Operation → Option ℕ
stored (Load r o) = none
stored (Store r o) = some o
stored (Set r v) = none
stored (Add r s) = none
stored (Subtract r s) = none
stored (Skip r k) = none
stored Fail = none
stored (Divide r d) = none

abbrev pub is_at : ℕ → Option ℕ → Bool
is_at o none = false
is_at o (some i) = eqb i o

abbrev pub body_loads : List Operation → ℕ → Bool
body_loads b o = any (λ (x : Operation). is_at o (loaded x)) b

abbrev pub body_stores : List Operation → ℕ → Bool
body_stores b o = any (λ (x : Operation). is_at o (stored x)) b

-- neither loaded nor stored by this body, if it is an object
abbrev pub leaves_alone : List Operation → Option ℕ → Bool
leaves_alone b none = true
leaves_alone b (some o) = not (body_loads b o || body_stores b o)

-- no store of b is of an object that d loads or stores
unfoldable pub clear : List Operation → List Operation → Bool
clear b d = all (λ (x : Operation). leaves_alone d (stored x)) b

unfoldable pub bodies_apart : List Operation → List Operation → Bool
bodies_apart b d = clear b d && clear d b

unfoldable pub bodies_may_pass : Replica → Key → Key → Bool
bodies_may_pass u j k = not (eqb j.client k.client) && bodies_apart (body_of u j) (body_of u k)

-- what a planner can tell without a run: it asks for more than is needed, never for less
unfoldable pub exchangeable_by_bodies : Replica → List Key → Bool
exchangeable_by_bodies u ks = deliverable u ks && pairwise (bodies_may_pass u) ks

-- ---- what is the same in every order

-- "the same two outcomes", and the number of objects stored. The commit's stamp follows the order; kept or run again may differ, and the operations with it.
abbrev pub same_delivery : Committed → Committed
same_delivery r = record { outcome = r.outcome; validated = false; timestamp = 0; stored = r.stored; operations = 0 }

-- of other calls that they are accepted, and no more
abbrev pub same_yield : Yield → Yield
same_yield done = done
same_yield (executed n f) = done
same_yield (committed r) = committed (same_delivery r)
same_yield (observed o) = done

abbrev pub same_answer : Answer → Answer
same_answer (refused k) = refused k
same_answer (yielded y) = yielded (same_yield y)

-- that of a delivery whose result is this run
abbrev pub answer_of : Run → Answer
answer_of p = yielded (committed (record { outcome = p.outcome; validated = false; timestamp = 0; stored = length p.writes; operations = 0 }))

-- "the same newest values. Version stamps may differ."
abbrev pub newest_values : Replica → List ℤ
newest_values u = map (λ vs. (newest vs).value) u.objects

-- two replicas in all that later calls are judged and run by: not in the versions' stamps, early results and what readers see
pub record Alike (u w : Replica) : Type 0 where
  pub values : newest_values u ≡ newest_values w
  pub facts : facts u ≡ facts w  -- the replica's stamp, the last numbers, what is pending with its bodies, which readers are open
  pub bounds : u.bounds ≡ w.bounds
