-- DEMAND 3, whole, on the two lent areas: every list of calls by `act`, the function that the public contracts cite, each given both areas as the last one
-- left them, from an accepted opening on areas with any contents (`Trace`). Assumes nothing.
use Rattle.std.specs.Prelude.{◌≡◌, true, false, List, [], ◌∷◌, ℕ, ◌<◌, length, get_or}
use Rattle.model.specs.declared.Limits.{Limits}
use Rattle.model.specs.Lists.{any}
use Rattle.model.specs.Calls.{Call, open_reader, read, done, version}
use Rattle.model.specs.Serial as serial
use Rattle.model.specs.Serial.{Serial}
use Rattle.model.specs.Replica.{newest}
use Rattle.model.specs.ListLaws.{All}
use Rattle.model.proofs.ShapeKept.{Typed}
use Rattle.model.proofs.Serializability.{Serializable}
use Rattle.model.proofs.Replicas.{SameCommits}
use Rattle.model.proofs.ReaderSnapshots.{ends}
use Rattle.model.proofs.EarlyRecord.{EarlyResults}
use Rattle.layout.specs.Fit.{fit}
use Rattle.layout.specs.Act.{act, acts}
use Rattle.agreement.specs.Trace.{Trace, list, answers, areas, replica, history}

-- What holds of a trace: the answers of its calls, and the replica that the areas say after them.
pub record Demand3 {l : Limits} (x : Trace l) : Type 0 where
  -- outcomes, readers' answers and the committed table equal those of a plain table that runs the finally delivered jobs one after another, whatever
  -- that table was before
  pub serializable : (p : Serial) → Serializable (answers x, replica x) (serial.calls l p (list x))
  -- so two replicas with equal final deliveries agree, whatever their early orders: equal openings and accepted final deliveries, each key with its body,
  -- give equal results and committed tables, on areas of any two kinds, wherever the rest of either list fell
  pub agreement : {m : Limits} (y : Trace m) → history x ≡ history y → SameCommits (answers x, replica x) (answers y, replica y)
  -- an open reader always sees the table as it stood when it was opened: after any calls but its close or a new opening it answers the version, value
  -- and stamp, that was each object's newest then
  pub snapshot : (r : ℕ) → (act l (open_reader r) (areas x)).0 ≡ done
      → (cs : List Call) → All Typed cs → any (ends l r) cs ≡ false
      → (o : ℕ) → o < length (replica x).objects
      → (act l (read r o) (acts l (open_reader r ∷ cs) (areas x)).1).0 ≡ version (newest (get_or (replica x).objects o []))
  -- so two replicas with equal final deliveries have readers that agree: opened then, whatever comes after, they answer the same versions
  pub readers : {m : Limits} (y : Trace m) → history x ≡ history y
      → (r q : ℕ) → (act l (open_reader r) (areas x)).0 ≡ done → (act m (open_reader q) (areas y)).0 ≡ done
      → (cs ds : List Call) → All Typed cs → All Typed ds → any (ends l r) cs ≡ false → any (ends m q) ds ≡ false
      → (o : ℕ) → o < length (replica x).objects
      → (act l (read r o) (acts l (open_reader r ∷ cs) (areas x)).1).0 ≡ (act m (read q o) (acts m (open_reader q ∷ ds) (areas y)).1).0
  -- early results on record "equal those of running the pending jobs in early order, each on the committed table with the stores of those before it, a
  -- partly run one up to its place"
  pub early : EarlyResults (replica x)
  -- the areas pass the shape check
  pub shape : fit l (areas x) ≡ true
