-- The calls by kind, with their arguments, and what they yield. Contracts and examples name them by the words of specs/Calls.antt. Assumes nothing.
use Rattle.std.specs.Prelude.{Bool, List, ℕ, ℤ, pos}

-- ---- the calls

-- what a replica is opened with
pub data Opening : Type 0 where
  by_values : ℕ → List ℤ → List ℤ → List ℤ → ℕ → Opening  -- n, start values, lower bounds, upper bounds, start timestamp

-- a call that may change the replica
pub data Update : Type 0 where
  optimistic : ℕ → ℕ → List ℕ → Update  -- early delivery: client, sequence number, body
  execute : ℕ → Update  -- work: the most operations
  final : ℕ → ℕ → Update  -- client, sequence number
  open_reader : ℕ → Update
  close_reader : ℕ → Update

-- a call that answers and changes nothing
pub data Query : Type 0 where
  read : ℕ → ℕ → Query  -- reader, object
  find : ℕ → ℕ → Query  -- client, sequence number
  show_body : ℕ → ℕ → Query  -- client, sequence number
  dry_run : ℕ → ℕ → Query  -- client, sequence number

pub data Call : Type 0 where
  opening : Opening → Call
  update : Update → Call
  query : Query → Call

-- ---- the answers

-- what a final delivery yields
pub record Committed : Type 0 where
  pub outcome : ℕ
  pub validated : Bool  -- "kept", else "run again"
  pub timestamp : ℕ  -- the new commit timestamp
  pub stored : ℕ  -- how many objects were stored
  pub operations : ℕ  -- how many operations were carried out: 0 where the early results were kept

-- a version: a value with the commit timestamp of its store, or the start timestamp
pub record Version : Type 0 where
  pub stamp : ℕ
  pub value : ℤ

abbrev pub no_version : Version
no_version = record { stamp = 0; value = pos 0 }

-- what a dry run yields: what a final delivery of the key would come to now
pub record Preview : Type 0 where
  pub outcome : ℕ
  pub validated : Bool  -- "kept", else "run again"
  pub timestamp : ℕ  -- the commit timestamp that it would get
  pub values : List ℤ  -- what each object would hold, and 0 past the last object

-- what a query yields
pub data Observation : Type 0 where
  version : Version → Observation  -- Read's: what its reader sees
  found : ℕ → ℕ → Observation  -- optimistic position, length of the body
  body : List ℕ → Observation
  previewed : Preview → Observation

-- what an accepted call yields
pub data Yield : Type 0 where
  done : Yield
  executed : ℕ → ℕ → Yield  -- operations carried out, pending transactions now finished
  committed : Committed → Yield
  observed : Observation → Yield

pub data Answer : Type 0 where
  refused : ℕ → Answer
  yielded : Yield → Answer
