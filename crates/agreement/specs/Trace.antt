-- What demand 3 on the areas speaks of: a list of calls from an accepted opening on, and the history that it commits. Assumes nothing.
use Rattle.std.specs.Prelude.{◌≡◌, Bool, true, false, cond, List, [], ◌∷◌, ◌++◌, ℕ}
use Rattle.model.specs.declared.Limits.{Limits}
use Rattle.model.specs.Interface.{Opening, optimistic, execute, final, open_reader, close_reader, show_body, Call, opening, update, query, version, found, body, previewed, done, executed, committed, observed, Answer, refused, yielded}
use Rattle.model.specs.Start.{start_of}
use Rattle.model.specs.Replica.{Replica}
use Rattle.model.specs.ListLaws.{All}
use Rattle.model.proofs.ShapeKept.{Typed}
use Rattle.model.proofs.Replicas.{Event, delivery, reopening}
use Rattle.layout.specs.Layout.{Areas, parse}
use Rattle.layout.specs.Offsets.{Sane}
use Rattle.layout.specs.Act.{act, acts}

-- "Demand 3's list starts from an accepted opening": areas with any contents, an opening that is accepted on them, and any calls after it
pub record Trace (l : Limits) : Type 0 where
  pub sane : Sane l  -- no offset overflows
  pub before : Areas
  pub opening : Opening
  pub later : List Call
  pub accepted : (act l (Call.opening opening) before).0 ≡ yielded done
  pub typed : All Typed (Call.opening opening ∷ later)  -- what the types of the code's arguments give

module _ {l : Limits} (x : Trace l) where
  -- the opening first
  abbrev pub list : List Call
  list = opening x.opening ∷ x.later

  -- each call is given both areas as the last one left them
  abbrev pub answers : List Answer
  answers = (acts l list x.before).0

  abbrev pub areas : Areas
  areas = (acts l list x.before).1

  -- the replica that the areas say after the list
  abbrev pub replica : Replica
  replica = parse l areas

-- ---- the history of a list of calls: what it commits

abbrev pub taken : Answer → Bool
taken (refused k) = false
taken (yielded y) = true

abbrev pub bytes_in : Answer → List ℕ
bytes_in (refused k) = []
bytes_in (yielded done) = []
bytes_in (yielded (executed n f)) = []
bytes_in (yielded (committed r)) = []
bytes_in (yielded (observed (version v))) = []
bytes_in (yielded (observed (found i n))) = []
bytes_in (yielded (observed (body b))) = b
bytes_in (yielded (observed (previewed p))) = []

-- what a call that is accepted on these areas adds: a final delivery its key and the body that Show body shows for it, an opening where it starts
abbrev pub event : Limits → Areas → Call → List Event
event l a (opening o) = reopening (start_of o) ∷ []
event l a (update (optimistic c s b)) = []
event l a (update (execute k)) = []
event l a (update (final c s)) = delivery c s (bytes_in (act l (query (show_body c s)) a).0) ∷ []
event l a (update (open_reader r)) = []
event l a (update (close_reader r)) = []
event l a (query q) = []

-- judged by the answers alone
unfoldable pub history_from : Limits → List Call → Areas → List Event
history_from l [] a = []
history_from l (c ∷ cs) a = cond (taken (act l c a).0) (event l a c) [] ++ history_from l cs (act l c a).1

-- the opening and the accepted final deliveries, in order
abbrev pub history : {l : Limits} → Trace l → List Event
history {l} x = history_from l (list x) x.before
