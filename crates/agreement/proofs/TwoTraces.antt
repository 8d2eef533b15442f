-- Two traces with equal histories: they agree on what is compared, and on what readers see. Assumes nothing.
use Rattle.std.proofs.Math.Path.{◌≡◌, sym, ap}
use Rattle.std.proofs.Common.{◌∙◌, arith}
use Rattle.std.specs.Prelude.{false, length, get_or}
use mathlib.Core.List.{List, [], ◌∷◌}
use Prim.Native.Nat.{ℕ, ◌<◌}
use Rattle.std.proofs.lemmas.List.{length-map}
use Rattle.model.specs.declared.Limits.{Limits}
use Rattle.model.specs.Lists.{any}
use Rattle.model.specs.Interface.{open_reader, read, Call, update, query}
use Rattle.model.specs.Calls.{done, version}
use Rattle.model.specs.Start.{Start, start_of}
use Rattle.model.specs.Replica.{newest, opened, calls}
use Rattle.model.specs.ListLaws.{All}
use Rattle.model.proofs.VersionLaws.{newest-at}
use Rattle.model.specs.VersionLaws.{Dated}
use Rattle.model.proofs.ShapeKept.{Typed}
use Rattle.model.proofs.Replicas as states
use Rattle.model.proofs.Replicas.{reopening, delivery, if_accepted, SameCommits}
use Rattle.model.proofs.ReaderSnapshots.{ends}
use Rattle.layout.specs.Act.{act, acts}
use Rattle.agreement.specs.Trace.{Trace, answers, areas, replica, history}
use Rattle.agreement.proofs.TraceLaws.{dated, answers-same, replica-same, history-same, reads-as_opened}

-- ---- two traces

-- on states: equal starts with equal histories
settled : (l m : Limits) (a b : Start) → Dated a → (cs ds : List Call) → reopening a ∷ states.history l (opened l a) cs ≡ reopening b ∷ states.history m (opened m b) ds
    → SameCommits (calls l (opened l a) cs) (calls m (opened m b) ds)
settled l m a b d cs ds e =
    let v : a ≡ b = cc in
    let h : states.history l (opened l a) cs ≡ states.history m (opened m b) ds = cc in
    rw (← v) (states.two-replicas l m a d cs ds (rw (← v) at h))

module _ {l m : Limits} (x : Trace l) (y : Trace m) (e : history x ≡ history y) where
  pub same-commits : SameCommits (answers x, replica x) (answers y, replica y)
  same-commits =
      let k = settled l m (start_of x.opening) (start_of y.opening) (dated x) x.later y.later (sym (history-same x) ∙ e ∙ history-same y) in
      rw (answers-same x, replica-same x, answers-same y, replica-same y)
      (record { results = k.results; objects = k.objects; timestamp = k.timestamp })

  same_version : (o : ℕ) → newest (get_or (replica x).objects o []) ≡ newest (get_or (replica y).objects o [])
  same_version o = newest-at (replica x).objects (replica y).objects (states.same-newest same-commits) o

  as_many : length (replica x).objects ≡ length (replica y).objects
  as_many =
      sym (length-map (replica x).objects newest)
      ∙ ap length (states.same-newest same-commits)
      ∙ length-map (replica y).objects newest

  -- a reader of each, opened now
  pub readers-agree : (r q : ℕ) → (act l (update (open_reader r)) (areas x)).0 ≡ done → (act m (update (open_reader q)) (areas y)).0 ≡ done
      → (cs ds : List Call) → All Typed cs → All Typed ds → any (ends l r) cs ≡ false → any (ends m q) ds ≡ false
      → (o : ℕ) → o < length (replica x).objects
      → (act l (query (read r o)) (acts l (update (open_reader r) ∷ cs) (areas x)).1).0
      ≡ (act m (query (read q o)) (acts m (update (open_reader q) ∷ ds) (areas y)).1).0
  readers-agree r q opens-x opens-y cs ds typed-x typed-y stays-x stays-y o low =
      reads-as_opened x r opens-x cs typed-x stays-x o low
      ∙ ap version (same_version o)
      ∙ sym (reads-as_opened y q opens-y ds typed-y stays-y o (omega (arith, as_many)))
