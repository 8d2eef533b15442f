-- The transaction found and the decision on it, before anything is written: what a commit and a dry run of it both know. Assumes nothing.
use Rattle.std.specs.Prelude.{◌≡◌, List, ℕ, ◌≤◌, ◌<◌, length, take, get_or}
use Rattle.std.proofs.Common.{sym, ap, ◌∙◌, subst, arith, length-take-le}
use Rattle.cells.specs.Cells.{cells}
use Rattle.operation.proofs.BodyLaws.{length-operations}
use Rattle.execution.specs.Run.{Table}
use Rattle.execution.specs.Arrays.{capacity}
use Rattle.execution.specs.Entries.{Entry}
use Rattle.execution.specs.RunShape.{Shaped, Entries}
use Rattle.model.specs.declared.Limits.{Limits}
use Rattle.model.specs.Calls.{Committed, last_timestamp}
use Rattle.model.specs.Replica.{Pending, Replica, committed_table, program, validated, result, rework, commit}
use Rattle.model.proofs.Ceiling.{rework-most}
use Rattle.model.specs.Shape.{Shape}
use Rattle.layout.specs.Layout.{Areas, parse, body_of}
use Rattle.layout.specs.Offsets.{Sane, size_at}
use Rattle.layout.specs.Holds.{Holds, HoldsBodies}
use Rattle.layout.specs.Contract.{Passed}
use Rattle.layout.proofs.Reading.{get-size}
use Rattle.committed_table.specs.Committed as committed
use Rattle.final_commit.specs.Positions.{at}
use Rattle.final_walk.specs.Places.{Placed}
use Rattle.final_decision.specs.declared.Decision.{Decision}
use Rattle.final_decision.specs.Decide.{Local, holds-laid, Decided, Deciding, Decides, body-formed, decided_shaped}

-- both areas hold a replica in shape, one of whose transactions stands at position i
pub record Found (l : Limits) (b c : List ℕ) (i : ℕ) : Type 0 where
  pub replica : Replica
  pub holds : Holds l b replica
  pub bodies : HoldsBodies l c replica
  pub shape : Shape l replica
  pub there : i < length replica.pending
  pub before : replica.timestamp < last_timestamp

-- areas that pass the check hold such a replica
abbrev pub passed_found : {l : Limits} {a : Areas} {i : ℕ} → Passed l a → i < length (parse l a).pending → (parse l a).timestamp < last_timestamp → Found l a.0 a.1 i
passed_found {l} {a} q there before =
    record { replica = parse l a; holds = q.holds; bodies = q.bodies; shape = q.shape; there = there; before = before }

-- its commit, delivered under the key (cl, sq)
abbrev pub commit_at : Replica → ℕ → ℕ → ℕ → Committed × Replica
commit_at u cl sq i =
    let j : Pending = at u.pending i in
    let T : Table = committed_table u in
    commit u cl sq (validated T j) (result T j) (rework T j)

module _ {l : Limits} {b c : List ℕ} {i : ℕ} (s : Sane l) (m : Local l) (p : Found l b c i) where
  abbrev u : Replica
  u = p.replica

  abbrev j : Pending
  j = at p.replica.pending i

  abbrev T : Table
  T = committed_table p.replica

  pub found-laid : committed.Laid l b
  found-laid = holds-laid s m p.holds

  pub shaped-result : Shaped (length u.objects) (program j) (result T j)
  shaped-result = decided_shaped u p.shape p.there

  -- ps are the places of the committed state
  module _ {ps : List ℕ} (e : Placed l (get_or (cells b) (size_at l) 0) ps) where
    pub placed : Placed l (length u.objects) ps
    placed = subst (λ (n : ℕ). Placed l n ps) (get-size l s b u p.holds) e

    abbrev pub found_deciding : Deciding l b c i ps
    found_deciding = record { replica = u; holds = p.holds; bodies = p.bodies; shape = p.shape; there = p.there; placed = placed }

    -- the decision
    module _ {d : Decision} {ws : List Entry} (g : Decides l b c i ps d ws) where
      pub decided : Decided T j d ws
      decided = g.decided found_deciding

      pub writes_named : Entries (length u.objects) (take d.stored ws)
      writes_named = subst (Entries (length u.objects)) (sym decided.writes) shaped-result.writes

      pub outcome-small : d.outcome ≤ 3
      outcome-small = omega (arith, decided.outcome, shaped-result.outcome)

      -- the part of the array that is stored
      pub stored-lent : (d.stored ≤ length ws) × (d.stored ≡ length (take d.stored ws))
      stored-lent = (decided.within, sym (length-take-le d.stored ws decided.within))

      pub stored-count : d.stored ≡ length (result T j).writes
      stored-count = stored-lent.1 ∙ ap length decided.writes

      pub stored-few : d.stored ≤ capacity
      stored-few =
          let k = shaped-result in
          let f = body-formed u p.shape p.there in
          omega (arith, stored-count, k.room, k.within, length-operations (body_of j), f.most, m.operations)

      pub operations-few : d.operations ≤ capacity
      operations-few =
          let f = body-formed u p.shape p.there in
          omega (arith, decided.operations, rework-most T j, length-operations (body_of j), f.most, m.operations)
