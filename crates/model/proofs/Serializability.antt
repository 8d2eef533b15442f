-- Demand 3 on states: a replica answers every list of calls as the serial table does, and commits what the serial table commits. Assumes nothing.
use Rattle.std.specs.Prelude.{◌≡◌, refl}
use Rattle.std.proofs.Math.Path.{ap}
use Rattle.std.proofs.Common.{◌∙◌, ap₂}
use mathlib.Core.List.{List, [], ◌∷◌, map}
use Rattle.model.specs.declared.Limits.{Limits}
use Rattle.model.specs.Interface.{Opening, Call, opening, done, Answer, yielded}
use Rattle.model.specs.Calls.{seen, refusal, judged}
use Rattle.model.specs.Start.{Start, start_of}
use Rattle.model.specs.Serial as serial
use Rattle.model.specs.Serial.{Serial}
use Rattle.model.specs.Replica.{Replica, committed_objects, facts, opened, perform, call, calls}
use Rattle.model.specs.VersionLaws.{Dated}
use Rattle.model.proofs.VersionLaws.{opening-dated}
use Rattle.model.proofs.Refusals.{opening-judged}
use Rattle.model.proofs.Invariant.{Invariant, opened-invariant, call-invariant}
use Rattle.model.proofs.Correspondence.{serial_of, opened-same, call_same}

-- What demand 3 asks of a list of calls, with the replica's answers and state after it, and the serial table's: "every 0 or refusal, a final
-- delivery's outcome, stamp and number of objects stored, all that Read, Find and Show body yield and, after the list, the committed table with its stamps"
pub record Serializable (r : List Answer × Replica) (q : List Answer × Serial) : Type 0 where
  pub answers : map seen r.0 ≡ q.0
  pub objects : committed_objects r.1 ≡ serial.committed_objects q.1
  pub timestamp : r.1.timestamp ≡ q.1.timestamp

module _ (l : Limits) where
  -- the stronger law: from any replica that keeps the invariant, the whole serial table (last numbers, pending keys and bodies, readers' copies too)
  pub calls_same : (cs : List Call) (u : Replica) → Invariant l u
      → (map seen (calls l u cs).0 ≡ (serial.calls l (serial_of u) cs).0) × (serial_of (calls l u cs).1 ≡ (serial.calls l (serial_of u) cs).1)
  unfolding calls serial.calls
  calls_same [] u v = (refl, refl)
  calls_same (c ∷ cs) u v =
      let h = call_same l u v c in
      let k = calls_same cs (call l u c).1 (call-invariant l u v c) in
      (ap₂ ◌∷◌ h.0 (k.0 ∙ ap (λ p. (serial.calls l p cs).0) h.1), k.1 ∙ ap (λ p. (serial.calls l p cs).1) h.1)

  pub serializable : (cs : List Call) (u : Replica) → Invariant l u → Serializable (calls l u cs) (serial.calls l (serial_of u) cs)
  unfolding serial_of
  serializable cs u v =
      let h = calls_same cs u v in
      record { answers = h.0; objects = ap serial.committed_objects h.1; timestamp = ap (λ (p : Serial). p.timestamp) h.1 }

  -- from a replica just opened
  pub opened-serializable : (s : Start) → Dated s → (cs : List Call) → Serializable (calls l (opened l s) cs) (serial.calls l (serial.opened l s) cs)
  opened-serializable s d cs = rw (← (opened-same l s)) (serializable cs (opened l s) (opened-invariant l s d))

  -- an accepted opening leaves nothing of what was before it
  opening-replica : (o : Opening) (u : Replica) → refusal l (facts u) (opening o) ≡ 0 → call l u (opening o) ≡ (yielded done, opened l (start_of o))
  unfolding call perform
  opening-replica o u e = ap (judged u (done, opened l (start_of o))) e

  opening-serial : (o : Opening) (p : Serial) → refusal l (serial.facts p) (opening o) ≡ 0 → serial.call l p (opening o) ≡ (yielded done, serial.opened l (start_of o))
  unfolding serial.call serial.perform
  opening-serial o p e = ap (judged p (done, serial.opened l (start_of o))) e

  -- DEMAND 3: "Demand 3's list starts from an accepted opening and holds early and final delivery, work, open reader, read, close, Find, Show body, and
  -- openings that are refused." Here: every list that starts with an accepted opening, later openings that are accepted included, on any replica and
  -- any serial table, whatever they held before.
  pub demand_3-on_states : (o : Opening) (cs : List Call) (u : Replica) (p : Serial) → refusal l (facts u) (opening o) ≡ 0
      → Serializable (calls l u (opening o ∷ cs)) (serial.calls l p (opening o ∷ cs))
  unfolding calls serial.calls
  demand_3-on_states o cs u p e =
      let h = opened-serializable (start_of o) (opening-dated l (facts u) o e) cs in
      rw (opening-replica o u e, opening-serial o p (opening-judged l (serial.facts p) (facts u) o ∙ e))
      (record { answers = ap (yielded done ∷◌) h.answers; objects = h.objects; timestamp = h.timestamp })
