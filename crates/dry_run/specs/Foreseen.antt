-- What a dry run shows of the transaction found: the decision on it, and the values that the objects would hold. Assumes nothing.
use Rattle.std.specs.Prelude.{◌≡◌, refl, Bool, true, false, pos, ltb, length, take, get_or, Ok}
use Rattle.std.proofs.Math.Path.{sym, ap}
use Rattle.std.proofs.Common.{◌∙◌, subst, arith, ltb-true, ltb-false}
use Rattle.std.proofs.Math.Option
use mathlib.Core.List.{List, [], map}
use Prim.Native.Nat.{ℕ, suc, ◌≤◌}
use Rattle.std.proofs.Math.IntN.{ℤ}
use Rattle.std.proofs.Math.ListN.{get_or-eq_default}
use Rattle.cells.specs.Cells.{cells}
use Rattle.execution.specs.Entries.{Entry, lookup}
use Rattle.execution.specs.Run.{Beside, beside, Table, value_of, table_of, object_count, over}
use Rattle.execution.specs.RunShape.{every, sound}
use Rattle.model.specs.declared.Limits.{Limits}
use Rattle.model.specs.declared.Preview.{Preview}
use Rattle.model.specs.Calls.{previewed, preview_places}
use Rattle.model.specs.Answers.{preview}
use Rattle.model.specs.Start.{Version}
use Rattle.model.specs.DryRun.{placed, preview_of}
use Rattle.model.proofs.PreviewLaws.{placed-all, sound-wider, held_after}
use Rattle.model.specs.Interface as interface
use Rattle.model.specs.Replica.{Replica, newest, opens, install, committed_table, commit}
use Rattle.layout.specs.Offsets.{Sane, size_at}
use Rattle.layout.proofs.Reading.{get-size}
use Rattle.final_admission.specs.NextTimestamp.{NextAfter, next-timestamp}
use Rattle.final_walk.specs.Places.{Inside, Placed, placed-inside, placed-table}
use Rattle.final_decision.specs.declared.Decision.{Decision}
use Rattle.final_decision.specs.Decide.{Local, Decides, some-version}
use Rattle.final_decision.specs.FoundAt as found
use Rattle.final_decision.specs.FoundAt.{Found, commit_at}
use Rattle.dry_run.specs.Values.{Gathered}

-- the answer to a dry run whose delivery would come to this
abbrev pub shown_of : interface.Committed × Replica → interface.Observation
shown_of r = interface.previewed (preview_of r.0 (map newest r.1.objects))

-- r shows the commit of the transaction at position i, under whichever key it is delivered
pub record Foresees (l : Limits) (b c : List ℕ) (i : ℕ) (r : Preview) : Type 0 where
  pub shows : (p : Found l b c i) (cl sq : ℕ) → preview (Ok r) ≡ interface.yielded (interface.observed (shown_of (commit_at p.replica cl sq i)))

module _ {l : Limits} {b c : List ℕ} {i : ℕ} (s : Sane l) (m : Local l) (p : Found l b c i) where
  abbrev u : Replica
  u = p.replica

  few : length u.objects ≤ 128
  few = omega (arith, p.holds.fits.objects.0, m.objects)

  -- ps are the places of the committed state
  module _ {ps : List ℕ} (e : Placed l (get_or (cells b) (size_at l) 0) ps) where
    places : Placed l (length u.objects) ps
    places = found.placed s m p e

    pub places-inside : Inside b (get_or (cells b) (size_at l) 0) ps
    places-inside = subst (λ (n : ℕ). Inside b n ps) (sym (get-size l s b u p.holds)) (placed-inside s p.holds few places)

    -- the decision, with its write set at the front of an array
    module _ {d : Decision} {es : List Entry} (g : Decides l b c i ps d es) where
      abbrev ws : List Entry
      ws = take d.stored es

      named : every (sound (length u.objects)) ws ≡ true
      named = (found.writes_named s m p e g).values

      -- each object written has a place in the array vs
      pub writes-placed : (vs : List ℤ) → length vs ≡ 128 → every (sound (object_count vs)) ws ≡ true
      writes-placed vs room = sound-wider (length u.objects) (length vs) (omega (arith, few)) ws named

      -- the committed values, gathered into an array of zeros
      module _ {zs vs : List ℤ} (zero : (o : ℕ) → value_of zs o ≡ pos 0) (h : Gathered b (get_or (cells b) (size_at l) 0) ps zs vs) where
        committed : (o : ℕ) → value_of vs o ≡ (newest (get_or u.objects o [])).value
        committed o = by (ltb o (length u.objects)) refl
          where
            size : get_or (cells b) (size_at l) 0 ≡ length u.objects
            size = get-size l s b u p.holds

            by : (t : Bool) → ltb o (length u.objects) ≡ t → value_of vs o ≡ (newest (get_or u.objects o [])).value
            by true q =
                let low = ltb-true o (length u.objects) q in
                h.values o (omega (arith, size)) ∙ placed-table l s b u p.holds (some-version u p.shape) ps places o low
            by false q =
                let high = ltb-false o (length u.objects) q in
                h.rest o (omega (arith, size)) ∙ zero o
                ∙ ap (λ (x : List Version). (newest x).value) (sym (get_or-eq_default u.objects [] high))

        -- the write set laid over them
        module _ (xs : List ℤ) (laid : (x : Beside) → table_of xs x ≡ over ws (table_of vs x)) (size : object_count xs ≡ object_count vs) where
          held : (o : ℕ) → value_of xs o ≡ Option.get_or (lookup ws o) (newest (get_or u.objects o [])).value
          held o =
              ap (λ (x : Table). x.look o) (laid (beside (committed_table u))) ∙ ap (Option.get_or (lookup ws o)) (committed o)

          values-after : (t : ℕ) → xs ≡ placed preview_places (map newest (install t (opens u.readers) ws u.objects))
          unfolding preview_places
          values-after t =
              placed-all 128 (map newest (install t (opens u.readers) ws u.objects)) xs (size ∙ h.room)
              (λ o low. held o ∙ sym (held_after t (opens u.readers) ws u.objects named o))

          -- the answer, with the timestamp t that the delivery would take
          pub foreseen : {t : ℕ} → NextAfter b t → (cl sq : ℕ)
              → previewed d.outcome d.validated t xs ≡ interface.yielded (interface.observed (shown_of (commit_at u cl sq i)))
          unfolding commit
          foreseen next cl sq =
              let k = found.decided s m p e g in
              let t = suc u.timestamp in
              let stamp = next-timestamp s p.holds next in
              let after : List Entry → List ℤ = λ x. placed preview_places (map newest (install t (opens u.readers) x u.objects)) in
              let values = values-after t ∙ ap after k.writes in
              λ x. previewed (k.outcome x) (k.validated x) (stamp x) (values x)
