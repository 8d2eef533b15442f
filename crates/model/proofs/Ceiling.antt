-- Ceilings (document 02, S-10): on the rework of a final delivery, and on the work that finishes every pending transaction. They hold for any runs on
-- record, those that no calls lead to included. Assumes nothing.
use Rattle.std.specs.Prelude.{◌≡◌, refl, Bool, true, false, not, cond, List, [], ◌∷◌, ℕ, ◌+◌, ◌*◌, ◌-◌, ◌≤◌, length}
use Rattle.std.proofs.Common.{sym, ap, ◌∙◌, arith, mul-suc}
use Rattle.std.proofs.lemmas.List.{length-map}
use Rattle.operation.specs.Body.{is_well_formed}
use Rattle.operation.proofs.BodyLaws.{length-operations, formed}
use Rattle.execution.specs.Run.{Table, over, whole_count}
use Rattle.execution.proofs.ReadAgreement.{enough-end}
use Rattle.execution.proofs.Counting.{counted-most, whole_count-most}
use Rattle.model.specs.declared.Limits.{Limits}
use Rattle.model.specs.Lists.{all, count}
use Rattle.model.specs.ListLaws.{All}
use Rattle.model.proofs.ListLaws.{all_map, all-implies, count-all}
use Rattle.model.specs.Calls.{Transaction}
use Rattle.model.specs.Replica.{Pending, Replica, program, finished, advance, used, worked, work_count, has_key, keyed, validated, rework}
use Rattle.model.proofs.EarlyResultsLaws.{worked-sents}
use Rattle.model.proofs.Correspondence.{picked_all}
use Rattle.model.proofs.Work.{worked-finished, count-finished}
use Rattle.model.specs.Shape.{Shape}

-- ---- bodies

-- its body has at most m operations
abbrev pub Short : ℕ → Pending → Type 0
Short m j = length (program j) ≤ m

module _ (l : Limits) (u : Replica) (h : Shape l u) where
  pub all_short : All (Short l.operations) u.pending
  all_short =
      let fits : Transaction → Type 0 = λ s. is_well_formed l.operations (length u.objects) s.bytes ≡ true in
      all-implies (λ (j : Pending). fits j.sent) (Short l.operations) (λ j e. omega (arith, (formed l.operations (length u.objects) j.sent.bytes e).most, length-operations j.sent.bytes))
      u.pending (all_map fits (λ (j : Pending). j.sent) u.pending h.bodies)

  -- of a key that is not pending, no body at all
  pub keyed-short : (c s : ℕ) → Short l.operations (keyed u c s)
  keyed-short c s = picked_all (Short l.operations) (has_key c s) u.pending (omega (arith, length-operations [])) all_short

-- ---- rework

-- "none if kept"
pub rework-kept : (T : Table) (j : Pending) → validated T j ≡ true → rework T j ≡ 0
unfolding rework
rework-kept T j e = rw e

-- no more than the body has
pub rework-most : (T : Table) (j : Pending) → rework T j ≤ length (program j)
unfolding rework
rework-most T j = by (validated T j)
  where
    by : (k : Bool) → cond k 0 (whole_count T (program j)) ≤ length (program j)
    by true = omega arith
    by false = whole_count-most T (program j)

-- ---- work

-- how many are not finished
abbrev pub unfinished : List Pending → ℕ
unfinished js = count (λ j. not (finished j)) js

-- Work of c operations finishes all of js and carries out at most m for each that was not finished. Not "what is left of each body": S-13 of document 02
-- can send back one that had got on.
pub record Finishes (m c : ℕ) (S : Table) (js : List Pending) : Type 0 where
  pub all_finished : all finished (worked S c js) ≡ true
  pub most : work_count S c js ≤ m * unfinished js

advance-ends : (S : Table) (c : ℕ) (j : Pending) → length (program j) ≤ c → finished (advance S c j) ≡ true
unfolding advance
advance-ends S c j h = enough-end S (program j) c j.run h

pub finishes : (m c : ℕ) (S : Table) (js : List Pending) → All (Short m) js → m * unfinished js ≤ c → Finishes m c S js
unfolding worked work_count
finishes m c S [] h e = record { all_finished = refl; most = omega arith }
finishes m c S (j ∷ js) h e = by (finished j) refl (λ d R. finishes m d R js h.1)
  where
    by : (k : Bool) → finished j ≡ k → ((d : ℕ) (R : Table) → m * unfinished js ≤ d → Finishes m d R js) → Finishes m c S (j ∷ js)
    by true f rest =
        let same : m * unfinished (j ∷ js) ≡ m * unfinished js = rw f in
        let r = rest c (over j.run.writes S) (omega (arith, same)) in
        record {
          all_finished = ap (all finished) (worked-finished S c j js f) ∙ rw f r.all_finished;
          most = omega (arith, count-finished S c j js f, same, r.most);
        }
    by false f rest =
        let one_more : m * unfinished (j ∷ js) ≡ m * unfinished js + m = rw (f, mul-suc m (unfinished js)) (omega arith) in
        let few = counted-most S (program j) c j.run in
        let ended = advance-ends S c j (omega (arith, h.0, one_more)) in
        let r = rest (c - used S c j) (over (advance S c j).run.writes S) (omega (arith, one_more, h.0)) in
        record { all_finished = rw ended r.all_finished; most = rw ended (omega (arith, one_more, few, h.0, r.most)) }

-- so work counts every one as finished
pub finished-count : (m c : ℕ) (S : Table) (js : List Pending) → Finishes m c S js → count finished (worked S c js) ≡ length js
finished-count m c S js h =
    let sent : Pending → Transaction = λ j. j.sent in
    count-all finished (worked S c js) h.all_finished
    ∙ sym (length-map (worked S c js) sent) ∙ ap length (worked-sents S c js) ∙ length-map js sent
