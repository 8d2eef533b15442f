-- The call on the two areas, refused or carried out. Assumes nothing.
use Rattle.std.specs.Prelude.{◌≡◌, refl, Bool, true, false, cond, List, [], ◌∷◌, map, ℕ, ◌+◌, ◌-◌, ◌≤◌, ◌<◌, ℤ, take}
use Rattle.std.proofs.Common.{sym, ap, ap₂, ◌∙◌, arith, lt-ltb}
use Rattle.cells.specs.Cells.{Below}
use Rattle.execution.specs.Run.{Table, over}
use Rattle.execution.specs.Arrays.{capacity}
use Rattle.model.specs.declared.Limits.{Limits}
use Rattle.model.specs.Lists.{count}
use Rattle.model.specs.Calls.{Transaction, execute, executed, refused, refusal, causes, most_work}
use Rattle.model.specs.Replica.{Pending, Replica, committed_table, program, finished, advance, used, work_count, perform}
use Rattle.model.proofs.ListLaws.{count-few}
use Rattle.model.specs.EarlyResults.{sents}
use Rattle.model.proofs.EarlyResultsLaws.{worked-sents}
use Rattle.model.specs.Shape.{Shape}
use Rattle.model.proofs.ShapeParts.{same_length}
use Rattle.layout.specs.Layout.{body_of, parse, print}
use Rattle.layout.specs.Offsets.{Sane}
use Rattle.layout.specs.Holds.{Holds, HoldsBodies}
use Rattle.layout.proofs.HoldsLaws.{holds-print, holds-long}
use Rattle.layout.proofs.Reading.{get-size}
use Rattle.layout.proofs.Bodies.{same-bodies}
use Rattle.layout.specs.Fit.{fit}
use Rattle.layout.proofs.FitLaws.{shape-fits, fit-holds, fit-bodies, fit-shape}
use Rattle.layout.specs.Act.{act}
use Rattle.layout.proofs.Areas.{act-refused, act-accepted}
use Rattle.committed_table.specs.Committed.{Laid, BlocksSorted, Committed, current, blocks-sorted, committed-count, committed-back}
use Rattle.speculative_execution.specs.Passing.{counted-most, all_worked, after_work, Worked, accepted, new-shape}
use Rattle.speculative_execution.specs.LentAreas.{Begun}

-- what `execute` asks
pub record Asked (l : Limits) (records bodies : List ℕ) : Type 0 where
  pub sane : Sane l
  pub objects : l.objects ≤ 128
  pub few : l.operations ≤ capacity
  pub fit : fit l (records, bodies) ≡ true

-- ---- counts

used-most : (T : Table) (c : ℕ) (j : Pending) → used T c j ≤ c
used-most T c j = counted-most T (program j) c j.run

-- no more operations than the budget
count_most : (T : Table) (c : ℕ) (js : List Pending) → work_count T c js ≤ c
unfolding work_count
count_most T c [] = omega arith
count_most T c (j ∷ js) =
    go' (finished (advance T c j)) (count_most (over (advance T c j).run.writes T) (c - used T c j) js)
  where
    go' : (b : Bool) → work_count (over (advance T c j).run.writes T) (c - used T c j) js ≤ c - used T c j → used T c j + cond b (work_count (over (advance T c j).run.writes T) (c - used T c j) js) 0 ≤ c
    go' true h = omega (arith, used-most T c j)
    go' false h = omega (arith, used-most T c j)

-- ---- work changes no body

bytes_of : (js : List Pending) → map body_of js ≡ map (λ (s : Transaction). s.bytes) (sents js)
bytes_of [] = refl
bytes_of (j ∷ js) = ap (body_of j ∷◌) (bytes_of js)

same_bytes : (a b : List Pending) → sents a ≡ sents b → map body_of a ≡ map body_of b
same_bytes a b e = bytes_of a ∙ ap (map (λ (s : Transaction). s.bytes)) e ∙ sym (bytes_of b)

-- ---- refused: nothing is changed

pub too_many : (l : Limits) (records bodies : List ℕ) (c : ℕ) → fit l (records, bodies) ≡ true → most_work < c → act l (execute c) (records, bodies) ≡ (refused 14, (records, bodies))
unfolding refusal causes
too_many l records bodies c f h = act-refused l (execute c) (records, bodies) 13 f (rw (lt-ltb most_work c h))

-- ---- carried out

module _ {l : Limits} {records bodies : List ℕ} (k : Asked l records bodies) (b : Below 256 records) where
  abbrev u : Replica
  u = parse l (records, bodies)

  s : Sane l
  s = k.sane

  shape : Shape l u
  shape = fit-shape l (records, bodies) k.fit

  holds : Holds l records u
  holds = fit-holds l s (records, bodies) b k.fit

  pub readable : Laid l records
  readable = record { whole = holds-long l s records u holds; few = omega (arith, get-size l s records u holds, shape.few_objects); room = k.objects }

  pub sorted_blocks : BlocksSorted l records
  sorted_blocks = blocks-sorted l s records u holds (current u shape)

  -- the committed table, as the local array has it, is the first one
  module _ {n : ℕ} {vs : List ℤ} (v : Committed l records n vs) (c : ℕ) (low : c ≤ most_work) where
    pub begun : Begun l records bodies (take n vs) c
    begun =
        record {
          sane = s;
          few = k.few;
          fit = k.fit;
          allowed = low;
          table = committed-back l s records u holds (current u shape) v;
          size = committed-count l s records u holds (current u shape) v;
        }

  module _ (c : ℕ) (low : c ≤ most_work) {ys : List ℕ} {n f : ℕ} (w : Worked l u c ys n f) where
    -- both counts fit in 32 bits
    pub small-counts : (n ≤ c) × (f ≤ 65536)
    small-counts =
        let most = shape.few_pending in
        let p = s.pending in
        let as_many = same_length (all_worked u c) u.pending (worked-sents (committed_table u) c u.pending) in
        (omega (arith, w.operations, count_most (committed_table u) c u.pending), omega (arith, w.finished, count-few finished (all_worked u c)))

    new-bodies : HoldsBodies l bodies (after_work u c)
    new-bodies =
        same-bodies l s bodies u (fit-bodies l s (records, bodies) b k.fit) (after_work u c) (shape-fits l s (after_work u c) (new-shape s k.few shape c low))
        (same_bytes (all_worked u c) u.pending (worked-sents (committed_table u) c u.pending))

    acted : act l (execute c) (records, bodies) ≡ (executed (work_count (committed_table u) c u.pending) (count finished (all_worked u c)), print l (after_work u c))
    unfolding perform
    acted = act-accepted l (execute c) (records, bodies) k.fit (accepted s k.few shape c low)

    pub answered : (executed n f ≡ (act l (execute c) (records, bodies)).0) × ((ys, bodies) ≡ (act l (execute c) (records, bodies)).1)
    answered = (
      ap₂ executed w.operations w.finished ∙ sym (ap (λ x. x.0) acted),
      holds-print l ys bodies (after_work u c) w.holds new-bodies ∙ sym (ap (λ x. x.1) acted),
    )
