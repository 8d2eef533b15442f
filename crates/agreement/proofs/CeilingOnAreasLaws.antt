-- What follows from `specs/CeilingOnAreas`. Assumes nothing.
use Rattle.std.specs.Prelude.{◌≡◌, Bool, not, ℕ, zero, suc, ◌*◌, ◌≤◌, length}
use Rattle.std.proofs.Math.Path.{refl, ap}
use Rattle.std.proofs.Common.{sym, ◌∙◌, subst, arith, mul-le-mul_left, le-ltb}
use Rattle.std.proofs.Math.Bool.{true, cond}
use Rattle.operation.proofs.BodyLaws.{length-operations}
use Rattle.execution.specs.Run.{Table, whole_count}
use Rattle.model.specs.declared.Limits.{Limits}
use Rattle.model.specs.Lists.{all}
use Rattle.model.proofs.ListLaws.{count-few}
use Rattle.model.specs.Calls.{final, execute, Committed, Answer, executed, committed, most_work, causes, refusal}
use Rattle.model.specs.Replica.{Pending, Replica, with_pending, committed_table, program, finished, worked, work_count, keyed, validated, result, rework, facts, commit, perform, call}
use Rattle.model.specs.ShapeCheck.{shaped}
use Rattle.model.proofs.ShapeKept.{call-shaped}
use Rattle.model.proofs.Ceiling.{keyed-short, all_short, rework-kept, rework-most, unfinished, finishes, finished-count}
use Rattle.model.specs.Limits.{standard}
use Rattle.layout.specs.Layout.{Areas, parse}
use Rattle.layout.specs.Offsets.{Sane}
use Rattle.layout.proofs.OffsetLaws.{standard-sane}
use Rattle.layout.specs.Fit.{fit}
use Rattle.layout.proofs.FitLaws.{fit-says, fit-shape, parse-print}
use Rattle.layout.specs.Act.{act}
use Rattle.layout.proofs.Areas.{act-refused, act-accepted}
use Rattle.agreement.specs.CeilingOnAreas.{Reworked, AllFinished}

module _ (l : Limits) (a : Areas) (f : fit l a ≡ true) (c s : ℕ) where
  abbrev u : Replica
  u = parse l a

  abbrev T : Table
  T = committed_table u

  abbrev j : Pending
  j = keyed u c s

  reworked : Reworked l a c s (validated T j) (rework T j)
  unfolding rework
  reworked =
      record {
        none_kept = rework-kept T j;
        run_again = λ h. ap (λ (b : Bool). cond b 0 (whole_count T (program j))) h;
        body = omega (arith, rework-most T j, length-operations j.sent.bytes);
        most = omega (arith, rework-most T j, keyed-short l u (fit-shape l a f) c s);
      }

  pub rework-on_areas : (o : ℕ) (kept : Bool) (t n w : ℕ) → (act l (final c s) a).0 ≡ committed o kept t n w → Reworked l a c s kept w
  unfolding perform commit
  rework-on_areas o kept t n w e = by (refusal l (facts u) (final c s)) refl
    where
      said : Committed
      said = record { outcome = o; validated = kept; timestamp = t; stored = n; operations = w }

      made : Committed
      made =
          record { outcome = (result T j).outcome; validated = validated T j; timestamp = suc u.timestamp; stored = length (result T j).writes; operations = rework T j }

      by : (k : ℕ) → refusal l (facts u) (final c s) ≡ k → Reworked l a c s kept w
      by zero r =
          let answers = sym (ap (λ (x : Answer × Areas). x.0) (act-accepted l (final c s) a f r)) ∙ e in
          let same : made ≡ said = cc in
          subst (λ (x : Committed). Reworked l a c s x.validated x.operations) same reworked
      by (suc k) r =
          let answers = sym (ap (λ (x : Answer × Areas). x.0) (act-refused l (final c s) a k f r)) ∙ e in
          absurd (let z : ◌≡◌ {A = ℕ} 0 1 = cc in omega arith)

module _ (l : Limits) (sane : Sane l) (a : Areas) (f : fit l a ≡ true) where
  abbrev v : Replica
  v = parse l a

  -- "work of 16 × (number pending) operations .. finishes every pending job": m for each that is not finished are enough
  pub work_finishes : (k : ℕ) → k ≤ most_work → l.operations * unfinished v.pending ≤ k → AllFinished l a k
  unfolding perform call refusal causes
  work_finishes k few enough =
      let T = committed_table v in
      let h = finishes l.operations k T v.pending (all_short l v (fit-shape l a f)) enough in
      let taken : refusal l (facts v) (execute k) ≡ 0 = rw (le-ltb most_work k few) in
      let acted = act-accepted l (execute k) a f taken in
      let left : Replica = with_pending (worked T k v.pending) v in
      let still : shaped l left ≡ true = rw taken at (call-shaped l v (execute k) tt (fit-says l a f).shaped) in
      record {
        used = work_count T k v.pending;
        answer = ap (λ (x : Answer × Areas). x.0) acted ∙ ap (executed (work_count T k v.pending)) (finished-count l.operations k T v.pending h);
        most = h.most;
        after = ap (λ (x : Answer × Areas). all finished (parse l x.1).pending) acted
            ∙ ap (λ (x : Replica). all finished x.pending) (parse-print l sane left still) ∙ h.all_finished;
      }

  -- so m for each that is pending are
  pub work_finishes_pending : (k : ℕ) → k ≤ most_work → l.operations * length v.pending ≤ k → AllFinished l a k
  work_finishes_pending k few enough =
      work_finishes k few (omega (arith, mul-le-mul_left l.operations (count-few (λ j. not (finished j)) v.pending)))

-- "16 × (number pending) operations, at most 512"
pub standard-work_finishes : (a : Areas) → fit standard a ≡ true → AllFinished standard a (16 * length (parse standard a).pending) × (16 * length (parse standard a).pending ≤ 512)
unfolding standard most_work
standard-work_finishes a f =
    let few = (fit-shape standard a f).few_pending in
    (work_finishes_pending standard standard-sane a f _ (omega arith) (omega arith), omega arith)
