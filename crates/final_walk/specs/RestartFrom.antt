-- What `restart_from` asks and leaves, and the laws of its turns. Assumes nothing.
use Rattle.std.specs.Prelude.{◌≡◌, refl, List, [], ◌∷◌, ◌++◌, map, ℕ, zero, suc, ◌+◌, ◌*◌, ◌-◌, ◌≤◌, ◌<◌, length, take, drop, get_or, set, replicate}
use Rattle.std.proofs.Common.{sym, ap, ap₂, ◌∙◌, subst, arith, mul-le-mul_right, not-suc-le-zero, le_of_suc-le-suc, add-one, length-set}
use Rattle.std.proofs.Math.Option.{none}
use Rattle.cells.specs.Cells.{splice}
use Rattle.model.specs.declared.Limits.{Limits}
use Rattle.model.specs.Replica.{Pending, Replica, pending_of, restarted}
use Rattle.layout.specs.Offsets.{Sane, row_width, row_at, record_length, counter_at}
use Rattle.layout.specs.Holds.{Holds, Holding, with_pending}
use Rattle.layout.proofs.HoldsLaws.{holds-long}
use Rattle.layout.proofs.WritingRows.{restart_row}
use Rattle.layout.proofs.PrintableLaws.{few_pending}

-- "the first .. and all after it, go back to their start"
abbrev pub restarted_from : ℕ → List Pending → List Pending
restarted_from i js = take i js ++ map restarted (drop i js)

one-restarted : (js : List Pending) (i : ℕ) (d : Pending) → i < length js → restarted_from (suc i) (set js i (restarted (get_or js i d))) ≡ restarted_from i js
one-restarted [] i d h = absurd (not-suc-le-zero h)
one-restarted (j ∷ js) zero d h = refl
one-restarted (j ∷ js) (suc i) d h = ap (j ∷◌) (one-restarted js i d (le_of_suc-le-suc h))

pub none-restarted : (js : List Pending) (i : ℕ) → length js ≤ i → restarted_from i js ≡ js
none-restarted [] zero h = refl
none-restarted [] (suc i) h = refl
none-restarted (j ∷ js) zero h = absurd (not-suc-le-zero h)
none-restarted (j ∷ js) (suc i) h = ap (j ∷◌) (none-restarted js i (le_of_suc-le-suc h))

-- the record area, b before, is d after it
pub record Restarts (l : Limits) (from : ℕ) (b d : List ℕ) : Type 0 where
  pub holds : (p : Holding l b) → Holds l d (with_pending (restarted_from from p.replica.pending) p.replica)

-- the area b now: of n transactions, those from i on are still to be sent back
pub record Restarting (l : Limits) (b : List ℕ) (u : Replica) (from n i : ℕ) : Type 0 where
  pub queue : List Pending
  pub holds : Holds l b (with_pending queue u)
  pub count : length queue ≡ n
  pub left : restarted_from i queue ≡ restarted_from from u.pending

pub restart_start : {l : Limits} {b : List ℕ} {n : ℕ} (from : ℕ) (p : Holding l b) → n ≡ length p.replica.pending → Restarting l b p.replica from n from
restart_start from p e = record { queue = p.replica.pending; holds = p.holds; count = sym e; left = refl }

module _ {l : Limits} {b : List ℕ} {u : Replica} {from n i : ℕ} (s : Sane l) (r : Restarting l b u from n i) where
  pub restart_end : n ≤ i → Holds l b (with_pending (restarted_from from u.pending) u)
  restart_end z =
      subst (λ (js : List Pending). Holds l b (with_pending js u)) (sym (none-restarted r.queue i (omega (arith, r.count))) ∙ r.left) r.holds

  pub restart_length : length b ≡ record_length l
  restart_length = holds-long l s b (with_pending r.queue u) r.holds

  module _ (low : i < n) where
    pub row-there : i < l.pending
    row-there = omega (arith, few_pending l (with_pending r.queue u) r.holds.fits, r.count)

    -- a and e are where the row and the next one start
    module _ {a e : ℕ} (ea : a ≡ row_at l i) (ee : e ≡ row_at l (i + 1)) where
      pub restart_inside : ((a + counter_at) * 8 ≤ e * 8) × (e * 8 ≤ length b)
      restart_inside = (omega arith, omega (arith, restart_length, mul-le-mul_right (row_width l) row-there))

      pub restart_step : {c : List ℕ} → c ≡ splice b ((a + counter_at) * 8) (replicate (e * 8 - (a + counter_at) * 8) 0) → Restarting l c u from n (i + 1)
      restart_step {c} ec =
          let d = pending_of none in
          let k : i < length r.queue = omega (arith, r.count) in
          let w : e * 8 - (a + 1) * 8 ≡ (row_width l - 1) * 8 = omega arith in
          record {
            queue = set r.queue i (restarted (get_or r.queue i d));
            holds = restart_row l s b (with_pending r.queue u) r.holds i k d c (ec ∙ ap₂ (λ (x y : ℕ). splice b ((x + 1) * 8) (replicate y 0)) ea w);
            count = length-set r.queue i (restarted (get_or r.queue i d)) ∙ r.count;
            left = ap (λ (j : ℕ). restarted_from j (set r.queue i (restarted (get_or r.queue i d)))) (add-one i) ∙ one-restarted r.queue i d k ∙ r.left;
          }
