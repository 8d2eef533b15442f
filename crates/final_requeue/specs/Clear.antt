-- The places behind the transactions that stay, cleared; and the whole of `leave`. Assumes nothing.
use Rattle.std.specs.Prelude.{◌≡◌, List, [], ◌++◌, ℕ, ◌+◌, ◌*◌, ◌-◌, ◌≤◌, length, take, drop, replicate}
use Rattle.std.proofs.Common.{sym, ap₂, ◌∙◌, subst, append-nil, arith, mul-le-mul_right, drop_of_length-le}
use Rattle.std.proofs.Math.Path.{ap}
use Rattle.std.proofs.Math.Nat.{sub-zero}
use Rattle.std.proofs.lemmas.List.{length-replicate}
use borrow.Rule.Slice.PartMut.{put_mid}
use Rattle.cells.specs.Cells.{splice, Put}
use Rattle.model.specs.declared.Limits.{Limits}
use Rattle.model.specs.Lists.{keep}
use Rattle.model.specs.Replica.{Pending, Replica, stays}
use Rattle.layout.specs.Rows.{flat, table, blank}
use Rattle.layout.specs.Offsets.{Sane, pending_at, row_width, row_at, record_length, body_width, body_at, bodies_length}
use Rattle.layout.proofs.OffsetLaws.{row-span, body-spans}
use Rattle.layout.proofs.PrintableLaws.{few_pending}
use Rattle.layout.specs.Holds.{Holds, HoldsBodies, with_pending}
use Rattle.layout.proofs.HoldsLaws.{holds-long, bodies-long}
use Rattle.layout.proofs.WritingRows.{replace_rows}
use Rattle.layout.proofs.Bodies.{replace_bodies}
use Rattle.final_commit.specs.Positions.{Both}
use Rattle.final_requeue.specs.RunsMoved.{copied}
use Rattle.final_requeue.specs.Leave.{Paired, Closing}

-- of n transactions of a replica that both areas hold, the first k stay
pub record Clearing (l : Limits) (b c : List ℕ) (k n : ℕ) : Type 0 where
  pub replica : Replica
  pub holds : Holds l b replica
  pub bodies : HoldsBodies l c replica
  pub count : length replica.pending ≡ n
  pub below : k ≤ n

-- the areas, b and c before, are d and e after it
pub record Clears (l : Limits) (k n : ℕ) (b c d e : List ℕ) : Type 0 where
  pub both : (p : Clearing l b c k n) → Both l d e (with_pending (take k p.replica.pending) p.replica)

module _ {l : Limits} {b c : List ℕ} {k n : ℕ} (s : Sane l) (p : Clearing l b c k n) where
  abbrev u : Replica
  u = p.replica

  pub clearing_few : n ≤ l.pending
  clearing_few = omega (arith, p.count, few_pending l u p.holds.fits)

  pub clearing_sizes : (length b ≡ record_length l) × (length c ≡ bodies_length l)
  clearing_sizes = (holds-long l s b u p.holds, bodies-long l s c u p.bodies)

  -- the code's offsets, in cells and in bytes
  module _ {from to : ℕ} (ef : from ≡ row_at l k) (et : to ≡ row_at l n) where
    pub clear-rows_inside : (from * 8 ≤ to * 8) × (to * 8 ≤ length b)
    clear-rows_inside =
        (omega (arith, mul-le-mul_right (row_width l) p.below), omega (arith, clearing_sizes.0, mul-le-mul_right (row_width l) clearing_few))

  module _ {x y : ℕ} (ex : x ≡ body_at l k) (ey : y ≡ body_at l n) where
    pub clear-bodies_inside : (x ≤ y) × (y ≤ length c)
    clear-bodies_inside =
        (omega (arith, mul-le-mul_right (body_width l) p.below), omega (arith, clearing_sizes.1, mul-le-mul_right (body_width l) clearing_few))

  zero-part : (w : ℕ) → table (n - k) w [] ≡ blank ((n - k) * w)
  unfolding table flat
  zero-part w = ap (λ (z : ℕ). blank (z * w)) (sub-zero (n - k))

  low : k ≤ length u.pending
  low = omega (arith, p.below, p.count)

  module _ {from to a : ℕ} (ef : from ≡ row_at l k) (et : to ≡ row_at l n) (ea : a ≡ pending_at l) where
    clear-rows : {d e : List ℕ} → d ≡ splice b (from * 8) (replicate (to * 8 - from * 8) 0) → Put d e a k → Holds l e (with_pending (take k u.pending ++ []) u)
    clear-rows {d} {e} ed ee =
        let w = row_width l * 8 in
        let z : k ≡ k + length {A = Pending} [] = omega arith in
        replace_rows l s b u p.holds k low [] tt tt n (omega (arith, p.count)) clearing_few (omega arith) d e
        (ed ∙ ap₂ (λ (i j : ℕ). splice b (i * 8) (replicate (j * 8 - i * 8) 0)) ef et
        ∙ ap (λ (i : ℕ). splice b (row_at l k * 8) (blank i)) (row-span l k n p.below)
        ∙ copied b (blank ((n - k) * w)) (row_at l k * 8) ((n - k) * w) (sym (length-replicate ((n - k) * w) 0))
        ∙ ap (put_mid (row_at l k * 8) ((n - k) * w) b) (sym (zero-part w)))
        (subst (Put d e (pending_at l)) z (subst (λ (i : ℕ). Put d e i k) ea ee))

    module _ {x y : ℕ} (ex : x ≡ body_at l k) (ey : y ≡ body_at l n) where
      pub clear_both : {d e f : List ℕ} → d ≡ splice b (from * 8) (replicate (to * 8 - from * 8) 0) → Put d e a k → f ≡ splice c x (replicate (y - x) 0) → Both l e f (with_pending (take k p.replica.pending) p.replica)
      clear_both {d} {e} {f} ed ee ef' =
          let w = body_width l in
          let r = clear-rows ed ee in
          let o : HoldsBodies l f (with_pending (take k u.pending ++ []) u) =
          replace_bodies l s c u p.bodies k n low (omega (arith, p.count)) clearing_few [] (omega arith) r.fits f
          (ef' ∙ ap₂ (λ (i j : ℕ). splice c i (replicate (j - i) 0)) ex ey
          ∙ ap (λ (i : ℕ). splice c (body_at l k) (blank i)) (body-spans l k n p.below)
          ∙ copied c (blank ((n - k) * w)) (body_at l k) ((n - k) * w) (sym (length-replicate ((n - k) * w) 0))
          ∙ ap (put_mid (body_at l k) ((n - k) * w) c) (sym (zero-part w))) in
          subst (λ (js : List Pending). Both l e f (with_pending js u)) (append-nil (take k u.pending)) (record { holds = r; bodies = o })

-- ---- all of it

-- the areas, b and c before, are d and e where those that leave have left
pub record Left (l : Limits) (cl sq : ℕ) (b c d e : List ℕ) : Type 0 where
  pub both : (p : Paired l b c) → Both l d e (with_pending (keep (stays cl sq) p.replica.pending) p.replica)

module _ {l : Limits} {b c : List ℕ} {u : Replica} {cl sq n k : ℕ} (r : Closing l b c u cl sq n k n) where
  abbrev pub closed_clearing : Clearing l b c k n
  closed_clearing = record { replica = with_pending r.queue u; holds = r.holds; bodies = r.bodies; count = r.count; below = r.below }

  pub closed : {d e : List ℕ} → Both l d e (with_pending (take k r.queue) u) → Both l d e (with_pending (keep (stays cl sq) u.pending) u)
  closed {d} {e} h =
      let z : drop n r.queue ≡ [] = drop_of_length-le r.queue {i = n} (omega (arith, r.count)) in
      subst (λ (js : List Pending). Both l d e (with_pending js u)) (sym (ap (λ (x : List Pending). take k r.queue ++ keep (stays cl sq) x) z ∙ append-nil (take k r.queue)) ∙ r.done) h
