-- Which pending transactions leave, and what the functions that take them out ask and leave. Assumes nothing.
use Rattle.std.specs.Prelude.{◌≡◌, refl, Bool, true, false, not, cond, ◌&&◌, List, [], ◌∷◌, ◌++◌, ℕ, suc, ◌+◌, ◌-◌, ◌^◌, ◌≤◌, ◌<◌, eqb, leb, length, take, drop, get_or}
use Rattle.std.proofs.Common.{sym, ap, ap₂, ◌∙◌, append_assoc, arith, add-one, length-drop, drop_of_length-le, drop-cons, drop-drop, ne_eqb, eqb-true, le-leb, leb-true, leb-false}
use Rattle.std.proofs.Math.Option.{none}
use Rattle.std.proofs.lemmas.List.Edits.{take-paste, drop-paste, length-paste}
use Rattle.std.proofs.lemmas.Bool.{eqb-false, lt-leb}
use Rattle.cells.specs.Cells.{cells}
use Rattle.model.specs.declared.Limits.{Limits}
use Rattle.model.specs.Calls.{leaves}
use Rattle.model.specs.Lists.{keep, index}
use Rattle.model.specs.Replica.{Pending, Replica, pending_of, stays}
use Rattle.layout.specs.Layout.{of_key, row_of}
use Rattle.layout.specs.Offsets.{Sane, row_at, record_length, bodies_length}
use Rattle.layout.specs.Printable.{RowFits}
use Rattle.layout.proofs.PrintableLaws.{few_pending}
use Rattle.layout.specs.Holds.{Holds, HoldsBodies, with_pending}
use Rattle.layout.proofs.HoldsLaws.{holds-long, bodies-long}
use Rattle.layout.proofs.Reading.{get-row}
use Rattle.queue.proofs.PlaceLaws.{index-most}
use Rattle.final_commit.specs.Positions.{at, fits-at}
use Rattle.final_requeue.specs.RunsMoved.{Moving, Moves, moved}

-- ---- which leave

-- r says whether the transaction with this key leaves
pub record Leaves (key cl sq : ℕ) (r : Bool) : Type 0 where
  pub told : (j : Pending) → j.sent.sequence < 2 ^ 32 → key ≡ of_key (row_of j).0 → r ≡ leaves cl sq j.sent

-- the client's keys that leave are those from its first up to the one with this number
module _ {key cl sq : ℕ} (small : sq < 2 ^ 32) where
  pub leaves-before : key < of_key (cl, 0) → Leaves key cl sq false
  leaves-before k = record { told = λ j h e. sym (ap (◌&& leb j.sent.sequence sq) (ne_eqb j.sent.client cl (λ z. omega arith))) }

  pub leaves-from : of_key (cl, 0) ≤ key → Leaves key cl sq (leb key (of_key (cl, sq)))
  leaves-from k = record { told = λ j h e. by j h e (eqb j.sent.client cl) (leb j.sent.sequence sq) refl refl }
    where
      by : (j : Pending) → j.sent.sequence < 2 ^ 32 → key ≡ of_key (row_of j).0 → (x y : Bool) → eqb j.sent.client cl ≡ x → leb j.sent.sequence sq ≡ y → leb key (of_key (cl, sq)) ≡ (x && y)
      by j h e true true p q = le-leb key (of_key (cl, sq)) (omega (arith, eqb-true j.sent.client cl p, leb-true j.sent.sequence sq q))
      by j h e true false p q = lt-leb key (of_key (cl, sq)) (omega (arith, eqb-true j.sent.client cl p, leb-false j.sent.sequence sq q))
      by j h e false y p q = lt-leb key (of_key (cl, sq)) (let z : j.sent.client ≡ cl → ⊥ = eqb-false j.sent.client cl p in omega arith)

abbrev pub gone : ℕ → ℕ → Pending → Bool
gone cl sq j = leaves cl sq j.sent

-- those that stay are those before the first that leaves, and those that stay of the ones behind it
stay : (q : Pending → Bool) (js : List Pending) → keep (λ j. not (q j)) js ≡ take (index q js) js ++ keep (λ j. not (q j)) (drop (suc (index q js)) js)
stay q [] = refl
stay q (j ∷ js) = by (q j) (stay q js)
  where
    by : (x : Bool) → keep (λ j. not (q j)) js ≡ take (index q js) js ++ keep (λ j. not (q j)) (drop (suc (index q js)) js)
        → cond (not x) (j ∷ keep (λ j. not (q j)) js) (keep (λ j. not (q j)) js) ≡ take (cond x 0 (suc (index q js))) (j ∷ js) ++ keep (λ j. not (q j)) (drop (suc (cond x 0 (suc (index q js)))) (j ∷ js))
    by true e = refl
    by false e = ap (j ∷◌) e

-- ---- the first that leaves

-- the record area b holds a replica with n pending transactions, of which i are passed
pub record Queued (l : Limits) (b : List ℕ) (n i : ℕ) : Type 0 where
  pub replica : Replica
  pub holds : Holds l b replica
  pub count : n ≡ length replica.pending
  pub within : i ≤ n

-- r is the position of the first from i on that leaves, or n
pub record NextLeaving (l : Limits) (b : List ℕ) (cl sq n i r : ℕ) : Type 0 where
  pub found : (p : Queued l b n i) → r ≡ i + index (gone cl sq) (drop i p.replica.pending)

-- the loop: the first from i₀ on is the first from i on
pub record Passing (l : Limits) (b : List ℕ) (cl sq n i₀ i : ℕ) : Type 0 where
  pub within : i ≤ n
  pub left : (p : Queued l b n i₀) → i₀ + index (gone cl sq) (drop i₀ p.replica.pending) ≡ i + index (gone cl sq) (drop i p.replica.pending)

pub passing-start : {l : Limits} {b : List ℕ} {n i : ℕ} (cl sq : ℕ) → Queued l b n i → Passing l b cl sq n i i
passing-start cl sq p = record { within = p.within; left = λ q. refl }

module _ {l : Limits} {b : List ℕ} {cl sq n i₀ i : ℕ} (k : Passing l b cl sq n i₀ i) where
  pub passing-end : n ≤ i → NextLeaving l b cl sq n i₀ i
  passing-end h =
      record {
        found = λ p. let z : drop i p.replica.pending ≡ [] = drop_of_length-le p.replica.pending {i = i} (omega (arith, p.count)) in
            let y : i + 0 ≡ i = omega arith in
            sym (k.left p ∙ ap (λ (x : List Pending). i + index (gone cl sq) x) z ∙ y);
      }

  module _ (s : Sane l) (low : i < n) where
    module _ (p : Queued l b n i₀) where
      abbrev u : Replica
      u = p.replica

      abbrev j : Pending
      j = at u.pending i

      there : i < length u.pending
      there = omega (arith, p.count)

      pub passing-there : i < l.pending
      passing-there = omega (arith, there, few_pending l u p.holds.fits)

      pub passing-long : length b ≡ record_length l
      passing-long = holds-long l s b u p.holds

      -- its key
      is_key : {a key : ℕ} → a ≡ row_at l i → key ≡ get_or (cells b) a 0 → key ≡ of_key (row_of j).0
      is_key {a} {key} ea e =
          let z : a ≡ row_at l i + 0 = omega (arith, ea) in
          e ∙ ap (λ (x : ℕ). get_or (cells b) x 0) z ∙ get-row l s b u p.holds i there (pending_of none) 0 (omega arith)

      small : j.sent.sequence < 2 ^ 32
      small = (fits-at row_of (RowFits l.operations) u.pending i there p.holds.fits.rows.1).0.1

      next : index (gone cl sq) (drop i u.pending) ≡ cond (gone cl sq j) 0 (suc (index (gone cl sq) (drop (suc i) u.pending)))
      next = ap (index (gone cl sq)) (drop-cons u.pending i (pending_of none) there)

    -- what the code saw of row i
    module _ {a key : ℕ} {r : Bool} (ea : a ≡ row_at l i) (ek : key ≡ get_or (cells b) a 0) (t : Leaves key cl sq r) where
      seen : (p : Queued l b n i₀) → r ≡ gone cl sq (at p.replica.pending i)
      seen p = t.told (j p) (small p) (is_key p ea ek)

      pub passing-found : r ≡ true → NextLeaving l b cl sq n i₀ i
      passing-found e =
          let z : i + 0 ≡ i = omega arith in
          record { found = λ p. sym (k.left p ∙ ap (i +◌) (next p ∙ rw (sym (seen p) ∙ e)) ∙ z) }

      pub passing-next : r ≡ false → Passing l b cl sq n i₀ (i + 1)
      passing-next e =
          record {
            within = omega arith;
            left = λ p. let m = index (gone cl sq) (drop (suc i) p.replica.pending) in
                let z : i + suc m ≡ i + 1 + m = omega arith in
                k.left p ∙ ap (i +◌) (next p ∙ rw (sym (seen p) ∙ e)) ∙ z ∙ ap (λ (x : ℕ). i + 1 + index (gone cl sq) (drop x p.replica.pending)) (sym (add-one i));
          }

-- ---- closed up

-- both areas hold a replica
pub record Paired (l : Limits) (b c : List ℕ) : Type 0 where
  pub replica : Replica
  pub holds : Holds l b replica
  pub bodies : HoldsBodies l c replica

-- and it has so many pending transactions
pub record Counted (l : Limits) (b c : List ℕ) (n : ℕ) : Type 0 where
  pub replica : Replica
  pub holds : Holds l b replica
  pub bodies : HoldsBodies l c replica
  pub count : n ≡ length replica.pending

abbrev pub counted : {l : Limits} {b c : List ℕ} (n : ℕ) (p : Paired l b c) → n ≡ length p.replica.pending → Counted l b c n
counted n p e = record { replica = p.replica; holds = p.holds; bodies = p.bodies; count = e }

-- The areas now, of n transactions of u: those before i that stay stand in the first k places, those from i on where they were.
pub record Closing (l : Limits) (b c : List ℕ) (u : Replica) (cl sq n k i : ℕ) : Type 0 where
  pub queue : List Pending
  pub holds : Holds l b (with_pending queue u)
  pub bodies : HoldsBodies l c (with_pending queue u)
  pub count : length queue ≡ n
  pub below : k ≤ i
  pub few : k ≤ n
  pub done : take k queue ++ keep (stays cl sq) (drop i queue) ≡ keep (stays cl sq) u.pending

-- what `close_up` leaves: k of n transactions stay
pub record Closes (l : Limits) (b c : List ℕ) (cl sq n : ℕ) (b' c' : List ℕ) (k : ℕ) : Type 0 where
  pub closing : (p : Counted l b c n) → Closing l b' c' p.replica cl sq n k n

pub closing-start : {l : Limits} {b c : List ℕ} {n : ℕ} (cl sq : ℕ) (p : Counted l b c n) → Closing l b c p.replica cl sq n 0 0
closing-start cl sq p =
    record { queue = p.replica.pending; holds = p.holds; bodies = p.bodies; count = sym p.count; below = omega arith; few = omega arith; done = refl }

module _ {l : Limits} {b c : List ℕ} {u : Replica} {cl sq n k i : ℕ} (r : Closing l b c u cl sq n k i) where
  pub closing-sizes : Sane l → (length b ≡ record_length l) × (length c ≡ bodies_length l)
  closing-sizes s =
      (holds-long l s b (with_pending r.queue u) r.holds, bodies-long l s c (with_pending r.queue u) r.bodies)

  -- past the last
  pub closing_end : n ≤ i → Closing l b c u cl sq n k n
  closing_end h =
      let far : (x : ℕ) → n ≤ x → drop x r.queue ≡ [] = λ x z. drop_of_length-le r.queue {i = x} (omega (arith, r.count)) in
      record {
        queue = r.queue;
        holds = r.holds;
        bodies = r.bodies;
        count = r.count;
        below = r.few;
        few = r.few;
        done = ap (λ (x : List Pending). take k r.queue ++ keep (stays cl sq) x) (far n (omega arith) ∙ sym (far i h)) ∙ r.done;
      }

  module _ (low : i ≤ n) where
    abbrev pub closing_queued : Queued l b n i
    closing_queued = record { replica = with_pending r.queue u; holds = r.holds; count = sym r.count; within = omega arith }

    -- x is the first from i on that leaves
    module _ {x : ℕ} (f : NextLeaving l b cl sq n i x) where
      abbrev m : ℕ
      m = index (gone cl sq) (drop i r.queue)

      run : x ≡ i + m
      run = f.found closing_queued

      pub run-within : (i ≤ x) × (x ≤ n)
      run-within = (omega (arith, run), omega (arith, run, index-most (gone cl sq) (drop i r.queue), length-drop i r.queue, r.count))

      abbrev pub closing_moving : Moving l b c k i (x - i)
      closing_moving =
          record { replica = with_pending r.queue u; holds = r.holds; bodies = r.bodies; below = r.below; within = omega (arith, run-within.0, run-within.1, r.count) }

      -- those before it are moved down
      pub closing-next : {d e : List ℕ} → Moves l k i (x - i) b c d e → Closing l d e u cl sq n (k + (x - i)) (x + 1)
      closing-next {d} {e} h =
          let g = h.both closing_moving in
          let js = r.queue in
          let w = run-within in
          let y : x - i ≡ m = omega (arith, run) in
          let fits : k + (x - i) ≤ length js = omega (arith, r.below, r.count) in
          let some : x - i ≤ length (drop i js) = omega (arith, length-drop i js, r.count) in
          let past : x + 1 ≡ i + suc m = omega (arith, run) in
          let far : drop (x + 1) (moved k i (x - i) js) ≡ drop (suc m) (drop i js) =
          moved-drop k i (x - i) (x + 1) js fits (omega (arith, r.below)) some
          ∙ ap (λ (z : ℕ). drop z js) past ∙ sym (drop-drop (suc m) i js) in
          record {
            queue = moved k i (x - i) js;
            holds = g.holds;
            bodies = g.bodies;
            count = length-paste js k (drop i js) (x - i) fits some ∙ r.count;
            below = omega (arith, r.below);
            few = omega (arith, r.below);
            done =
                ap₂ (λ (a c : List Pending). a ++ keep (stays cl sq) c) (take-paste js k (drop i js) (x - i) (omega (arith, fits)) some) far
                ∙ append_assoc (take k js) (take (x - i) (drop i js)) (keep (stays cl sq) (drop (suc m) (drop i js)))
                ∙ ap (λ (z : ℕ). take k js ++ (take z (drop i js) ++ keep (stays cl sq) (drop (suc m) (drop i js)))) y
                ∙ ap (take k js ++◌) (sym (stay (gone cl sq) (drop i js)))
                ∙ r.done;
          }
        where
          moved-drop : (k i n x : ℕ) (js : List Pending) → k + n ≤ length js → k + n ≤ x → n ≤ length (drop i js) → drop x (moved k i n js) ≡ drop x js
          moved-drop k i n x js h g f =
              let z : k + n + (x - (k + n)) ≡ x = omega arith in
              ap (λ (y : ℕ). drop y (moved k i n js)) (sym z) ∙ sym (drop-drop (x - (k + n)) (k + n) (moved k i n js))
              ∙ ap (drop (x - (k + n))) (drop-paste js k (drop i js) n (omega arith) f)
              ∙ drop-drop (x - (k + n)) (k + n) js ∙ ap (λ (y : ℕ). drop y js) z
