-- Each way out of the readers' calls: the refusals, in their order, and what is done. Assumes nothing.
use Rattle.std.specs.Prelude.{◌≡◌, Bool, true, false, not, cond, ◌||◌, eqb, leb, length, set}
use Rattle.std.proofs.Math.Path.{refl, ap}
use Rattle.std.proofs.Common.{sym, ◌∙◌, subst, inr, arith}
use Rattle.std.proofs.Math.Option.{Option, none, some, none-ne-some}
use mathlib.Core.List.{List, [], ◌∷◌, map}
use Prim.Native.Nat.{ℕ, zero, suc, ◌+◌, ◌-◌, ◌*◌, ◌≤◌, ◌<◌, ◌^◌}
use Rattle.std.proofs.Math.ListN.{get_or, get_or-map}
use borrow.Author.Tests.{le-leb, lt-leb}
use borrow.Rule.Slice.PartMut.{mid_of}
use Rattle.cells.specs.Cells.{cells, Put}
use Rattle.model.specs.declared.Limits.{Limits}
use Rattle.model.specs.Calls.{Call, Query, Yield, open_reader, read, close_reader, Answer, refused, yielded, done, version, causes, refusal, judged, last_timestamp}
use Rattle.model.specs.Serial.{Version, is_some}
use Rattle.model.specs.Lists.{any}
use Rattle.model.proofs.Held.{open_shape}
use Rattle.model.specs.Replica.{Replica, opens, as_of, view, facts, perform, call}
use Rattle.model.proofs.Queries.{query-same}
use Rattle.model.specs.Shape.{Shape, VersionsShape}
use Rattle.model.specs.ListLaws.{All}
use Rattle.model.proofs.ListLaws.{all_in, all-implies}
use Rattle.model.proofs.VersionLaws.{none-later, as_of-one}
use Rattle.layout.specs.Layout.{of_reader, body_of}
use Rattle.layout.specs.Offsets.{Sane, reader_at, versions_width, object_at}
use Rattle.layout.specs.Holds.{Holds, with_readers}
use Rattle.layout.proofs.Reading.{get-timestamp, get-reader}
use Rattle.layout.proofs.Writing.{put-reader}
use Rattle.layout.specs.Printable.{ReaderFits}
use Rattle.versions.specs.Block.{seen_from, SortedBlock}
use Rattle.layout.proofs.LentBlockLaws.{lent-object, lent-sorted}
use Rattle.layout.specs.Contract.{Answered}
use Rattle.snapshots.specs.ClosePruning.{Pruned}

-- ---- a reader's cell

open_cell : (x : Option ℕ) → 0 < of_reader x → is_some x ≡ true
open_cell none h = absurd (omega arith)
open_cell (some t) h = refl

closed-cell : (x : Option ℕ) → of_reader x ≡ 0 → is_some x ≡ false
closed-cell none e = refl
closed-cell (some t) e = absurd (omega arith)

-- what a reader sees, by its cell
seen : (x : Option ℕ) (vs : List Version) → 0 < of_reader x → as_of (of_reader x - 1) vs ≡ view x vs
seen none vs h = absurd (omega arith)
seen (some t) vs h = let e : suc t - 1 ≡ t = omega arith in rw e

-- the open readers before a close: the one that closes, and the others
opens-close : (l : List (Option ℕ)) (i t x : ℕ) → get_or l i none ≡ some t → any (eqb x) (opens l) ≡ eqb x t || any (eqb x) (opens (set l i none))
opens-close [] i t x e = absurd (none-ne-some t e)
opens-close (none ∷ l) zero t x e = absurd (none-ne-some t e)
opens-close (some r ∷ l) zero t x e = let q : r ≡ t = cc in rw q
opens-close (none ∷ l) (suc i) t x e = opens-close l i t x e
opens-close (some r ∷ l) (suc i) t x e = ap (eqb x r ||◌) (opens-close l i t x e) ∙ swap (eqb x r) (eqb x t) (any (eqb x) (opens (set l i none)))
  where
    swap : (a b d : Bool) → a || (b || d) ≡ b || (a || d)
    swap true true d = refl
    swap true false d = refl
    swap false b d = refl

pub last-small : last_timestamp < 2 ^ 63
unfolding last_timestamp
last-small = omega arith

opened-as : (y : Option ℕ) (x : ℕ) → x ≡ of_reader y → 0 < x → y ≡ some (x - 1)
opened-as none x e h = absurd (omega arith)
opened-as (some t) x e h = let q : t ≡ x - 1 = omega arith in ap some q

-- what closing asks: the shape, the reader that closes before the others
shaped-before : (u : Replica) (i t : ℕ) → get_or u.readers i none ≡ some t → All (VersionsShape u.timestamp (opens u.readers)) u.objects → All (VersionsShape u.timestamp (t ∷ opens (set u.readers i none))) u.objects
shaped-before u i t e v =
    let rs = opens u.readers in
    let ts = t ∷ opens (set u.readers i none) in
    all-implies (VersionsShape u.timestamp rs) (VersionsShape u.timestamp ts)
    (λ vs. open_shape u.timestamp rs ts vs (λ x h. sym (opens-close u.readers i t x e) ∙ h) (λ x h. inr (opens-close u.readers i t x e ∙ h))) u.objects v

-- ---- the bodies stay

-- judged, a call that would leave this part as it is leaves it so
same-part : {B : Type 0} (g : Replica → B) (u : Replica) (r : Yield × Replica) (k : ℕ) → g r.1 ≡ g u → g (judged u r k).1 ≡ g u
same-part g u r zero e = e
same-part g u r (suc k) e = refl

module _ (l : Limits) (r : ℕ) where
  pub open_reader-bodies : (u : Replica) → map body_of (call l u (open_reader r)).1.pending ≡ map body_of u.pending
  unfolding call perform
  open_reader-bodies u = same-part (λ v. map body_of v.pending) u (perform l u (open_reader r)) (refusal l (facts u) (open_reader r)) refl

  pub close_reader-bodies : (u : Replica) → map body_of (call l u (close_reader r)).1.pending ≡ map body_of u.pending
  unfolding call perform
  close_reader-bodies u = same-part (λ v. map body_of v.pending) u (perform l u (close_reader r)) (refusal l (facts u) (close_reader r)) refl

  pub read-bodies : (o : ℕ) (u : Replica) → map body_of (call l u (read r o)).1.pending ≡ map body_of u.pending
  read-bodies o u = ap (λ (v : Replica). map body_of v.pending) (query-same l u (Query.read r o))

-- ---- a call refused, and a call done

module _ (l : Limits) (c : Call) (u : Replica) (b : List ℕ) where
  turned_back : (k : ℕ) → refusal l (facts u) c ≡ suc k → Holds l b u → Answered l c u b (refused (suc k))
  unfolding call
  turned_back k e h = record { answer = rw e; after = rw e h }

  done-by : refusal l (facts u) c ≡ 0 → (a : Answer) → a ≡ yielded (perform l u c).0 → Holds l b (perform l u c).1 → Answered l c u b a
  unfolding call
  done-by e a p h = record { answer = rw e p; after = rw e h }

module _ (l : Limits) (u : Replica) (r : ℕ) where
  is_open : Bool
  is_open = is_some (get_or u.readers r none)

  by_reader : get_or (map is_some u.readers) r false ≡ is_open
  unfolding is_open
  by_reader = get_or-map is_some u.readers r none

  open_refusal : refusal l (facts u) (open_reader r) ≡ cond (leb l.readers r) 10 (cond is_open 11 0)
  unfolding refusal causes facts
  open_refusal = rw by_reader

  read-refusal : (o : ℕ) → refusal l (facts u) (read r o) ≡ cond (leb l.readers r) 10 (cond (not is_open) 12 (cond (leb (length u.objects) o) 13 0))
  unfolding refusal causes facts
  read-refusal o = rw by_reader

  close_refusal : refusal l (facts u) (close_reader r) ≡ cond (leb l.readers r) 10 (cond (not is_open) 12 0)
  unfolding refusal causes facts
  close_refusal = rw by_reader

-- object o's block is lent: k bytes from cell a on
module _ (l : Limits) (s : Sane l) (b : List ℕ) (u : Replica) (h : Holds l b u) (g : Shape l u) (o : ℕ) (q : o < length u.objects) (a k : ℕ) (ea : a ≡ object_at l o) (ek : k ≡ versions_width l * 8) where
  shaped : VersionsShape u.timestamp (opens u.readers) (get_or u.objects o [])
  shaped = all_in (VersionsShape u.timestamp (opens u.readers)) u.objects o [] g.versions q

  -- a lookup may go through it
  pub read-sorted : SortedBlock (mid_of (a * 8) k b)
  read-sorted = lent-sorted l s b u h o q a k ea ek shaped.order

  -- the stamp of what is seen in it is one of the replica's, so that 32 bits hold it
  pub seen-small : (t : ℕ) → (seen_from b t k (a * 8)).stamp < 2 ^ 32
  unfolding last_timestamp
  seen-small t =
      let vs = get_or u.objects o [] in
      rw (lent-object l s b u h o q a k ea ek)
      (omega (arith, as_of-one (λ (v : Version). v.stamp ≤ u.timestamp) t vs (omega arith) (none-later u.timestamp vs shaped.bound), g.encoded.timestamp))

module _ (l : Limits) (s : Sane l) (b : List ℕ) (u : Replica) (h : Holds l b u) (r : ℕ) where
  -- ---- no such reader

  module _ (high : l.readers ≤ r) where
    pub open_no_reader : Answered l (open_reader r) u b (refused 10)
    open_no_reader = turned_back l (open_reader r) u b 9 (open_refusal l u r ∙ rw (le-leb l.readers r high)) h

    pub read-no_reader : (o : ℕ) → Answered l (read r o) u b (refused 10)
    read-no_reader o = turned_back l (read r o) u b 9 (read-refusal l u r o ∙ rw (le-leb l.readers r high)) h

    pub close_no_reader : Answered l (close_reader r) u b (refused 10)
    close_no_reader = turned_back l (close_reader r) u b 9 (close_refusal l u r ∙ rw (le-leb l.readers r high)) h

  -- its cell, in the code's numbers
  module _ (low : r < l.readers) (at : ℕ) (ea : at ≡ reader_at r) where
    was : get_or (cells b) at 0 ≡ of_reader (get_or u.readers r none)
    was = ap (λ (i : ℕ). get_or (cells b) i 0) ea ∙ get-reader l s b u h r low

    pub put-cell : (x : Option ℕ) → ReaderFits x → (v : ℕ) → v ≡ of_reader x → (b₁ : List ℕ) → Put b b₁ at v → Holds l b₁ (with_readers (set u.readers r x) u)
    put-cell x g v e b₁ w = put-reader l s b u h r low x g b₁ (subst (Put b b₁ (reader_at r)) e (subst (λ (i : ℕ). Put b b₁ i v) ea w))

    -- ---- the reader is open

    module _ (x : ℕ) (e : x ≡ get_or (cells b) at 0) (p : 0 < x) where
      opened : is_open l u r ≡ true
      unfolding is_open
      opened = open_cell (get_or u.readers r none) (omega (arith, was))

      pub open_again : Answered l (open_reader r) u b (refused 11)
      open_again =
          turned_back l (open_reader r) u b 10 (open_refusal l u r ∙ rw (lt-leb l.readers r low, opened)) h

      pub read-no_object : (o : ℕ) → length u.objects ≤ o → Answered l (read r o) u b (refused 13)
      read-no_object o k =
          turned_back l (read r o) u b 12 (read-refusal l u r o ∙ rw (lt-leb l.readers r low, opened, le-leb (length u.objects) o k)) h

      -- object o's block is lent: k bytes from cell a on
      pub read_done : (o : ℕ) → o < length u.objects → (a k : ℕ) → a ≡ object_at l o → k ≡ versions_width l * 8 → (v : Version) → v ≡ seen_from b (x - 1) k (a * 8) → Answered l (read r o) u b (version v)
      unfolding perform
      read_done o q a k ea ek v ev =
          let vs = get_or u.objects o [] in
          let y = get_or u.readers r none in
          let same : seen_from b (x - 1) k (a * 8) ≡ view y vs =
          ap (as_of (x - 1)) (lent-object l s b u h o q a k ea ek) ∙ ap (λ (t : ℕ). as_of (t - 1) vs) (e ∙ was) ∙ seen y vs (omega (arith, was)) in
          done-by l (read r o) u b (read-refusal l u r o ∙ rw (lt-leb l.readers r low, opened, lt-leb (length u.objects) o q)) (version v)
          (ap version (ev ∙ same)) h

      -- b₁: the reader's cell is 0; b₂: what no other reader holds is gone
      pub close_done : Shape l u → (b₁ b₂ : List ℕ) → Put b b₁ at 0 → Pruned l b₁ b₂ → Answered l (close_reader r) u b₂ done
      unfolding perform
      close_done g b₁ b₂ w q =
          done-by l (close_reader r) u b₂ (close_refusal l u r ∙ rw (lt-leb l.readers r low, opened)) done refl
          (q (with_readers (set u.readers r none) u) (put-cell none (omega arith) 0 refl b₁ w))

      pub before-close : Shape l u → All (VersionsShape u.timestamp ((x - 1) ∷ opens (set u.readers r none))) u.objects
      before-close g = shaped-before u r (x - 1) (opened-as (get_or u.readers r none) x (e ∙ was) p) g.versions

    -- ---- the reader is closed

    module _ (x : ℕ) (e : x ≡ get_or (cells b) at 0) (p : x ≡ 0) where
      closed : is_open l u r ≡ false
      unfolding is_open
      closed = closed-cell (get_or u.readers r none) (omega (arith, was))

      pub read-not_open : (o : ℕ) → Answered l (read r o) u b (refused 12)
      read-not_open o =
          turned_back l (read r o) u b 11 (read-refusal l u r o ∙ rw (lt-leb l.readers r low, closed)) h

      pub close_not_open : Answered l (close_reader r) u b (refused 12)
      close_not_open =
          turned_back l (close_reader r) u b 11 (close_refusal l u r ∙ rw (lt-leb l.readers r low, closed)) h

      -- the reader's cell takes the timestamp and one
      pub open_done : Shape l u → (t : ℕ) → t ≡ get_or (cells b) 0 0 → (b₁ : List ℕ) → Put b b₁ at (t + 1) → Answered l (open_reader r) u b₁ done
      unfolding perform last_timestamp
      open_done g t et b₁ w =
          let f : t + 1 ≡ suc u.timestamp = omega (arith, et, get-timestamp l s b u h) in
          done-by l (open_reader r) u b₁ (open_refusal l u r ∙ rw (lt-leb l.readers r low, closed)) done refl
          (put-cell (some u.timestamp) (omega (arith, g.encoded.timestamp)) (t + 1) f b₁ w)
