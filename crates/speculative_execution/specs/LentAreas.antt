-- The two areas as the code is lent them: parts, offsets, and the loop by these. Assumes nothing.
use Rattle.std.specs.Prelude.{◌≡◌, refl, true, false, List, ℕ, ◌+◌, ◌-◌, ◌*◌, ◌≤◌, ◌<◌, ℤ, length, get_or}
use Rattle.std.proofs.Common.{sym, ap, ap₂, ◌∙◌, subst, arith, mul-le-mul_right, suc-mul}
use borrow.Rule.Slice.PartMut.{mid_of, put_mid}
use Rattle.cells.specs.Cells.{cells, uncells, Below}
use Rattle.operation.specs.Body.{body_length}
use Rattle.execution.specs.declared.ObjectsAt.{ObjectsAt}
use Rattle.execution.specs.Run.{Beside, beside, object_count}
use Rattle.execution.specs.LentTable.{lent_beside, BoundsWithin}
use Rattle.execution.specs.Arrays.{capacity}
use Rattle.model.specs.declared.Limits.{Limits}
use Rattle.model.specs.Calls.{most_work}
use Rattle.model.specs.Replica.{Pending, Replica, committed_table}
use Rattle.model.specs.Shape.{Shape}
use Rattle.layout.specs.Layout.{row, row_of, body_of, parse}
use Rattle.layout.specs.Offsets.{Sane, pending_at, row_width, row_at, body_width, body_at}
use Rattle.layout.proofs.OffsetLaws.{one-row_span}
use Rattle.layout.specs.Holds.{HoldsBodies}
use Rattle.layout.proofs.HoldsLaws.{bodies-long}
use Rattle.layout.proofs.Reading.{get-pending}
use Rattle.layout.proofs.Bodies.{body-part, body-size, body-span}
use Rattle.layout.specs.Fit.{fit}
use Rattle.layout.proofs.FitLaws.{fit-holds, fit-bodies, fit-shape}
use Rattle.layout.proofs.PrintableLaws.{few_pending}
use Rattle.committed_table.specs.Committed.{current, objects_place, beside_back, bounds-within}
use Rattle.speculative_turn.specs.declared.Advanced.{Advanced}
use Rattle.speculative_turn.specs.Advance.{Ready, Leaves}
use Rattle.speculative_turn.specs.AreaRow.{beside_in, ReadyAt, LeavesAt}
use Rattle.speculative_execution.specs.Passing.{nobody, formed-at, committed_with, Going, Worked, going_first, going_last, lent_row, turn_ready, turn_most, turn_next, turn_last}

-- areas that passed the shape check, beside the committed table and a budget
pub record Begun (l : Limits) (records bodies : List ℕ) (vs : List ℤ) (budget : ℕ) : Type 0 where
  pub sane : Sane l
  pub few : l.operations ≤ capacity
  pub fit : fit l (records, bodies) ≡ true
  pub allowed : budget ≤ most_work
  pub table : committed_with (parse l (records, bodies)) vs ≡ committed_table (parse l (records, bodies))
  pub size : object_count vs ≡ length (parse l (records, bodies)).objects

module _ {l : Limits} (s : Sane l) (records bodies : List ℕ) (f : fit l (records, bodies) ≡ true) where
  abbrev u : Replica
  u = parse l (records, bodies)

  module _ (b : Below 256 records) where
    bodies-holding : HoldsBodies l bodies u
    bodies-holding = fit-bodies l s (records, bodies) b f

    pub pending-there : get_or (cells records) (pending_at l) 0 ≡ length u.pending
    pending-there = get-pending l s records u (fit-holds l s (records, bodies) b f)

    module _ (i : ℕ) (h : i < length u.pending) where
      pub low-place : i < l.pending
      low-place = omega (arith, few_pending l u bodies-holding.fits)

      abbrev j : Pending
      j = get_or u.pending i nobody

      -- a body lies in its place
      pub body-inside : (body_at l i < length bodies) × (body_at l i + body_length (get_or bodies (body_at l i) 0) ≤ length bodies)
      body-inside =
          let n = body-size l s bodies u bodies-holding i h nobody in
          let w : get_or bodies (body_at l i) 0 ≤ l.operations = omega (arith, n, (formed-at (fit-shape l (records, bodies) f) i h).most) in
          let p = mul-le-mul_right (body_width l) low-place in
          let q = suc-mul i (body_width l) in
          (omega (arith, bodies-long l s bodies u bodies-holding), omega (arith, bodies-long l s bodies u bodies-holding))

      pub lent-body : (n : ℕ) → n ≡ get_or bodies (body_at l i) 0 → mid_of (body_at l i) (body_at l i + body_length n - body_at l i) bodies ≡ body_of j
      lent-body n e =
          let z : body_at l i + body_length n - body_at l i ≡ length (body_of j) = omega (arith, e, body-size l s bodies u bodies-holding i h nobody, body-span l s bodies u bodies-holding i h nobody) in
          ap (λ (k : ℕ). mid_of (body_at l i) k bodies) z ∙ body-part l s bodies u bodies-holding i h nobody

-- ---- the loop, by the code's own offsets

module _ {l : Limits} {records bodies : List ℕ} {vs : List ℤ} {budget : ℕ} (g : Begun l records bodies vs budget) (b : Below 256 records) where
  abbrev u₀ : Replica
  u₀ = parse l (records, bodies)

  shape : Shape l u₀
  shape = fit-shape l (records, bodies) g.fit

  pub begun_first : Going l u₀ budget records vs 0 budget
  begun_first =
      going_first g.sane g.few shape budget g.allowed (fit-holds l g.sane (records, bodies) b g.fit) g.table g.size

  module _ {here : List ℕ} {ts : List ℤ} {i left : ℕ} (k : Going l u₀ budget here ts i left) where
    pub begun-last : length u₀.pending ≤ i → Worked l u₀ budget here (budget - left) i
    begun-last h = going_last g.sane g.few shape budget g.allowed k h

    module _ (h : i < length u₀.pending) {r e at n : ℕ} (er : r ≡ row_at l i) (ee : e ≡ row_at l (i + 1)) (ea : at ≡ body_at l i) (en : n ≡ body_length (get_or bodies at 0)) where
      abbrev row_bytes : List ℕ
      row_bytes = mid_of (r * 8) (e * 8 - r * 8) here

      abbrev body_bytes : List ℕ
      body_bytes = mid_of at (at + n - at) bodies

      width : e * 8 - r * 8 ≡ row_width l * 8
      width = one-row_span l i r e er ee

      is_row : row_bytes ≡ uncells ((row l.operations).enc (row_of (get_or u₀.pending i nobody)))
      is_row =
          ap₂ (λ (x y : ℕ). mid_of (x * 8) y here) er width
          ∙ lent_row g.sane g.few shape budget g.allowed k h

      is_body : body_bytes ≡ body_of (get_or u₀.pending i nobody)
      is_body =
          ap (λ (k : ℕ). mid_of at (at + k - at) bodies) en
          ∙ ap (λ (x : ℕ). mid_of x (x + body_length (get_or bodies x 0) - x) bodies) ea
          ∙ lent-body g.sane records bodies g.fit b i h (get_or bodies (body_at l i) 0) refl

      -- stamps and bounds in the area, which has only rows changed, are the committed ones
      beside-here : {p : ObjectsAt} → p ≡ objects_place l → beside_in here p ts ≡ beside (committed_table u₀)
      beside-here ep =
          ap₂ (λ (n : ℕ) (q : ObjectsAt). lent_beside n q (cells here)) k.size ep ∙ beside_back l g.sane here _ k.holds (current u₀ shape)

      pub lent-ready : {p : ObjectsAt} → p ≡ objects_place l → e * 8 ≤ length here → ReadyAt here p (r * 8) (e * 8) body_bytes ts left
      lent-ready {p} ep inside =
          record {
            order = omega (arith, er, ee);
            inside = inside;
            bounded = subst (λ (n : ℕ). BoundsWithin p n (length here)) (sym k.size) (subst (λ (q : ObjectsAt). BoundsWithin q (length u₀.objects) (length here)) (sym ep) (bounds-within l g.sane here _ k.holds));
            ready = subst (λ (rest : Beside). Ready row_bytes body_bytes ts rest left) (sym (beside-here ep)) (turn_ready g.sane g.few shape budget g.allowed k h is_row is_body);
          }

      module _ {p : ObjectsAt} (ep : p ≡ objects_place l) {a : Advanced} {zs : List ℕ} {ws : List ℤ} (at-area : LeavesAt here p (r * 8) (e * 8) body_bytes ts left a zs ws) where
        lv : Leaves row_bytes body_bytes ts (beside (committed_table u₀)) left a at-area.new_row ws
        lv = subst (λ (rest : Beside). Leaves row_bytes body_bytes ts rest left a at-area.new_row ws) (beside-here ep) at-area.leaves

        is-back : zs ≡ put_mid (row_at l i * 8) (row_width l * 8) here at-area.new_row
        is-back = at-area.back ∙ ap₂ (λ (x y : ℕ). put_mid (x * 8) y here at-area.new_row) er width

        pub lent-most : a.used ≤ left
        lent-most = turn_most g.sane g.few shape budget g.allowed k h is_row is_body lv

        pub lent-next : a.finished ≡ true → object_count ws ≡ object_count ts → Going l u₀ budget zs ws (i + 1) (left - a.used)
        lent-next f n = turn_next g.sane g.few shape budget g.allowed k h is_row is_body lv f is-back n

        pub lent-last : a.finished ≡ false → Worked l u₀ budget zs (budget - (left - a.used)) i
        lent-last f = turn_last g.sane g.few shape budget g.allowed k h is_row is_body lv f is-back
