-- The pending transactions one after another, as the loop goes: what holds before each turn, and what a turn makes of it. Assumes nothing.
use Rattle.std.specs.Prelude.{◌≡◌, refl, ◌⊎◌, Bool, true, false, cond, ℕ, zero, suc, ◌+◌, ◌-◌, ◌*◌, ◌^◌, ◌≤◌, ◌<◌, ℤ, length, drop, get_or, set}
use Rattle.std.proofs.Math.Path.{sym, ap, subst}
use Rattle.std.proofs.Common.{ap₂, ◌∙◌, inl, inr, true≢false, arith, add-one, take-suc, drop-cons, le-ltb}
use Rattle.std.proofs.Math.Option.{none}
use mathlib.Core.List.{List, [], ◌∷◌, ◌++◌}
use Rattle.std.proofs.Math.ListN.{take, drop_of_length-le}
use Rattle.std.proofs.Math.Seq.{take_all}
use borrow.Rule.Slice.PartMut.{mid_of, put_mid}
use Rattle.std.proofs.lemmas.Bool.{lt-leb}
use Rattle.cells.specs.Cells.{cells, uncells}
use Rattle.operation.specs.Body.{operations, is_well_formed}
use Rattle.operation.specs.BodyLaws.{Formed}
use Rattle.operation.proofs.BodyLaws.{formed, well_formed}
use Rattle.operation.specs.declared.Operation.{Operation}
use Rattle.execution.specs.Run.{Table, beside, table_of, object_count, Run, start, ended, step, steps, counted, over}
use Rattle.execution.specs.RunShape.{every, sound, Shaped}
use Rattle.execution.specs.Arrays.{capacity}
use Rattle.model.specs.declared.Limits.{Limits}
use Rattle.model.specs.Lists.{count}
use Rattle.model.specs.Calls.{Transaction, execute, refusal, causes, most_work}
use Rattle.model.specs.Replica.{Pending, Replica, committed_table, program, finished, advance, used, worked, work_count, pending_of, facts, perform, call}
use Rattle.model.proofs.ListLaws.{all_map, all_drop, all_in, count-join}
use Rattle.model.specs.EarlyResults.{NotBegun, Ordered}
use Rattle.model.proofs.EarlyResultsLaws.{worked-sents}
use Rattle.model.specs.Shape.{size_of, Shape}
use Rattle.model.proofs.ShapeRunsLaws.{finished-numbers}
use Rattle.model.specs.ShapeRuns.{NonEmpty}
use Rattle.model.proofs.ShapeCheckLaws.{bodies-non_empty}
use Rattle.model.proofs.ShapeParts.{pending_part, same_length}
use Rattle.model.proofs.ShapeKept.{call_shape}
use Rattle.layout.specs.Layout.{row, row_of, body_of}
use Rattle.layout.specs.Offsets.{Sane, row_width, row_at}
use Rattle.layout.specs.Printable.{RowFits, BodyFits}
use Rattle.layout.specs.Holds.{Holds, with_pending}
use Rattle.layout.proofs.Reading.{row-part}
use Rattle.layout.proofs.WritingRows.{write-row}
use Rattle.layout.proofs.FitLaws.{shape-fits}
use Rattle.rows.specs.RowRun.{run_in, Readable}
use Rattle.rows.specs.Loading.{row-run, row-readable}
use Rattle.speculative_turn.specs.declared.Advanced.{Advanced}
use Rattle.speculative_turn.specs.Advance.{before, after, Ready, Leaves, row_bytes}

-- ---- lists of which the first i elements are new

module _ {A : Type 0} (d : A) where
  pub place_at : (new old : List A) (i : ℕ) → length new ≡ length old → i < length old → get_or (take i new ++ drop i old) i d ≡ get_or old i d
  place_at new [] i n h = absurd (omega arith)
  place_at [] (y ∷ old) i n h = absurd (omega arith)
  place_at (x ∷ new) (y ∷ old) zero n h = refl
  place_at (x ∷ new) (y ∷ old) (suc i) n h = place_at new old i (omega arith) (omega arith)

  pub place_set : (new old : List A) (i : ℕ) → length new ≡ length old → i < length old → set (take i new ++ drop i old) i (get_or new i d) ≡ take (suc i) new ++ drop (suc i) old
  place_set new [] i n h = absurd (omega arith)
  place_set [] (y ∷ old) i n h = absurd (omega arith)
  place_set (x ∷ new) (y ∷ old) zero n h = refl
  place_set (x ∷ new) (y ∷ old) (suc i) n h = ap (x ∷◌) (place_set new old i (omega arith) (omega arith))

place-length : {A : Type 0} (new old : List A) (i : ℕ) → length new ≡ length old → length (take i new ++ drop i old) ≡ length old
place-length new old zero n = refl
place-length [] [] (suc i) n = refl
place-length [] (y ∷ old) (suc i) n = absurd (omega arith)
place-length (x ∷ new) [] (suc i) n = absurd (omega arith)
place-length (x ∷ new) (y ∷ old) (suc i) n = ap suc (place-length new old i (omega arith))

-- the others are new already
place-all : {A : Type 0} (new old : List A) (i : ℕ) → length new ≡ length old → drop i new ≡ drop i old → take i new ++ drop i old ≡ new
place-all new old zero n e = sym e
place-all [] [] (suc i) n e = refl
place-all [] (y ∷ old) (suc i) n e = absurd (omega arith)
place-all (x ∷ new) [] (suc i) n e = absurd (omega arith)
place-all (x ∷ new) (y ∷ old) (suc i) n e = ap (x ∷◌) (place-all new old i (omega arith) e)

-- ---- how many are finished

-- a transaction not begun is not finished: its body has an operation
not-finished : (j : Pending) → j.run ≡ start → 1 ≤ size_of j → finished j ≡ false
unfolding start
not-finished j e h =
    let o : j.run.outcome ≡ 0 = ap (λ (p : Run). p.outcome) e in
    let i : j.run.counter ≡ 0 = ap (λ (p : Run). p.counter) e in
    finished-numbers j ∙ rw (o, i, lt-leb (size_of j) 0 h)

none-finished : (js : List Pending) → NotBegun js → NonEmpty js → count finished js ≡ 0
none-finished [] b n = refl
none-finished (j ∷ js) b n = rw (not-finished j b.0 n.0) (none-finished js b.1 n.1)

ordered-drop : (i : ℕ) (js : List Pending) → Ordered js → Ordered (drop i js)
ordered-drop zero js o = o
ordered-drop (suc i) [] o = tt
ordered-drop (suc i) (j ∷ js) o = ordered-drop i js o.1

behind-unfinished : (w : Pending) (rest : List Pending) → Ordered (w ∷ rest) → finished w ≡ false → NotBegun rest
behind-unfinished w rest o e = go' o.0
  where
    go' : (finished w ≡ true) ⊎ NotBegun rest → NotBegun rest
    go' (inl t) = absurd (true≢false (sym t ∙ e))
    go' (inr f) = f

-- no more operations than the budget
pub counted-most : (T : Table) (b : List Operation) (k : ℕ) (p : Run) → counted T b k p ≤ k
unfolding counted
counted-most T b zero p = omega arith
counted-most T b (suc k) p = go' (ended b p) (counted-most T b k (step T b p))
  where
    go' : (x : Bool) → counted T b k (step T b p) ≤ k → cond x 0 (suc (counted T b k (step T b p))) ≤ suc k
    go' true h = omega arith
    go' false h = omega arith

-- ---- one unfolding of `worked` and `work_count`

first-worked : (S : Table) (c : ℕ) (j w : Pending) (js ws : List Pending) → worked S c (j ∷ js) ≡ w ∷ ws → (w ≡ advance S c j) × (ws ≡ cond (finished w) (worked (over w.run.writes S) (c - used S c j) js) js)
unfolding worked
first-worked S c j w js ws e =
    let h : advance S c j ≡ w = ap (λ (l : List Pending). get_or l 0 j) e in
    let t = ap (drop 1) e in
    (sym h, sym t ∙ ap (λ (i : Pending). cond (finished i) (worked (over i.run.writes S) (c - used S c j) js) js) h)

first_count : (S : Table) (c : ℕ) (j w : Pending) (js : List Pending) → w ≡ advance S c j → work_count S c (j ∷ js) ≡ used S c j + cond (finished w) (work_count (over w.run.writes S) (c - used S c j) js) 0
unfolding work_count
first_count S c j w js e =
    ap (λ (i : Pending). used S c j + cond (finished i) (work_count (over i.run.writes S) (c - used S c j) js) 0) (sym e)

-- ---- the loop

abbrev pub nobody : Pending
nobody = pending_of none

-- the body of a pending transaction is well formed
pub formed-at : {l : Limits} {u : Replica} (k : Shape l u) (i : ℕ) → i < length u.pending → Formed l.operations (length u.objects) (body_of (get_or u.pending i nobody))
formed-at {l} {u} k i h =
    let n = length u.objects in
    let all = all_map (λ (x : Transaction). is_well_formed l.operations n x.bytes ≡ true) (λ (x : Pending). x.sent) u.pending k.bodies in
    formed l.operations n (body_of (get_or u.pending i nobody)) (all_in (λ (x : Pending). is_well_formed l.operations n (body_of x) ≡ true) u.pending i nobody all h)

-- the pending transactions after c operations, and how many of these are carried out
abbrev pub all_worked : Replica → ℕ → List Pending
all_worked u c = worked (committed_table u) c u.pending

abbrev pub all_counted : Replica → ℕ → ℕ
all_counted u c = work_count (committed_table u) c u.pending

abbrev pub after_work : Replica → ℕ → Replica
after_work u c = with_pending (all_worked u c) u

-- values as a table with the committed stamps and bounds, which work does not change
abbrev pub committed_with : Replica → List ℤ → Table
committed_with u vs = table_of vs (beside (committed_table u))

-- before turn i: the first i transactions are worked on, finished, and their writes are over the table; `left` operations of c are left
pub record Going (l : Limits) (u : Replica) (c : ℕ) (records : List ℕ) (vs : List ℤ) (i left : ℕ) : Type 0 where
  pub within : i ≤ length u.pending
  pub unspent : left ≤ c
  pub holds : Holds l records (with_pending (take i (all_worked u c) ++ drop i u.pending) u)
  pub rest : worked (committed_with u vs) left (drop i u.pending) ≡ drop i (all_worked u c)
  pub counting : c - left + work_count (committed_with u vs) left (drop i u.pending) ≡ all_counted u c
  pub size : object_count vs ≡ length u.objects
  pub done : count finished (take i (all_worked u c)) ≡ i

-- all of it: n operations carried out, f transactions finished
pub record Worked (l : Limits) (u : Replica) (c : ℕ) (records : List ℕ) (n f : ℕ) : Type 0 where
  pub holds : Holds l records (after_work u c)
  pub operations : n ≡ all_counted u c
  pub finished : f ≡ count finished (all_worked u c)

module _ {l : Limits} (s : Sane l) (few : l.operations ≤ capacity) {u : Replica} (k : Shape l u) (c : ℕ) (low : c ≤ most_work) where
  abbrev js : List Pending
  js = u.pending

  abbrev W : List Pending
  W = all_worked u c

  abbrev m : ℕ
  m = l.operations

  same : length W ≡ length js
  same = same_length W js (worked-sents (committed_table u) c js)

  pub accepted : refusal l (facts u) (execute c) ≡ 0
  unfolding refusal causes
  accepted = rw (le-ltb most_work c low)

  pub new-shape : Shape l (after_work u c)
  unfolding call perform
  new-shape = let h = call_shape l u k (execute c) tt in rw accepted at h

  pub going_first : {records : List ℕ} {vs : List ℤ} → Holds l records u → committed_with u vs ≡ committed_table u → object_count vs ≡ length u.objects → Going l u c records vs 0 c
  going_first h t n =
      record {
        within = omega arith;
        unspent = omega arith;
        holds = h;
        rest = ap (λ (T : Table). worked T c js) t;
        counting = omega (arith, ap (λ (T : Table). work_count T c js) t);
        size = n;
        done = refl;
      }

  pub going_last : {records : List ℕ} {vs : List ℤ} {i left : ℕ} → Going l u c records vs i left → length js ≤ i → Worked l u c records (c - left) i
  unfolding work_count
  going_last {records} {vs} {i} {left} g h =
      let a = drop_of_length-le js {i = i} h in
      let b = drop_of_length-le W {i = i} (omega (arith, same)) in
      let z = ap (work_count (committed_with u vs) left) a in
      let t : take i W ≡ W = take_all i W (omega (arith, same)) in
      record {
        holds = subst (λ (x : List Pending). Holds l records (with_pending x u)) (place-all W js i same (b ∙ sym a)) g.holds;
        operations = omega (arith, g.counting, z);
        finished = sym (ap (count finished) (sym t) ∙ g.done);
      }

  -- ---- a turn

  module _ {records : List ℕ} {vs : List ℤ} {i left : ℕ} (g : Going l u c records vs i left) (here : i < length js) where
    abbrev j : Pending
    j = get_or js i nobody

    abbrev w : Pending
    w = get_or W i nobody

    abbrev S : Table
    S = committed_with u vs

    reach : i < length W
    reach = omega (arith, same)

    room : m < 2 ^ 64
    room = omega (arith, s.operations)

    -- what the shapes of the first and of the last replica say of this transaction
    old_row : RowFits m (row_of j)
    old_row = all_in (λ (x : Pending). RowFits m (row_of x)) js i nobody (all_map (RowFits m) row_of js (shape-fits l s u k).rows.1) here

    new_row : RowFits m (row_of w)
    new_row = all_in (λ (x : Pending). RowFits m (row_of x)) W i nobody (all_map (RowFits m) row_of W (shape-fits l s (after_work u c) new-shape).rows.1) reach

    new-body : BodyFits m (body_of w)
    new-body = all_in (λ (x : Pending). BodyFits m (body_of x)) W i nobody (all_map (BodyFits m) body_of W (shape-fits l s (after_work u c) new-shape).bodies) reach

    old-shaped : Shaped (length u.objects) (program j) j.run
    old-shaped = all_in (λ (x : Pending). Shaped (length u.objects) (program x) x.run) js i nobody (pending_part l u k).runs here

    new-shaped : Shaped (length u.objects) (program w) w.run
    new-shaped = all_in (λ (x : Pending). Shaped (length u.objects) (program x) x.run) W i nobody (pending_part l (after_work u c) new-shape).runs reach

    body-formed : is_well_formed capacity (object_count vs) (body_of j) ≡ true
    body-formed =
        let f = formed-at k i here in
        let most = f.most in
        subst (λ (n : ℕ). is_well_formed capacity n (body_of j) ≡ true) (sym g.size) (well_formed (record { some = f.some; most = omega arith; whole = f.whole; all = f.all }))

    -- this transaction, and the others
    split : (w ≡ advance S left j) × (drop (suc i) W ≡ cond (finished w) (worked (over w.run.writes S) (left - used S left j) (drop (suc i) js)) (drop (suc i) js))
    split =
        first-worked S left j w (drop (suc i) js) (drop (suc i) W)
        (ap (worked S left) (sym (drop-cons js i nobody here)) ∙ g.rest ∙ drop-cons W i nobody reach)

    ran : w.run ≡ steps S (program j) left j.run
    unfolding advance
    ran = ap (λ (x : Pending). x.run) split.0

    sent : w.sent ≡ j.sent
    unfolding advance
    sent = ap (λ (x : Pending). x.sent) split.0

    rows-there : length (take i W ++ drop i js) ≡ length js
    rows-there = place-length W js i same

    -- the parts of the areas that are lent
    pub lent_row : mid_of (row_at l i * 8) (row_width l * 8) records ≡ uncells ((row m).enc (row_of j))
    lent_row =
        row-part l s records (with_pending (take i W ++ drop i js) u) g.holds i (omega (arith, rows-there)) nobody
        ∙ ap (λ (x : Pending). uncells ((row m).enc (row_of x))) (place_at nobody W js i same here)

    module _ {xs body : List ℕ} (ex : xs ≡ uncells ((row m).enc (row_of j))) (eb : body ≡ body_of j) where
      was : before xs ≡ j.run
      was = ap (λ (x : List ℕ). run_in (cells x)) ex ∙ row-run m (row_of j) old_row room

      is : after xs body vs (beside (committed_table u)) left ≡ w.run
      is = ap₂ (λ (x : List ℕ) (p : Run). steps S (operations x) left p) eb was ∙ sym ran

      pub turn_ready : Ready xs body vs (beside (committed_table u)) left
      turn_ready =
          let q = is in
          let long = row_bytes m (row_of j) room old_row xs ex in
          let o = old-shaped.room in
          let reads = ap (λ (p : Run). length p.reads) was in
          let writes = ap (λ (p : Run). length p.writes) was in
          let counter = ap (λ (p : Run). p.counter) was in
          let new-reads = ap (λ (p : Run). length p.reads) q in
          let new-writes = ap (λ (p : Run). length p.writes) q in
          let both = new_row.1.1.1.1.0 in
          record {
            readable = subst Readable (sym ex) (row-readable m (row_of j) old_row room few);
            formed = subst (λ (x : List ℕ). is_well_formed capacity (object_count vs) x ≡ true) (sym eb) body-formed;
            reads = omega arith;
            writes = omega arith;
            registers = ap (λ (p : Run). length p.registers) q ∙ new_row.1.1.1.0.0;
            few = omega arith;
            long = omega arith;
            sound = ap₂ (λ (n : ℕ) (p : Run). every (sound n) p.writes) g.size q ∙ new-shaped.writes.values;
          }

      module _ {a : Advanced} {ys : List ℕ} {ws : List ℤ} (lv : Leaves xs body vs (beside (committed_table u)) left a ys ws) where
        taken : a.used ≡ used S left j
        taken = lv.used ∙ ap₂ (λ (x : List ℕ) (p : Run). counted S (operations x) left p) eb was

        pub turn_most : a.used ≤ left
        turn_most = omega (arith, taken, counted-most S (program j) left j.run)

        ends : a.finished ≡ finished w
        ends = lv.finished ∙ ap₂ ended (ap operations (eb ∙ ap (λ (x : Transaction). x.bytes) (sym sent))) is

        -- its row is the new one
        new-bytes : ys ≡ uncells ((row m).enc (row_of w))
        new-bytes =
            lv.row m (row_of j) room old_row ex
            ∙ ap₂ (λ (x : Transaction) (p : Run). uncells ((row m).enc ((x.client, x.sequence), p))) (sym sent) is

        holding : {zs : List ℕ} → zs ≡ put_mid (row_at l i * 8) (row_width l * 8) records ys → Holds l zs (with_pending (take (suc i) W ++ drop (suc i) js) u)
        holding {zs} e =
            subst (λ (x : List Pending). Holds l zs (with_pending x u)) (place_set nobody W js i same here)
            (write-row l s records (with_pending (take i W ++ drop i js) u) g.holds i (omega (arith, rows-there)) w new_row new-body zs (e ∙ ap (put_mid (row_at l i * 8) (row_width l * 8) records) new-bytes))

        counted-here : c - left + (a.used + cond (finished w) (work_count (over w.run.writes S) (left - used S left j) (drop (suc i) js)) 0) ≡ all_counted u c
        counted-here =
            ap (λ (n : ℕ). c - left + (n + cond (finished w) (work_count (over w.run.writes S) (left - used S left j) (drop (suc i) js)) 0)) taken
            ∙ ap (λ (n : ℕ). c - left + n) (sym (first_count S left j w (drop (suc i) js) split.0) ∙ ap (work_count S left) (sym (drop-cons js i nobody here)))
            ∙ g.counting

        -- a finished one: on to the next
        pub turn_next : a.finished ≡ true → {zs : List ℕ} → zs ≡ put_mid (row_at l i * 8) (row_width l * 8) records ys → object_count ws ≡ object_count vs
            → Going l u c zs ws (i + 1) (left - a.used)
        turn_next f e n =
            let t : finished w ≡ true = sym ends ∙ f in
            let T : committed_with u ws ≡ over w.run.writes S = lv.table ∙ ap₂ (λ (x : Bool) (p : Run). cond x (over p.writes S) S) (sym lv.finished ∙ f) is in
            let less : left - a.used ≡ left - used S left j = ap (λ (x : ℕ). left - x) taken in
            let one = add-one i in
            let cnt : c - left + (a.used + work_count (committed_with u ws) (left - a.used) (drop (suc i) js)) ≡ all_counted u c =
            ap₂ (λ (R : Table) (x : ℕ). c - left + (a.used + work_count R x (drop (suc i) js))) T less
            ∙ sym (ap (λ (x : Bool). c - left + (a.used + cond x (work_count (over w.run.writes S) (left - used S left j) (drop (suc i) js)) 0)) t) ∙ counted-here in
            let most = turn_most in
            let some = g.unspent in
            rw one
            (record {
              within = omega arith;
              unspent = omega arith;
              holds = holding e;
              rest = ap₂ (λ (R : Table) (x : ℕ). worked R x (drop (suc i) js)) T less ∙ sym (split.1 ∙ ap (λ (x : Bool). cond x (worked (over w.run.writes S) (left - used S left j) (drop (suc i) js)) (drop (suc i) js)) t);
              counting = omega arith;
              size = n ∙ g.size;
              done = ap (count finished) (take-suc W i nobody reach) ∙ count-join finished (take i W) (w ∷ []) ∙ ap₂ (λ (x : ℕ) (y : Bool). x + cond y 1 0) g.done t ∙ omega arith;
            })

        -- an unfinished one: the end
        pub turn_last : a.finished ≡ false → {zs : List ℕ} → zs ≡ put_mid (row_at l i * 8) (row_width l * 8) records ys → Worked l u c zs (c - (left - a.used)) i
        turn_last f {zs} e =
            let t : finished w ≡ false = sym ends ∙ f in
            let others : drop (suc i) W ≡ drop (suc i) js = split.1 ∙ ap (λ (x : Bool). cond x (worked (over w.run.writes S) (left - used S left j) (drop (suc i) js)) (drop (suc i) js)) t in
            let cnt : c - left + (a.used + 0) ≡ all_counted u c =
            sym (ap (λ (x : Bool). c - left + (a.used + cond x (work_count (over w.run.writes S) (left - used S left j) (drop (suc i) js)) 0)) t) ∙ counted-here in
            let o : Ordered (w ∷ drop (suc i) W) = subst Ordered (drop-cons W i nobody reach) (ordered-drop i W (pending_part l (after_work u c) new-shape).ordered) in
            let n : NonEmpty (drop (suc i) W) = all_drop (λ (x : Pending). 1 ≤ size_of x) (suc i) W (bodies-non_empty l (length u.objects) W new-shape.bodies) in
            let zero-behind = none-finished (drop (suc i) W) (behind-unfinished w (drop (suc i) W) o t) n in
            let most = turn_most in
            let some = g.unspent in
            record {
              holds = subst (λ (x : List Pending). Holds l zs (with_pending x u)) (place-all W js (suc i) same others) (holding e);
              operations = omega arith;
              finished =
                  sym
                  (ap (count finished) (whole W i nobody reach) ∙ count-join finished (take i W) (w ∷ drop (suc i) W)
                  ∙ ap₂ (λ (x : ℕ) (y : Bool). x + cond y (suc (count finished (drop (suc i) W))) (count finished (drop (suc i) W))) g.done t
                  ∙ ap (λ (x : ℕ). i + x) zero-behind ∙ omega arith);
            }
          where
            whole : (xs : List Pending) (i : ℕ) (d : Pending) → i < length xs → xs ≡ take i xs ++ (get_or xs i d ∷ drop (suc i) xs)
            whole [] i d h = absurd (omega arith)
            whole (x ∷ xs) zero d h = refl
            whole (x ∷ xs) (suc i) d h = ap (x ∷◌) (whole xs i d (omega arith))
