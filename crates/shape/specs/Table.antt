-- All rows with their bodies in the scan: what the layout's check and the model's shape say of the pending transactions. Assumes nothing.
use Rattle.std.specs.Prelude.{◌≡◌, ◌⊎◌, Bool, not, ◌||◌, leb, ltb, take, drop, get_or}
use Rattle.std.proofs.Math.Path.{refl, sym, ap, ap₂}
use Rattle.std.proofs.Common.{◌∙◌, inl, inr, arith, get_or-take, length-take-le, eq-eqb, eqb-true, ltb-true}
use Rattle.std.proofs.Math.Bool.{true, false, ◌&&◌}
use mathlib.Core.List.{List, [], ◌∷◌, map}
use Prim.Native.Nat.{ℕ, zero, suc, ◌+◌, ◌-◌, ◌*◌, ◌/◌, ◌%◌, ◌^◌, ◌≤◌, ◌<◌}
use Rattle.std.proofs.Math.Dec.{eqb}
use Rattle.std.proofs.Math.ListN.{length, length-drop}
use Rattle.cells.specs.Zeros.{zeros}
use Rattle.operation.specs.Body.{size, body_length, is_well_formed}
use Rattle.operation.proofs.BodyLaws.{formed}
use Rattle.execution.proofs.ReadAgreement.{both}
use Rattle.execution.specs.Bounds.{Bounds}
use Rattle.execution.specs.Run.{Run}
use Rattle.model.specs.Lists.{any, all}
use Rattle.model.specs.Calls.{Transaction, is_key}
use Rattle.model.specs.Replica.{Pending, finished}
use Rattle.model.specs.EarlyResults.{sents}
use Rattle.model.proofs.Tests.{Says, ◌and◌, says-self, either}
use Rattle.model.specs.Shape.{distinct_keys, size_of}
use Rattle.model.proofs.ShapeRunsLaws.{finished-numbers}
use Rattle.model.specs.ShapeCheck.{key_unspent, at_start, names_shaped, stores_inside, run_shaped, in_order}
use Rattle.model.proofs.ShapeCheckLaws.{at_start-says}
use Rattle.layout.specs.Rows.{chunks}
use Rattle.layout.specs.Layout.{key_of, row, body, pending_from, all_from}
use Rattle.layout.proofs.UncheckedRows.{dec-key, dec-counter, dec-outcome}
use Rattle.shape_names.specs.NameScan.{absent}
use Rattle.shape_row.specs.RowScan.{counter_in, outcome_in, key_in, body_end, body_in, run_in, row_in, cells_of, place_of}
use Rattle.shape.specs.AreaScan.{next_in, finished_in, rows_in}
use Rattle.shape.specs.Leaves.{same, key-same, key-is}
use Rattle.shape.specs.Stores.{Said}
use Rattle.shape.specs.Runs.{row-size, run_is}

-- ---- a body

last-first : (a b c : Bool) → a && (b && c) ≡ (a && c) && b
last-first true true true = refl
last-first true true false = refl
last-first true false true = refl
last-first true false false = refl
last-first false b c = refl

pub body_is : (most n : ℕ) (y : List ℕ) → length y ≡ place_of most → body_in most n y ≡ (body most).ok y && is_well_formed most n ((body most).dec y)
unfolding body_in
body_is most n y e =
    ap (λ (k : ℕ). leb (body_end y) k && (is_well_formed most n (take (body_end y) y) && zeros (drop (body_end y) y))) e
    ∙ last-first (leb (body_end y) (place_of most)) (is_well_formed most n (take (body_end y) y)) (zeros (drop (body_end y) y))

-- ---- keys

absent-is : (m k : ℕ) (rs : List (List ℕ)) (bs : List (List ℕ)) → absent k rs ≡ not (any (is_key (key_of k).0 (key_of k).1) (sents (all_from (map (row m).dec rs) bs)))
absent-is m k rs bs = ap not (go' rs bs)
  where
    go' : (rs bs : List (List ℕ)) → any (λ r. eqb (get_or r 0 0) k) rs ≡ any (is_key (key_of k).0 (key_of k).1) (sents (all_from (map (row m).dec rs) bs))
    go' [] bs = refl
    go' (r ∷ rs) bs =
        ap₂ ◌||◌ (key-same (get_or r 0 0) k ∙ ap (λ (j : ℕ). eqb (j / 2 ^ 32) (k / 2 ^ 32) && eqb (j % 2 ^ 32) (k % 2 ^ 32)) (sym (get_or-take 1 r 0 0 (omega arith)))) (go' rs (drop 1 bs))

-- ---- one row and its body

abbrev pub transaction_in : ℕ → List ℕ → List ℕ → Pending
transaction_in most x y = pending_from ((row most).dec x) ((body most).dec y)

pub record RowAsked (most n : ℕ) (bs : List Bounds) (lasts x y : List ℕ) : Type 0 where
  pub row_ok : (row most).ok x ≡ true
  pub body_ok : (body most).ok y ≡ true
  pub unspent : key_unspent lasts (transaction_in most x y).sent ≡ true
  pub formed : is_well_formed most n (transaction_in most x y).sent.bytes ≡ true
  pub shaped : run_shaped n bs (size_of (transaction_in most x y)) (transaction_in most x y).run ≡ true

-- the number of operations stands first
size_is : (most : ℕ) (y : List ℕ) → size ((body most).dec y) ≡ size y
size_is most y = get_or-take (body_length (size y)) y 0 0 (omega arith)

module _ (most n readers : ℕ) (os : List ℕ) (bs : List Bounds) (said : Said n readers os bs) (lasts x y : List ℕ) (lx : length x ≡ cells_of most) (ly : length y ≡ place_of most) where
  unspent-is : key_in lasts (get_or x 0 0) ≡ key_unspent lasts (transaction_in most x y).sent
  unspent-is =
      key-is lasts (get_or x 0 0) ((body most).dec y) ∙ ap (λ (q : ℕ × ℕ). key_unspent lasts (record { client = q.0; sequence = q.1; bytes = (body most).dec y })) (sym (dec-key most x (lx ∙ sym (row-size most))))

  -- of a body that is well formed
  run-asked : is_well_formed most n ((body most).dec y) ≡ true → run_in readers os n (size y) x ≡ (row most).ok x && run_shaped n bs (size_of (transaction_in most x y)) (transaction_in most x y).run
  run-asked w =
      let s = size_is most y in
      run_is n readers os bs said (size y) most (omega (arith, (formed most n ((body most).dec y) w).most)) x lx
      ∙ ap (λ (k : ℕ). (row most).ok x && run_shaped n bs k ((row most).dec x).1) (sym s)

  pub row-says : Says (row_in most n readers os lasts x y) (RowAsked most n bs lasts x y)
  unfolding row_in
  row-says = (to, back)
    where
      to : key_in lasts (get_or x 0 0) && (body_in most n y && run_in readers os n (size y) x) ≡ true → RowAsked most n bs lasts x y
      to e =
          let (k, e) = both (key_in lasts (get_or x 0 0)) (body_in most n y && run_in readers os n (size y) x) e in
          let (b, r) = both (body_in most n y) (run_in readers os n (size y) x) e in
          let (o, w) = both ((body most).ok y) (is_well_formed most n ((body most).dec y)) (sym (body_is most n y ly) ∙ b) in
          let (p, q) = both ((row most).ok x) (run_shaped n bs (size_of (transaction_in most x y)) ((row most).dec x).1) (sym (run-asked w) ∙ r) in
          record { row_ok = p; body_ok = o; unspent = sym unspent-is ∙ k; formed = w; shaped = q }

      back : RowAsked most n bs lasts x y → key_in lasts (get_or x 0 0) && (body_in most n y && run_in readers os n (size y) x) ≡ true
      back v =
          let b : body_in most n y ≡ true = body_is most n y ly ∙ ap₂ ◌&&◌ v.body_ok v.formed in
          let r : run_in readers os n (size y) x ≡ true = run-asked v.formed ∙ ap₂ ◌&&◌ v.row_ok v.shaped in
          rw (unspent-is ∙ v.unspent, b, r)

-- ---- the order

module _ (n : ℕ) (bs : List Bounds) where
  start-or_begun : (m : ℕ) (p : Run) → run_shaped n bs m p ≡ true → ltb 0 p.counter || at_start p ≡ true
  unfolding run_shaped
  start-or_begun m p e =
      let stopped = says-self (eqb p.outcome 0 || eqb (length p.writes) 0) in
      let room = says-self (leb (length p.reads + length p.writes) p.counter) in
      let s = says-self (ltb 0 p.counter || at_start p) and says-self (leb p.counter m) and says-self (leb p.outcome 3) and stopped and room and says-self (names_shaped n p.reads) and says-self (names_shaped n p.writes) and says-self (stores_inside bs p.writes) in
      (s.0 e).0.0.0.0.0.0.0

  start_is : (m : ℕ) (p : Run) → run_shaped n bs m p ≡ true → at_start p ≡ eqb p.counter 0
  start_is m p e =
      same (at_start p) (eqb p.counter 0) (λ a. eq-eqb p.counter 0 ((at_start-says p).0 a).counter) (λ z. go' (eqb-true p.counter 0 z) (either (ltb 0 p.counter) (at_start p) (start-or_begun m p e)))
    where
      go' : p.counter ≡ 0 → (ltb 0 p.counter ≡ true) ⊎ (at_start p ≡ true) → at_start p ≡ true
      go' z (inl h) = let k = ltb-true 0 p.counter h in absurd (omega arith)
      go' z (inr h) = h

  order-next : (b : Bool) (j : Pending) (js : List Pending) → run_shaped n bs (size_of j) j.run ≡ true → in_order b (j ∷ js) ≡ (b || eqb j.run.counter 0) && in_order (b && finished j) js
  unfolding in_order
  order-next true j js e = refl
  order-next false j js e = ap (λ (t : Bool). t && in_order false js) (start_is (size_of j) j.run e)

-- ---- all rows

first_of : (w k n : ℕ) → suc k * w ≤ n → (w ≤ n) × (k * w ≤ n - w)
first_of w k n h = (omega arith, omega arith)

module _ (most n : ℕ) (bs : List Bounds) (lasts : List ℕ) where
  abbrev pub transactions_in : ℕ → List ℕ → List ℕ → List Pending
  transactions_in k xs ys =
      all_from (map (row most).dec (chunks (cells_of most) k xs)) (map (body most).dec (chunks (place_of most) k ys))

  -- what the layout's check and the model's shape ask of k pending transactions; b says whether all before are finished
  pub record Asked (b : Bool) (k : ℕ) (xs ys : List ℕ) : Type 0 where
    pub rows_ok : all (row most).ok (chunks (cells_of most) k xs) ≡ true
    pub bodies_ok : all (body most).ok (chunks (place_of most) k ys) ≡ true
    pub distinct : distinct_keys (sents (transactions_in k xs ys)) ≡ true
    pub unspent : all (key_unspent lasts) (sents (transactions_in k xs ys)) ≡ true
    pub formed : all (λ (s : Transaction). is_well_formed most n s.bytes) (sents (transactions_in k xs ys)) ≡ true
    pub order : in_order b (transactions_in k xs ys) ≡ true
    pub shaped : all (λ (j : Pending). run_shaped n bs (size_of j) j.run) (transactions_in k xs ys) ≡ true

  module _ (k : ℕ) (xs ys : List ℕ) (lx : cells_of most ≤ length xs) where
    abbrev x : List ℕ
    x = take (cells_of most) xs

    abbrev y : List ℕ
    y = take (place_of most) ys

    abbrev xs' : List ℕ
    xs' = drop (cells_of most) xs

    abbrev ys' : List ℕ
    ys' = drop (place_of most) ys

    cells-here : length x ≡ (row most).size
    cells-here = length-take-le (cells_of most) xs lx ∙ sym (row-size most)

    first_cell : (i : ℕ) → i < 9 → get_or x i 0 ≡ get_or xs i 0
    first_cell i h = get_or-take (cells_of most) xs i 0 (omega arith)

    counter-is : (transaction_in most x y).run.counter ≡ counter_in xs
    counter-is = dec-counter most x cells-here ∙ first_cell 1 (omega arith)

    finished-is : finished (transaction_in most x y) ≡ finished_in xs y
    finished-is =
        finished-numbers (transaction_in most x y)
        ∙ ap₂ (λ (o c : ℕ). ltb 0 o || leb (size_of (transaction_in most x y)) c) (dec-outcome most x cells-here ∙ first_cell 2 (omega arith)) counter-is
        ∙ ap (λ (m : ℕ). ltb 0 (outcome_in xs) || leb m (counter_in xs)) (size_is most y)

    absent-here : absent (get_or xs 0 0) (chunks (cells_of most) k xs') ≡ not (any (is_key (transaction_in most x y).sent.client (transaction_in most x y).sent.sequence) (sents (transactions_in k xs' ys')))
    absent-here =
        absent-is most (get_or xs 0 0) (chunks (cells_of most) k xs') (map (body most).dec (chunks (place_of most) k ys'))
        ∙ ap (λ (q : ℕ × ℕ). not (any (is_key q.0 q.1) (sents (transactions_in k xs' ys')))) (sym (dec-key most x cells-here ∙ ap key_of (first_cell 0 (omega arith))))

    order-here : (b : Bool) → run_shaped n bs (size_of (transaction_in most x y)) (transaction_in most x y).run ≡ true
        → in_order b (transaction_in most x y ∷ transactions_in k xs' ys') ≡ (b || eqb (counter_in xs) 0) && in_order (b && finished_in xs y) (transactions_in k xs' ys')
    order-here b s =
        order-next n bs b (transaction_in most x y) (transactions_in k xs' ys') s
        ∙ ap₂ (λ (c : ℕ) (t : Bool). (b || eqb c 0) && in_order (b && t) (transactions_in k xs' ys')) counter-is finished-is

  -- bs are the bounds that the cells of the objects say
  module _ (readers : ℕ) (os : List ℕ) (said : Said n readers os bs) where
    module _ (b : Bool) (k : ℕ) (xs ys : List ℕ) (lx : cells_of most ≤ length xs) (ly : place_of most ≤ length ys) where
      abbrev Rest : Type 0
      Rest = Asked (b && finished_in xs (y k xs ys lx)) k (xs' k xs ys lx) (ys' k xs ys lx)

      here : Says (row_in most n readers os lasts (x k xs ys lx) (y k xs ys lx)) (RowAsked most n bs lasts (x k xs ys lx) (y k xs ys lx))
      here = row-says most n readers os bs said lasts (x k xs ys lx) (y k xs ys lx) (length-take-le (cells_of most) xs lx) (length-take-le (place_of most) ys ly)

      more-to : next_in most n readers os lasts b k xs (y k xs ys lx) ≡ true → Rest → Asked b (suc k) xs ys
      unfolding next_in chunks
      more-to e r =
          let (w, e) = both (row_in most n readers os lasts (x k xs ys lx) (y k xs ys lx)) ((b || eqb (counter_in xs) 0) && absent (get_or xs 0 0) (chunks (cells_of most) k (xs' k xs ys lx))) e in
          let (o, a) = both (b || eqb (counter_in xs) 0) (absent (get_or xs 0 0) (chunks (cells_of most) k (xs' k xs ys lx))) e in
          let h = here.0 w in
          record {
            rows_ok = ap₂ ◌&&◌ h.row_ok r.rows_ok;
            bodies_ok = ap₂ ◌&&◌ h.body_ok r.bodies_ok;
            distinct = ap₂ ◌&&◌ (sym (absent-here k xs ys lx) ∙ a) r.distinct;
            unspent = ap₂ ◌&&◌ h.unspent r.unspent;
            formed = ap₂ ◌&&◌ h.formed r.formed;
            order = order-here k xs ys lx b h.shaped ∙ ap₂ ◌&&◌ o r.order;
            shaped = ap₂ ◌&&◌ h.shaped r.shaped;
          }

      more-back : Asked b (suc k) xs ys → (next_in most n readers os lasts b k xs (y k xs ys lx) ≡ true) × Rest
      unfolding next_in chunks
      more-back v =
          let j = transaction_in most (x k xs ys lx) (y k xs ys lx) in
          let js = transactions_in k (xs' k xs ys lx) (ys' k xs ys lx) in
          let (r, rs) = both ((row most).ok (x k xs ys lx)) (all (row most).ok (chunks (cells_of most) k (xs' k xs ys lx))) v.rows_ok in
          let (o, rest) = both ((body most).ok (y k xs ys lx)) (all (body most).ok (chunks (place_of most) k (ys' k xs ys lx))) v.bodies_ok in
          let (d, ds) = both (not (any (is_key j.sent.client j.sent.sequence) (sents js))) (distinct_keys (sents js)) v.distinct in
          let (u, us) = both (key_unspent lasts j.sent) (all (key_unspent lasts) (sents js)) v.unspent in
          let (f, fs) = both (is_well_formed most n j.sent.bytes) (all (λ (s : Transaction). is_well_formed most n s.bytes) (sents js)) v.formed in
          let (s, ss) = both (run_shaped n bs (size_of j) j.run) (all (λ (i : Pending). run_shaped n bs (size_of i) i.run) js) v.shaped in
          let (t, ts) = both (b || eqb (counter_in xs) 0) (in_order (b && finished_in xs (y k xs ys lx)) js) (sym (order-here k xs ys lx b s) ∙ v.order) in
          let w : row_in most n readers os lasts (x k xs ys lx) (y k xs ys lx) ≡ true = here.1 (record { row_ok = r; body_ok = o; unspent = u; formed = f; shaped = s }) in
          (ap₂ ◌&&◌ w (ap₂ ◌&&◌ t (absent-here k xs ys lx ∙ d)), record { rows_ok = rs; bodies_ok = rest; distinct = ds; unspent = us; formed = fs; order = ts; shaped = ss })

    -- the scan of the rows asks exactly that
    pub rows-say : (k : ℕ) (b : Bool) (xs ys : List ℕ) → k * cells_of most ≤ length xs → k * place_of most ≤ length ys → Says (rows_in most n readers os lasts b k xs ys) (Asked b k xs ys)
    unfolding rows_in chunks in_order
    rows-say zero b xs ys lx ly = (
      λ e. record { rows_ok = refl; bodies_ok = refl; distinct = refl; unspent = refl; formed = refl; order = empty b; shaped = refl },
      λ v. refl,
    )
      where
        empty : (b : Bool) → in_order b [] ≡ true
        empty true = refl
        empty false = refl
    rows-say (suc k) b xs ys lx ly =
        let (l, lx) = first_of (cells_of most) k (length xs) lx in
        let (m, ly) = first_of (place_of most) k (length ys) ly in
        let i = rows-say k (b && finished_in xs (take (place_of most) ys)) (drop (cells_of most) xs) (drop (place_of most) ys) (omega (arith, length-drop (cells_of most) xs)) (omega (arith, length-drop (place_of most) ys)) in
        let next = next_in most n readers os lasts b k xs (take (place_of most) ys) in
        let rest = rows_in most n readers os lasts (b && finished_in xs (take (place_of most) ys)) k (drop (cells_of most) xs) (drop (place_of most) ys) in (
          λ e. (let (p, q) = both next rest e in more-to b k xs ys l m p (i.0 q)),
          λ v. (let (p, q) = more-back b k xs ys l m v in ap₂ ◌&&◌ p (i.1 q)),
        )
