-- What a final delivery of a pending transaction comes to: the early results, or its whole run on the committed state. Assumes nothing.
use Rattle.std.specs.Prelude.{◌≡◌, Bool, ◌&&◌, ℕ, ◌+◌, ◌*◌, ◌-◌, ◌≤◌, ◌<◌, ℤ, length, take, drop}
use Rattle.std.proofs.Common.{subst, ◌∙◌, arith, mul-le-mul_right, length-drop, get_or-drop, take_all, length-take-le, to_z}
use Rattle.std.proofs.Math.Path.{sym, ap, ap₂}
use Rattle.std.proofs.Math.Bool.{true, false, cond}
use Rattle.std.proofs.Math.Option.{none}
use mathlib.Core.List.{List}
use Rattle.std.proofs.Math.ListN.{get_or}
use Rattle.std.specs.Int.{w64}
use borrow.Rule.Slice.PartMut.{mid_of}
use Rattle.cells.specs.Cells.{cells}
use Rattle.cells.specs.CellLaws.{cells-drop}
use Rattle.operation.specs.Body.{listed, size, operations, is_well_formed, body_length}
use Rattle.operation.specs.BodyLaws.{Formed}
use Rattle.operation.proofs.BodyLaws.{formed, well_formed, length-operations}
use Rattle.execution.specs.declared.Counts.{Counts}
use Rattle.execution.specs.declared.ObjectsAt.{ObjectsAt}
use Rattle.execution.specs.Entries.{Entry, entry}
use Rattle.execution.specs.Run.{Table, object_count, Run, is_none, due_at, whole, whole_count, matches}
use Rattle.execution.specs.LentTable.{lent_table, BoundsWithin}
use Rattle.execution.specs.Arrays.{capacity, Lent}
use Rattle.execution.specs.RunShape.{Shaped, every, sound}
use Rattle.execution_interpreter.specs.declared.Executed.{Executed}
use Rattle.execution_interpreter.specs.Executes.{InArrays}
use Rattle.model.specs.declared.Limits.{Limits}
use Rattle.model.specs.ListLaws.{All}
use Rattle.model.proofs.ListLaws.{all_in, all-implies}
use Rattle.model.specs.Calls.{Transaction}
use Rattle.model.specs.Serial.{Version}
use Rattle.model.specs.Replica.{Pending, Replica, opens, committed_table, program, validated, result, rework, pending_of}
use Rattle.model.proofs.Ceiling.{rework-kept}
use Rattle.model.specs.Shape.{VersionsShape, Shape}
use Rattle.model.proofs.ShapeParts.{pending_part, table_fits, result-shaped}
use Rattle.layout.specs.Layout.{body_of}
use Rattle.layout.specs.Offsets.{Sane, row_at, counter_at, outcome_at, reads_at, entries_at, entry_at, body_width, body_at}
use Rattle.layout.specs.Holds.{Holds, HoldsBodies}
use Rattle.layout.proofs.HoldsLaws.{holds-long, bodies-long}
use Rattle.layout.proofs.Reading.{get-size}
use Rattle.layout.proofs.Bodies.{body-part, body-size, body-span}
use Rattle.layout.proofs.PrintableLaws.{few_pending}
use Rattle.rows.specs.RowRun.{entry_in, entries_in}
use Rattle.execution.proofs.Listed.{listed_same}
use Rattle.committed_table.specs.Committed as committed
use Rattle.final_commit.specs.Positions.{at, fits-at}
use Rattle.final_walk.specs.Places.{table_in, Reaching, Placed, matches-same, placed-inside, placed-table}
use Rattle.final_walk.specs.Recorded.{entry_from, reads_from, writes_from, Lying, row-lying, row-few, row_reads-from, row-writes_from, row-counter, row-outcome}
use Rattle.final_decision.specs.declared.Decision.{Decision}

-- limits for which the local arrays of a commit have room: the committed state, a transaction's sets, and the readers' cells
pub record Local (l : Limits) : Type 0 where
  pub objects : l.objects ≤ 128
  pub operations : l.operations ≤ capacity
  pub readers : l.readers ≤ 16

-- the committed state of a record area is where it is looked for
pub holds-laid : {l : Limits} {b : List ℕ} {u : Replica} → Sane l → Local l → Holds l b u → committed.Laid l b
holds-laid {l} {b} {u} s m h =
    record { whole = holds-long l s b u h; few = omega (arith, get-size l s b u h, h.fits.objects.0); room = m.objects }

-- ---- the decision

-- a run in counts, kept or not, for which w operations were carried out
abbrev pub decision_of : Counts → Bool → ℕ → Decision
decision_of t kept w = record { outcome = t.outcome; validated = kept; stored = t.writes; operations = w }

-- the decision on j, its write set at the front of an array
pub record Decided (T : Table) (j : Pending) (r : Decision) (ws : List Entry) : Type 0 where
  pub validated : r.validated ≡ validated T j
  pub outcome : r.outcome ≡ (result T j).outcome
  pub within : r.stored ≤ length ws
  pub writes : take r.stored ws ≡ (result T j).writes
  pub operations : r.operations ≡ rework T j

pub decided-as : {T : Table} {j : Pending} {ws : List Entry} {r d : Decision} → r ≡ d → Decided T j d ws → Decided T j r ws
decided-as {T} {j} {ws} e h = subst (λ (x : Decision). Decided T j x ws) (sym e) h

-- both areas hold a replica in shape, whose transaction i is to be decided; ps are the places of its committed state
pub record Deciding (l : Limits) (b c : List ℕ) (i : ℕ) (ps : List ℕ) : Type 0 where
  pub replica : Replica
  pub holds : Holds l b replica
  pub bodies : HoldsBodies l c replica
  pub shape : Shape l replica
  pub there : i < length replica.pending
  pub placed : Placed l (length replica.objects) ps

pub record Decides (l : Limits) (b c : List ℕ) (i : ℕ) (ps : List ℕ) (r : Decision) (ws : List Entry) : Type 0 where
  pub decided : (p : Deciding l b c i ps) → Decided (committed_table p.replica) (at p.replica.pending i) r ws

-- ---- the run on record

-- how far the run of the row at cell a has come
pub record CountsAt (cs : List ℕ) (a : ℕ) (t : Counts) : Type 0 where
  pub counter : t.counter ≡ get_or cs (a + counter_at) 0
  pub outcome : t.outcome ≡ get_or cs (a + outcome_at) 0
  pub reads : t.reads ≡ get_or cs (a + reads_at) 0
  pub writes : t.writes ≡ get_or cs (a + entries_at) 0 - get_or cs (a + reads_at) 0

-- it is ended, and its reads are the values in their objects' places
abbrev pub valid_at : List ℕ → List ℕ → List ℕ → Counts → ℕ → Bool
valid_at b ps body t a =
    is_none (due_at (operations body) t.counter t.outcome) && matches (table_in (cells b) ps) (reads_from (cells b) a)

-- ---- a new execution

-- the record area b holds a replica with a committed state, on which this body is to be run
pub record Rerunning (l : Limits) (b body : List ℕ) : Type 0 where
  pub replica : Replica
  pub holds : Holds l b replica
  pub versions : committed.Current replica
  pub formed : is_well_formed capacity (length replica.objects) body ≡ true

-- the whole run of this body, in counts, with its write set at the front of an array, and the operations that it carried out
pub record Ran (T : Table) (body : List ℕ) (r : Executed) (ws : List Entry) : Type 0 where
  pub counter : r.counts.counter ≡ (whole T (operations body)).counter
  pub outcome : r.counts.outcome ≡ (whole T (operations body)).outcome
  pub bounded : r.counts.writes ≤ r.counts.counter
  pub room : length ws ≡ capacity
  pub writes : take r.counts.writes ws ≡ (whole T (operations body)).writes
  pub used : r.used ≡ whole_count T (operations body)

pub record Reruns (l : Limits) (b body : List ℕ) (r : Executed) (ws : List Entry) : Type 0 where
  pub ran : (p : Rerunning l b body) → Ran (committed_table p.replica) body r ws

module _ {l : Limits} {b body : List ℕ} (s : Sane l) (m : Local l) (p : Rerunning l b body) where
  pub rerun_laid : committed.Laid l b
  rerun_laid = holds-laid s m p.holds

  pub rerun_sorted : committed.BlocksSorted l b
  rerun_sorted = committed.blocks-sorted l s b p.replica p.holds p.versions

  -- the values of the first n objects, as they were gathered
  module _ {n : ℕ} {vs : List ℤ} (e : committed.Committed l b n vs) where
    pub values-few : n ≤ length vs
    values-few = committed.committed-room l s b p.replica p.holds p.versions e

    pub values-lent : n ≡ length (take n vs)
    values-lent = sym (length-take-le n vs values-few)

    as_many : object_count (take n vs) ≡ length p.replica.objects
    as_many = committed.committed-count l s b p.replica p.holds p.versions e

    pub values-formed : is_well_formed capacity (object_count (take n vs)) body ≡ true
    values-formed = ap (λ (k : ℕ). is_well_formed capacity k body) as_many ∙ p.formed

    -- their stamps and bounds stand at q
    module _ {q : ObjectsAt} (eq : q ≡ committed.objects_place l) where
      pub bounds-there : BoundsWithin q (object_count (take n vs)) (length b)
      bounds-there =
          subst (λ (x : ObjectsAt). BoundsWithin x (object_count (take n vs)) (length b)) (sym eq)
          (subst (λ (k : ℕ). BoundsWithin (committed.objects_place l) k (length b)) (sym as_many) (committed.bounds-within l s b p.replica p.holds))

      pub values-ran : (r : Executed) (rs ws : List Entry)
          → InArrays (whole (lent_table (take n vs) q (cells b)) (operations body)) r.counts rs ws → Lent r.counts rs ws
          → r.used ≡ whole_count (lent_table (take n vs) q (cells b)) (operations body) → Ran (committed_table p.replica) body r ws
      values-ran r rs ws h y w =
          let T = ap (λ (x : ObjectsAt). lent_table (take n vs) x (cells b)) eq ∙ committed.committed-lent l s b p.replica p.holds p.versions e in
          let k = h ∙ ap (λ (x : Table). whole x (operations body)) T in
          record {
            counter = ap (λ (q : Run). q.counter) k;
            outcome = ap (λ (q : Run). q.outcome) k;
            bounded = y.bounded.writes;
            room = y.write_room;
            writes = ap (λ (q : Run). q.writes) k;
            used = w ∙ ap (λ (x : Table). whole_count x (operations body)) T;
          }

-- ---- both, of transaction i

pub shaped-some : (t : ℕ) (rs : List ℕ) (objs : List (List Version)) → All (VersionsShape t rs) objs → All (λ (vs : List Version). 0 < length vs) objs
shaped-some t rs objs h = all-implies (VersionsShape t rs) (λ (vs : List Version). 0 < length vs) (λ vs k. k.least) objs h

pub some-version : {l : Limits} (u : Replica) → Shape l u → All (λ (vs : List Version). 0 < length vs) u.objects
some-version u h = shaped-some u.timestamp (opens u.readers) u.objects h.versions

-- transaction i of a replica in shape: its body, and its run on record
module _ {l : Limits} {i : ℕ} (u : Replica) (h : Shape l u) (there : i < length u.pending) where
  pub well_formed-body : is_well_formed l.operations (length u.objects) (body_of (at u.pending i)) ≡ true
  well_formed-body =
      fits-at (λ (x : Pending). x.sent) (λ (x : Transaction). is_well_formed l.operations (length u.objects) x.bytes ≡ true) u.pending i there h.bodies

  pub body-formed : Formed l.operations (length u.objects) (body_of (at u.pending i))
  body-formed = formed l.operations (length u.objects) (body_of (at u.pending i)) well_formed-body

  pub run_shaped : Shaped (length u.objects) (program (at u.pending i)) (at u.pending i).run
  run_shaped =
      all_in (λ (x : Pending). Shaped (length u.objects) (program x) x.run) u.pending i (pending_of none) (pending_part l u h).runs there

  -- and the run that its decision comes to
  pub decided_shaped : Shaped (length u.objects) (program (at u.pending i)) (result (committed_table u) (at u.pending i))
  decided_shaped =
      result-shaped l (length u.objects) (committed_table u) (table_fits u.objects u.bounds h.encoded.values) (at u.pending i) well_formed-body run_shaped

module _ {l : Limits} {b c : List ℕ} {i : ℕ} {ps : List ℕ} (s : Sane l) (m : Local l) (p : Deciding l b c i ps) where
  abbrev u : Replica
  u = p.replica

  abbrev j : Pending
  j = at p.replica.pending i

  abbrev T : Table
  T = committed_table p.replica

  pub decide_there : i < l.pending
  decide_there = omega (arith, p.there, few_pending l u p.holds.fits)

  shaped : Shaped (length u.objects) (program j) j.run
  shaped = run_shaped u p.shape p.there

  -- its body: the part of w bytes of c from byte x on; n is its first byte
  module _ {x : ℕ} (ex : x ≡ body_at l i) where
    pub body-begins : x < length c
    body-begins = omega (arith, bodies-long l s c u p.bodies, mul-le-mul_right (body_width l) decide_there)

    module _ {n w : ℕ} (en : n ≡ get_or c x 0) (ew : w ≡ body_length n) where
      is-size : n ≡ size (body_of j)
      is-size = en ∙ ap (λ (k : ℕ). get_or c k 0) ex ∙ body-size l s c u p.bodies i p.there (pending_of none)

      form : Formed l.operations (length u.objects) (body_of j)
      form = body-formed u p.shape p.there

      pub body-few : n ≤ capacity
      body-few = omega (arith, is-size, form.most, m.operations)

      pub body-ends : x + w ≤ length c
      body-ends = omega (arith, ew, is-size, form.most, bodies-long l s c u p.bodies, mul-le-mul_right (body_width l) decide_there)

      pub lent-body : mid_of x (x + w - x) c ≡ body_of j
      lent-body =
          let k : x + w - x ≡ length (body_of j) = omega (arith, ew, is-size, body-span l s c u p.bodies i p.there (pending_of none)) in
          ap₂ (λ (a w : ℕ). mid_of a w c) ex k ∙ body-part l s c u p.bodies i p.there (pending_of none)

      pub lent-some : 0 < length (mid_of x (x + w - x) c)
      lent-some = omega (arith, ap length lent-body, body-span l s c u p.bodies i p.there (pending_of none))

      pub lent-formed : is_well_formed capacity (length u.objects) (mid_of x (x + w - x) c) ≡ true
      lent-formed =
          ap (is_well_formed capacity (length u.objects)) lent-body
          ∙ well_formed {limit = capacity} {n = length u.objects} {b = body_of j} (record { some = form.some; most = omega (arith, form.most, m.operations); whole = form.whole; all = form.all })

      abbrev pub rerunning : Rerunning l b (mid_of x (x + w - x) c)
      rerunning = record { replica = u; holds = p.holds; versions = committed.current u p.shape; formed = lent-formed }

  -- its row begins at cell a
  module _ {a : ℕ} (ea : a ≡ row_at l i) where
    pub decide_lying : Lying b a
    decide_lying = subst (Lying b) (sym ea) (row-lying l s b u p.holds i p.there)

    is-reads : reads_from (cells b) a ≡ j.run.reads
    is-reads = ap (reads_from (cells b)) ea ∙ row_reads-from l s b u p.holds i p.there

    is-writes : writes_from (cells b) a ≡ j.run.writes
    is-writes = ap (writes_from (cells b)) ea ∙ row-writes_from l s b u p.holds i p.there

    is-outcome_cell : get_or (cells b) (a + outcome_at) 0 ≡ j.run.outcome
    is-outcome_cell = ap (λ (y : ℕ). get_or (cells b) (y + outcome_at) 0) ea ∙ row-outcome l s b u p.holds i p.there

    reads-sound : every (sound (length u.objects)) (reads_from (cells b) a) ≡ true
    reads-sound = ap (every (sound (length u.objects))) is-reads ∙ shaped.reads.values

    few : length u.objects ≤ 128
    few = omega (arith, p.holds.fits.objects.0, m.objects)

    pub decide_reads : Reaching b ps (reads_from (cells b) a)
    decide_reads = record { count = length u.objects; inside = placed-inside s p.holds few p.placed; sound = reads-sound }

    -- its counts, loaded
    module _ {t : Counts} (et : CountsAt (cells b) a t) where
      is-outcome : t.outcome ≡ j.run.outcome
      is-outcome = et.outcome ∙ is-outcome_cell

      pub writes-few : t.writes ≤ capacity
      writes-few = omega (arith, et.writes, ap (λ (x : ℕ). get_or (cells b) (x + entries_at) 0) ea, row-few l s b u p.holds i p.there, m.operations)

      -- the part of the area from the row on
      module _ {k : ℕ} (ek : k ≡ length b - a * 8) where
        pub writes_inside : (9 + 2 * (t.reads + t.writes)) * 8 ≤ length (mid_of (a * 8) k b)
        writes_inside =
            let y = decide_lying in
            omega (arith, y.reads, y.long, et.reads, et.writes, length-take-le k (drop (a * 8) b) (omega (arith, length-drop (a * 8) b)), length-drop (a * 8) b)

        row_cells : cells (mid_of (a * 8) k b) ≡ drop a (cells b)
        row_cells = ap cells (take_all k (drop (a * 8) b) (omega (arith, length-drop (a * 8) b))) ∙ cells-drop a b

        same-entry : (x : ℕ) → entry_in (drop a (cells b)) x ≡ entry_from (cells b) a x
        same-entry x =
            let o = get_or-drop a (cells b) (entry_at x) 0 in
            let z : a + (entry_at x + 1) ≡ a + entry_at x + 1 = omega arith in
            let v = ap (to_z w64) (get_or-drop a (cells b) (entry_at x + 1) 0 ∙ ap (λ (y : ℕ). get_or (cells b) y 0) z) in
            λ q. entry (o q) (v q)

        pub writes-loaded : (ws : List Entry) → ws ≡ entries_in (cells (mid_of (a * 8) k b)) t.reads t.writes → ws ≡ j.run.writes
        unfolding entries_in writes_from
        writes-loaded ws e =
            e ∙ ap (λ (x : List ℕ). entries_in x t.reads t.writes) row_cells
            ∙ listed_same (λ x. entry_in (drop a (cells b)) (t.reads + x)) (λ x. entry_from (cells b) a (t.reads + x)) t.writes (λ x h. same-entry (t.reads + x))
            ∙ ap₂ (λ (x y : ℕ). listed (λ z. entry_from (cells b) a (x + z)) y) et.reads et.writes
            ∙ is-writes

      -- its body: the part of w bytes of c from byte x on; n is its first byte
      module _ {x n w : ℕ} (ex : x ≡ body_at l i) (en : n ≡ get_or c x 0) (ew : w ≡ body_length n) where
        -- z says whether the early results are kept
        module _ {z : Bool} (ez : z ≡ valid_at b ps (mid_of x (x + w - x) c) t a) where
          -- the places have the committed values
          agree : matches (table_in (cells b) ps) (reads_from (cells b) a) ≡ matches T j.run.reads
          agree =
              matches-same (length u.objects) (table_in (cells b) ps) T (placed-table l s b u p.holds (some-version u p.shape) ps p.placed) (reads_from (cells b) a) reads-sound
              ∙ ap (matches T) is-reads

          told : z ≡ validated T j
          unfolding validated
          told =
              ez
              ∙ ap₂ (λ (x : List ℕ) (k : Bool). is_none (due_at (operations x) t.counter t.outcome) && k) (lent-body ex en ew) agree
              ∙ ap₂ (λ (x y : ℕ). is_none (due_at (program j) x y) && matches T j.run.reads) (et.counter ∙ ap (λ (y : ℕ). get_or (cells b) (y + counter_at) 0) ea ∙ row-counter l s b u p.holds i p.there) is-outcome

          pub decided-validated : z ≡ true → {ws : List Entry} → t.writes ≤ length ws → take t.writes ws ≡ j.run.writes → Decided T j (decision_of t true 0) ws
          unfolding result
          decided-validated f k h =
              let v : validated T j ≡ true = sym told ∙ f in
              let r : result T j ≡ j.run = ap (λ (y : Bool). cond y j.run (whole T (program j))) v in
              record {
                validated = sym v;
                outcome = is-outcome ∙ ap (λ (q : Run). q.outcome) (sym r);
                within = k;
                writes = h ∙ ap (λ (q : Run). q.writes) (sym r);
                operations = sym (rework-kept T j v);
              }

          pub decided-again : z ≡ false → {g : Executed} {ws : List Entry} → Reruns l b (mid_of x (x + w - x) c) g ws → Decided T j (decision_of g.counts false g.used) ws
          unfolding result rework
          decided-again f {g} {ws} h =
              let v : validated T j ≡ false = sym told ∙ f in
              let r : result T j ≡ whole T (program j) = ap (λ (y : Bool). cond y j.run (whole T (program j))) v in
              let k = h.ran (rerunning ex en ew) in
              let e = ap (λ (y : List ℕ). whole T (operations y)) (lent-body ex en ew) ∙ sym r in
              let n = ap (λ (y : List ℕ). whole_count T (operations y)) (lent-body ex en ew) ∙ sym (ap (λ (y : Bool). cond y 0 (whole_count T (program j))) v) in
              let q = form ex en ew in
              record {
                validated = sym v;
                outcome = k.outcome ∙ ap (λ (q : Run). q.outcome) e;
                within = omega (arith, k.room, k.bounded, k.counter ∙ ap (λ (x : Run). x.counter) e, (decided_shaped u p.shape p.there).within, length-operations (body_of j), q.most, m.operations);
                writes = k.writes ∙ ap (λ (q : Run). q.writes) e;
                operations = k.used ∙ n;
              }
