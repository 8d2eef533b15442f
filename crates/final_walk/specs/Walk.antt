-- What the walk over the pending transactions asks and leaves, and the laws of its turns. Assumes nothing.
use Rattle.std.specs.Prelude.{◌≡◌, refl, Bool, true, false, ℕ, suc, ◌+◌, ◌≤◌, ◌<◌, length, take}
use Rattle.std.proofs.Math.Path.{sym, ap, ap₂}
use Rattle.std.proofs.Common.{◌∙◌, subst, arith, add-one, take_all, take-suc}
use Rattle.std.proofs.Math.Bool.{cond}
use Rattle.std.proofs.Math.Option.{none}
use mathlib.Core.List.{List, [], ◌∷◌, ◌++◌, map, append_assoc, append-nil}
use Rattle.std.proofs.Math.ListN.{drop, drop_of_length-le}
use Rattle.std.proofs.Math.Seq.{drop-cons}
use Rattle.cells.specs.Cells.{cells}
use Rattle.execution.specs.Entries.{Entry}
use Rattle.execution.specs.Run.{Table, matches, over}
use Rattle.execution.specs.RunShape.{Shaped, every, sound}
use Rattle.model.specs.declared.Limits.{Limits}
use Rattle.model.specs.Serial.{Version}
use Rattle.model.specs.Replica as model
use Rattle.model.specs.Replica.{Pending, Replica, program, restarted, committed_table}
use Rattle.model.specs.ShapeRuns.{AllShaped}
use Rattle.model.specs.ListLaws.{All}
use Rattle.model.proofs.ListLaws.{all_in}
use Rattle.layout.specs.Offsets.{Sane, row_at, record_length}
use Rattle.layout.proofs.PrintableLaws.{few_pending}
use Rattle.layout.specs.Holds.{Holds, Holding, with_pending}
use Rattle.layout.proofs.HoldsLaws.{holds-long}
use Rattle.final_commit.specs.Positions.{at}
use Rattle.final_walk.specs.Places.{table_in, Inside, Reaching, Placed, Same, over-same, matches-same, placed-inside, placed-table}
use Rattle.final_walk.specs.Recorded.{reads_from, writes_from, Lying, LaidOver, row-lying, row_reads-from, row-writes_from}
use Rattle.final_walk.specs.RestartFrom.{restarted_from, none-restarted, Restarts}

-- the record area b holds a replica, and ps are the places of its committed state
pub record Walking (l : Limits) (b ps : List ℕ) : Type 0 where
  pub replica : Replica
  pub holds : Holds l b replica
  pub runs : AllShaped (length replica.objects) replica.pending
  pub versions : All (λ (vs : List Version). 0 < length vs) replica.objects
  pub placed : Placed l (length replica.objects) ps
  pub few : length replica.objects ≤ 128

-- from position r on they go back to their start
pub record Stale (l : Limits) (b ps : List ℕ) (r : ℕ) : Type 0 where
  pub walked : (p : Walking l b ps) → model.walk (committed_table p.replica) p.replica.pending ≡ restarted_from r p.replica.pending

-- the record area, b before, is d after the walk
pub record Walks (l : Limits) (ps b d : List ℕ) : Type 0 where
  pub holds : (p : Walking l b ps) → Holds l d (with_pending (model.walk (committed_table p.replica) p.replica.pending) p.replica)

-- of n transactions those before i match, qs are the places of transaction i's table, and what the walk from i on with this table gives is left
pub record Walked (l : Limits) (b : List ℕ) (u : Replica) (qs : List ℕ) (n i : ℕ) : Type 0 where
  pub count : n ≡ length u.pending
  pub within : i ≤ n
  pub inside : Inside b (length u.objects) qs
  pub now : Table
  pub same : Same (length u.objects) (table_in (cells b) qs) now
  pub left : model.walk (committed_table u) u.pending ≡ take i u.pending ++ model.walk now (drop i u.pending)

module _ {l : Limits} {b ps : List ℕ} (s : Sane l) (p : Walking l b ps) where
  abbrev u : Replica
  u = p.replica

  pub walk-long : length b ≡ record_length l
  walk-long = holds-long l s b u p.holds

  pub walk-few : length u.pending ≤ 65536
  walk-few = omega (arith, few_pending l u p.holds.fits, s.pending)

  pub walked_start : (n : ℕ) → n ≡ length u.pending → Walked l b u ps n 0
  walked_start n e =
      record {
        count = e;
        within = omega arith;
        inside = placed-inside s p.holds p.few p.placed;
        now = committed_table u;
        same = placed-table l s b u p.holds p.versions ps p.placed;
        left = refl;
      }

module _ {l : Limits} {b ps : List ℕ} {qs : List ℕ} {n i : ℕ} (s : Sane l) (p : Walking l b ps) (k : Walked l b p.replica qs n i) where
  abbrev js : List Pending
  js = p.replica.pending

  abbrev m : ℕ
  m = length p.replica.objects

  -- all match
  pub walked_all : n ≤ i → model.walk (committed_table p.replica) p.replica.pending ≡ restarted_from i p.replica.pending
  unfolding model.walk
  walked_all h =
      let d : drop i js ≡ [] = drop_of_length-le js {i = i} (omega (arith, k.count)) in
      k.left ∙ ap₂ (λ (x : List Pending) (y : List Pending). x ++ model.walk k.now y) (take_all i js (omega (arith, k.count))) d ∙ append-nil js ∙ sym (none-restarted js i (omega (arith, k.count)))

  module _ (low : i < n) where
    there : i < length js
    there = omega (arith, k.count)

    pub walk-there : i < l.pending
    walk-there = omega (arith, there, few_pending l p.replica p.holds.fits)

    abbrev j : Pending
    j = at js i

    shaped : Shaped m (program j) j.run
    shaped = all_in (λ (x : Pending). Shaped m (program x) x.run) js i (model.pending_of none) p.runs there

    -- a is the row's first cell
    module _ {a : ℕ} (ea : a ≡ row_at l i) where
      pub walk-lying : Lying b a
      walk-lying = subst (Lying b) (sym ea) (row-lying l s b p.replica p.holds i there)

      is-reads : reads_from (cells b) a ≡ j.run.reads
      is-reads = ap (reads_from (cells b)) ea ∙ row_reads-from l s b p.replica p.holds i there

      is-writes : writes_from (cells b) a ≡ j.run.writes
      is-writes = ap (writes_from (cells b)) ea ∙ row-writes_from l s b p.replica p.holds i there

      reads-sound : every (sound m) (reads_from (cells b) a) ≡ true
      reads-sound = ap (every (sound m)) is-reads ∙ shaped.reads.values

      pub walk-reads : Reaching b qs (reads_from (cells b) a)
      walk-reads = record { count = m; inside = k.inside; sound = reads-sound }

      pub walk-writes : Reaching b qs (writes_from (cells b) a)
      walk-writes = record { count = m; inside = k.inside; sound = ap (every (sound m)) is-writes ∙ shaped.writes.values }

      next : model.walk k.now (drop i js) ≡ cond (matches k.now j.run.reads) (j ∷ model.walk (over j.run.writes k.now) (drop (suc i) js)) (map restarted (drop i js))
      unfolding model.walk
      next =
          let e = drop-cons js i (model.pending_of none) there in
          ap (model.walk k.now) e
          ∙ ap (λ (x : List Pending). cond (matches k.now j.run.reads) (j ∷ model.walk (over j.run.writes k.now) (drop (suc i) js)) (map restarted x)) (sym e)

      -- what the code saw: its answer on the reads
      module _ {t : Bool} (et : t ≡ matches (table_in (cells b) qs) (reads_from (cells b) a)) where
        told : t ≡ matches k.now j.run.reads
        told = et ∙ matches-same m (table_in (cells b) qs) k.now k.same (reads_from (cells b) a) reads-sound ∙ ap (matches k.now) is-reads

        -- the first that does not match
        pub walked-stale : t ≡ false → model.walk (committed_table p.replica) p.replica.pending ≡ restarted_from i p.replica.pending
        walked-stale f = k.left ∙ ap (take i js ++◌) (next ∙ rw (sym told ∙ f))

        pub walked_next : t ≡ true → {xs : List ℕ} → LaidOver b a qs xs → Walked l b p.replica xs n (i + 1)
        walked_next f {xs} h =
            record {
              count = k.count;
              within = omega arith;
              inside = h.inside m k.inside;
              now = over j.run.writes k.now;
              same = λ o q. ap (λ (T : Table). T.look o) (h.table ∙ ap (λ (w : List Entry). over w (table_in (cells b) qs)) is-writes) ∙ over-same {n = m} (table_in (cells b) qs) k.now j.run.writes k.same o q;
              left =
                  k.left
                  ∙ ap (take i js ++◌) (next ∙ rw (sym told ∙ f))
                  ∙ sym (append_assoc (take i js) (j ∷ []) (model.walk (over j.run.writes k.now) (drop (suc i) js)))
                  ∙ ap (◌++ model.walk (over j.run.writes k.now) (drop (suc i) js)) (sym (take-suc js i (model.pending_of none) there))
                  ∙ ap (λ (x : ℕ). take x js ++ model.walk (over j.run.writes k.now) (drop x js)) (sym (add-one i));
            }

abbrev pub walking_holding : {l : Limits} {b ps : List ℕ} → Walking l b ps → Holding l b
walking_holding p = record { replica = p.replica; holds = p.holds }

pub walk-done : {l : Limits} {b ps : List ℕ} {r : ℕ} {d : List ℕ} → Stale l b ps r → Restarts l r b d → Walks l ps b d
walk-done {l} {b} {ps} {r} {d} a c =
    record { holds = λ p. subst (λ (x : List Pending). Holds l d (with_pending x p.replica)) (sym (a.walked p)) (c.holds (walking_holding p)) }
