-- A commit on both areas, step by step: what `commit_at` and its parts ask and leave. Assumes nothing.
use Rattle.std.specs.Prelude.{◌≡◌, refl, ℕ, suc, ◌^◌, ◌≤◌, ◌<◌, length, take, get_or, set, Ok}
use Rattle.std.proofs.Math.Path.{sym, ap, subst}
use Rattle.std.proofs.Common.{ap₂, ◌∙◌, arith}
use mathlib.Core.List.{List, map, map-map}
use Rattle.cells.specs.Cells.{cells, Put}
use Rattle.execution.specs.Entries.{Entry}
use Rattle.execution.specs.Run.{Table}
use Rattle.execution.specs.RunShape.{Shaped}
use Rattle.model.specs.declared.Limits.{Limits}
use Rattle.model.specs.declared.Commit.{Commit}
use Rattle.model.specs.Lists.{keep}
use Rattle.model.specs.ListLaws.{All}
use Rattle.model.proofs.ListLaws.{all_keep}
use Rattle.model.specs.Calls.{committed as committed-answer, Committed, Yield, yielded, Transaction, clients}
use Rattle.model.specs.Answers.{delivery}
use Rattle.model.specs.Serial.{Version}
use Rattle.model.specs.Replica as model
use Rattle.model.specs.Replica.{Pending, Replica, opens, table, program, stays, commit}
use Rattle.model.proofs.VersionLaws.{length-install}
use Rattle.model.proofs.EarlyResultsLaws.{walk-sents}
use Rattle.model.specs.ShapeRuns.{AllShaped}
use Rattle.model.proofs.ShapeParts.{pending_part, install-versions}
use Rattle.layout.specs.Layout.{body_of}
use Rattle.layout.specs.Offsets.{Sane, last_at, size_at}
use Rattle.layout.specs.Holds.{Holds, HoldsBodies, with_timestamp, with_lasts, with_pending}
use Rattle.layout.proofs.Writing.{put-timestamp, put_last}
use Rattle.layout.proofs.Bodies.{same-bodies}
use Rattle.final_admission.specs.NextTimestamp.{NextAfter, next-timestamp}
use Rattle.final_commit.specs.Install.{installed}
use Rattle.final_commit.specs.Publish.{Few, Publishing, Publishes}
use Rattle.final_commit.specs.Positions.{Both}
use Rattle.final_requeue.specs.Leave.{Paired}
use Rattle.final_requeue.specs.Clear.{Left}
use Rattle.final_walk.specs.Places.{Placed}
use Rattle.final_walk.specs.Walk.{Walking, Walks}
use Rattle.final_decision.specs.declared.Decision.{Decision}
use Rattle.final_decision.specs.Decide.{Local, Decides, shaped-some}
use Rattle.final_decision.specs.FoundAt.{Found, commit_at, placed, decided, writes_named, stored-count}

-- ---- timestamp and last number

-- the last client's cell lies far in front of the objects
pub few-clients : {c : ℕ} → c < clients → c < 16
unfolding clients
few-clients h = h

pub record Marking (l : Limits) (b : List ℕ) (cl : ℕ) : Type 0 where
  pub replica : Replica
  pub holds : Holds l b replica
  pub client : cl < clients

-- the record area, b before, is d after it
pub record Marks (l : Limits) (t cl sq : ℕ) (b d : List ℕ) : Type 0 where
  pub holds : (p : Marking l b cl) → Holds l d (with_lasts (set p.replica.lasts cl sq) (with_timestamp t p.replica))

-- o is the client's cell
pub marked : {l : Limits} {t cl sq o : ℕ} {b d e : List ℕ} → Sane l → t < 2 ^ 32 → sq < 2 ^ 32 → Put b d 0 t → o ≡ last_at cl → Put d e o sq → Marks l t cl sq b e
marked {l} {t} {cl} {sq} {o} {b} {d} {e} s tt-small small h eo k =
    record {
      holds = λ p. let u = p.replica in
          put_last l s d (with_timestamp t u) (put-timestamp l s b u p.holds t (omega arith) d h) cl p.client sq (omega arith) e (subst (λ (x : ℕ). Put d e x sq) eo k);
    }

-- ---- the commit of the transaction at position i

-- the answer r, and what both areas hold
pub record Answered (l : Limits) (b c : List ℕ) (a : Committed × Replica) (r : Commit) : Type 0 where
  pub answer : delivery (Ok r) ≡ yielded (Yield.committed a.0)
  pub areas : Both l b c a.1

-- the areas, b and c before, are d and e after it
pub record Commits (l : Limits) (cl sq i : ℕ) (b c d e : List ℕ) (r : Commit) : Type 0 where
  pub answered : (p : Found l b c i) → cl < clients → Answered l d e (commit_at p.replica cl sq i) r

module _ {l : Limits} {b c : List ℕ} {cl i : ℕ} (s : Sane l) (m : Local l) (p : Found l b c i) (known : cl < clients) where
  abbrev u : Replica
  u = p.replica

  pub found-few : Few l
  found-few = record { sane = s; readers = m.readers }

  -- ps are the places of the committed state
  module _ {ps : List ℕ} (e : Placed l (get_or (cells b) (size_at l) 0) ps) where
    -- the decision and the next timestamp
    module _ {d : Decision} {es : List Entry} {t : ℕ} (g : Decides l b c i ps d es) (et : NextAfter b t) where
      abbrev ws : List Entry
      ws = take d.stored es

      pub next : t ≡ suc u.timestamp
      next = next-timestamp s p.holds et

      abbrev pub found_publishing : Publishing l b t ws
      found_publishing =
          record { replica = u; holds = p.holds; versions = p.shape.versions; next = next; writes = writes_named s m p e g }

      -- the writes are installed
      module _ {b1 : List ℕ} (h1 : Publishes l t ws b b1) where
        pub published : Holds l b1 (installed t ws u)
        published = h1.holds found_publishing

        abbrev pub found_marking : Marking l b1 cl
        found_marking = record { replica = installed t ws u; holds = published; client = known }

        -- timestamp and last number are stored
        module _ {sq : ℕ} {b2 : List ℕ} (h2 : Marks l t cl sq b1 b2) where
          abbrev v : Replica
          v = with_lasts (set u.lasts cl sq) (with_timestamp t (installed t ws u))

          pub stored : Holds l b2 v
          stored = h2.holds found_marking

          pub same-places : HoldsBodies l c v
          same-places = same-bodies l s c u p.bodies v stored.fits refl

          abbrev pub found_paired : Paired l b2 c
          found_paired = record { replica = v; holds = stored; bodies = same-places }

          -- those that leave have left
          module _ {b3 c3 : List ℕ} (h3 : Left l cl sq b2 c b3 c3) where
            abbrev js : List Pending
            js = keep (stays cl sq) u.pending

            pub left : Both l b3 c3 (with_pending js v)
            left = h3.both found_paired

            -- the objects now
            abbrev objs : List (List Version)
            objs = model.install t (opens u.readers) ws u.objects

            objects-same : length objs ≡ length u.objects
            objects-same = length-install t (opens u.readers) ws u.objects

            left-runs : AllShaped (length objs) js
            left-runs =
                subst (λ (k : ℕ). AllShaped k js) (sym objects-same)
                (all_keep (λ (x : Pending). Shaped (length u.objects) (program x) x.run) (stays cl sq) u.pending (pending_part l u p.shape).runs)

            left-versions : All (λ (vs : List Version). 0 < length vs) objs
            left-versions =
                subst (λ (x : ℕ). All (λ (vs : List Version). 0 < length vs) (model.install x (opens u.readers) ws u.objects)) (sym next)
                (shaped-some (suc u.timestamp) (opens u.readers) (model.install (suc u.timestamp) (opens u.readers) ws u.objects)
                (install-versions u.timestamp (opens u.readers) ws u.objects p.shape.versions))

            left-placed : Placed l (length objs) ps
            left-placed = subst (λ (n : ℕ). Placed l n ps) (sym objects-same) (placed s m p e)

            left-few : length objs ≤ 128
            left-few = omega (arith, objects-same, p.holds.fits.objects.0, m.objects)

            abbrev walking : Walking l b3 ps
            walking =
                record { replica = with_pending js v; holds = left.holds; runs = left-runs; versions = left-versions; placed = left-placed; few = left-few }

            pub found-walking : Walking l b3 ps
            found-walking = walking

            -- the walk
            module _ {b4 : List ℕ} (h4 : Walks l ps b3 b4) where
              abbrev final : ℕ → List Entry → Replica
              final t ws =
                  with_pending (model.walk (table (model.install t (opens u.readers) ws u.objects) u.bounds) js) (with_lasts (set u.lasts cl sq) (with_timestamp t (installed t ws u)))

              walked : Holds l b4 (final t ws)
              walked = h4.holds walking

              pub found-done : {r : Commit} → r.outcome ≡ d.outcome → r.validated ≡ d.validated → r.timestamp.0 ≡ t → r.stored ≡ d.stored → r.operations ≡ d.operations
                  → Answered l b4 c3 (commit_at u cl sq i) r
              unfolding commit
              found-done {r} eo ek er es ew =
                  let f = decided s m p e g in
                  let k = eo ∙ f.outcome in
                  let y = ek ∙ f.validated in
                  let q = er ∙ next in
                  let n = es ∙ stored-count s m p e g in
                  let w = ew ∙ f.operations in
                  record {
                    answer = λ x. committed-answer (k x) (y x) (q x) (n x) (w x);
                    areas = subst (Both l b4 c3) (ap₂ final next f.writes)
                        (record { holds = walked; bodies = same-bodies l s c3 (with_pending js v) left.bodies (final t ws) walked.fits (bodies-walk (table objs u.bounds) js) });
                  }
                where
                  bodies-walk : (S : Table) (js : List Pending) → map body_of (model.walk S js) ≡ map body_of js
                  bodies-walk S js =
                      sym (map-map (λ (x : Transaction). x.bytes) (λ (x : Pending). x.sent) (model.walk S js))
                      ∙ ap (map (λ (x : Transaction). x.bytes)) (walk-sents S js)
                      ∙ map-map (λ (x : Transaction). x.bytes) (λ (x : Pending). x.sent) js
