-- What follows from `specs/Lookups`. Assumes nothing.
use Rattle.std.specs.Prelude.{◌≡◌, false, List, [], ◌∷◌, ℕ, suc, ◌≤◌, ◌<◌, length, get_or}
use Rattle.std.proofs.Math.Path.{ap}
use Rattle.std.proofs.Math.Option.{none, some}
use Rattle.std.proofs.Common.{arith}
use Rattle.model.specs.declared.Limits.{Limits}
use Rattle.model.specs.Lists.{any}
use Rattle.model.specs.Calls.{Call, open_reader, done}
use Rattle.model.specs.Start.{start_of}
use Rattle.model.specs.Replica.{Replica}
use Rattle.model.specs.ListLaws.{All}
use Rattle.model.proofs.Invariant.{Invariant, opened-invariant, calls-invariant}
use Rattle.model.specs.Shape.{Shape}
use Rattle.model.proofs.ShapeCheckLaws.{shaped-says}
use Rattle.model.proofs.ShapeKept.{Typed}
use Rattle.model.proofs.ReaderSnapshots.{ends, some-within}
use Rattle.model.proofs.ReaderViews.{stamp-stays, as_many_objects}
use Rattle.model.proofs.UntouchedLaws.{store_count}
use Rattle.model.specs.LookedAt.{looked_at}
use Rattle.model.proofs.LookedAtLaws.{looked_at-since, looked_at-most}
use Rattle.layout.specs.Layout.{Areas, print}
use Rattle.layout.proofs.FitLaws.{shape-fits}
use Rattle.layout.specs.Holds.{Holds}
use Rattle.layout.specs.Act.{act, acts}
use Rattle.layout.proofs.LentBlockLaws.{holds-looked_at}
use Rattle.agreement.specs.Trace.{Trace, areas, replica}
use Rattle.agreement.proofs.TraceLaws.{first, dated, last, last-shaped, replica-same, opens, then, then-shaped, areas-then}
use Rattle.agreement.specs.Lookups.{looks_at, commits_since, FewLookedAt}

module _ {l : Limits} (x : Trace l) (r : ℕ) (e : (act l (open_reader r) (areas x)).0 ≡ done) (cs : List Call) (g : All Typed cs) (q : any (ends l r) cs ≡ false) (o : ℕ) (low : o < length (replica x).objects) where
  invariant : Invariant l (last x)
  invariant = calls-invariant l x.later (first x) (opened-invariant l (start_of x.opening) (dated x))

  abbrev now : Replica
  now = then x r e cs g q

  shape-now : Shape l now
  shape-now = (shaped-says l now).0 (then-shaped x r e cs g q)

  holds-now : Holds l (acts l (open_reader r ∷ cs) (areas x)).1.0 now
  unfolding print
  holds-now = record { same = ap (λ (a : Areas). a.0) (areas-then x r e cs g q); fits = shape-fits l x.sane now shape-now }

  -- the reader has the timestamp that it took
  entry : get_or now.readers r none ≡ some (last x).timestamp
  entry = stamp-stays l r (last x) invariant (opens x r e) cs q

  there : o < length now.objects
  there = omega (arith, as_many_objects l r (last x) invariant (opens x r e) cs q, ap (λ (u : Replica). length u.objects) (replica-same x))

  seated : r < l.readers
  seated = omega (arith, some-within now.readers r (last x).timestamp entry, shape-now.encoded.reader_count)

  same : looks_at x r cs o ≡ looked_at (last x).timestamp (get_or now.objects o [])
  same = holds-looked_at l x.sane (acts l (open_reader r ∷ cs) (areas x)).1.0 now holds-now r (last x).timestamp seated entry o there

  few-since : looks_at x r cs o ≤ suc (commits_since x r cs o)
  few-since =
      let shape-opened = (shaped-says l (last x)).0 (last-shaped x) in
      let low-opened : o < length (last x).objects = omega (arith, ap (λ (u : Replica). length u.objects) (replica-same x)) in
      omega (arith, same, looked_at-since l (last x) shape-opened o low-opened (open_reader r ∷ cs), ap (λ (u : Replica). store_count l o u (open_reader r ∷ cs)) (replica-same x))

  pub few-looked_at : FewLookedAt x r cs o
  few-looked_at =
      record {
        recent = λ h. omega (arith, same, few-since);
        since = few-since;
        most = omega (arith, same, looked_at-most l now shape-now r (last x).timestamp entry o there);
      }
