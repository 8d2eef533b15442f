-- What follows from `specs/Agreement`. Assumes nothing.
use Rattle.std.specs.Prelude.{◌≡◌, false, List, [], ◌∷◌, ℕ, ◌<◌, length, get_or}
use Rattle.std.proofs.Common.{sym, ap, ◌∙◌, subst}
use Rattle.model.specs.declared.Limits.{Limits}
use Rattle.model.specs.Lists.{any}
use Rattle.model.specs.Calls.{Call, open_reader, read, done, version}
use Rattle.model.specs.Start.{no_version, start_of}
use Rattle.model.specs.Replica.{Replica, newest, opened}
use Rattle.model.specs.ListLaws.{All}
use Rattle.model.proofs.ShapeKept.{Typed}
use Rattle.model.proofs.ReaderSnapshots.{ends}
use Rattle.model.proofs.UntouchedLaws.{store_count, untouched_start}
use Rattle.model.proofs.EarlyRecord.{EarlyResults, demand_3-record}
use Rattle.layout.specs.Act.{act, acts}
use Rattle.layout.proofs.Areas.{acts-fit, serializable-on_areas}
use Rattle.agreement.specs.Trace.{Trace, areas, replica}
use Rattle.agreement.proofs.TraceLaws.{dated, replica-same, reads-as_opened}
use Rattle.agreement.proofs.TwoTraces.{same-commits, readers-agree}
use Rattle.agreement.specs.Agreement.{Demand3}

pub demand_3-on_areas : {l : Limits} (x : Trace l) → Demand3 x
demand_3-on_areas {l} x =
    record {
      serializable = serializable-on_areas l x.sane x.opening x.before x.accepted x.typed.0 x.later x.typed.1;
      agreement = same-commits x;
      snapshot = reads-as_opened x;
      readers = readers-agree x;
      early = subst EarlyResults (sym (replica-same x)) (demand_3-record l (start_of x.opening) (dated x) x.later);
      shape = acts-fit l x.sane x.opening x.before x.accepted x.typed.0 x.later x.typed.1;
    }

-- "For an untouched object this is the start stamp": until an accepted call stores the object, a reader that is opened answers the version of the opening
pub untouched_on_areas : {l : Limits} (x : Trace l) (o : ℕ) → store_count l o (opened l (start_of x.opening)) x.later ≡ 0
    → (r : ℕ) → (act l (open_reader r) (areas x)).0 ≡ done
    → (cs : List Call) → All Typed cs → any (ends l r) cs ≡ false
    → o < length (replica x).objects
    → (act l (read r o) (acts l (open_reader r ∷ cs) (areas x)).1).0 ≡ version (get_or (start_of x.opening).versions o no_version)
untouched_on_areas {l} x o h r e cs g q low =
    reads-as_opened x r e cs g q o low
    ∙ ap (λ (u : Replica). version (newest (get_or u.objects o []))) (replica-same x)
    ∙ ap version (untouched_start l o (start_of x.opening) x.later h)
