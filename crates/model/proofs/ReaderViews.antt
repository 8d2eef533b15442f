-- What a reader reads after any calls that do not end it: the committed state as it stood when it was opened. Assumes nothing.
use Rattle.std.specs.Prelude.{◌≡◌, false, get_or}
use Rattle.std.proofs.Math.Path.{ap}
use Rattle.std.proofs.Common.{sym, ◌∙◌}
use Rattle.std.proofs.Math.Option.{none, some}
use mathlib.Core.List.{List, [], ◌∷◌, map}
use Prim.Native.Nat.{ℕ, ◌<◌}
use Rattle.std.proofs.Math.ListN.{length, length-map, get_or-map}
use Rattle.model.specs.declared.Limits.{Limits}
use Rattle.model.specs.Lists.{any}
use Rattle.model.specs.Interface.{open_reader, read, Call, update, query}
use Rattle.model.specs.Calls.{version, refusal}
use Rattle.model.specs.Start.{Start}
use Rattle.model.specs.Replica.{Replica, newest, as_of, facts, opened, call, calls}
use Rattle.model.specs.VersionLaws.{Dated}
use Rattle.model.proofs.Invariant.{Invariant, opened-invariant, call-invariant, calls-invariant}
use Rattle.model.proofs.ReaderSnapshots.{ends, Open, open_reader-opens, read-open, calls-open}

module _ (l : Limits) (r : ℕ) where
  -- From any replica that keeps the invariant: reader r is opened, and then come any calls that do not end it.
  module _ (u : Replica) (v : Invariant l u) (e : refusal l (facts u) (update (open_reader r)) ≡ 0) (cs : List Call) (q : any (ends l r) cs ≡ false) where
    abbrev then : Replica
    then = (calls l u (update (open_reader r) ∷ cs)).1

    w : Invariant l (call l u (update (open_reader r))).1
    w = call-invariant l u v (update (open_reader r))

    still_open : Open r u.timestamp (map newest u.objects) then
    unfolding calls
    still_open = calls-open l r u.timestamp (map newest u.objects) cs (call l u (update (open_reader r))).1 w (open_reader-opens l r u v e) q

    -- it has the stamp that it took
    pub stamp-stays : get_or then.readers r none ≡ some u.timestamp
    stamp-stays = still_open.entry

    pub as_many_objects : length then.objects ≡ length u.objects
    as_many_objects = sym (length-map then.objects (as_of u.timestamp)) ∙ ap length still_open.view ∙ length-map u.objects newest

    -- A read of it is not refused, and answers the version, its value and its stamp, that the object had in the committed state when the reader was opened.
    pub reads-as_opened : (o : ℕ) → o < length u.objects → (call l then (query (read r o))).0 ≡ version (newest (get_or u.objects o []))
    unfolding calls
    reads-as_opened o k =
        read-open l r u.timestamp (map newest u.objects) then (calls-invariant l cs (call l u (update (open_reader r))).1 w) still_open o (rw (length-map u.objects newest) k)
        ∙ ap version (get_or-map newest u.objects o [])

-- the same for a list that starts with an opening: `before` the reader is opened and `after`
pub reader-snapshot : (l : Limits) (s : Start) → Dated s → (before after : List Call) (r o : ℕ)
    → let u = (calls l (opened l s) before).1 in refusal l (facts u) (update (open_reader r)) ≡ 0 → any (ends l r) after ≡ false → o < length u.objects
    → (call l (calls l u (update (open_reader r) ∷ after)).1 (query (read r o))).0 ≡ version (newest (get_or u.objects o []))
reader-snapshot l s d before after r o e q k =
    reads-as_opened l r (calls l (opened l s) before).1 (calls-invariant l before (opened l s) (opened-invariant l s d)) e after q o k
