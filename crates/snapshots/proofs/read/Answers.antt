-- Each way out is a law of specs/ReaderAnswers, and the block that is lent says the object's versions.
use Rattle.std.proofs.Common.{◌≡◌, refl, sym, ap, ◌∙◌, subst, ℕ, suc, ℤ, ◌+◌, ◌-◌, ◌*◌, ◌^◌, ◌≤◌, ◌<◌, List, length, Option, Some, None, Err, arith}
use Rattle.std.specs.Option.{ok_or, SomeIff}
use Rattle.std.proofs.lemmas.Result.{err_from_is_err_and}
use native.Mathlib.Nat.{suc-mul}
use lib.Signed.{mag}
use Rattle.cells.specs.Signed.{told}
use Rattle.model.specs.Serial.{Version}
use Rattle.model.specs.declared.Limits.{Limits}
use Rattle.model.specs.declared.Refusal.{Refusal}
use Rattle.model.specs.Replica.{Replica}
use Rattle.model.specs.Shape.{Shape}
use Rattle.model.specs.Calls.{read, Answer}
use Rattle.versions.specs.Block.{seen_from}
use Rattle.versions.proofs.Round.{seen-fits}
use Rattle.layout.specs.Offsets.{Sane, reader_at, size_at, object_width, versions_width, object_at}
use Rattle.layout.specs.Holds.{Holds}
use Rattle.layout.specs.Contract.{Answered, MetBeside}
use Rattle.layout.proofs.Reading.{cell-inside, size-read, size_few, object-inside}
use Rattle.layout.proofs.ContractLaws.{met-beside}
use Rattle.snapshots.specs.ReaderAnswers.{read-bodies, read-no_reader, read-not_open, read-no_object, read-sorted, seen-small, read_done}
use Rattle.snapshots.proofs.read.Goals as goal
use Rattle.snapshots.proofs.read.Goals.{Start, After-bounds_at}

-- by what the call comes to for whichever replica the record area holds
met : (c : Start) {r : Answer} → ((u : Replica) → Holds c.args.l c.args.records.now u → Shape c.args.l u → Answered c.args.l (read c.args.reader c.args.object) u c.args.records.now r)
    → MetBeside c.args.l (read c.args.reader c.args.object) c.args.records.now c.args.records.now r
met c = met-beside c.args.l c.requires.supported.sane (read c.args.reader c.args.object) c.args.records.now c.requires.holds_shaped.bytes _ _ (read-bodies c.args.l c.args.reader c.args.object)

-- where `ok_or` makes a refusal of None
refused-by : (o : Option ℕ) (v : ℕ) {P : Type 0} {e k : Refusal} → Err e ≡ ok_or o k → SomeIff o P v → (e ≡ k) × (P → ⊥)
refused-by None v m s = (cc, s)
refused-by (Some x) v m s = cc

-- the block of an object that there is, k cells from cell a on, ends in the area
ends : (l : Limits) (s : Sane l) (b : List ℕ) (u : Replica) (h : Holds l b u) (o a k : ℕ) → o < l.objects → a ≡ object_at l o → k ≡ versions_width l → a * 8 + k * 8 ≤ length b
ends l s b u h o a k q ea ek = omega (arith, suc-mul o (object_width l), object-inside l s b u h (suc o) (object_at l (suc o)) (omega arith) refl)

pub returns-in_err-at : goal.returns-in_err-at
returns-in_err-at c =
    let e = c.in_err-at.ensures in
    let p = err_from_is_err_and c.from_residual.result c.from_residual.ensures.1 in
    rw (p.1, p.2, e.0) (met (goal.at.returns-in_err-at c).Start (λ u h g. read-no_reader c.args.l c.requires.supported.sane c.args.records.now u h c.args.reader e.1 c.args.object))

pub get-requires : goal.get-requires
get-requires c =
    let a = c.args in
    let p = c.requires.holds_shaped in
    let e = c.in_ok-at.ensures in
    omega (arith, e.1.exact, cell-inside a.l c.requires.supported.sane a.records.now p.replica p.holds (reader_at a.reader) (omega (arith, e.0)))

pub returns-in_err-since : goal.returns-in_err-since
returns-in_err-since c =
    let a = c.args in
    let e = c.in_ok-at.ensures in
    let x = c.get in
    let f = refused-by _ _ c.in_err-since.ensures.value c.checked_sub.ensures in
    let p = err_from_is_err_and c.from_residual-in_err-since.result c.from_residual-in_err-since.ensures.1 in
    let shut : x.result ≡ 0 = omega (arith, f.1) in
    rw (p.1, p.2, f.0) (met (goal.at.returns-in_err-since c).Start (λ u h g. read-not_open a.l c.requires.supported.sane a.records.now u h a.reader e.0 _ e.1.exact x.result x.ensures shut a.object))

pub get-requires-2 : goal.get-requires-2
get-requires-2 c =
    let a = c.args in
    let p = c.requires.holds_shaped in
    omega (arith, c.size_at.ensures.exact, cell-inside a.l c.requires.supported.sane a.records.now p.replica p.holds (size_at a.l) (omega arith))

pub returns-then-get-o : goal.returns-then-get-o
returns-then-get-o c =
    let a = c.args in
    let s = c.requires.supported.sane in
    let e = c.in_ok-at.ensures in
    let x = c.get in
    let since = rw c.in_ok-since.ensures.ok_part at c.checked_sub.ensures in
    met (goal.at.returns-then-get-o c).Start
    (λ u h g. read-no_object a.l s a.records.now u h a.reader e.0 _ e.1.exact x.result x.ensures since.0 a.object
    (omega (arith, size-read a.l s a.records.now u h c.size_at.result c.get-2.result c.get-2.ensures c.size_at.ensures.exact)))

pub object_at-first-requires-clause-i_le_objects : goal.object_at-first-requires-clause-i_le_objects
object_at-first-requires-clause-i_le_objects c =
    let a = c.args in
    let p = c.requires.holds_shaped in
    omega (arith, size_few a.l c.requires.supported.sane a.records.now p.replica p.holds c.size_at.result c.get-2.result c.get-2.ensures c.size_at.ensures.exact)

pub slice_bounds-lookup-end : goal.slice_bounds-lookup-end
slice_bounds-lookup-end c =
    let a = c.args in
    let s = c.requires.supported.sane in
    let p = c.requires.holds_shaped in
    let few : c.get-2.result ≤ a.l.objects = size_few a.l s a.records.now p.replica p.holds c.size_at.result c.get-2.result c.get-2.ensures c.size_at.ensures.exact in
    omega (arith, ends a.l s a.records.now p.replica p.holds a.object c.object_at-first.result c.bounds_at.result (omega arith) c.object_at-first.ensures.exact c.bounds_at.ensures)

-- the object that is read is one of the replica's, and its versions are what is lent
module _ (c : After-bounds_at) where
  pub stored : c.args.object < length c.requires.holds_shaped.replica.objects
  stored =
      let a = c.args in
      let p = c.requires.holds_shaped in
      omega (arith, size-read a.l c.requires.supported.sane a.records.now p.replica p.holds c.size_at.result c.get-2.result c.get-2.ensures c.size_at.ensures.exact)

  pub wide : c.object_at-first.result * 8 + c.bounds_at.result * 8 - c.object_at-first.result * 8 ≡ versions_width c.args.l * 8
  wide = omega (arith, c.bounds_at.ensures)

pub lookup-seen-requires : goal.lookup-seen-requires
lookup-seen-requires c =
    let a = c.args in
    let p = c.requires.holds_shaped in
    let f = c.object_at-first in
    let b = (goal.at.lookup-seen-requires c).After-bounds_at in
    read-sorted a.l c.requires.supported.sane a.records.now p.replica p.holds p.shape a.object (stored b) f.result _ f.ensures.exact (wide b)

pub overflow_cast-stamp : goal.overflow_cast-stamp
overflow_cast-stamp c =
    let a = c.args in
    let p = c.requires.holds_shaped in
    let f = c.object_at-first in
    let b = (goal.at.overflow_cast-stamp c).After-bounds_at in
    let small = seen-small a.l c.requires.supported.sane a.records.now p.replica p.holds p.shape a.object (stored b) f.result _ f.ensures.exact (wide b) c.in_ok-since.since in
    omega (arith, small, ap (λ (v : Version). v.stamp) c.lookup-seen.ensures.seen)

pub returns : goal.returns
returns c =
    let a = c.args in
    let s = c.requires.supported.sane in
    let e = c.in_ok-at.ensures in
    let x = c.get in
    let f = c.object_at-first in
    let t = c.bounds_at in
    let seen = c.lookup-seen in
    let since = rw c.in_ok-since.ensures.ok_part at c.checked_sub.ensures in
    let b = (goal.at.returns c).After-bounds_at in
    let value = subst (λ (v : Version). mag v.value < 2 ^ 63) (sym seen.ensures.seen) (seen-fits c.in_ok-since.since (f.result * 8) (f.result * 8 + t.result * 8 - f.result * 8) a.records.now c.requires.holds_shaped.bytes) in
    met (goal.at.returns c).Start
    (λ u h k. read_done a.l s a.records.now u h a.reader e.0 _ e.1.exact x.result x.ensures since.0 a.object
    (omega (arith, size-read a.l s a.records.now u h c.size_at.result c.get-2.result c.get-2.ensures c.size_at.ensures.exact)) f.result _ f.ensures.exact (wide b) _
    (ap (λ (v : ℤ). record { stamp = seen.result.stamp; value = v }) (told value refl) ∙ seen.ensures.seen
    ∙ ap (λ (n : ℕ). seen_from a.records.now n (f.result * 8 + t.result * 8 - f.result * 8) (f.result * 8)) since.1))
