-- A turn is the law of one entry's block.
use Rattle.std.proofs.Common.{◌<◌, ℕ, List, length, arith}
use Rattle.execution.specs.Entries.{Entry}
use Rattle.model.specs.declared.Limits.{Limits}
use Rattle.layout.specs.Lawful.{Word}
use Rattle.layout.specs.Offsets.{Sane}
use Rattle.final_commit.specs.Install.{Installing, Turn, install-start, block_inside, push_lent, push_ok, install-step, install-end}
use Rattle.final_commit.proofs.install.Goals as goal

turn : {l : Limits} {b rs : List ℕ} {t : ℕ} {ws : List Entry} {c : List ℕ} {i : ℕ} → Sane l → Word t → i < length ws → Installing l b rs t ws c i → Turn l b rs t ws c i
turn s w h k = record { sane = s; word = w; low = h; before = k }

pub loop-e-init : goal.loop-e-init
loop-e-init c = install-start _ _ _ _ _

pub slice_bounds-push_version-end : goal.slice_bounds-push_version-end
slice_bounds-push_version-end c =
    block_inside (turn c.requires.sane (omega arith) c.loop-e-test.true c.loop-e.invariant) c.requires.ready c.object_at-at.ensures.exact c.bounds_at-versions.ensures

pub push_version-requires : goal.push_version-requires
push_version-requires c =
    let p = c.requires.ready in
    let e = c.object_at-at.ensures.exact in
    let w = c.bounds_at-versions.ensures in
    let k = turn c.requires.sane (omega arith) c.loop-e-test.true c.loop-e.invariant in
    rw c.from-stamp.ensures (push_lent k p e w, omega (arith, p.next), push_ok k p e w)

pub loop-e-preserved : goal.loop-e-preserved
loop-e-preserved c =
    record { holds = λ p. install-step (turn c.requires.sane (omega arith) c.loop-e-test.true c.loop-e.invariant) p c.object_at-at.ensures.exact c.bounds_at-versions.ensures _ (rw c.from-stamp.ensures at c.push_version.ensures) }

pub returns : goal.returns
returns c = install-end _ _ _ _ _ _ _ c.loop-e-test.false c.loop-e.invariant
