-- Find's answer names the place, and the part that is returned is that place's own bytes.
use Rattle.std.proofs.Common.{refl, sym, arith}
use Rattle.layout.specs.Layout.{Areas}
use Rattle.layout.proofs.FitLaws.{fit-bodies}
use Rattle.queue.specs.Shown.{shown-none, shown-low, shown-room, shown-some}
use Rattle.queue.proofs.show_body.Goals as goal

pub returns-in_default : goal.returns-in_default
returns-in_default c =
    let s = c.args in
    shown-none s.l c.requires.supported.sane s.records.now s.bodies _ s.client s.sequence c.requires.bodies_value _
    (sym c.in_default.ensures.answers) refl refl

pub body_at-at-requires-clause-i_le_pending : goal.body_at-at-requires-clause-i_le_pending
body_at-at-requires-clause-i_le_pending c =
    let s = c.args in
    let a : Areas = (s.records.now, s.bodies.now) in
    let f = c.requires.bodies_value in
    let h = fit-bodies s.l c.requires.supported.sane a (λ i. (c.type_inv.records i).fits) f in
    let low = shown-low s.l c.requires.supported.sane s.records.now s.bodies s.bodies s.client s.sequence f h c.in-Ok.found.position.0 c.in-Ok.found.length _ (sym c.in-Ok.ensures.answers) refl in
    omega arith

pub slice_bounds-result-end-2 : goal.slice_bounds-result-end-2
slice_bounds-result-end-2 c =
    let s = c.args in
    let a : Areas = (s.records.now, s.bodies.now) in
    let f = c.requires.bodies_value in
    let h = fit-bodies s.l c.requires.supported.sane a (λ i. (c.type_inv.records i).fits) f in
    shown-room s.l c.requires.supported.sane s.records.now s.bodies s.bodies s.client s.sequence f h c.in-Ok.found.position.0 c.in-Ok.found.length c.body_at-at.result
    (sym c.in-Ok.ensures.answers) c.body_at-at.ensures.exact

pub returns : goal.returns
returns c =
    let s = c.args in
    let a : Areas = (s.records.now, s.bodies.now) in
    let f = c.requires.bodies_value in
    let h = fit-bodies s.l c.requires.supported.sane a (λ i. (c.type_inv.records i).fits) f in
    shown-some s.l c.requires.supported.sane s.records.now s.bodies _ s.client s.sequence f h c.in-Ok.found.position.0 c.in-Ok.found.length c.body_at-at.result
    (sym c.in-Ok.ensures.answers) c.body_at-at.ensures.exact refl refl
