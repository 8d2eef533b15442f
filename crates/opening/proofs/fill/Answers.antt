-- The areas are cleared, and so hold the empty replica; each write then is a law of the layout.
use Rattle.std.proofs.Common.{length, refl, ap, ◌∙◌, rules}
use Rattle.layout.specs.Rows.{blank}
use Rattle.opening.specs.Opening.{cleared, lent-blank, put_back, opened-areas}
use Rattle.opening.proofs.fill.Goals as goal

pub put_objects-requires : goal.put_objects-requires
put_objects-requires c =
    let a = c.args in
    let p = c.requires in
    let f = c.object_at-first in
    let e = c.object_at-end in
    record {
      few = search rules;
      lowers = p.lowers;
      uppers = p.uppers;
      zeros = lent-blank a.l a.records.now c.fill_zero-2.new.area p.record_area c.fill_zero-2.ensures (length a.values.now) f.result e.result f.ensures.exact e.ensures.exact e.ensures.inside;
    }

pub returns : goal.returns
returns c =
    let a = c.args in
    let p = c.requires in
    let f = c.object_at-first in
    let e = c.object_at-end in
    let o = c.put_objects in
    let at = c.size_at in
    opened-areas a.l p.sane a.values.now a.lower.now a.upper.now p.few p.lowers p.uppers a.timestamp (search (rules, c.ranges)) o.new.objects (rw c.from-t.ensures at o.ensures) _ _ _
    (put_back a.l a.records.now c.fill_zero-2.new.area p.record_area c.fill_zero-2.ensures (length a.values.now) f.result e.result f.ensures.exact e.ensures.exact o.new.objects o.new.objects refl)
    at.result at.ensures.exact c.put.ensures (rw c.from-t.ensures at c.put-2.ensures) c.fill_zero.new.area
    (c.fill_zero.ensures ∙ cleared a.bodies.now (length a.bodies.now) refl ∙ ap blank p.body_area)
