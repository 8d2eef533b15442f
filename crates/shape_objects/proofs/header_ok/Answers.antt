-- A law for each answer.
use Rattle.std.proofs.Common.{◌∙◌, arith}
use Rattle.shape_objects.specs.HeaderParts.{header-lasts, header-readers}
use Rattle.shape_objects.proofs.header_ok.Goals as goal

pub returns-then-all_below : goal.returns-then-all_below
returns-then-all_below c =
    let a = c.args in
    let t = c.get-timestamp in
    let f = c.last_at-lasts in
    let g = c.reader_at-readers in
    let s = c.size_at-end in
    let p = c.all_below in
    let z = c.all_below-then-all_below in
    header-readers a.l a.records.now t.result t.ensures (omega arith) f.result g.result s.result f.ensures.exact g.ensures.exact s.ensures.exact
    p.result p.ensures c.if-all_below.true z.result z.ensures

pub returns-else-all_below : goal.returns-else-all_below
returns-else-all_below c =
    let a = c.args in
    let t = c.get-timestamp in
    let f = c.last_at-lasts in
    let g = c.reader_at-readers in
    let s = c.size_at-end in
    let p = c.all_below in
    c.if-all_below.false
    ∙ header-lasts a.l a.records.now t.result t.ensures (omega arith) f.result g.result s.result f.ensures.exact g.ensures.exact s.ensures.exact
    p.result p.ensures c.if-all_below.false
