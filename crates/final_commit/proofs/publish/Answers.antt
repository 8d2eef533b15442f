-- The copy is the readers' cells, and `install` does the rest.
use Rattle.std.proofs.Common.{◌∙◌, sym}
use Rattle.final_commit.specs.Publish.{readers-end, src_whole, copy_ready}
use Rattle.final_commit.proofs.publish.Goals as goal

pub slice_bounds-copy_from_slice-end-2 : goal.slice_bounds-copy_from_slice-end-2
slice_bounds-copy_from_slice-end-2 c =
    readers-end c.requires.few c.requires.publishing c.reader_at-first.ensures.exact c.size_at-end.ensures.exact

pub install-requires-clause-ready : goal.install-requires-clause-ready
install-requires-clause-ready c =
    let m = c.requires.few in
    let f = c.reader_at-first.ensures.exact in
    let n = c.size_at-end.ensures.exact in
    copy_ready m c.requires.publishing f n (c.copy_from_slice.ensures.after ∙ sym (src_whole m c.requires.publishing f n))

pub returns : goal.returns
returns c =
    let m = c.requires.few in
    let f = c.reader_at-first.ensures.exact in
    let n = c.size_at-end.ensures.exact in
    record { holds = λ p. c.install.ensures.holds (copy_ready m p f n (c.copy_from_slice.ensures.after ∙ sym (src_whole m p f n))) }
