-- The text stands where the lent part came back.
use Rattle.std.proofs.Common.{arith, refl}
use Rattle.text.specs.BufferLaws.{put_in}
use Rattle.text.proofs.buffer.Text.put.Goals as goal

pub returns : goal.returns
returns c =
    let l = c.args.self.now in
    record { same_buffer = refl; put = put_in l.out.now l.end c.args.text.now _ _ (omega arith) (omega arith) c.copy_from_slice.ensures.after }
