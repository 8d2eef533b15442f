-- The digits are twice as many as the bytes.
use Rattle.std.proofs.Common.{arith, refl}
use Rattle.text.specs.Hexadecimal.{spelled}
use Rattle.text.specs.HexadecimalLaws.{length-spelled}
use Rattle.text.specs.BufferLaws.{left_out, put_in}
use Rattle.text.proofs.hexadecimal.put.Goals as goal
use Rattle.text.proofs.hexadecimal.put.Goals.{then-out-at-via-then-out-at, then-out-at-via-else-out-at+then-out-at-2}

pub returns-then-out-at : goal.returns-then-out-at
returns-then-out-at c =
    let l = c.args.line.now in
    let digits = spelled c.args.bytes.now in
    elim c.then-out-at.branch [
      | then-out-at-via-then-out-at w ↦
          rw w.line-is (record { same_buffer = refl; put = left_out l.out.now l.end digits (omega (arith, length-spelled c.args.bytes.now)) })
      | then-out-at-via-else-out-at+then-out-at-2 w ↦
          rw w.line-is (record { same_buffer = refl; put = left_out l.out.now l.end digits (omega (arith, length-spelled c.args.bytes.now)) })
    ]

pub returns : goal.returns
returns c =
    let l = c.args.line.now in
    record {
      same_buffer = refl;
      put = put_in l.out.now l.end (spelled c.args.bytes.now) _ _ (omega (arith, length-spelled c.args.bytes.now)) (omega arith) c.spell.ensures;
    }
