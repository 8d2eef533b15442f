-- The two digits of the next byte stand behind those before it.
use Rattle.std.proofs.Common.{refl, arith}
use Rattle.std.proofs.Math.ListN.{length-set}
use Rattle.text.specs.Hexadecimal.{spelled}
use Rattle.text.specs.HexadecimalLaws.{spelled-more}
use Rattle.text.proofs.hexadecimal.spell.Goals as goal

pub loop-i-init : goal.loop-i-init
unfolding spelled
loop-i-init c = record { same_size = omega arith; spelt = refl }

pub loop-i-preserved : goal.loop-i-preserved
loop-i-preserved c =
    let l = c.loop-i in
    record {
      same_size = simp length-set l.invariant.same_size;
      spelt = spelled-more _ l.out l.i _ _ (omega arith) l.invariant.same_size l.invariant.spelt c.glyph.ensures c.glyph-in-loop-i.ensures;
    }
