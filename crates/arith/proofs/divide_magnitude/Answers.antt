-- What rounds up has a remainder, so the quotient and one is at most a.
use Rattle.std.proofs.Common.{arith, sym, ◌∙◌}
use Rattle.arith.proofs.IntegerLaws.{rounded-le}
use Rattle.arith.proofs.divide_magnitude.Goals as goal

pub overflow_add-result : goal.overflow_add-result
overflow_add-result c =
    let l = rounded-le c.args.a c.args.d c.requires.0 in
    record { fits = omega (arith, rw (sym c.rounds_up.ensures ∙ c.if-rounds_up.true) at l) }
