-- A number that was read is not above the most.
use Rattle.std.proofs.Common.{ℕ, List, Option, Some, None, IfOk, ◌≡◌, ◌≤◌}
use Rattle.std.specs.Option.{ok_or}
use Rattle.text.specs.Numbers.{unsigned_of}
use Rattle.text.specs.NumberLaws.{at_most}
use Rattle.console.specs.declared.faults.Fault.{Fault}
use Rattle.console.proofs.arguments.Words.unsigned.Goals as goal

kept : (most : ℕ) (w : List ℕ) (fault : Fault) (r : Option ℕ) → r ≡ unsigned_of most w → IfOk (ok_or r fault) (λ n. n ≤ most)
kept most w fault (Some n) e = at_most most n w e
kept most w fault None e = tt

pub returns : goal.returns
returns c = rw c.ok_or-2.ensures.value (kept c.args.most c.in_ok-word.word.now c.args.fault c.unsigned.result c.unsigned.ensures)
