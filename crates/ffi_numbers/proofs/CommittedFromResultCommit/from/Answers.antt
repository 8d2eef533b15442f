-- The numbers of a final delivery's answer.
use Rattle.std.proofs.Common.{refl}
use Rattle.model.specs.Calls.{numbers}
use Rattle.ffi_numbers.specs.AnswerNumbers.{turned_back, flagged}
use Rattle.ffi_numbers.proofs.CommittedFromResultCommit.from.Goals as goal

pub returns-in-Ok : goal.returns-in-Ok
unfolding numbers
returns-in-Ok g c = rw (c.in-Ok.is, c.from.ensures, flagged) (record { says = λ k e. refl })

pub returns-in-Err : goal.returns-in-Err
returns-in-Err g c = rw c.in-Err.is (_, c.into-k.ensures, turned_back 5 _)
