-- The numbers of Find's answer.
use Rattle.std.proofs.Common.{refl}
use Rattle.model.specs.Calls.{numbers}
use Rattle.ffi_numbers.specs.AnswerNumbers.{turned_back}
use Rattle.ffi_numbers.proofs.FoundFromResultModelFound.from.Goals as goal

pub returns-in-Ok : goal.returns-in-Ok
unfolding numbers
returns-in-Ok g c = rw c.in-Ok.is (record { says = λ k e. refl })

pub returns-in-Err : goal.returns-in-Err
returns-in-Err g c = rw c.in-Err.is (_, c.into-k.ensures, turned_back 2 _)
