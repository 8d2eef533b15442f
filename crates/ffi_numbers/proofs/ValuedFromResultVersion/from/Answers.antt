-- The numbers of Read's answer. A value is held as bits, and reads back as the number that it is.
use Rattle.std.proofs.Common.{refl, rules, w64, FitsSigned, to_z-of_z}
use Rattle.model.specs.Calls.{numbers}
use Rattle.ffi_numbers.specs.AnswerNumbers.{turned_back}
use Rattle.ffi_numbers.proofs.ValuedFromResultVersion.from.Goals as goal

pub returns-in-Ok : goal.returns-in-Ok
unfolding numbers
returns-in-Ok g c =
    let f : FitsSigned w64 c.in-Ok.v.value = search rules in
    rw (c.in-Ok.is, to_z-of_z f) (record { says = λ k e. refl })

pub returns-in-Err : goal.returns-in-Err
returns-in-Err g c = rw c.in-Err.is (_, c.into-k.ensures, turned_back 2 _)
