-- The numbers of a dry run's answer.
use Rattle.std.proofs.Common.{refl, ◌+◌}
use Rattle.model.specs.Calls.{numbers, preview_places}
use Rattle.ffi_numbers.specs.AnswerNumbers.{turned_back, flagged}
use Rattle.ffi_numbers.proofs.PreviewedFromResultPreview.from.Goals as goal

pub returns-in-Ok : goal.returns-in-Ok
unfolding numbers
returns-in-Ok g c = rw (c.in-Ok.is, c.from.ensures, flagged) (record { says = λ k e. refl })

pub returns-in-Err : goal.returns-in-Err
unfolding preview_places
returns-in-Err g c = rw c.in-Err.is (_, c.into-k.ensures, turned_back (3 + preview_places) _)
