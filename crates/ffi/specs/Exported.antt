-- What an export promises, and how it follows from what the call of `replica` behind it ensures. Assumes nothing.
use Rattle.std.specs.Prelude.{◌≡◌, refl, List, ℤ}
use Rattle.std.proofs.Common.{ap, ◌∙◌}
use Rattle.model.specs.Calls.{Call, Answer, results, numbers}
use Rattle.model.specs.Limits.{standard}
use Rattle.layout.specs.Layout.{Areas}
use Rattle.ffi_numbers.specs.AnswerNumbers.{Numbered}
use Rattle.layout.specs.Act.{act}
use Rattle.layout.specs.Contract.{Met}

-- The contract of an export: its numbers are those of `act`'s answer (0 and the results, or the refusal and zeros), and both areas after it are `act`'s.
pub record Exported (c : Call) (before : Areas) (result : List ℤ) (after : Areas) : Type 0 where
  pub answer : result ≡ numbers c (act standard c before).0
  pub areas : after ≡ (act standard c before).1

pub exported : (c : Call) (a b : Areas) (x : Answer) (r : List ℤ) → Met standard c a x b → Numbered (results c) r x → Exported c a r b
exported c a b x r m e =
    record { answer = e.says c refl ∙ ap (numbers c) m.answers; areas = m.areas }
