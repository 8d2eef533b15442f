-- Reading on from the digits passed gives what reading the word does.
use Rattle.std.proofs.Common.{drop, ◌≡◌, ◌≤◌}
use Rattle.text.specs.Numbers.{read_on, unsigned_of}
use Rattle.text.proofs.numbers.unsigned.Given as goal

abbrev pub invariant-loop-byte : goal.invariant-loop-byte
invariant-loop-byte l = record { small : l.n ≤ l.most; read : read_on l.most l.n (drop l.byte-index l.word) ≡ unsigned_of l.most l.word }
