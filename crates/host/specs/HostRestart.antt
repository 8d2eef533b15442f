-- Pending transactions as records, and those from a place on back at their start. Assumes nothing.
use Rattle.std.specs.Prelude.{List, ◌++◌, map, ℕ, pos, take, drop, replicate}
use Rattle.operation.specs.Body.{register_count}
use Rattle.execution.specs.Arrays.{capacity}
use Rattle.host.specs.declared.PendingTransaction.{PendingTransaction}

-- docs/LAYOUT.md: "A transaction not begun is its key and zeros."
abbrev pub unbegun : ℕ → ℕ → PendingTransaction
unbegun c s =
    record {
      client = c;
      sequence = s;
      counter = 0;
      outcome = 0;
      registers = replicate register_count (pos 0);
      reads = 0;
      entries = 0;
      objects = replicate capacity 0;
      values = replicate capacity (pos 0);
    }

-- back to its start: only the key stays
abbrev pub restarted : PendingTransaction → PendingTransaction
restarted t = unbegun t.client t.sequence

-- "from a given place on, back to their start; a place past the last changes nothing"
unfoldable pub restarted_behind : ℕ → List PendingTransaction → List PendingTransaction
restarted_behind place ts = take place ts ++ map restarted (drop place ts)
