-- Different keys at the front of blocks. Assumes nothing.
use Rattle.std.specs.Prelude.{Bool, true, ◌&&◌, List, ℕ, zero, suc, ◌+◌, ◌*◌, ◌/◌, ◌%◌, ◌^◌, drop, get_or}
use Rattle.layout.specs.Rows.{chunks}
use Rattle.shape_names.specs.NameScan.{absent}

-- of k blocks of w cells each, none begins with the key of one before it
unfoldable pub lone_in : ℕ → ℕ → List ℕ → Bool
lone_in w zero cs = true
lone_in w (suc k) cs = absent (get_or cs 0 0) (chunks w k (drop w cs)) && lone_in w k (drop w cs)

-- one of 256: by the client, and by the sequence number's last four bits
unfoldable pub mark : ℕ → ℕ
mark key = key / 2 ^ 32 % 16 * 16 + key % 16
