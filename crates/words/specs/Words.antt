-- The definitions: a word as its bytes, the lowest first. Assumes nothing.
use Rattle.std.specs.Prelude.{ℕ, zero, suc, ◌+◌, ◌*◌, ◌/◌, ◌%◌, List, [], ◌∷◌, get_or}

-- the number that the bytes say, the lowest first
abbrev pub word : List ℕ → ℕ
word [] = 0
word (b ∷ bs) = b + 256 * word bs

-- the n lowest bytes of v, the lowest first
abbrev pub bytes : ℕ → ℕ → List ℕ
bytes zero v = []
bytes (suc n) v = v % 256 ∷ bytes n (v / 256)

-- the number that the eight bytes from index i on say
abbrev pub loaded : List ℕ → ℕ → ℕ
loaded xs i = get_or xs i 0 + 256 * (get_or xs (i + 1) 0 + 256 * (get_or xs (i + 2) 0 + 256 * (get_or xs (i + 3) 0 + 256 * (get_or xs (i + 4) 0 + 256 * (get_or xs (i + 5) 0 + 256 * (get_or xs (i + 6) 0 + 256 * get_or xs (i + 7) 0))))))
