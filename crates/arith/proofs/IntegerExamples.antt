-- Sums, differences and quotients, computed: every sign, and the ends of 64 bits. Assumes nothing.
use Rattle.std.specs.Prelude.{Option, Some, None, ℕ, Bool, true, false, ◌≡◌, refl, List, [], ◌∷◌, map, ℤ, pos, negsuc, ◌+ℤ◌, ◌-ℤ◌}
use Rattle.arith.specs.Integer.{fits, bounded, rounds_up, quotient, eq_z}
use Rattle.arith.proofs.HalfToEven.{half_away}

-- the ends of 64 bits; `negsuc n` is -(n + 1)
abbrev most : ℤ
most = pos 9223372036854775807

abbrev least : ℤ
least = negsuc 9223372036854775807

-- x, y, x + y and x - y
unfoldable pub sums : List (ℤ × ℤ × Option ℤ × Option ℤ)
sums =
    (pos 7, pos 5, Some (pos 12), Some (pos 2))
    ∷ (pos 5, pos 7, Some (pos 12), Some (negsuc 1))
    ∷ (pos 7, negsuc 4, Some (pos 2), Some (pos 12))
    ∷ (negsuc 6, pos 5, Some (negsuc 1), Some (negsuc 11))
    ∷ (negsuc 6, negsuc 4, Some (negsuc 11), Some (negsuc 1))
    ∷ (pos 0, negsuc 4, Some (negsuc 4), Some (pos 5))
    -- document 01, case 7, and the other end
    ∷ (most, pos 1, None, Some (pos 9223372036854775806))
    ∷ (most, negsuc 0, Some (pos 9223372036854775806), None)
    ∷ (least, pos 1, Some (negsuc 9223372036854775806), None)
    ∷ (least, negsuc 0, None, Some (negsuc 9223372036854775806))
    -- both ends reached exactly
    ∷ (pos 9223372036854775806, pos 1, Some most, Some (pos 9223372036854775805))
    ∷ (negsuc 9223372036854775806, pos 1, Some (negsuc 9223372036854775805), Some least)
    ∷ (negsuc 0, least, None, Some most)
    ∷ (pos 0, least, Some least, None)
    ∷ (least, most, Some (negsuc 0), None)
    ∷ []

-- a number, a divisor, the nearest whole number, a half to the even neighbour, and what it was by the base's rule: another only at an exact half
unfoldable pub quotients : List (ℤ × ℕ × ℤ × ℤ)
quotients =
    -- document 01, case 6, whose third figure follows S-9; and S-9's own
    (pos 7, 2, pos 4, pos 4)
    ∷ (negsuc 6, 2, negsuc 3, negsuc 3)
    ∷ (pos 5, 2, pos 2, pos 3)
    ∷ (negsuc 4, 2, negsuc 1, negsuc 2)
    -- the halves next to 0, and further ones with an even and an odd quotient below
    ∷ (pos 1, 2, pos 0, pos 1)
    ∷ (negsuc 0, 2, pos 0, negsuc 0)
    ∷ (pos 3, 2, pos 2, pos 2)
    ∷ (negsuc 2, 2, negsuc 1, negsuc 1)
    ∷ (pos 10, 4, pos 2, pos 3)
    ∷ (negsuc 9, 4, negsuc 1, negsuc 2)
    ∷ (pos 14, 4, pos 4, pos 4)
    ∷ (negsuc 13, 4, negsuc 3, negsuc 3)
    -- no half
    ∷ (pos 0, 3, pos 0, pos 0)
    ∷ (pos 7, 3, pos 2, pos 2)
    ∷ (pos 8, 3, pos 3, pos 3)
    ∷ (negsuc 6, 3, negsuc 1, negsuc 1)
    ∷ (negsuc 7, 3, negsuc 2, negsuc 2)
    ∷ (negsuc 4, 1, negsuc 4, negsuc 4)
    -- half of the largest divisor, and one less and one more
    ∷ (pos 500000, 1000000, pos 0, pos 1)
    ∷ (negsuc 499999, 1000000, pos 0, negsuc 0)
    ∷ (negsuc 499998, 1000000, pos 0, pos 0)
    ∷ (negsuc 500000, 1000000, negsuc 0, negsuc 0)
    ∷ (pos 1500000, 1000000, pos 2, pos 2)
    ∷ (negsuc 2499999, 1000000, negsuc 1, negsuc 2)
    ∷ (pos 2500001, 1000000, pos 3, pos 3)
    ∷ (pos 2499999, 1000000, pos 2, pos 2)
    -- the ends, and the halves next to them, of either parity (at the lowest number no divisor leaves one)
    ∷ (most, 1, most, most)
    ∷ (least, 1, least, least)
    ∷ (most, 2, pos 4611686018427387904, pos 4611686018427387904)
    ∷ (negsuc 9223372036854775806, 2, negsuc 4611686018427387903, negsuc 4611686018427387903)
    ∷ (pos 9223372036854775805, 2, pos 4611686018427387902, pos 4611686018427387903)
    ∷ (negsuc 9223372036854775804, 2, negsuc 4611686018427387901, negsuc 4611686018427387902)
    ∷ (least, 2, negsuc 4611686018427387903, negsuc 4611686018427387903)
    ∷ (most, 3, pos 3074457345618258602, pos 3074457345618258602)
    ∷ (least, 3, negsuc 3074457345618258602, negsuc 3074457345618258602)
    ∷ (most, 1000000, pos 9223372036855, pos 9223372036855)
    ∷ (least, 1000000, negsuc 9223372036854, negsuc 9223372036854)
    ∷ (pos 9223372036854500000, 1000000, pos 9223372036854, pos 9223372036855)
    ∷ (negsuc 9223372036854499999, 1000000, negsuc 9223372036853, negsuc 9223372036854)
    ∷ (pos 9223372036853500000, 1000000, pos 9223372036854, pos 9223372036854)
    ∷ (negsuc 9223372036853499999, 1000000, negsuc 9223372036853, negsuc 9223372036853)
    ∷ []

-- two numbers, and whether they are equal
unfoldable pub equalities : List (ℤ × ℤ × Bool)
equalities =
    (pos 5, pos 5, true)
    ∷ (pos 5, pos 4, false)
    ∷ (negsuc 5, negsuc 5, true)
    ∷ (negsuc 5, negsuc 4, false)
    ∷ (pos 5, negsuc 5, false)
    ∷ (negsuc 0, pos 0, false)
    ∷ []

pub computed :
    (map (λ e. bounded (e.0 +ℤ e.1)) sums ≡ map (λ e. e.2) sums)
    × (map (λ e. bounded (e.0 -ℤ e.1)) sums ≡ map (λ e. e.3) sums)
    × (map (λ e. quotient e.0 e.1) quotients ≡ map (λ e. e.2) quotients)
    × (map (λ e. half_away e.0 e.1) quotients ≡ map (λ e. e.3) quotients)
    × (map (λ e. eq_z e.0 e.1) equalities ≡ map (λ e. e.2) equalities)
unfolding sums quotients equalities fits quotient rounds_up half_away
computed = (refl, refl, refl, refl, refl)
