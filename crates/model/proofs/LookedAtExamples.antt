-- How many versions are looked at, computed: by stamps, and by open readers while objects are stored and readers close. Assumes nothing.
use Rattle.std.specs.Prelude.{◌≡◌, refl, List, [], ◌∷◌, ◌++◌, map, ℕ, pos}
use Rattle.std.proofs.Math.Option
use Rattle.std.proofs.Math.Option.{Option, none, some}
use Rattle.operation.specs.Encode.{encode}
use Rattle.operation.specs.declared.Operation.TheVariants.{Load, Store, Fail}
use Rattle.model.specs.Calls.{plain, Call, opening, optimistic, final, open_reader, close_reader}
use Rattle.model.specs.Start.{Version, start_of}
use Rattle.model.specs.Replica.{Replica, opened, calls}
use Rattle.model.specs.Limits.{small}
use Rattle.model.proofs.Computing.{computing}
use Rattle.model.proofs.UntouchedLaws.{store_count}
use Rattle.model.specs.LookedAt.{looked_at, seen_index}

-- ---- by stamps

abbrev three : List Version
three = record { stamp = 9; value = pos 70 } ∷ record { stamp = 6; value = pos 50 } ∷ record { stamp = 2; value = pos 40 } ∷ []

-- a version of the reader's very stamp is not above it; where all are above it is one more than there are
pub by_stamps : map (λ r. looked_at r three) (12 ∷ 9 ∷ 8 ∷ 6 ∷ 5 ∷ 2 ∷ 1 ∷ []) ≡ 1 ∷ 1 ∷ 2 ∷ 2 ∷ 3 ∷ 3 ∷ 4 ∷ []
by_stamps = refl

abbrev unsorted : List Version
unsorted = record { stamp = 3; value = pos 70 } ∷ record { stamp = 9; value = pos 50 } ∷ []

-- out of order, those above are not those that stand before the first that is not
pub out_of_order : (looked_at 5 unsorted ≡ 2) × (seen_index 5 unsorted ≡ 0)
out_of_order = (refl, refl)

-- ---- by open readers

-- object 0 takes object 1's value
abbrev copy : List ℕ
copy = encode (Load 3 1 ∷ Store 3 0 ∷ [])

-- a store that a fail takes back
abbrev failing : List ℕ
failing = encode (Store 2 1 ∷ Fail ∷ [])

abbrev deliver : ℕ → List ℕ → List Call
deliver s b = optimistic 1 s b ∷ final 1 s ∷ []

abbrev opened_at : ℕ → Replica
opened_at t = opened small (start_of (plain (pos 10 ∷ pos 20 ∷ []) t))

abbrev start : Replica
start = opened_at 7

-- each object's number for each reader that is open
abbrev looks : List Call → List (Option (List ℕ))
looks cs = let u = (calls small start cs).1 in map (Option.map (λ t. map (looked_at t) u.objects)) u.readers

-- reader 0 takes stamp 7, reader 1 stamp 8, after one of two commits of object 0; the third delivery stores nothing, and an opening is refused
unfoldable pub two_commits : List Call
two_commits =
    (open_reader 0 ∷ deliver 1 copy) ++ ((open_reader 1 ∷ deliver 2 copy) ++ (deliver 3 failing ++ (opening (plain [] 0) ∷ [])))

-- of two commits with no reader between, one version is above; once reader 1 closes, the version that it alone held is not looked at; opened anew, it
-- looks at the newest alone
pub by_readers :
    (looks two_commits ≡ some (3 ∷ 1 ∷ []) ∷ some (2 ∷ 1 ∷ []) ∷ [])
    × (looks (open_reader 0 ∷ deliver 1 copy ++ deliver 2 copy) ≡ some (2 ∷ 1 ∷ []) ∷ none ∷ [])
    × (looks (two_commits ++ (close_reader 1 ∷ [])) ≡ some (2 ∷ 1 ∷ []) ∷ none ∷ [])
    × (looks (two_commits ++ (close_reader 1 ∷ open_reader 1 ∷ [])) ≡ some (2 ∷ 1 ∷ []) ∷ some (1 ∷ 1 ∷ []) ∷ [])
unfolding computing two_commits
by_readers = (refl, refl, refl, refl)

-- at the last timestamp a delivery is refused and stores nothing; an opening stores every object
pub stores-counted :
    (map (λ o. store_count small o start two_commits) (0 ∷ 1 ∷ []) ≡ 2 ∷ 0 ∷ [])
    × (map (λ o. store_count small o (opened_at 4294967295) (deliver 1 copy ++ (opening (plain (pos 5 ∷ pos 6 ∷ []) 3) ∷ []))) (0 ∷ 1 ∷ []) ≡ 1 ∷ 1 ∷ [])
unfolding computing two_commits store_count
stores-counted = (refl, refl)
