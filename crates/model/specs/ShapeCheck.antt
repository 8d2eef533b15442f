-- The shape check as a test that computes, and that it says exactly the shape of specs/Shape.antt. Assumes nothing.
use Rattle.std.specs.Prelude.{Bool, true, false, not, ◌&&◌, ◌||◌, List, [], ◌∷◌, ℕ, suc, ◌+◌, ◌^◌, pos, eqb, leb, ltb, length, get_or}
use Rattle.arith.specs.Integer.{fits, eq_z}
use Rattle.operation.specs.Body.{register_count, is_well_formed}
use Rattle.execution.specs.Entries.{Entry}
use Rattle.execution.specs.Bounds.{Bounds, no_bounds, ordered, inside}
use Rattle.execution.specs.Run.{Run}
use Rattle.execution.specs.RunShape.{distinct, every, all_fit, AllInside}
use Rattle.model.specs.declared.Limits.{Limits}
use Rattle.model.specs.Lists.{any, all, all₂}
use Rattle.model.specs.Calls.{Transaction, spent, clients, last_timestamp}
use Rattle.model.specs.Serial.{Version}
use Rattle.model.specs.Replica.{Pending, Replica, opens, held, finished}
use Rattle.model.specs.EarlyResults.{sents}
use Rattle.model.specs.Shape.{falling, versions_inside, distinct_keys, size_of, bounds_fit}

-- ---- the tests

unfoldable pub versions_shaped : ℕ → List ℕ → List Version → Bool
versions_shaped t rs vs =
    falling vs && (all (λ v. leb v.stamp t) vs && (all (held rs vs) vs && (any (λ v. true) vs && all (λ r. any (λ v. leb v.stamp r) vs) rs)))

unfoldable pub key_unspent : List ℕ → Transaction → Bool
key_unspent lasts s = ltb s.client clients && not (spent lasts s.client s.sequence)

unfoldable pub at_start : Run → Bool
at_start p =
    eqb p.counter 0 && eqb p.outcome 0 && eqb (length p.reads) 0 && eqb (length p.writes) 0 && all (eq_z (pos 0)) p.registers

unfoldable pub names_shaped : ℕ → List Entry → Bool
names_shaped n l = distinct l && every (λ x. ltb x.object n) l

-- every store on record inside its object's bounds
unfoldable pub stores_inside : List Bounds → List Entry → Bool
stores_inside bs l = every (λ x. inside (get_or bs x.object no_bounds) x.value) l

-- one run, wherever it stands in its body of m operations, over n objects of these bounds
unfoldable pub run_shaped : ℕ → List Bounds → ℕ → Run → Bool
run_shaped n bs m p =
    (ltb 0 p.counter || at_start p)
    && leb p.counter m
    && leb p.outcome 3
    && (eqb p.outcome 0 || eqb (length p.writes) 0)
    && leb (length p.reads + length p.writes) p.counter
    && names_shaped n p.reads
    && names_shaped n p.writes
    && stores_inside bs p.writes

-- Along the pending transactions: the flag says that all before are finished. After the first that is not, none is begun.
unfoldable pub in_order : Bool → List Pending → Bool
in_order b [] = true
in_order true (j ∷ js) = in_order (finished j) js
in_order false (j ∷ js) = at_start j.run && in_order false js

-- document 01's paragraph, and S-1's sentence
unfoldable pub checked : Limits → Replica → Bool
checked l u =
    let n : ℕ = length u.objects in
    ltb 0 n
    && leb n l.objects
    && leb (length u.pending) l.pending
    && all (λ (vs : List Version). leb (length vs) (suc l.readers)) u.objects
    && all (versions_shaped u.timestamp (opens u.readers)) u.objects
    && eqb (length u.bounds) n
    && all ordered u.bounds
    && all₂ versions_inside u.bounds u.objects
    && all (λ r. leb r u.timestamp) (opens u.readers)
    && distinct_keys (sents u.pending)
    && all (key_unspent u.lasts) (sents u.pending)
    && all (λ (s : Transaction). is_well_formed l.operations n s.bytes) (sents u.pending)
    && in_order true u.pending
    && all (λ (j : Pending). run_shaped n u.bounds (size_of j) j.run) u.pending

unfoldable pub run_encoded : Run → Bool
run_encoded p =
    eqb (length p.registers) register_count && all_fit p.registers && every (λ x. fits x.value) p.reads && every (λ x. fits x.value) p.writes

-- what the areas' encoding adds
unfoldable pub encoded : Limits → Replica → Bool
encoded l u =
    leb u.timestamp last_timestamp
    && all (λ s. ltb s (2 ^ 32)) u.lasts
    && all (λ (s : Transaction). ltb s.sequence (2 ^ 32)) (sents u.pending)
    && eqb (length u.lasts) clients
    && eqb (length u.readers) l.readers
    && all (λ (vs : List Version). all (λ (v : Version). fits v.value) vs) u.objects
    && all bounds_fit u.bounds
    && all (λ (j : Pending). run_encoded j.run) u.pending

unfoldable pub shaped : Limits → Replica → Bool
shaped l u = checked l u && encoded l u

-- ---- pending runs

abbrev pub StoresInside : List Bounds → Run → Type 0
StoresInside bs p = AllInside (λ o. inside (get_or bs o no_bounds)) p.writes
