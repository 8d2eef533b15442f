-- One operation on lent arrays: a law for each way out of the code. Assumes nothing.
use Rattle.std.specs.Prelude.{ℕ, suc, ◌+◌, ◌<◌, ◌≡◌, refl, Bool, true, false, cond, List, ℤ, get_or, set, take, Some, None}
use Rattle.std.proofs.Common.{arith}
use Rattle.std.proofs.Math.Numerals.{add-one}
use Rattle.arith.specs.Integer.{fits, pick_checked, bounded}
use Rattle.execution.specs.declared.Counts.{Counts}
use Rattle.execution.specs.Entries.{Entry, entry}
use Rattle.execution.specs.Run.{Table, Stop, overflowed, outside, outcome_of, get, put, go, halt, sum, apply}
use Rattle.execution.proofs.RunShapeLaws.{update-absent}
use Rattle.execution.specs.Arrays.{capacity, run_of_arrays, Room, Bounded}
use Rattle.execution_effects.specs.Effects.{Found, advanced, stopped, settled}
use Rattle.execution_effects.specs.SetPlaces.{lookup_absent, lookup-found, update_found, append-last}

pub bounded-advanced : (k : ℕ) (c t : Counts) → t ≡ advanced k c → Bounded c → Bounded t
bounded-advanced k c t e h = rw e (record { reads = omega (arith, h.reads); writes = omega (arith, h.writes) })

pub bounded-stopped : (k : ℕ) (c t : Counts) → t ≡ stopped k c → Bounded c → Bounded t
bounded-stopped k c t e h = rw e (record { reads = omega (arith, h.reads); writes = omega arith })

-- a checked sum, settled
pub settled-sum : (g : List ℤ) (r : ℕ) (z : ℤ) → settled g r (bounded z) ≡ sum g r z
unfolding sum
settled-sum g r z = by (fits z)
  where
    by : (t : Bool) → settled g r (pick_checked t (Some z) None) ≡ cond t (go (set g r z) 0) (halt overflowed)
    by true = refl
    by false = refl

module _ (T : Table) (c : Counts) (registers : List ℤ) (reads writes : List Entry) where
  -- new registers, and k operations passed over
  pub went : (k : ℕ) (t : Counts) (g : List ℤ) → t ≡ advanced k c → run_of_arrays t g reads writes ≡ apply T (go g k) (run_of_arrays c registers reads writes)
  went k t g e = rw (e, add-one (c.counter + k))

  -- an early stop
  pub halted : (s : Stop) (t : Counts) → t ≡ stopped (outcome_of s) c → run_of_arrays t registers reads writes ≡ apply T (halt s) (run_of_arrays c registers reads writes)
  halted s t e = rw (e, add-one c.counter)

  one_on : c.counter + 0 + 1 ≡ suc c.counter
  one_on = omega arith

  module _ (d : Entry) (r o : ℕ) where
    -- the own store
    pub load_own : (j : ℕ) → Found (take c.writes writes) o (Some j) → (t : Counts) (g : List ℤ) → t ≡ advanced 0 c → g ≡ set registers r (get_or writes j d).value
        → run_of_arrays t g reads writes ≡ apply T (get r o) (run_of_arrays c registers reads writes)
    load_own j w t g e f = rw (e, f, one_on, lookup-found writes c.writes o d j w)

    module _ (a : Found (take c.writes writes) o None) where
      -- the value read before
      pub load_read : (k : ℕ) → Found (take c.reads reads) o (Some k) → (t : Counts) (g : List ℤ) → t ≡ advanced 0 c → g ≡ set registers r (get_or reads k d).value
          → run_of_arrays t g reads writes ≡ apply T (get r o) (run_of_arrays c registers reads writes)
      load_read k v t g e f =
          rw (e, f, one_on, lookup_absent writes c.writes o a, lookup-found reads c.reads o d k v)

      -- the table's, recorded
      pub load_new :
          Found (take c.reads reads) o None → c.reads < capacity → Room reads → (t : Counts) → t ≡ advanced 0 c
          → run_of_arrays (record t { reads = c.reads + 1 }) (set registers r (T.look o)) (set reads c.reads (entry o (T.look o))) writes
          ≡ apply T (get r o) (run_of_arrays c registers reads writes)
      load_new v l room t e =
          rw
          (e, one_on, add-one c.reads, lookup_absent writes c.writes o a, lookup_absent reads c.reads o v, append-last reads c.reads o (T.look o) (omega (arith, room)))

  -- a store outside the bounds
  pub store_outside : (o : ℕ) (v : ℤ) (t : Counts) → T.allow o v ≡ false → t ≡ stopped 3 c → run_of_arrays t registers reads writes ≡ apply T (put o v) (run_of_arrays c registers reads writes)
  store_outside o v t a e = rw a (halted outside t e)

  module _ (o : ℕ) (v : ℤ) (a : T.allow o v ≡ true) (t : Counts) (e : t ≡ advanced 0 c) where
    -- in its place
    pub store_again : (d : Entry) (j : ℕ) → Found (take c.writes writes) o (Some j)
        → run_of_arrays t registers reads (set writes j (entry o v)) ≡ apply T (put o v) (run_of_arrays c registers reads writes)
    store_again d j w = rw (a, e, one_on, update_found writes c.writes o d j w v)

    -- at the end
    pub store_new :
        Found (take c.writes writes) o None → c.writes < capacity → Room writes
        → run_of_arrays (record t { writes = c.writes + 1 }) registers reads (set writes c.writes (entry o v)) ≡ apply T (put o v) (run_of_arrays c registers reads writes)
    store_new w l room =
        rw
        (a, e, one_on, add-one c.writes, append-last writes c.writes o v (omega (arith, room)), update-absent _ o v (lookup_absent writes c.writes o w))
