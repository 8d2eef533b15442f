-- Signed numbers in order, and a value beside bounds. Assumes nothing.
use Rattle.std.specs.Prelude.{◌≡◌, refl, Bool, true, false, not, ℕ, ℤ, leb, ltb}
use Rattle.std.proofs.Common.{sym, ap, ◌∙◌, arith, leb-true, leb-false, le-leb, le-ltb, lt-ltb}
use Rattle.std.proofs.lemmas.Bool.{false≢true}
use Rattle.std.specs.Int.Signed.{le_z, lt_z}
use Rattle.execution.specs.Bounds.{Bounds, ordered, inside}
use Rattle.execution.proofs.ReadAgreement.{both}

-- ---- below, and not above

below-not : (a b : ℕ) → ltb a b ≡ not (leb b a)
below-not a b = by (leb b a) refl
  where
    by : (c : Bool) → leb b a ≡ c → ltb a b ≡ not c
    by true e = le-ltb a b (leb-true b a e)
    by false e = lt-ltb a b (leb-false b a e)

pub less_not : (a b : ℤ) → lt_z a b ≡ not (le_z b a)
less_not (ℤ.pos a) (ℤ.pos b) = below-not a b
less_not (ℤ.pos a) (ℤ.negsuc b) = refl
less_not (ℤ.negsuc a) (ℤ.pos b) = refl
less_not (ℤ.negsuc a) (ℤ.negsuc b) = below-not b a

pub most-not : (a b : ℤ) → le_z a b ≡ not (lt_z b a)
most-not a b = twice (le_z a b) ∙ ap not (sym (less_not b a))
  where
    twice : (t : Bool) → t ≡ not (not t)
    twice true = refl
    twice false = refl

most-trans : (a v b : ℤ) → le_z a v ≡ true → le_z v b ≡ true → le_z a b ≡ true
most-trans (ℤ.pos a) (ℤ.pos v) (ℤ.pos b) e f = le-leb a b (let h = leb-true a v e in let k = leb-true v b f in omega arith)
most-trans (ℤ.pos a) (ℤ.pos v) (ℤ.negsuc b) e f = f
most-trans (ℤ.pos a) (ℤ.negsuc v) (ℤ.pos b) e f = absurd (false≢true e)
most-trans (ℤ.pos a) (ℤ.negsuc v) (ℤ.negsuc b) e f = e
most-trans (ℤ.negsuc a) v (ℤ.pos b) e f = refl
most-trans (ℤ.negsuc a) (ℤ.pos v) (ℤ.negsuc b) e f = absurd (false≢true f)
most-trans (ℤ.negsuc a) (ℤ.negsuc v) (ℤ.negsuc b) e f = le-leb b a (let h = leb-true v a e in let k = leb-true b v f in omega arith)

-- ---- bounds

-- a value inside shows that the bounds are in order
pub inside-ordered : (b : Bounds) (v : ℤ) → inside b v ≡ true → ordered b ≡ true
unfolding inside
inside-ordered b v e =
    let k = both (le_z b.lower v) (le_z v b.upper) e in most-trans b.lower v b.upper k.0 k.1
