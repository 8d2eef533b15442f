-- The numbers that an opening is given, test by test. Assumes nothing.
use Rattle.std.specs.Prelude.{◌≡◌, ℕ, ◌<◌, ◌≤◌, Bool, true, false, not, List, length, ℤ, ◌==◌, ◌≢◌}
use Rattle.std.proofs.Common.{sym, ap, eq-eqb, ne_eqb, lt-ltb, le-ltb}
use Rattle.std.proofs.Math.Bool.{or-true}
use Rattle.model.specs.declared.Limits.{Limits}
use Rattle.model.specs.Calls.{miscounted}

module _ (l : Limits) (n : ℕ) (vs los his : List ℤ) where
  wrong : miscounted l n vs los his ≡ true → false ≡ not (miscounted l n vs los his)
  wrong e = sym (ap not e)

  pub none : n ≡ 0 → false ≡ not (miscounted l n vs los his)
  none h = wrong (rw (eq-eqb n 0 h))

  pub many : l.objects < n → false ≡ not (miscounted l n vs los his)
  many h = wrong (rw (lt-ltb l.objects n h, or-true))

  pub other-values : (length vs ≢ n) → false ≡ not (miscounted l n vs los his)
  other-values h = wrong (rw (ne_eqb (length vs) n h, or-true))

  pub other-lowers : (length los ≢ n) → false ≡ not (miscounted l n vs los his)
  other-lowers h = wrong (rw (ne_eqb (length los) n h, or-true))

  -- what is left to ask
  pub uppers-left : (n ≢ 0) → n ≤ l.objects → length vs ≡ n → length los ≡ n → (length his == n) ≡ not (miscounted l n vs los his)
  uppers-left some few e f =
      rw (ne_eqb n 0 some, le-ltb l.objects n few, eq-eqb (length vs) n e, eq-eqb (length los) n f) (by (length his == n))
    where
      by : (b : Bool) → b ≡ not (not b)
      by true = λ i. true
      by false = λ i. false
