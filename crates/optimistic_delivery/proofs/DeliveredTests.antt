-- What the code's tests say, and the causes that turn an early delivery back by these. Assumes nothing.
use Rattle.std.specs.Prelude.{◌≡◌, Bool, false, not, List, [], ◌∷◌, ℕ, ◌≤◌, ◌<◌, leb, ltb, length, Option, Some, None}
use Rattle.std.specs.Option.{is_some}
use Rattle.std.proofs.Common.{arith}
use Rattle.std.proofs.Math.Bool.{true}
use Rattle.std.proofs.Math.ListN.{length-map}
use Rattle.operation.specs.Body.{is_well_formed}
use Rattle.model.specs.declared.Limits.{Limits}
use Rattle.model.specs.declared.OptimisticPosition.{OptimisticPosition}
use Rattle.model.specs.Lists.{index}
use Rattle.model.specs.Calls.{clients, spent, optimistic, first_cause, causes, refusal}
use Rattle.model.specs.Replica.{Pending, Replica, has_key, facts}
use Rattle.layout.specs.Layout.{Areas, parse}
use Rattle.layout.specs.Fit.{fit}
use Rattle.layout.specs.Holds.{Holds}
use Rattle.queue.specs.declared.Place.{Place}
use Rattle.queue.specs.Place.{Stands, Located}
use Rattle.queue.specs.Found.{position, queued}

-- ---- what the code tests, of the position that the queue answers
module _ {l : Limits} {b : List ℕ} {c s : ℕ} {r : Place} (e : Located l b c s r) where
  pub among : is_some r.position ≡ true → (u : Replica) → Holds l b u → index (has_key c s) u.pending < length u.pending
  among m u h = by r.position m (e.stands u h)
    where
      by : (o : Option OptimisticPosition) → is_some o ≡ true → Stands c s u o → index (has_key c s) u.pending < length u.pending
      by None n f = cc
      by (Some p) n f = omega (arith, f.0, f.1)

  pub not-among : is_some r.position ≡ false → (u : Replica) → Holds l b u → length u.pending ≤ index (has_key c s) u.pending
  not-among m u h = by r.position m (e.stands u h)
    where
      by : (o : Option OptimisticPosition) → is_some o ≡ false → Stands c s u o → length u.pending ≤ index (has_key c s) u.pending
      by None n f = omega arith
      by (Some p) n f = cc

-- ---- the causes

module _ (l : Limits) (a : Areas) (fine : fit l a ≡ true) (c s : ℕ) (x : List ℕ) where
  abbrev u : Replica
  u = parse l a

  -- its causes, by what the code tests
  pub tests : (b₁ b₂ b₃ b₄ b₅ : Bool) → leb clients c ≡ b₁ → spent u.lasts c s ≡ b₂ → ltb (position l a fine c s) (length u.pending) ≡ b₃
      → is_well_formed l.operations (length u.objects) x ≡ b₄ → leb l.pending (length u.pending) ≡ b₅
      → refusal l (facts u) (optimistic c s x) ≡ first_cause ((b₁, 3) ∷ (b₂, 4) ∷ (b₃, 5) ∷ (not b₄, 6) ∷ (b₅, 7) ∷ [])
  unfolding refusal causes facts
  tests b₁ b₂ b₃ b₄ b₅ e₁ e₂ e₃ e₄ e₅ = rw (queued l a fine c s, length-map u.pending (λ (j : Pending). j.sent), e₁, e₂, e₃, e₄, e₅)
