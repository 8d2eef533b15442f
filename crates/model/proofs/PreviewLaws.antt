-- The values that a dry run shows, one by one: after a commit an object holds what was stored, else what it held. Assumes nothing.
use Rattle.std.specs.Prelude.{◌≡◌, refl, Bool, true, false, List, [], ◌∷◌, map, ℕ, zero, suc, ◌≤◌, ◌<◌, ℤ, pos, ltb, length, get_or}
use Rattle.std.proofs.Common.{sym, ap, ap₂, ◌∙◌, arith, ne_eqb, lt-ltb, ltb-true, ltb-false}
use Rattle.std.proofs.Math.Option
use Rattle.std.proofs.Math.Option.{Option, none, some}
use Rattle.std.proofs.lemmas.List.{length-map}
use Rattle.std.proofs.Math.ListN.{get_or-map, get_or-eq_default}
use Rattle.arith.specs.Integer.{fits}
use Rattle.execution.specs.Entries.{Entry, lookup}
use Rattle.execution.proofs.ReadAgreement.{both}
use Rattle.execution.specs.RunShape.{every, sound}
use Rattle.model.specs.Start.{Version, no_version}
use Rattle.model.specs.DryRun.{placed}
use Rattle.model.specs.Replica.{newest, install}
use Rattle.model.specs.VersionLaws.{replaced, overlay}
use Rattle.model.proofs.VersionLaws.{newest-install}
use Rattle.model.proofs.Simulation.{length-overlay, overlay-at}

-- a list of k numbers, each its object's value, and 0 past the last object
pub placed-all : (k : ℕ) (vs : List Version) (xs : List ℤ) → length xs ≡ k → ((o : ℕ) → o < k → get_or xs o (pos 0) ≡ (get_or vs o no_version).value) → xs ≡ placed k vs
unfolding placed
placed-all zero vs [] e h = refl
placed-all zero vs (x ∷ xs) e h = absurd (omega arith)
placed-all (suc k) vs [] e h = absurd (omega arith)
placed-all (suc k) [] (x ∷ xs) e h =
    ap₂ ◌∷◌ (h 0 (omega arith)) (placed-all k [] xs (omega arith) (λ o l. h (suc o) (omega arith)))
placed-all (suc k) (v ∷ vs) (x ∷ xs) e h =
    ap₂ ◌∷◌ (h 0 (omega arith)) (placed-all k vs xs (omega arith) (λ o l. h (suc o) (omega arith)))

-- a set of objects below n names none past them, and is one of objects below any greater number
pub none-past : (n : ℕ) (ws : List Entry) → every (sound n) ws ≡ true → (o : ℕ) → n ≤ o → lookup ws o ≡ none
none-past n [] h o l = refl
none-past n (w ∷ ws) h o l =
    let k = both (sound n w) (every (sound n) ws) h in
    let low = ltb-true w.object n (both (ltb w.object n) (fits w.value) k.0).0 in
    rw (ne_eqb w.object o (λ e. omega arith)) (none-past n ws k.1 o l)

pub sound-wider : (n m : ℕ) → n ≤ m → (ws : List Entry) → every (sound n) ws ≡ true → every (sound m) ws ≡ true
sound-wider n m l [] h = refl
sound-wider n m l (w ∷ ws) h =
    let k = both (sound n w) (every (sound n) ws) h in
    let w-sound = both (ltb w.object n) (fits w.value) k.0 in
    let low = ltb-true w.object n w-sound.0 in
    rw (lt-ltb w.object m (omega arith), w-sound.1) (sound-wider n m l ws k.1)

module _ (t : ℕ) (rs : List ℕ) (ws : List Entry) (objs : List (List Version)) (h : every (sound (length objs)) ws ≡ true) where
  -- object o after the commit of this write set
  pub held_after : (o : ℕ) → (get_or (map newest (install t rs ws objs)) o no_version).value ≡ Option.get_or (lookup ws o) (newest (get_or objs o [])).value
  held_after o =
      ap (λ (vs : List Version). (get_or vs o no_version).value) (newest-install t rs ws objs) ∙ by (ltb o (length objs)) refl
    where
      stored : (x : Version) (k : Option ℤ) → (replaced t x k).value ≡ Option.get_or k x.value
      stored x none = refl
      stored x (some v) = refl

      by : (b : Bool) → ltb o (length objs) ≡ b → (get_or (overlay t ws (map newest objs)) o no_version).value ≡ Option.get_or (lookup ws o) (newest (get_or objs o [])).value
      by true e =
          let low : o < length (map newest objs) = omega (arith, ltb-true o (length objs) e, length-map objs newest) in
          ap (λ (v : Version). v.value) (overlay-at t ws (map newest objs) o low)
          ∙ stored (get_or (map newest objs) o no_version) (lookup ws o)
          ∙ ap (λ (v : Version). Option.get_or (lookup ws o) v.value) (get_or-map newest objs o [])
      by false e =
          let high = ltb-false o (length objs) e in
          ap (λ (v : Version). v.value) (get_or-eq_default (overlay t ws (map newest objs)) no_version (omega (arith, length-overlay t ws (map newest objs), length-map objs newest)))
          ∙ ap (λ (vs : List Version). (newest vs).value) (sym (get_or-eq_default objs [] high))
          ∙ ap (λ (k : Option ℤ). Option.get_or k (newest (get_or objs o [])).value) (sym (none-past (length objs) ws h o high))
