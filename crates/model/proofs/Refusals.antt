-- An accepted call: none of its causes holds. Which openings are accepted. Assumes nothing.
use Rattle.std.specs.Prelude.{◌≡◌, refl, Bool, true, false, not, cond, ◌||◌, List, [], ◌∷◌, ℕ, zero, suc, ◌^◌, ◌≤◌, ◌<◌, ℤ, length, replicate, eqb, ltb}
use Rattle.std.proofs.Common.{arith, eqb-true, eq-eqb, ne_eqb, le-leb, le-ltb, ltb-true, ltb-false}
use Rattle.std.proofs.lemmas.List.{length-replicate}
use Rattle.std.proofs.lemmas.Bool.{eqb-false, not-false}
use Rattle.arith.specs.Integer.{fits}
use Rattle.execution.specs.Bounds.{widest, inside}
use Rattle.execution.proofs.ReadAgreement.{both}
use Rattle.model.specs.declared.Limits.{Limits}
use Rattle.model.specs.Interface.{Opening, by_values, optimistic, execute, final, open_reader, close_reader, read, find, show_body, dry_run, Call, opening, update, query}
use Rattle.model.specs.Lists.{all, all₂}
use Rattle.model.specs.Calls.{miscounted, bounds_from, starts_inside, Facts, Cause, first_cause, causes, refusal}
use Rattle.model.specs.ListLaws.{All}
use Rattle.model.proofs.Tests.{neither}

none_first : (l : List Cause) → All (λ x. 0 < x.1) l → first_cause l ≡ 0 → All (λ x. x.0 ≡ false) l
none_first [] p e = tt
none_first (x ∷ l) p e = go' x.0 p.0 e (none_first l p.1)
  where
    go' : (b : Bool) → 0 < x.1 → cond b x.1 (first_cause l) ≡ 0 → (first_cause l ≡ 0 → All (λ x. x.0 ≡ false) l) → (b ≡ false) × All (λ x. x.0 ≡ false) l
    go' true p e k = absurd (omega arith)
    go' false p e k = (refl, k e)

-- no cause has the number 0
numbered : (l : Limits) (f : Facts) (c : Call) → All (λ x. 0 < x.1) (causes l f c)
unfolding causes
numbered l f (opening (by_values n vs los his t)) = (omega arith, omega arith)
numbered l f (update (optimistic c s b)) = omega arith
numbered l f (update (execute k)) = omega arith
numbered l f (update (final c s)) = omega arith
numbered l f (update (open_reader r)) = omega arith
numbered l f (update (close_reader r)) = omega arith
numbered l f (query (read r o)) = omega arith
numbered l f (query (find c s)) = omega arith
numbered l f (query (show_body c s)) = tt
numbered l f (query (dry_run c s)) = omega arith

pub accepted : (l : Limits) (f : Facts) (c : Call) → refusal l f c ≡ 0 → All (λ x. x.0 ≡ false) (causes l f c)
unfolding refusal
accepted l f c e = none_first (causes l f c) (numbered l f c) e

-- an opening is judged by its arguments alone
pub opening-judged : (l : Limits) (f g : Facts) (o : Opening) → refusal l f (opening o) ≡ refusal l g (opening o)
unfolding refusal causes
opening-judged l f g (by_values n vs los his t) = refl

-- a dry run is judged as the final delivery is: "refusals and their order included"
pub dry_run-judged : (l : Limits) (f : Facts) (c s : ℕ) → refusal l f (query (dry_run c s)) ≡ refusal l f (update (final c s))
unfolding refusal causes
dry_run-judged l f c s = refl

-- what the right numbers are
pub record Counted (l : Limits) (n : ℕ) (vs los his : List ℤ) : Type 0 where
  pub some : 1 ≤ n
  pub few : n ≤ l.objects
  pub values : length vs ≡ n
  pub lowers : length los ≡ n
  pub uppers : length his ≡ n

pub counted : (l : Limits) (n : ℕ) (vs los his : List ℤ) → miscounted l n vs los his ≡ false → Counted l n vs los his
counted l n vs los his e =
    let (lower-right, h) = neither (eqb n 0 || ltb l.objects n || not (eqb (length vs) n) || not (eqb (length los) n)) (not (eqb (length his) n)) e in
    let (values-right, w) = neither (eqb n 0 || ltb l.objects n || not (eqb (length vs) n)) (not (eqb (length los) n)) lower-right in
    let (n-right, v) = neither (eqb n 0 || ltb l.objects n) (not (eqb (length vs) n)) values-right in
    let (z, m) = neither (eqb n 0) (ltb l.objects n) n-right in
    let not_None = eqb-false n 0 z in
    record {
      some = positive n not_None;
      few = ltb-false l.objects n m;
      values = eqb-true (length vs) n (not-false (eqb (length vs) n) v);
      lowers = eqb-true (length los) n (not-false (eqb (length los) n) w);
      uppers = eqb-true (length his) n (not-false (eqb (length his) n) h);
    }
  where
    positive : (n : ℕ) → (n ≡ 0 → ⊥) → 1 ≤ n
    positive zero h = absurd (h refl)
    positive (suc n) h = omega arith

-- the openings that are accepted: the right numbers, and start values inside their bounds
pub opening-accepted : (l : Limits) (f : Facts) (n : ℕ) (vs los his : List ℤ) (t : ℕ) → miscounted l n vs los his ≡ false → all₂ starts_inside (bounds_from los his) vs ≡ true
    → refusal l f (opening (by_values n vs los his t)) ≡ 0
unfolding refusal causes
opening-accepted l f n vs los his t e h = rw (e, h)

-- ---- the widest bounds: "Document 01's cases take the widest limits"

-- they hold every value of 64 bits
pub widest-inside : (v : ℤ) → fits v ≡ true → inside widest v ≡ true
unfolding fits inside
widest-inside (ℤ.pos n) e = le-leb n 9223372036854775807 (let h = ltb-true n (2 ^ 63) e in omega arith)
widest-inside (ℤ.negsuc n) e = rw (le-leb n 9223372036854775807 (let h = ltb-true n (2 ^ 63) e in omega arith))

pub plain-counted : (l : Limits) (vs : List ℤ) → 1 ≤ length vs → length vs ≤ l.objects
    → miscounted l (length vs) vs (replicate (length vs) widest.lower) (replicate (length vs) widest.upper) ≡ false
plain-counted l vs least most =
    let n = length vs in
    rw (ne_eqb n 0 (λ z. omega arith), le-ltb l.objects n most, eq-eqb n n refl, eq-eqb (length (replicate n widest.lower)) n (length-replicate n widest.lower), eq-eqb (length (replicate n widest.upper)) n (length-replicate n widest.upper))

pub plain-inside : (vs : List ℤ) → all fits vs ≡ true → all₂ starts_inside (bounds_from (replicate (length vs) widest.lower) (replicate (length vs) widest.upper)) vs ≡ true
plain-inside [] e = refl
plain-inside (v ∷ vs) e = let k = both (fits v) (all fits vs) e in rw (widest-inside v k.0) (plain-inside vs k.1)
