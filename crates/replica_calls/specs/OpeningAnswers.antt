-- The ways out of an opening, each as the contract asks. Assumes nothing.
use Rattle.std.specs.Prelude.{◌≡◌, true, ◌&&◌, List, ℕ, suc, ℤ, length}
use Rattle.std.proofs.Common.{sym, ap, ◌∙◌}
use Rattle.std.proofs.Math.Bool.{Bool, false, and-false}
use Rattle.std.proofs.Math.Dec.{eqb}
use borrow.Author.Tests.{ne_eqb}
use Rattle.model.specs.declared.Limits.{Limits}
use Rattle.model.specs.Lists.{all₂}
use Rattle.model.specs.Calls.{Call, by_values, opening, Answer, refused, done, miscounted, bounds_from, starts_inside, causes, refusal}
use Rattle.model.specs.Start.{start_of}
use Rattle.model.specs.Replica.{opened, facts}
use Rattle.layout.specs.Layout.{record_area, body_area, Areas, parse, print, lengths}
use Rattle.layout.specs.Offsets.{Sane, record_length, bodies_length}
use Rattle.layout.specs.Fields.{sizes}
use Rattle.layout.proofs.Areas.{act-refused, opening-done, act-open}
use Rattle.layout.proofs.FitLaws.{right-lengths}
use Rattle.layout.specs.Contract.{Met}
use Rattle.layout.proofs.ContractLaws.{met-unfit}

module _ (l : Limits) (n : ℕ) (vs los his : List ℤ) (t : ℕ) (a : Areas) where
  abbrev call : Call
  call = opening (by_values n vs los his t)

  pub wrong-record : (length a.0 ≡ record_length l → ⊥) → Met l call a (refused 1) a
  unfolding lengths
  wrong-record h = met-unfit l call a (rw ((sizes l).2, ne_eqb (length a.0) (record_length l) h))

  pub wrong-bodies : (length a.1 ≡ bodies_length l → ⊥) → Met l call a (refused 1) a
  unfolding lengths
  wrong-bodies h =
      let r : Bool = eqb (length a.0) (record_area l).size in
      let e : eqb (length a.1) (body_area l 0).size ≡ false = rw (sizes l).3 (ne_eqb (length a.1) (bodies_length l) h) in
      met-unfit l call a (ap (λ (b : Bool). r && b) e ∙ and-false r)

  module _ (e : length a.0 ≡ record_length l) (f : length a.1 ≡ bodies_length l) where
    turned_back : (k : ℕ) → refusal l (facts (parse l a)) call ≡ suc k → Met l call a (refused (suc k)) a
    turned_back k q =
        let r = act-refused l call a k (right-lengths l a e f) q in
        record { answers = sym (ap (λ (x : Answer × Areas). x.0) r); areas = sym (ap (λ (x : Answer × Areas). x.1) r) }

    pub wrong-counts : miscounted l n vs los his ≡ true → Met l call a (refused 2) a
    unfolding refusal causes
    wrong-counts h = turned_back 1 (rw h)

    pub start_outside : miscounted l n vs los his ≡ false → all₂ starts_inside (bounds_from los his) vs ≡ false → Met l call a (refused 15) a
    unfolding refusal causes
    start_outside h k = turned_back 14 (rw (h, k))

    -- accepted: both areas are those of the replica just opened
    pub filled : Sane l → miscounted l n vs los his ≡ false → all₂ starts_inside (bounds_from los his) vs ≡ true → (b : Areas) → b ≡ print l (opened l (start_of (by_values n vs los his t))) → Met l call a done b
    filled s h k b p =
        let d = opening-done l s n vs los his t a (right-lengths l a e f) h k in
        let o = act-open l s (by_values n vs los his t) a d in
        record { answers = sym d; areas = p ∙ sym (ap (λ (x : Answer × Areas). x.1) o) }
