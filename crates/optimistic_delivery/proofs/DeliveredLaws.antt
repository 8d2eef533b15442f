-- What follows from `specs/Delivered`. Assumes nothing.
use Rattle.std.specs.Prelude.{◌≡◌, refl, List, [], ◌∷◌, ◌++◌, ℕ, suc, ◌+◌, ◌-◌, ◌^◌, ◌≤◌, ◌<◌, length, take, drop}
use Rattle.std.proofs.Math.Path.{sym}
use Rattle.std.proofs.Common.{ap, ap₂, ◌∙◌, subst, append-nil, length-take, drop_of_length-le, take_all, lt-ltb, le-ltb, le-leb}
use Rattle.std.proofs.Math.Bool.{true, false}
use native.Mathlib.Omega.{arith}
use borrow.Rule.Slice.PartMut.{mid_of, put_mid}
use Rattle.std.proofs.lemmas.Bool.{lt-leb}
use Rattle.cells.specs.Cells.{Put, splice}
use Rattle.cells.specs.Splice.{splice-back}
use Rattle.operation.specs.Body.{is_well_formed}
use Rattle.operation.proofs.BodyLaws.{formed}
use Rattle.model.specs.declared.Limits.{Limits}
use Rattle.model.specs.Calls.{clients, spent, optimistic, Answer, refused, done, refusal}
use Rattle.model.specs.Replica.{Replica, facts, perform}
use Rattle.layout.specs.Layout.{of_key, Areas, parse, print}
use Rattle.layout.specs.Offsets.{Sane, pending_at, row_at, body_at}
use Rattle.layout.proofs.OffsetLaws.{body-room}
use Rattle.layout.specs.Printable.{KeyFits, BodyFits}
use Rattle.layout.proofs.PrintableLaws.{any-all}
use Rattle.layout.specs.Holds.{Holds, HoldsBodies, with_pending}
use Rattle.layout.proofs.HoldsLaws.{holds-print}
use Rattle.layout.proofs.WritingRows.{append-new}
use Rattle.layout.proofs.Bodies.{append-body}
use Rattle.layout.specs.Fit.{fit}
use Rattle.layout.specs.Act.{act}
use Rattle.layout.proofs.Areas.{act-refused, act-accepted}
use Rattle.queue.specs.Found.{position}
use Rattle.optimistic_delivery.specs.Delivered.{Room, Appended, delivered}
use Rattle.optimistic_delivery.proofs.DeliveredTests.{tests}

pub copy-room : (l : Limits) (r b : List ℕ) (count : ℕ) (x : List ℕ) → Room l r b count x → (at : ℕ) → at ≡ body_at l count → at + length x ≤ length b
copy-room l r b count x m at e = omega (arith, m.bodies, m.small, body-room l count m.free)

-- a copy of x over the part from `at` to `at + n`
pub copied : (b x d : List ℕ) (at n : ℕ) → n ≡ length x → d ≡ take n x ++ drop n (mid_of at (at + n - at) b) → put_mid at (at + n - at) b d ≡ splice b at x
copied b x d at n e f =
    let w : at + n - at ≡ n = omega arith in
    let none : drop n (mid_of at (at + n - at) b) ≡ [] = drop_of_length-le (mid_of at (at + n - at) b) {i = n} (omega (arith, length-take (at + n - at) (drop at b))) in
    let y : d ≡ x = f ∙ ap₂ ◌++◌ (take_all n x (omega arith)) none ∙ append-nil x in
    splice-back b d x at (at + n - at) y (omega arith)

module _ (l : Limits) (o : Sane l) (r b : List ℕ) (u : Replica) (h : Holds l r u) (k : HoldsBodies l b u) (c s : ℕ) (x : List ℕ) where
  abbrev after : Replica
  after = with_pending (u.pending ++ (delivered c s x ∷ [])) u

  -- the areas hold one transaction more
  pub appended : (n key : ℕ) → n ≡ length u.pending → key ≡ of_key (c, s) → n < l.pending → KeyFits (c, s) → BodyFits l.operations x → (r' b' : List ℕ) → Appended l r b n key x r' b' → (r', b') ≡ print l after
  appended n key e f room g w r' b' y =
      let j = delivered c s x in
      let rows : Holds l r' after = append-new l o r u h (omega arith) j refl g w y.between r'
      (subst (λ (i : ℕ). Put r y.between (row_at l i) (of_key (c, s))) e (subst (Put r y.between (row_at l n)) f y.row))
      (subst (λ (i : ℕ). Put y.between r' (pending_at l) (i + 1)) e y.counted) in
      holds-print l r' b' after rows
      (append-body l o b u k j rows.fits b' (y.body ∙ ap (λ (i : ℕ). splice b (body_at l i) x) e ∙ sym (splice-back b x x (body_at l (length u.pending)) (length x) refl refl)))

-- ---- the answer

module _ (l : Limits) (a : Areas) (fine : fit l a ≡ true) (c s : ℕ) (x : List ℕ) where
  abbrev u : Replica
  u = parse l a

  -- the answer and the areas after it
  abbrev pub Answers : Answer → Areas → Type 0
  Answers t z = (t ≡ (act l (optimistic c s x) a).0) × (z ≡ (act l (optimistic c s x) a).1)

  turned_back : (k : ℕ) → refusal l (facts u) (optimistic c s x) ≡ suc k → Answers (refused (suc k)) a
  turned_back k e =
      let q = act-refused l (optimistic c s x) a k fine e in
      (sym (ap (λ (y : Answer × Areas). y.0) q), sym (ap (λ (y : Answer × Areas). y.1) q))

  pub deliver-3 : clients ≤ c → Answers (refused 3) a
  deliver-3 h₁ = turned_back 2 (tests l a fine c s x true _ _ _ _ (le-leb clients c h₁) refl refl refl refl)

  module _ (h₁ : c < clients) where
    pub deliver-4 : spent u.lasts c s ≡ true → Answers (refused 4) a
    deliver-4 h₂ = turned_back 3 (tests l a fine c s x false true _ _ _ (lt-leb clients c h₁) h₂ refl refl refl)

    module _ (h₂ : spent u.lasts c s ≡ false) where
      pub deliver-5 : position l a fine c s < length u.pending → Answers (refused 5) a
      deliver-5 h₃ =
          turned_back 4
          (tests l a fine c s x false false true _ _ (lt-leb clients c h₁) h₂ (lt-ltb (position l a fine c s) (length u.pending) h₃) refl refl)

      module _ (h₃ : length u.pending ≤ position l a fine c s) where
        pub deliver-6 : is_well_formed l.operations (length u.objects) x ≡ false → Answers (refused 6) a
        deliver-6 h₄ =
            turned_back 5
            (tests l a fine c s x false false false false _ (lt-leb clients c h₁) h₂ (le-ltb (position l a fine c s) (length u.pending) h₃) h₄ refl)

        module _ (h₄ : is_well_formed l.operations (length u.objects) x ≡ true) where
          pub deliver-7 : l.pending ≤ length u.pending → Answers (refused 7) a
          deliver-7 h₅ =
              turned_back 6
              (tests l a fine c s x false false false true true (lt-leb clients c h₁) h₂ (le-ltb (position l a fine c s) (length u.pending) h₃) h₄ (le-leb l.pending (length u.pending) h₅))

          pub deliver-0 : length u.pending < l.pending → Sane l → s < 2 ^ 32 → Holds l a.0 u → HoldsBodies l a.1 u
              → (n key : ℕ) → n ≡ length u.pending → key ≡ of_key (c, s) → (r' b' : List ℕ) → Appended l a.0 a.1 n key x r' b' → Answers done (r', b')
          unfolding perform clients
          deliver-0 h₅ o small hr hb n key e f r' b' y =
              let q = act-accepted l (optimistic c s x) a fine (tests l a fine c s x false false false true false (lt-leb clients c h₁) h₂ (le-ltb (position l a fine c s) (length u.pending) h₃) h₄ (lt-leb l.pending (length u.pending) h₅)) in
              let g = formed l.operations (length u.objects) x h₄ in (
                sym (ap (λ (y : Answer × Areas). y.0) q),
                appended l o a.0 a.1 u hr hb c s x n key e f (omega arith) (omega arith, small) (g.whole, omega (arith, g.most, g.whole), any-all x) r' b' y ∙ sym (ap (λ (y : Answer × Areas). y.1) q),
              )
