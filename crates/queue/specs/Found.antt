-- What Find, Show body and optimistic delivery answer, from where the key stands among the pending transactions. Assumes nothing.
use Rattle.std.specs.Prelude.{◌≡◌, refl, Bool, not, List, [], ◌∷◌, map, ℕ, ◌≤◌, ◌<◌, leb, ltb, length, get_or}
use Rattle.std.proofs.Math.Path.{sym, ap}
use Rattle.std.proofs.Common.{◌∙◌, arith, leb-true, leb-false, ltb-true, ltb-false, lt-ltb, le-ltb, le-leb}
use Rattle.std.proofs.Math.Bool.{true, false}
use Rattle.std.proofs.Math.Option.{Option, none}
use Rattle.std.proofs.lemmas.Bool.{lt-leb}
use Rattle.operation.specs.Body.{body_length}
use Rattle.model.specs.declared.Limits.{Limits}
use Rattle.model.specs.Lists.{any, pick, index}
use Rattle.model.specs.Calls.{clients, find, show_body, Answer, refused, found, body, is_key, first_cause, causes, refusal, shown}
use Rattle.model.specs.Replica.{Pending, facts, perform, has_key, pending_of}
use Rattle.model.proofs.ListLaws.{any-map, any-index, pick-index}
use Rattle.layout.specs.Layout.{body_of, Areas, parse}
use Rattle.layout.specs.Offsets.{Sane, body_at}
use Rattle.layout.specs.Holds.{HoldsBodies}
use Rattle.layout.proofs.Bodies.{body-size, body-span}
use Rattle.layout.specs.Fit.{fit}
use Rattle.layout.specs.Act.{act}
use Rattle.layout.proofs.Areas.{act-refused, act-accepted}

-- stands for a transaction past the last
abbrev pub nothing : Pending
nothing = pending_of none

module _ (l : Limits) (a : Areas) (fine : fit l a ≡ true) (c s : ℕ) where
  abbrev pub all_pending : List Pending
  all_pending = (parse l a).pending

  -- where the key stands; the number of pending transactions where it does not
  abbrev pub position : ℕ
  position = index (has_key c s) all_pending

  pub queued : any (is_key c s) (map (λ (j : Pending). j.sent) all_pending) ≡ ltb position (length all_pending)
  queued = any-map (λ (j : Pending). j.sent) (is_key c s) all_pending ∙ any-index (has_key c s) all_pending

  -- ---- Find

  -- its causes, by what the code tests
  find-causes : (b₁ b₂ : Bool) → leb clients c ≡ b₁ → ltb position (length all_pending) ≡ b₂ → refusal l (facts (parse l a)) (find c s) ≡ first_cause ((b₁, 3) ∷ (not b₂, 8) ∷ [])
  unfolding refusal causes facts
  find-causes b₁ b₂ e₁ e₂ = rw (queued, e₁, e₂)

  pub find-3 : clients ≤ c → refused 3 ≡ (act l (find c s) a).0
  find-3 h =
      sym (ap (λ (x : Answer × Areas). x.0) (act-refused l (find c s) a 2 fine (find-causes true _ (le-leb clients c h) refl)))

  pub find-8 : c < clients → length all_pending ≤ position → refused 8 ≡ (act l (find c s) a).0
  find-8 h k =
      sym (ap (λ (x : Answer × Areas). x.0) (act-refused l (find c s) a 7 fine (find-causes false false (lt-leb clients c h) (le-ltb position (length all_pending) k))))

  pub find-0 : c < clients → position < length all_pending → found position (length (body_of (get_or all_pending position nothing))) ≡ (act l (find c s) a).0
  unfolding perform
  find-0 h k =
      sym
      (ap (λ (x : Answer × Areas). x.0) (act-accepted l (find c s) a fine (find-causes false true (lt-leb clients c h) (lt-ltb position (length all_pending) k)))
      ∙ ap (λ (x : Option Pending). found position (length (pending_of x).sent.bytes)) (pick-index (has_key c s) nothing all_pending k))

  -- in the code's numbers: the first byte of a body says its length
  pub find-found : Sane l → HoldsBodies l a.1 (parse l a) → c < clients → (i at : ℕ) → i ≡ position → i < length all_pending → at ≡ body_at l i → found i (body_length (get_or a.1 at 0)) ≡ (act l (find c s) a).0
  find-found o h k i at e low f =
      let m : length (body_of (get_or all_pending i nothing)) ≡ body_length (get_or a.1 at 0) =
      body-span l o a.1 (parse l a) h i low nothing ∙ ap body_length (sym (ap (λ (x : ℕ). get_or a.1 x 0) f ∙ body-size l o a.1 (parse l a) h i low nothing)) in
      ap (found i) (sym m)
      ∙ ap (λ (x : ℕ). found x (length (body_of (get_or all_pending x nothing)))) e
      ∙ find-0 k (omega arith)

  -- the three ways that Find goes
  either : (P : Type 0) → (clients ≤ c → P) → (c < clients → length all_pending ≤ position → P) → (c < clients → position < length all_pending → P) → P
  either P f g h = by (leb clients c) (ltb position (length all_pending)) refl refl
    where
      by : (x y : Bool) → leb clients c ≡ x → ltb position (length all_pending) ≡ y → P
      by true y e k = f (leb-true clients c e)
      by false false e k = g (leb-false clients c e) (ltb-false position (length all_pending) k)
      by false true e k = h (leb-false clients c e) (ltb-true position (length all_pending) k)

  -- ---- Show body

  abbrev picked : List ℕ
  picked = (pending_of (pick (has_key c s) all_pending)).sent.bytes

  show_act : (act l (show_body c s) a).0 ≡ body (shown picked (refusal l (facts (parse l a)) (find c s)))
  unfolding refusal causes perform
  show_act = ap (λ (x : Answer × Areas). x.0) (act-accepted l (show_body c s) a fine refl)

  pub show_refused : (k : ℕ) → (act l (find c s) a).0 ≡ refused k → (act l (show_body c s) a).0 ≡ body []
  show_refused k e =
      either ((act l (show_body c s) a).0 ≡ body [])
      (λ h. show_act ∙ ap (λ (x : ℕ). body (shown picked x)) (find-causes true _ (le-leb clients c h) refl))
      (λ h q. show_act ∙ ap (λ (x : ℕ). body (shown picked x)) (find-causes false false (lt-leb clients c h) (le-ltb position (length all_pending) q)))
      (λ h q. let z : ◌≡◌ {A = ℕ} 0 1 = cc (find-0 h q) in absurd (omega arith))

  pub record Shows (i n : ℕ) : Type 0 where
    pub there : i ≡ position
    pub within : i < length all_pending
    pub span : n ≡ length (body_of (get_or all_pending i nothing))
    pub bytes : (act l (show_body c s) a).0 ≡ body (body_of (get_or all_pending i nothing))

  pub show_found : (i n : ℕ) → (act l (find c s) a).0 ≡ found i n → Shows i n
  show_found i n e =
      either (Shows i n)
      (λ h. let z : ◌≡◌ {A = ℕ} 0 1 = cc (find-3 h) in absurd (omega arith))
      (λ h q. let z : ◌≡◌ {A = ℕ} 0 1 = cc (find-8 h q) in absurd (omega arith))
      (λ h q.
      let j : i ≡ position = cc (find-0 h q) in
      let m : n ≡ length (body_of (get_or all_pending position nothing)) = cc (find-0 h q) in
      record {
        there = j;
        within = omega arith;
        span = m ∙ ap (λ (x : ℕ). length (body_of (get_or all_pending x nothing))) (sym j);
        bytes = show_act
            ∙ ap (λ (x : ℕ). body (shown picked x)) (find-causes false true (lt-leb clients c h) (lt-ltb position (length all_pending) q))
            ∙ ap (λ (x : Option Pending). body (pending_of x).sent.bytes) (pick-index (has_key c s) nothing all_pending q)
            ∙ ap (λ (x : ℕ). body (body_of (get_or all_pending x nothing))) (sym j);
      })
