-- Show body: which part of the lent body area it returns. Assumes nothing.
use Rattle.std.specs.Prelude.{◌≡◌, true, List, [], map, ℕ, ◌+◌, ◌-◌, ◌≤◌, ◌<◌, length, take, drop, get_or}
use Rattle.std.proofs.Common.{sym, ap, ap₂, ◌∙◌, subst, arith, add-zero, add_comm}
use Rattle.std.proofs.lemmas.List.{length-map}
use Rattle.std.proofs.Math.ListN.{get_or-map}
use Rattle.std.specs.Borrow.{Bor}
use Rattle.model.specs.declared.Limits.{Limits}
use Rattle.model.specs.Calls.{find, show_body, Observation, Yield, Answer, refused, yielded, found, body}
use Rattle.model.proofs.ListLaws.{all_in}
use Rattle.layout.specs.Layout.{body_of, Areas, parse}
use Rattle.layout.specs.Offsets.{Sane, body_width, body_at}
use Rattle.layout.specs.Printable.{BodyFits}
use Rattle.layout.proofs.PrintableLaws.{few_pending}
use Rattle.layout.proofs.OffsetLaws.{body-room}
use Rattle.layout.specs.Holds.{HoldsBodies}
use Rattle.layout.proofs.HoldsLaws.{bodies-long}
use Rattle.layout.proofs.Bodies.{body-part, body-span}
use Rattle.layout.specs.Fit.{fit}
use Rattle.layout.specs.Act.{act}
use Rattle.queue.specs.Found.{nothing, Shows, show_refused, show_found}

-- where in the body area the body that Find answers for begins, and how long it is
abbrev pub part : Limits → Answer → ℕ × ℕ
part l (refused k) = (0, 0)
part l (yielded Yield.done) = (0, 0)
part l (yielded (Yield.executed n f)) = (0, 0)
part l (yielded (Yield.committed r)) = (0, 0)
part l (yielded (Yield.observed (Observation.version v))) = (0, 0)
part l (yielded (Yield.observed (Observation.found i n))) = (body_at l i, n)
part l (yielded (Yield.observed (Observation.body b))) = (0, 0)
part l (yielded (Yield.observed (Observation.previewed p))) = (0, 0)

abbrev pub part_of : Limits → Areas → ℕ → ℕ → ℕ × ℕ
part_of l a c s = part l (act l (find c s) a).0

-- what Show body ensures of the part r of the lent body area
pub record Shown (l : Limits) (records : List ℕ) (bodies r : Bor (List ℕ)) (c s : ℕ) : Type 0 where
  -- its bytes are the answer
  pub answer : body r.now ≡ (act l (show_body c s) (records, bodies.now)).0
  -- it is "the very bytes of the body area that hold it, of its own length": the bytes from there on, and its pointer is the area's, so far on
  pub bytes : r.now ≡ take (part_of l (records, bodies.now) c s).1 (drop (part_of l (records, bodies.now) c s).0 bodies.now)
  pub pointer : r.ref_ptr ≡ (bodies.ref_ptr.0, bodies.ref_ptr.1 + (part_of l (records, bodies.now) c s).0)
  -- "the empty part exactly when Find refuses"
  pub empty : (k : ℕ) → (act l (find c s) (records, bodies.now)).0 ≡ refused k → r.now ≡ []
  pub whole : (i n : ℕ) → (act l (find c s) (records, bodies.now)).0 ≡ found i n → (length r.now ≡ n) × (0 < n)

module _ (l : Limits) (o : Sane l) (records : List ℕ) (bodies r : Bor (List ℕ)) (c s : ℕ) (fine : fit l (records, bodies.now) ≡ true) where
  abbrev asks : Answer
  asks = (act l (find c s) (records, bodies.now)).0

  no_body : (k i n : ℕ) → asks ≡ refused k → asks ≡ found i n → ⊥
  no_body k i n e f = let z : ◌≡◌ {A = ℕ} 0 1 = cc in omega arith

  -- Find refuses: an empty part at the front of the area
  pub shown-none : (k : ℕ) → asks ≡ refused k → r.now ≡ [] → r.ref_ptr ≡ bodies.ref_ptr → Shown l records bodies r c s
  shown-none k e z p =
      record {
        answer = ap body z ∙ sym (show_refused l (records, bodies.now) fine c s k e);
        bytes = z ∙ ap (λ (x : Answer). take (part l x).1 (drop (part l x).0 bodies.now)) (sym e);
        pointer = p ∙ ap (λ (x : ℕ). (bodies.ref_ptr.0, x)) (sym (add-zero bodies.ref_ptr.1)) ∙ ap (λ (x : Answer). (bodies.ref_ptr.0, bodies.ref_ptr.1 + (part l x).0)) (sym e);
        empty = λ j f. z;
        whole = λ i n f. absurd (no_body k i n e f);
      }

  -- Find finds: n bytes from the start of the place on
  module _ (h : HoldsBodies l bodies.now (parse l (records, bodies.now))) (i n at : ℕ) (e : asks ≡ found i n) (f : at ≡ body_at l i) where
    abbrev shows : Shows l (records, bodies.now) fine c s i n
    shows = show_found l (records, bodies.now) fine c s i n e

    abbrev its_bytes : List ℕ
    its_bytes = body_of (get_or (parse l (records, bodies.now)).pending i nothing)

    pub shown-low : i < l.pending
    shown-low =
        omega (arith, shows.within, few_pending l (parse l (records, bodies.now)) h.fits)

    pub shown-room : at + n ≤ length bodies.now
    shown-room =
        let js = (parse l (records, bodies.now)).pending in
        let k : BodyFits l.operations (get_or (map body_of js) i (body_of nothing)) = all_in (BodyFits l.operations) (map body_of js) i (body_of nothing) h.fits.bodies (omega (arith, shows.within, length-map js body_of)) in
        let m : length its_bytes ≤ body_width l = subst (λ (x : List ℕ). length x ≤ body_width l) (get_or-map body_of js i nothing) k.1 in
        omega (arith, shows.span, bodies-long l o bodies.now (parse l (records, bodies.now)) h, body-room l i shown-low)

    pub shown-some : r.now ≡ take (at + n - at) (drop at bodies.now) → r.ref_ptr ≡ (bodies.ref_ptr.0, at + bodies.ref_ptr.1) → Shown l records bodies r c s
    shown-some b p =
        let w : at + n - at ≡ n = omega arith in
        let z : r.now ≡ take n (drop (body_at l i) bodies.now) = b ∙ ap₂ (λ (x y : ℕ). take x (drop y bodies.now)) w f in
        let y : r.now ≡ its_bytes =
        z ∙ ap (λ (x : ℕ). take x (drop (body_at l i) bodies.now)) shows.span ∙ body-part l o bodies.now (parse l (records, bodies.now)) h i shows.within nothing in
        record {
          answer = ap body y ∙ sym shows.bytes;
          bytes = z ∙ ap (λ (x : Answer). take (part l x).1 (drop (part l x).0 bodies.now)) (sym e);
          pointer = p ∙ ap (λ (x : ℕ). (bodies.ref_ptr.0, x)) (add_comm at bodies.ref_ptr.1) ∙ ap (λ (x : ℕ). (bodies.ref_ptr.0, bodies.ref_ptr.1 + x)) f ∙ ap (λ (x : Answer). (bodies.ref_ptr.0, bodies.ref_ptr.1 + (part l x).0)) (sym e);
          empty = λ k g. absurd (no_body k i n g e);
          whole = λ i' n' g.
              let q : n ≡ n' = cc in
              (ap length y ∙ sym shows.span ∙ q, omega (arith, shows.span, body-span l o bodies.now (parse l (records, bodies.now)) h i shows.within nothing));
        }
