-- Show body names its part of the body area by a start and a length, which Find's answer gives. Assumes nothing.
use Rattle.std.specs.Prelude.{◌≡◌, refl, Bool, true, false, List, ℕ, ◌+◌, ◌<◌, take, drop, Ok, Err}
use Rattle.std.proofs.Common.{sym, ap, ◌∙◌, arith}
use Rattle.std.specs.declared.result.Result.{Result}
use Rattle.std.proofs.lemmas.List.{length-map}
use Rattle.std.specs.Borrow.{Bor}
use Rattle.cells.specs.Cells.{Below}
use Rattle.model.specs.declared.Limits.{Limits}
use Rattle.model.specs.declared.Found.{Found}
use Rattle.model.specs.declared.Refusal.{Refusal}
use Rattle.model.specs.Calls.{find, show_body, Answer, refused, found, body}
use Rattle.model.specs.Answers.{finding, number}
use Rattle.layout.specs.Layout.{Areas, parse, row_of}
use Rattle.layout.specs.Offsets.{Sane, body_at}
use Rattle.layout.proofs.Bodies.{body-part}
use Rattle.layout.specs.Fit.{fit}
use Rattle.layout.specs.Act.{act}
use Rattle.layout.proofs.Areas.{act-unfit}
use Rattle.queue.specs.Found.{nothing, show_refused, show_found}
use Rattle.queue.specs.Shown.{part, part_of, Shown}
use Rattle.layout.proofs.ContractLaws.{passed}

-- The part is the one that `Shown` names, the contract of `replica::show_body`: (0, 0) where Find refuses. Its bytes are the answer.
pub record ShownPart (l : Limits) (a : Areas) (c s start length : ℕ) : Type 0 where
  pub place : (start, length) ≡ part_of l a c s
  pub bytes : body (take length (drop start a.1)) ≡ (act l (show_body c s) a).0

-- so it is the very part that `replica::show_body` returns: these bytes, so far on
pub same-part : (l : Limits) (records : List ℕ) (bodies r : Bor (List ℕ)) (c s start length : ℕ) → ShownPart l (records, bodies.now) c s start length → Shown l records bodies r c s
    → (r.now ≡ take length (drop start bodies.now)) × (r.ref_ptr ≡ (bodies.ref_ptr.0, bodies.ref_ptr.1 + start))
same-part l records bodies r c s start length p h =
    (h.bytes ∙ ap (λ (x : ℕ × ℕ). take x.1 (drop x.0 bodies.now)) (sym p.place), h.pointer ∙ ap (λ (x : ℕ × ℕ). (bodies.ref_ptr.0, bodies.ref_ptr.1 + x.0)) (sym p.place))

-- ---- from Find's answer

-- its position is one of the places
abbrev pub Low : Limits → Result Found Refusal → Type 0
Low l (Ok f) = f.position.0 < l.pending
Low l (Err r) = Unit {0}

never : (i n : ℕ) → found i n ≡ refused 1 → ⊥
never i n e = let z : ◌≡◌ {A = ℕ} 0 1 = cc in omega arith

module _ (l : Limits) (o : Sane l) (a : Areas) (below : Below 256 a.0) (c s : ℕ) where
  -- Find refuses areas that fail the check
  unfound : fit l a ≡ false → (act l (find c s) a).0 ≡ refused 1
  unfound e = ap (λ (y : Answer × Areas). y.0) (act-unfit l (find c s) a e)

  pub low : (x : Result Found Refusal) → finding x ≡ (act l (find c s) a).0 → Low l x
  low (Err r) e = tt
  low (Ok f) e = by (fit l a) refl
    where
      by : (b : Bool) → fit l a ≡ b → f.position.0 < l.pending
      by false z = absurd (never f.position.0 f.length (e ∙ unfound z))
      by true z =
          let h = (passed l o a below z).bodies in
          omega (arith, (show_found l a z c s f.position.0 f.length (sym e)).within, h.fits.rows.0, length-map (parse l a).pending row_of)

  shows : (x : Result Found Refusal) → finding x ≡ (act l (find c s) a).0 → (b : Bool) → fit l a ≡ b → body (take (part l (finding x)).1 (drop (part l (finding x)).0 a.1)) ≡ (act l (show_body c s) a).0
  shows (Err r) e false z = sym (ap (λ (y : Answer × Areas). y.0) (act-unfit l (show_body c s) a z))
  shows (Err r) e true z = sym (show_refused l a z c s (number r) (sym e))
  shows (Ok f) e false z = absurd (never f.position.0 f.length (e ∙ unfound z))
  shows (Ok f) e true z =
      let k = show_found l a z c s f.position.0 f.length (sym e) in
      ap (λ (x : ℕ). body (take x (drop (body_at l f.position.0) a.1))) k.span
      ∙ ap body (body-part l o a.1 (parse l a) (passed l o a below z).bodies f.position.0 k.within nothing)
      ∙ sym k.bytes

  pub shown-part : (x : Result Found Refusal) (start length : ℕ) → finding x ≡ (act l (find c s) a).0 → (start, length) ≡ part l (finding x) → ShownPart l a c s start length
  shown-part x start length e p =
      record {
        place = p ∙ ap (part l) e;
        bytes = ap (λ (x : ℕ × ℕ). body (take x.1 (drop x.0 a.1))) p ∙ shows x e (fit l a) refl;
      }
