-- Show body on areas that fail the shape check: the empty part, since Find refuses with 1. Assumes nothing.
use Rattle.std.specs.Prelude.{◌≡◌, false, List, [], ℕ, ◌+◌, take, drop}
use Rattle.std.proofs.Common.{sym, ap, ◌∙◌, add-zero, arith}
use Rattle.std.specs.Borrow.{Bor}
use Rattle.model.specs.declared.Limits.{Limits}
use Rattle.model.specs.Calls.{find, show_body, Answer, refused, found, body}
use Rattle.layout.specs.Layout.{Areas}
use Rattle.layout.specs.Fit.{fit}
use Rattle.layout.specs.Act.{act}
use Rattle.layout.proofs.Areas.{act-unfit}
use Rattle.queue.specs.Shown.{part, Shown}

never : (i n : ℕ) → refused 1 ≡ found i n → ⊥
never i n e = let z : ◌≡◌ {A = ℕ} 0 1 = cc in omega arith

module _ (l : Limits) (records : List ℕ) (bodies r : Bor (List ℕ)) (c s : ℕ) (e : fit l (records, bodies.now) ≡ false) where
  abbrev a : Areas
  a = (records, bodies.now)

  finds : (act l (find c s) a).0 ≡ refused 1
  finds = ap (λ (x : Answer × Areas). x.0) (act-unfit l (find c s) a e)

  pub shown-unfit : r.now ≡ [] → r.ref_ptr ≡ bodies.ref_ptr → Shown l records bodies r c s
  shown-unfit z p =
      record {
        answer = ap body z ∙ sym (ap (λ (x : Answer × Areas). x.0) (act-unfit l (show_body c s) a e));
        bytes = z ∙ ap (λ (x : Answer). take (part l x).1 (drop (part l x).0 bodies.now)) (sym finds);
        pointer = p ∙ ap (λ (x : ℕ). (bodies.ref_ptr.0, x)) (sym (add-zero bodies.ref_ptr.1)) ∙ ap (λ (x : Answer). (bodies.ref_ptr.0, bodies.ref_ptr.1 + (part l x).0)) (sym finds);
        empty = λ k f. z;
        whole = λ i n f. absurd (never i n (sym finds ∙ f));
      }
