-- What follows from `specs/RowKeys`. Assumes nothing.
use Rattle.std.specs.Prelude.{◌≡◌, refl, List, ℕ, zero, suc, ◌+◌, ◌*◌, ◌≤◌, ◌<◌, length, drop, get_or, eqb}
use Rattle.std.proofs.Common.{sym, ap, ◌∙◌, arith, not-suc-le-zero, le_of_suc-le-suc, get_or-drop, eq-eqb, ne_eqb}
use Rattle.model.specs.Lists.{index}
use Rattle.model.proofs.ListLaws.{index_at}
use Rattle.layout.specs.RowKeys.{keys}

pub length-keys : (w n : ℕ) (cs : List ℕ) → length (keys w n cs) ≡ n
unfolding keys
length-keys w zero cs = refl
length-keys w (suc n) cs = ap suc (length-keys w n (drop w cs))

pub get_or-keys : (w n : ℕ) (cs : List ℕ) (i : ℕ) → i < n → get_or (keys w n cs) i 0 ≡ get_or cs (i * w) 0
unfolding keys
get_or-keys w zero cs i h = absurd (not-suc-le-zero h)
get_or-keys w (suc n) cs zero h = let z : 0 * w ≡ 0 = omega arith in rw z
get_or-keys w (suc n) cs (suc i) h =
    let e : w + i * w ≡ suc i * w = omega arith in
    get_or-keys w n (drop w cs) i (le_of_suc-le-suc h) ∙ get_or-drop w cs (i * w) 0 ∙ ap (λ (k : ℕ). get_or cs k 0) e

-- what a scan of the keys finds
pub first_key : (w n key : ℕ) (cs : List ℕ) (i : ℕ) → i ≤ n → ((k : ℕ) → k < i → get_or cs (k * w) 0 ≡ key → ⊥) → (i < n → get_or cs (i * w) 0 ≡ key) → i ≡ index (eqb key) (keys w n cs)
first_key w n key cs i h b f =
    let m = length-keys w n cs in
    sym
    (index_at (eqb key) 0 (keys w n cs) i (omega arith)
    (λ k l. ne_eqb key (get_or (keys w n cs) k 0) (λ e. b k l (sym (e ∙ get_or-keys w n cs k (omega arith)))))
    (λ l. eq-eqb key (get_or (keys w n cs) i 0) (sym (get_or-keys w n cs i (omega arith) ∙ f (omega arith)))))
