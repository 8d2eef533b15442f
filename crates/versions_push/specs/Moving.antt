-- A turn of the loop that keeps the versions that are held. Assumes nothing.
use Rattle.std.specs.Prelude.{◌≡◌, refl, Bool, true, false, cond, List, [], ◌∷◌, ◌++◌, ℕ, zero, suc, ◌+◌, ◌-◌, ◌≤◌, ◌<◌, length, get_or, take, drop, set}
use Rattle.std.proofs.Common.{sym, ap, ◌∙◌, append_assoc, arith, add-one, length-set, length-append, drop-drop, get_or-drop, drop-set-lt, take-suc-set, length-take-le}
use Rattle.versions.specs.Block.{between}
use Rattle.versions_push.specs.Trimmed.{trim_cells, fronted}

trim_cells-step : (rc : List ℕ) (upper n k : ℕ) (cs : List ℕ) → 0 < n
    → trim_cells rc upper n (drop k cs) ≡ cond (between rc (get_or cs k 0) upper) (get_or cs k 0 ∷ get_or cs (k + 1) 0 ∷ trim_cells rc (get_or cs k 0) (n - 1) (drop (k + 2) cs)) (trim_cells rc (get_or cs k 0) (n - 1) (drop (k + 2) cs))
unfolding trim_cells
trim_cells-step rc upper zero k cs h = absurd (omega arith)
trim_cells-step rc upper (suc n) k cs h =
    let a : k + 0 ≡ k = omega arith in
    let b : suc n - 1 ≡ n = omega arith in
    rw (get_or-drop k cs 0 0, get_or-drop k cs 1 0, a, drop-drop 2 k cs, b)

trim_cells-end : (rc : List ℕ) (upper n : ℕ) (cs : List ℕ) → n ≤ 0 → trim_cells rc upper n cs ≡ []
unfolding trim_cells
trim_cells-end rc upper zero cs h = refl
trim_cells-end rc upper (suc n) cs h = absurd (omega arith)

-- after two stores
module _ (bs : List ℕ) (j s v : ℕ) (h : j + 2 ≤ length bs) where
  pair-front : take (j + 2) (set (set bs j s) (j + 1) v) ≡ take j bs ++ (s ∷ v ∷ [])
  pair-front =
      let e : j + 2 ≡ suc (j + 1) = omega arith in
      let l : j + 1 < length (set bs j s) = rw length-set (omega arith) in
      rw (e, take-suc-set (set bs j s) (j + 1) v l, add-one, take-suc-set bs j s (omega arith), append_assoc (take j bs) (s ∷ []) (v ∷ []))

  pair-behind : (i : ℕ) → j + 2 ≤ i → drop i (set (set bs j s) (j + 1) v) ≡ drop i bs
  pair-behind i l = drop-set-lt i (set bs j s) (j + 1) v (omega arith) ∙ drop-set-lt i bs j s (omega arith)

-- bs are the cells now, cs those at the start: from i on nothing has changed, and what is in front, the version in hand and those yet to be looked at make up the target
pub record Moving (rc cs bs : List ℕ) (upper s v i left j : ℕ) (target : List ℕ) : Type 0 where
  pub ahead : drop i bs ≡ drop i cs
  pub done : take j bs ++ (s ∷ v ∷ trim_cells rc upper left (drop i cs)) ≡ target

module _ (rc cs bs : List ℕ) (upper s v i left j : ℕ) (target : List ℕ) (m : Moving rc cs bs upper s v i left j target) where
  room : j ≤ length bs → j + 2 + length (trim_cells rc upper left (drop i cs)) ≡ length target
  room h = omega (arith, simp length-append at (ap length m.done), length-take-le j bs h)

  here : (k : ℕ) → get_or bs (i + k) 0 ≡ get_or cs (i + k) 0
  here k = sym (get_or-drop i bs k 0) ∙ ap (λ (l : List ℕ). get_or l k 0) m.ahead ∙ get_or-drop i cs k 0

  behind : drop (i + 2) bs ≡ drop (i + 2) cs
  behind = sym (drop-drop 2 i bs) ∙ ap (drop 2) m.ahead ∙ drop-drop 2 i cs

  first : get_or bs i 0 ≡ get_or cs i 0
  first = let a : i + 0 ≡ i = omega arith in rw a at (here 0)

  module _ (h : 0 < left) (t : ℕ) (et : t ≡ get_or bs i 0) (b : Bool) (eb : b ≡ between rc t upper) where
    at-t : get_or cs i 0 ≡ t
    at-t = sym first ∙ sym et

    pub moving_drop : b ≡ false → Moving rc cs bs t s v (i + 2) (left - 1) j target
    moving_drop f = record {
      ahead = behind;
      done = ap (λ (l : List ℕ). take j bs ++ (s ∷ v ∷ l)) (sym (trim_cells-step rc upper left i cs h ∙ rw (at-t, ← eb, f))) ∙ m.done;
    }

    pub moving_keep : (w : ℕ) → w ≡ get_or bs (i + 1) 0 → b ≡ true → (ds : List ℕ) → ds ≡ set (set bs j s) (j + 1) v → j ≤ i → j + 2 ≤ length bs → Moving rc cs ds t t w (i + 2) (left - 1) (j + 2) target
    moving_keep w ew f ds ed l k = record {
      ahead = rw ed (pair-behind bs j s v k (i + 2) (omega arith)) ∙ behind;
      done =
          rw (ed, pair-front bs j s v k, append_assoc (take j bs) (s ∷ v ∷ []) (t ∷ w ∷ trim_cells rc t (left - 1) (drop (i + 2) cs)))
          (ap (λ (l : List ℕ). take j bs ++ (s ∷ v ∷ l)) (sym (trim_cells-step rc upper left i cs h ∙ rw (at-t, ← eb, f, ← here 1, ← ew))) ∙ m.done);
    }

  pub moving_end : left ≤ 0 → (ds : List ℕ) → ds ≡ set (set bs j s) (j + 1) v → j + 2 ≤ length bs → take (j + 2) ds ≡ target
  moving_end z ds ed k =
      rw (ed, pair-front bs j s v k) (ap (λ (l : List ℕ). take j bs ++ (s ∷ v ∷ l)) (sym (trim_cells-end rc upper left (drop i cs) z)) ∙ m.done)

-- where nothing is left, the version in hand is the last
pub moving_size : (rc cs bs : List ℕ) (upper s v i left j stamp value start count : ℕ) → Moving rc cs bs upper s v i left j (fronted rc cs stamp value start count)
    → left ≤ 0 → j ≤ length bs → 1 ≤ length cs → j + 2 ≡ 3 + length (trim_cells rc stamp count (drop start cs))
moving_size rc cs bs upper s v i left j stamp value start count m z h l =
    let e : length (trim_cells rc upper left (drop i cs)) ≡ 0 = ap length (trim_cells-end rc upper left (drop i cs) z) in
    let t : length (fronted rc cs stamp value start count) ≡ 3 + length (trim_cells rc stamp count (drop start cs)) = rw (length-append, length-take-le 1 cs l) (omega arith) in
    omega (arith, room rc cs bs upper s v i left j (fronted rc cs stamp value start count) m h)
