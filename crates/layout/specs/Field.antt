-- Fields of a layout: where one lies, and that to read or write its numbers is to read or write it in the value. Composed as layouts are.
-- Assumes nothing.
use Rattle.std.specs.Prelude.{◌≡◌, refl, List, [], ◌∷◌, ◌++◌, ℕ, zero, suc, ◌+◌, ◌-◌, ◌*◌, ◌≤◌, ◌<◌, length, take, drop, get_or, set}
use Rattle.std.proofs.Common.{sym, ap, ap₂, ◌∙◌, append_assoc, not-suc-le-zero, le_of_suc-le-suc, arith, length-drop, take-append-drop, length-take-le, drop-drop, take-add, take-take, get_or-take, get_or-drop}
use Rattle.std.proofs.Math.Nat.{zero-sub, sub-zero, suc-sub-suc}
use Rattle.std.proofs.lemmas.List.{drop-append-le, set_at}
use Rattle.std.proofs.Math.Seq.{take-nil}
use borrow.Rule.Slice.PartMut.{put_mid, mid_of, same_len_mid}
use Rattle.cells.specs.Cells.{uncells}
use Rattle.cells.specs.Uncells.{length-uncells, uncells-part, uncells-back}
use Rattle.layout.specs.Codec.{Codec, bytewise}
pub use Rattle.layout.specs.Lawful.{Sized}

-- ---- a part of a part
pub drop-take : (o n : ℕ) (d : List ℕ) → drop o (take n d) ≡ take (n - o) (drop o d)
drop-take zero n d = rw sub-zero
drop-take (suc o) zero d = rw zero-sub
drop-take (suc o) (suc n) [] = sym (take-nil (suc n - suc o))
drop-take (suc o) (suc n) (x ∷ d) = rw suc-sub-suc (drop-take o n d)

pub put-put : (a n o k : ℕ) (b m : List ℕ) → o + k ≤ n → a + n ≤ length b → put_mid a n b (put_mid o k (mid_of a n b) m) ≡ put_mid (a + o) k b m
put-put a n o k b m h f =
    let d = drop a b in
    let ld = length-drop a b in
    let e : drop k (drop o (take n d)) ++ drop n d ≡ drop k (drop o d) =
    ap (λ (z : List ℕ). z ++ drop n d) (drop-drop k o (take n d))
    ∙ sym (drop-append-le (o + k) (take n d) (drop n d) (omega (arith, length-take-le n d (omega arith))))
    ∙ ap (drop (o + k)) (take-append-drop n d) ∙ sym (drop-drop k o d) in
    rw (append_assoc, append_assoc, e, take-take o n d (omega arith), ← append_assoc (take a b), ← take-add a o b, drop-drop o a b)

-- a field of the values that P holds of: where its numbers lie, which part of the value it is, and what to read and to write them does
pub record Field {A B : Type 0} (c : Codec A) (P : A → Type 0) (f : Codec B) (Q : B → Type 0) : Type 0 where
  pub at : ℕ
  pub get : A → B
  pub put : B → A → A
  pub inside : at + f.size ≤ c.size
  pub len : (a : A) → P a → length (c.enc a) ≡ c.size
  pub read : (a : A) → P a → mid_of at f.size (c.enc a) ≡ f.enc (get a)
  pub write : (a : A) → P a → (b : B) → Q b → put_mid at f.size (c.enc a) (f.enc b) ≡ c.enc (put b a)
  pub got : (a : A) → P a → Q (get a)
  pub put_fits : (a : A) → P a → (b : B) → Q b → P (put b a)

-- ---- single numbers

pub mid_at : (b : List ℕ) (a n k : ℕ) → k < n → get_or (mid_of a n b) k 0 ≡ get_or b (a + k) 0
mid_at b a n k h = get_or-take n (drop a b) k 0 h ∙ get_or-drop a b k 0

put-mid : (b : List ℕ) (a v : ℕ) → a < length b → set b a v ≡ put_mid a 1 b (v ∷ [])
put-mid [] a v h = absurd (not-suc-le-zero h)
put-mid (x ∷ b) zero v h = refl
put-mid (x ∷ b) (suc a) v h = ap (x ∷◌) (put-mid b a v (le_of_suc-le-suc h))

module _ {A B : Type 0} {c : Codec A} {P : A → Type 0} {f : Codec B} {Q : B → Type 0} (F : Field c P f Q) (a : A) (h : P a) where
  pub cell-read : (k : ℕ) → k < f.size → get_or (c.enc a) (F.at + k) 0 ≡ get_or (f.enc (F.get a)) k 0
  cell-read k low = sym (mid_at (c.enc a) F.at f.size k low) ∙ ap (λ (z : List ℕ). get_or z k 0) (F.read a h)

  pub cell-write : f.size ≡ 1 → (b : B) → Q b → (v : ℕ) → f.enc b ≡ v ∷ [] → set (c.enc a) F.at v ≡ c.enc (F.put b a)
  cell-write one b q v e =
      put-mid (c.enc a) F.at v (omega (arith, F.inside, F.len a h))
      ∙ ap₂ (λ (n : ℕ) (z : List ℕ). put_mid F.at n (c.enc a) z) (sym one) (sym e)
      ∙ F.write a h b q

  -- a part of the field replaced
  change : (o k : ℕ) (m : List ℕ) → o + k ≤ f.size → put_mid (F.at + o) k (c.enc a) m ≡ put_mid F.at f.size (c.enc a) (put_mid o k (f.enc (F.get a)) m)
  change o k m fit =
      let i = F.inside in
      let l = F.len a h in
      sym (put-put F.at f.size o k (c.enc a) m fit (omega arith))
      ∙ ap (λ (y : List ℕ). put_mid F.at f.size (c.enc a) (put_mid o k y m)) (F.read a h)

  pub part-write : (b : B) → Q b → (o k : ℕ) (m : List ℕ) → o + k ≤ f.size → put_mid o k (f.enc (F.get a)) m ≡ f.enc b → put_mid (F.at + o) k (c.enc a) m ≡ c.enc (F.put b a)
  part-write b q o k m fit e = change o k m fit ∙ ap (put_mid F.at f.size (c.enc a)) e ∙ F.write a h b q

  -- and then its first number, as the count of a table
  pub count-write : (b : B) → Q b → (o k v : ℕ) (m : List ℕ) → 0 < f.size → o + k ≤ f.size → length m ≡ k
      → set (put_mid o k (f.enc (F.get a)) m) 0 v ≡ f.enc b → set (put_mid (F.at + o) k (c.enc a) m) F.at v ≡ c.enc (F.put b a)
  count-write b q o k v m pos fit len e =
      let w = c.enc a in
      let i = F.inside in
      let t = put_mid o k (f.enc (F.get a)) m in
      let l = F.len a h in
      let n : length (f.enc (F.get a)) ≡ f.size =
      ap length (sym (F.read a h)) ∙ length-take-le f.size (drop F.at w) (omega (arith, length-drop F.at w)) in
      let z : length t ≡ f.size =
      same_len_mid o k (f.enc (F.get a)) m (len ∙ sym (length-take-le k (drop o (f.enc (F.get a))) (omega (arith, length-drop o (f.enc (F.get a)))))) ∙ n in
      ap (λ (y : List ℕ). set y F.at v) (change o k m fit)
      ∙ first-set (take F.at w) t (drop f.size (drop F.at w)) F.at v (length-take-le F.at w (omega arith)) (omega arith)
      ∙ ap (put_mid F.at f.size w) e ∙ F.write a h b q
    where
      first-set : (x y z : List ℕ) (n v : ℕ) → length x ≡ n → 0 < length y → set (x ++ (y ++ z)) n v ≡ x ++ (set y 0 v ++ z)
      first-set x [] z n v e p = absurd (not-suc-le-zero p)
      first-set x (y ∷ ys) z n v e p = set_at x y (ys ++ z) v n e

-- ---- cells in bytes

-- a block of cells as a part of the area
abbrev pub in_bytes : {A B : Type 0} {c : Codec A} {P : A → Type 0} {f : Codec B} {Q : B → Type 0} → Field c P f Q → Field (bytewise c) P (bytewise f) Q
in_bytes {c} {f} x = record {
  at = x.at * 8;
  get = x.get;
  put = x.put;
  inside = omega (arith, x.inside);
  len = λ a h. omega (arith, length-uncells (c.enc a), x.len a h);
  read = λ a h. uncells-part x.at f.size (c.enc a) ∙ ap uncells (x.read a h);
  write = λ a h b k. uncells-back x.at f.size (c.enc a) (f.enc b) ∙ ap uncells (x.write a h b k);
  got = x.got;
  put_fits = x.put_fits;
}
