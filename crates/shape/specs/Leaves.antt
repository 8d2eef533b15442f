-- The leaves of the scan say what the layout's check and the model's shape say of one row and its body. Assumes nothing.
use Rattle.std.specs.Prelude.{◌≡◌, refl, Bool, true, false, not, cond, ◌&&◌, ◌||◌, List, [], ◌∷◌, map, ℕ, zero, suc, ◌/◌, ◌%◌, ◌^◌, ◌<◌, eqb, leb, ltb, take, drop, get_or}
use Rattle.std.proofs.Common.{sym, ap, ◌∙◌, arith, get_or-take, leb-false, eq-eqb, eqb-true, ltb-true, lt-ltb}
use Rattle.std.proofs.lemmas.Bool.{false≢true, not-true, lt-leb}
use Rattle.std.proofs.Math.Option.{some}
use Rattle.execution.proofs.ReadAgreement.{both}
use Rattle.execution.specs.Entries.{lookup}
use Rattle.execution.specs.RunShape.{is_some, distinct, every}
use Rattle.model.specs.Lists.{any}
use Rattle.model.specs.Calls.{clients}
use Rattle.model.specs.ShapeCheck.{names_shaped, key_unspent}
use Rattle.layout.specs.Rows.{chunks}
use Rattle.layout.specs.Layout.{entry, key_of}
use Rattle.shape_names.specs.NameScan.{absent, names_in}
use Rattle.shape_row.specs.RowScan.{key_in}

-- two tests, each of which holds where the other does
pub same : (a b : Bool) → (a ≡ true → b ≡ true) → (b ≡ true → a ≡ true) → a ≡ b
same true b f g = sym (f refl)
same false true f g = absurd (false≢true (g refl))
same false false f g = refl

swapped : (a b c d : Bool) → a && (b && (c && d)) ≡ (b && c) && (a && d)
swapped true true c d = refl
swapped true false c d = refl
swapped false true true d = refl
swapped false true false d = refl
swapped false false c d = refl

-- ---- entries

-- the object of an entry
pub object_of : (w : ℕ) (xs : List ℕ) → 0 < w → get_or (take 1 (take (suc w) xs)) 0 0 ≡ get_or xs 0 0
object_of w xs h = get_or-take 1 (take (suc w) xs) 0 0 (omega arith) ∙ get_or-take (suc w) xs 0 0 (omega arith)

looked : (o : ℕ) (rs : List (List ℕ)) → is_some (lookup (map entry.dec rs) o) ≡ any (λ r. eqb (get_or r 0 0) o) rs
looked o [] = refl
looked o (r ∷ rs) =
    ap (λ (t : ℕ). is_some (cond (eqb t o) (some (entry.dec r).value) (lookup (map entry.dec rs) o))) (get_or-take 1 r 0 0 (omega arith))
    ∙ go' (eqb (get_or r 0 0) o) (looked o rs)
  where
    go' : (b : Bool) → is_some (lookup (map entry.dec rs) o) ≡ any (λ r. eqb (get_or r 0 0) o) rs → is_some (cond b (some (entry.dec r).value) (lookup (map entry.dec rs) o)) ≡ b || any (λ r. eqb (get_or r 0 0) o) rs
    go' true i = refl
    go' false i = i

pub names-are : (n k : ℕ) (xs : List ℕ) → names_in n k xs ≡ names_shaped n (map entry.dec (chunks 2 k xs))
unfolding names_in names_shaped chunks
names-are n zero xs = refl
names-are n (suc k) xs =
    let rs = chunks 2 k (drop 2 xs) in
    let es = map entry.dec rs in
    let o : get_or (take 1 (take 2 xs)) 0 0 ≡ get_or xs 0 0 = object_of 1 xs (omega arith) in
    ap (λ (t : Bool). ltb (get_or xs 0 0) n && (absent (get_or xs 0 0) rs && t)) (names-are n k (drop 2 xs))
    ∙ swapped (ltb (get_or xs 0 0) n) (absent (get_or xs 0 0) rs) (distinct es) (every (λ x. ltb x.object n) es)
    ∙ ap (λ (t : Bool). (not t && distinct es) && (ltb (get_or xs 0 0) n && every (λ x. ltb x.object n) es)) (sym (looked (get_or xs 0 0) rs))
    ∙ ap (λ (t : ℕ). (not (is_some (lookup es t)) && distinct es) && (ltb t n && every (λ x. ltb x.object n) es)) (sym o)

-- ---- keys

pub key-same : (j k : ℕ) → eqb j k ≡ eqb (j / 2 ^ 32) (k / 2 ^ 32) && eqb (j % 2 ^ 32) (k % 2 ^ 32)
key-same j k =
    same (eqb j k) (eqb (j / 2 ^ 32) (k / 2 ^ 32) && eqb (j % 2 ^ 32) (k % 2 ^ 32)) to back
  where
    to : eqb j k ≡ true → eqb (j / 2 ^ 32) (k / 2 ^ 32) && eqb (j % 2 ^ 32) (k % 2 ^ 32) ≡ true
    to e =
        let h : j ≡ k = eqb-true j k e in
        rw (eq-eqb (j / 2 ^ 32) (k / 2 ^ 32) (omega arith), eq-eqb (j % 2 ^ 32) (k % 2 ^ 32) (omega arith))

    back : eqb (j / 2 ^ 32) (k / 2 ^ 32) && eqb (j % 2 ^ 32) (k % 2 ^ 32) ≡ true → eqb j k ≡ true
    back e =
        let h = both (eqb (j / 2 ^ 32) (k / 2 ^ 32)) (eqb (j % 2 ^ 32) (k % 2 ^ 32)) e in
        let p = eqb-true (j / 2 ^ 32) (k / 2 ^ 32) h.0 in
        let q = eqb-true (j % 2 ^ 32) (k % 2 ^ 32) h.1 in
        eq-eqb j k (omega arith)

pub key-is : (lasts : List ℕ) (k : ℕ) (b : List ℕ) → key_in lasts k ≡ key_unspent lasts (record { client = (key_of k).0; sequence = (key_of k).1; bytes = b })
unfolding key_in key_unspent
key-is lasts k b = ap (λ (t : Bool). ltb (k / 2 ^ 32) clients && t) (above (get_or lasts (k / 2 ^ 32) 0) (k % 2 ^ 32))
  where
    above : (l s : ℕ) → ltb l s ≡ not (leb s l)
    above l s = same (ltb l s) (not (leb s l)) (λ e. rw (lt-leb s l (ltb-true l s e))) (λ e. lt-ltb l s (leb-false s l (not-true (leb s l) e)))
