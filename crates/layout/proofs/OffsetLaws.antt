-- Offsets lie in their areas, the areas' lengths are far from an overflow, and the limits of both kinds of replica are sane. Assumes nothing.
use Rattle.std.specs.Prelude.{◌≡◌, refl, ℕ, ◌+◌, ◌-◌, ◌*◌, ◌^◌, ◌≤◌, ◌<◌}
use Rattle.std.proofs.Common.{ap, ◌∙◌, arith, mul-le-mul, mul-le-mul_right, one-mul}
use Rattle.model.specs.declared.Limits.{Limits}
use Rattle.model.specs.Limits.{standard, small}
use Rattle.layout.proofs.RowLaws.{split_rows}
use Rattle.layout.specs.Offsets.{Sane, size_at, object_width, object_at, pending_at, row_width, row_at, record_length, body_width, body_at, bodies_length, CellAt, ByteAt}

pub standard-sane : Sane standard
unfolding standard
standard-sane = record { objects = omega arith; pending = omega arith; readers = omega arith; operations = omega arith }

pub small-sane : Sane small
unfolding small
small-sane = record { objects = omega arith; pending = omega arith; readers = omega arith; operations = omega arith }

-- 3,770 cells, two for each object's bounds among them, and 32 places of 177 bytes
pub standard-lengths : (record_length standard ≡ 30160) × (row_at standard standard.pending ≡ 3770) × (bodies_length standard ≡ 5664) × (body_width standard ≡ 177)
unfolding standard
standard-lengths = (refl, refl, refl, refl)

pub small-lengths : (record_length small ≡ 2920) × (bodies_length small ≡ 712)
unfolding small
small-lengths = (refl, refl)

pub standard-offsets : (object_at standard 0 ≡ 25) × (object_width standard ≡ 19) × (pending_at standard ≡ 2457) × (row_at standard 0 ≡ 2458) × (row_width standard ≡ 41)
unfolding standard
standard-offsets = (refl, refl, refl, refl, refl)

module _ (l : Limits) (s : Sane l) where
  -- ---- products stay small

  object-product : (i : ℕ) → i ≤ l.objects → (i * object_width l ≤ l.objects * object_width l) × (l.objects * object_width l ≤ 65536 * 131077)
  object-product i h =
      let r = s.readers in
      let w : object_width l ≤ 131077 = omega arith in
      (mul-le-mul h (omega arith), mul-le-mul s.objects w)

  row-product : (i : ℕ) → i ≤ l.pending → (i * row_width l ≤ l.pending * row_width l) × (l.pending * row_width l ≤ 65536 * 131081)
  row-product i h =
      let m = s.operations in
      let w : row_width l ≤ 131081 = omega arith in
      (mul-le-mul h (omega arith), mul-le-mul s.pending w)

  body-product : (i : ℕ) → i ≤ l.pending → (i * body_width l ≤ l.pending * body_width l) × (l.pending * body_width l ≤ 65536 * 720897)
  body-product i h =
      let m = s.operations in
      let w : body_width l ≤ 720897 = omega arith in
      (mul-le-mul h (omega arith), mul-le-mul s.pending w)

  record_small : record_length l ≤ 2 ^ 38
  record_small =
      let r = s.readers in
      let a = (object-product l.objects (omega arith)).1 in
      let b = (row-product l.pending (omega arith)).1 in
      omega arith

  -- ---- each offset, from the widths that the code has

  -- timestamp, last numbers, readers and the number of objects
  pub front-cell : (i : ℕ) → i ≤ size_at l → CellAt l i i
  front-cell i h = record { exact = refl; inside = omega arith; small = record_small }

  pub object-cell : (i : ℕ) → i ≤ l.objects → (n w : ℕ) → n ≡ size_at l → w ≡ object_width l → CellAt l (object_at l i) (1 + n + i * w)
  object-cell i h n w d e =
      let a = (object-product i h).0 in
      let q = ap (λ (k : ℕ). i * k) e in
      record { exact = omega arith; inside = omega arith; small = record_small }

  pub row-cell : (i : ℕ) → i ≤ l.pending → (p w : ℕ) → p ≡ pending_at l → w ≡ row_width l → CellAt l (row_at l i) (1 + p + i * w)
  row-cell i h p w d e =
      let a = (row-product i h).0 in
      let q = ap (λ (k : ℕ). i * k) e in
      record { exact = omega arith; inside = omega arith; small = record_small }

  pub body-byte : (i : ℕ) → i ≤ l.pending → (w : ℕ) → w ≡ body_width l → ByteAt l (body_at l i) (i * w)
  body-byte i h w e =
      let (a, b) = body-product i h in
      let q = ap (λ (k : ℕ). i * k) e in
      record { exact = q; inside = omega arith; small = omega arith }

-- ---- what is there lies in its area as a whole

pub body-room : (l : Limits) (i : ℕ) → i < l.pending → body_at l i + body_width l ≤ bodies_length l
body-room l i h = omega (arith, mul-le-mul_right (body_width l) h)

-- ---- the length of a part from one offset to another

pub object-span : (l : Limits) (i q : ℕ) → i ≤ q → object_at l q * 8 - object_at l i * 8 ≡ (q - i) * (object_width l * 8)
object-span l i q h = omega (arith, split_rows q i (object_width l) h)

pub row-span : (l : Limits) (i q : ℕ) → i ≤ q → row_at l q * 8 - row_at l i * 8 ≡ (q - i) * (row_width l * 8)
row-span l i q h = omega (arith, split_rows q i (row_width l) h)

pub body-spans : (l : Limits) (i q : ℕ) → i ≤ q → body_at l q - body_at l i ≡ (q - i) * body_width l
body-spans l i q h = omega (arith, split_rows q i (body_width l) h)

-- from one to the next, in the code's numbers
one_of : (i w : ℕ) → (i + 1 - i) * w ≡ w
one_of i w = let e : i + 1 - i ≡ 1 = omega arith in ap (λ (k : ℕ). k * w) e ∙ one-mul w

pub one-row_span : (l : Limits) (i a e : ℕ) → a ≡ row_at l i → e ≡ row_at l (i + 1) → e * 8 - a * 8 ≡ row_width l * 8
one-row_span l i a e ea ee = rw (ea, ee) (row-span l i (i + 1) (omega arith) ∙ one_of i (row_width l * 8))

-- the blocks of the first n objects
pub blocks-span : (l : Limits) (n a e : ℕ) → a ≡ object_at l 0 → e ≡ object_at l n → e * 8 - a * 8 ≡ n * (object_width l * 8)
blocks-span l n a e ea ee =
    let k : n - 0 ≡ n = omega arith in
    rw (ea, ee) (object-span l 0 n (omega arith) ∙ ap (λ (j : ℕ). j * (object_width l * 8)) k)
