-- How digits are read and written pair by pair. Assumes nothing.
use Rattle.std.specs.Prelude.{◌≡◌, ℕ, Some, None, suc, ◌+◌, ◌*◌, ◌/◌, ◌%◌, ◌<◌, ◌≤◌, true, false, ◌&&◌, List, [], ◌∷◌, ◌++◌, length, take, drop, nat_lt, slice_index, slice_set, refl}
use Rattle.std.proofs.Common.{sym, ◌∙◌, append_assoc, append-nil, add-one, length-append, length-set, drop-cons, take-suc, take-suc-set, length-take-le}
use Rattle.std.proofs.Math.Bool.{and-false}
use native.Mathlib.Omega.{arith}
use Rattle.std.proofs.Math.ListN.{drop_of_length-le}
use borrow.Author.Tests.{lt-ltb, le-ltb, le-leb, lt-leb}
use Rattle.text.specs.Hexadecimal.{glyph_of, spelled, nibble_of, pairs, hex_bytes, Parsed}

-- ---- reading

-- i digits of w are read, and their n bytes stand at the start of the buffer
pub record Reading (w before out : List ℕ) (i n : ℕ) : Type 0 where
  pub within : i ≤ length w
  pub same_size : length out ≡ length before
  pub room : n ≤ length before
  pub tested : pairs w ≡ pairs (drop i w)
  pub read : hex_bytes w ≡ take n out ++ hex_bytes (drop i w)

pub begun : (w before : List ℕ) → Reading w before before 0 0
begun w before = record { within = omega arith; same_size = refl; room = omega arith; tested = refl; read = refl }

refused : (w before after : List ℕ) → pairs w ≡ false → Parsed w before after None
refused w before after e = record { answer = rw e; bytes = λ q. let z : ◌≡◌ {A = ℕ} 0 1 = cc in absurd (omega arith) }

module _ (w before out : List ℕ) (i n : ℕ) (r : Reading w before out i n) where
  -- a pair of bytes, which say a high and a low digit
  module _ (h : i + 1 < length w) (high low : ℕ) (eh : high ≡ nibble_of (slice_index w i)) (el : low ≡ nibble_of (slice_index w (i + 1))) where
    split : drop i w ≡ slice_index w i ∷ slice_index w (i + 1) ∷ drop (i + 2) w
    split =
        let e : suc i ≡ i + 1 = omega arith in
        let f : suc (i + 1) ≡ i + 2 = omega arith in
        rw (drop-cons w i 0 (omega arith), e, drop-cons w (i + 1) 0, f)

    pairs-here : pairs w ≡ nat_lt high 16 && (nat_lt low 16 && pairs (drop (i + 2) w))
    unfolding pairs
    pairs-here = r.tested ∙ rw (split, eh, el)

    bytes-here : hex_bytes w ≡ take n out ++ ((high * 16 + low) ∷ hex_bytes (drop (i + 2) w))
    unfolding hex_bytes
    bytes-here = r.read ∙ rw (split, eh, el)

    pub high-wrong : 15 < high → Parsed w before out None
    high-wrong t = refused w before out (pairs-here ∙ rw (le-ltb high 16 (omega arith)))

    pub low-wrong : 15 < low → Parsed w before out None
    low-wrong t = refused w before out (pairs-here ∙ rw (le-ltb low 16 (omega arith), and-false))

    pub full : length out ≤ n → Parsed w before out None
    full t =
        let l : length before < length (hex_bytes w) = rw (bytes-here, length-append, length-take-le n out (omega (arith, r.same_size, r.room))) (omega (arith, r.same_size)) in
        record { answer = rw (lt-leb (length (hex_bytes w)) (length before) l, and-false); bytes = λ q. let z : ◌≡◌ {A = ℕ} 0 1 = cc in absurd (omega arith) }

    pub goes_on : high ≤ 15 → low ≤ 15 → n < length out → Reading w before (slice_set out n (high * 16 + low)) (i + 2) (n + 1)
    goes_on a b t =
        record {
          within = omega arith;
          same_size = length-set out n (high * 16 + low) ∙ r.same_size;
          room = omega (arith, r.same_size);
          tested = pairs-here ∙ rw (lt-ltb high 16 (omega arith), lt-ltb low 16 (omega arith));
          read = bytes-here ∙ rw (add-one, take-suc-set out n (high * 16 + low) t, append_assoc);
        }

  pub odd : length w ≤ i + 1 → i < length w → Parsed w before out None
  unfolding pairs
  odd h t =
      let e : suc i ≡ i + 1 = omega arith in
      refused w before out (r.tested ∙ rw (drop-cons w i 0 t, e, drop_of_length-le w h))

  pub ended : length w ≤ i → Parsed w before out (Some n)
  unfolding pairs hex_bytes
  ended h =
      let e : hex_bytes w ≡ take n out = r.read ∙ rw (drop_of_length-le w h, append-nil) in
      let l : length (hex_bytes w) ≡ n = rw e (length-take-le n out (omega (arith, r.same_size, r.room))) in
      let p : pairs w ≡ true = r.tested ∙ rw (drop_of_length-le w h) in
      record { answer = rw (p, l, le-leb n (length before) r.room); bytes = λ q. rw l (sym e) }

-- ---- writing

spelled-append : (a b : List ℕ) → spelled (a ++ b) ≡ spelled a ++ spelled b
unfolding spelled
spelled-append [] b = refl
spelled-append (x ∷ a) b = rw (spelled-append a b)

pub length-spelled : (l : List ℕ) → length (spelled l) ≡ 2 * length l
unfolding spelled
length-spelled [] = refl
length-spelled (x ∷ l) = omega (arith, length-spelled l)

-- the two digits of byte i behind those of the bytes before it
pub spelled-more : (l out : List ℕ) (i a b : ℕ) → i < length l → length out ≡ 2 * length l → take (2 * i) out ≡ spelled (take i l)
    → a ≡ glyph_of (slice_index l i / 16) → b ≡ glyph_of (slice_index l i % 16)
    → take (2 * (i + 1)) (slice_set (slice_set out (2 * i) a) (2 * i + 1) b) ≡ spelled (take (i + 1) l)
unfolding spelled
spelled-more l out i a b h e t ea eb =
    let k : 2 * (i + 1) ≡ suc (2 * i + 1) = omega arith in
    let s : spelled (take (i + 1) l) ≡ spelled (take i l) ++ (a ∷ b ∷ []) = rw (add-one, take-suc l i 0, spelled-append, ea, eb) in
    rw (k, take-suc-set (slice_set out (2 * i) a) (2 * i + 1) b (simp length-set (omega arith)), add-one (2 * i), take-suc-set out (2 * i) a (omega arith), t, append_assoc) (sym s)
