-- Layouts from combinators: how a value lies in a block of numbers (cells or bytes). Assumes nothing.
use Rattle.std.specs.Prelude.{Bool, true, ◌&&◌, List, [], ◌∷◌, ◌++◌, map, ℕ, ◌+◌, ◌*◌, length, take, drop, get_or, leb}
use Rattle.cells.specs.Cells.{cells, uncells}
use Rattle.model.specs.Lists.{all}
use Rattle.cells.specs.Zeros.{zeros}
use Rattle.layout.specs.Rows.{chunks, table, pad_to}

-- `ok` says which blocks are one that `enc` writes
pub record Codec (A : Type 0) : Type 0 where
  pub size : ℕ
  pub enc : A → List ℕ
  pub dec : List ℕ → A
  pub ok : List ℕ → Bool

-- one number, as it is
abbrev pub cell : Codec ℕ
cell = record { size = 1; enc = λ a. a ∷ []; dec = λ b. get_or b 0 0; ok = λ b. true }

-- one after the other
abbrev pub pair : {A B : Type 0} → Codec A → Codec B → Codec (A × B)
pair c d =
    record {
      size = c.size + d.size;
      enc = λ x. c.enc x.0 ++ d.enc x.1;
      dec = λ b. (c.dec (take c.size b), d.dec (drop c.size b));
      ok = λ b. c.ok (take c.size b) && d.ok (drop c.size b);
    }

-- the same numbers as another value: f reads, g writes, q says which values of the first type are one of the second
abbrev pub via : {A B : Type 0} → (A → B) → (B → A) → (A → Bool) → Codec A → Codec B
via f g q c =
    record { size = c.size; enc = λ y. c.enc (g y); dec = λ b. f (c.dec b); ok = λ b. c.ok b && q (c.dec b) }

-- k rows in p places; the unused places are 0
abbrev pub rows : {A : Type 0} → ℕ → ℕ → Codec A → Codec (List A)
rows k p c =
    record {
      size = p * c.size;
      enc = λ xs. table p c.size (map c.enc xs);
      dec = λ b. map c.dec (chunks c.size k b);
      ok = λ b. leb k p && (all c.ok (chunks c.size k b) && zeros (drop (k * c.size) b));
    }

-- n rows
abbrev pub array : {A : Type 0} → ℕ → Codec A → Codec (List A)
array n c = rows n n c

-- a count, and p places of which so many are used
abbrev pub counted : {A : Type 0} → ℕ → Codec A → Codec (List A)
counted p c =
    record {
      size = 1 + p * c.size;
      enc = λ xs. length xs ∷ (rows (length xs) p c).enc xs;
      dec = λ b. (rows (get_or b 0 0) p c).dec (drop 1 b);
      ok = λ b. (rows (get_or b 0 0) p c).ok (drop 1 b);
    }

-- a list whose length f tells from its first number, filled up with zeros to p numbers
abbrev pub padded : ℕ → (ℕ → ℕ) → Codec (List ℕ)
padded p f =
    record {
      size = p;
      enc = λ a. pad_to p a;
      dec = λ b. take (f (get_or b 0 0)) b;
      ok = λ b. leb (f (get_or b 0 0)) p && zeros (drop (f (get_or b 0 0)) b);
    }

-- cells in an area of bytes
abbrev pub bytewise : {A : Type 0} → Codec A → Codec A
bytewise c =
    record { size = c.size * 8; enc = λ a. uncells (c.enc a); dec = λ b. c.dec (cells b); ok = λ b. c.ok (cells b) }
