-- What `publish` asks and leaves, and that its copy is the readers' cells. Assumes nothing.
use Rattle.std.specs.Prelude.{◌≡◌, List, ◌++◌, ℕ, suc, ◌*◌, ◌-◌, ◌≤◌, length, take, drop, replicate}
use Rattle.std.proofs.Common.{sym, ap, ap₂, ◌∙◌, append-nil, arith, length-append, length-drop, drop_of_length-le, length-take-le, take_at}
use Rattle.std.proofs.Math.Seq.{take-length}
use borrow.Rule.Slice.PartMut.{mid_of}
use Rattle.execution.specs.Entries.{Entry}
use Rattle.execution.specs.RunShape.{Entries}
use Rattle.model.specs.declared.Limits.{Limits}
use Rattle.model.specs.ListLaws.{All}
use Rattle.model.specs.Replica.{Replica, opens}
use Rattle.model.specs.Shape.{VersionsShape}
use Rattle.layout.specs.Offsets.{Sane, reader_at, size_at}
use Rattle.layout.specs.Holds.{Holds}
use Rattle.layout.proofs.HoldsLaws.{holds-long}
use Rattle.layout.proofs.Reading.{readers-part}
use Rattle.final_commit.specs.Install.{Ready, installed}

-- the local array has room for the readers' cells
pub record Few (l : Limits) : Type 0 where
  pub sane : Sane l
  pub readers : l.readers ≤ 16

-- `Ready`, but for the readers' cells
pub record Publishing (l : Limits) (b : List ℕ) (t : ℕ) (ws : List Entry) : Type 0 where
  pub replica : Replica
  pub holds : Holds l b replica
  pub versions : All (VersionsShape replica.timestamp (opens replica.readers)) replica.objects
  pub next : t ≡ suc replica.timestamp
  pub writes : Entries (length replica.objects) ws

-- the record area, b before, is d after these writes
pub record Publishes (l : Limits) (t : ℕ) (ws : List Entry) (b d : List ℕ) : Type 0 where
  pub holds : (p : Publishing l b t ws) → Holds l d (installed t ws p.replica)

-- ---- the copy: the readers' cells, from cell f up to cell n of the area b, go to the front of zeros and come back as `last`

abbrev blanks : List ℕ
blanks = replicate 128 0

module _ {l : Limits} {b : List ℕ} {t : ℕ} {ws : List Entry} {f n : ℕ} (m : Few l) (p : Publishing l b t ws) (ef : f ≡ reader_at 0) (en : n ≡ size_at l) where
  abbrev k : ℕ
  k = n * 8 - f * 8

  abbrev src : List ℕ
  src = mid_of (f * 8) k b

  pub span : k ≡ l.readers * 8
  span = omega arith

  -- the readers' cells lie in the area
  pub readers-end : n * 8 ≤ length b
  readers-end = omega (arith, holds-long l m.sane b p.replica p.holds)

  pub copy-few : k ≤ 128
  copy-few = omega (arith, span, m.readers)

  src-length : length src ≡ k
  src-length = length-take-le k (drop (f * 8) b) (omega (arith, length-drop (f * 8) b, readers-end))

  pub copy-lent : k ≡ length (take k blanks)
  copy-lent = sym (length-take-le k blanks (omega (arith, copy-few)))

  pub copy-room : length src ≤ length (take k blanks)
  copy-room = omega (arith, src-length, copy-lent)

  -- they take all the room
  pub src_whole : take (length src) src ++ drop (length src) (take k blanks) ≡ src
  src_whole =
      ap₂ (λ (x y : List ℕ). x ++ y) (take-length src) (drop_of_length-le (take k blanks) {i = length src} (omega (arith, src-length, copy-lent))) ∙ append-nil src

  module _ {last : List ℕ} (e : last ≡ take (length src) src ++ drop (length src) (take k blanks)) where
    all : last ≡ src
    all = e ∙ src_whole

    copy-length : length last ≡ k
    copy-length = ap length all ∙ src-length

    pub copy-prefix : k ≤ length (last ++ drop k blanks)
    copy-prefix = omega (arith, copy-length, length-append last (drop k blanks))

    pub copy-back : k ≡ length (take k (last ++ drop k blanks))
    copy-back = sym (length-take-le k (last ++ drop k blanks) copy-prefix)

    pub copied : take k (last ++ drop k blanks) ≡ mid_of (reader_at 0 * 8) (l.readers * 8) b
    copied = take_at last (drop k blanks) k copy-length ∙ all ∙ ap₂ (λ (x w : ℕ). mid_of (x * 8) w b) ef span

    abbrev pub copy_ready : Ready l b (take k (last ++ drop k blanks)) t ws
    copy_ready =
        record { replica = p.replica; holds = p.holds; versions = p.versions; readers = copied ∙ readers-part l m.sane b p.replica p.holds; next = p.next; writes = p.writes }
