-- A law of specs/Close.antt for each way out.
use Rattle.std.proofs.Common.{List, ℕ, ◌≤◌, get_or, rules, arith}
use Rattle.cells.specs.Cells.{cells, Below}
use Rattle.versions_close.specs.Closing.{Closable, Beside, Checked}
use Rattle.versions_close.specs.Close.{Case, close_newest, close_out, close_below, close_above, behind-newest, inside}
use Rattle.versions_close.proofs.close_block.Goals as goal
use Rattle.versions_close.proofs.close_block.Goals.{else-get-beside-via-then-get-beside+else-beside-get, else-get-beside-via-else-get-beside}

-- with the readers of the contract
closing : {n c p q : ℕ} {bs : List ℕ} → (r : Closable n c p q bs) → Below 256 bs → Case n c p q r.others bs
closing r b = record { size = r.size; bytes = b; beside = r.beside; checked = r.checked }

-- with any others
among : {n c p q : ℕ} {rc bs : List ℕ} → Closable n c p q bs → Below 256 bs → Beside c p q rc → Checked n c rc (cells bs) → Case n c p q rc bs
among r b x k = record { size = r.size; bytes = b; beside = x; checked = k }

pub returns-then-get-c : goal.returns-then-get-c
returns-then-get-c c = λ rc x k. close_newest (among c.requires (λ i. search rules) x k) c.get.result c.get.ensures c.if-get-c.true

pub overflow_sub-j : goal.overflow_sub-j
overflow_sub-j c =
    let bytes : Below 256 c.args.block.now = λ i. search rules in
    let late : c.args.c ≤ get_or (cells c.args.block.now) 1 0 = omega arith in
    let j = c.not_seen-j in
    omega (arith, behind-newest (closing c.requires bytes) late j.result j.ensures.0)

pub drop_version-requires : goal.drop_version-requires
drop_version-requires c =
    let bytes : Below 256 c.args.block.now = λ i. search rules in
    let late : c.args.c ≤ get_or (cells c.args.block.now) 1 0 = omega arith in
    let j = c.not_seen-j in
    (c.requires.size, j.ensures.1, omega (arith, inside (closing c.requires bytes) late j.result j.ensures.0))

pub returns-then-beside-get : goal.returns-then-beside-get
returns-then-beside-get c =
    let bytes : Below 256 c.args.block.now = λ i. search rules in
    let late : c.args.c ≤ get_or (cells c.args.block.now) 1 0 = omega arith in
    let j = c.not_seen-j in
    let u = c.get-2 in
    let s = c.get-then-get-beside in
    λ rc x k. close_out (among c.requires bytes x k) late j.result j.ensures.0 s.result u.result s.ensures u.ensures c.if-beside-get.true c.if-get-beside.true c.drop_version.new.block c.drop_version.ensures

pub returns-else-get-beside : goal.returns-else-get-beside
returns-else-get-beside c =
    let bytes : Below 256 c.args.block.now = λ i. search rules in
    let late : c.args.c ≤ get_or (cells c.args.block.now) 1 0 = omega arith in
    let j = c.not_seen-j in
    let u = c.get-2 in
    elim c.else-get-beside.branch [
      | else-get-beside-via-then-get-beside+else-beside-get w ↦ let s = w.get-then-get-beside in
          λ rc x k. close_below (among c.requires bytes x k) late j.result j.ensures.0 s.result s.ensures w.if-beside-get.false
      | else-get-beside-via-else-get-beside w ↦ λ rc x k. close_above (among c.requires bytes x k) late j.result j.ensures.0 u.result u.ensures w.if-get-beside.false
    ]
