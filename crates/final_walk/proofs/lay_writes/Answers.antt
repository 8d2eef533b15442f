-- Down to entry 0: each turn lays the entry before those laid.
use Rattle.std.proofs.Common.{◌≡◌, ℕ, suc, ◌+◌, ◌*◌, ◌<◌, ◌-◌, ◌∙◌, sym, ap, ap₂, subst, arith, List, get_or, set}
use Rattle.cells.specs.Cells.{cells}
use Rattle.layout.specs.Offsets.{reads_at, entries_at, entry_at}
use Rattle.final_walk.specs.Places.{Reaching}
use Rattle.final_walk.specs.Recorded.{entry_from, writes_from, Lying, Laying, laying_start, laying_next, write-there}
use Rattle.final_walk.proofs.lay_writes.Goals as goal

pub loop-i-init : goal.loop-i-init
loop-i-init c =
    let s = c.args in
    subst (Laying s.records.now s.at s.places.now s.places.now) (ap₂ ◌-◌ (sym c.get-total.ensures) (sym c.get-reads.ensures))
    (laying_start c.requires.lying c.requires.reaching)

-- o, the object read of the write at place i, has a place; r is the number of reads
there : {b ps : List ℕ} {a r i o : ℕ} → Lying b a → Reaching b ps (writes_from (cells b) a) → r ≡ get_or (cells b) (a + reads_at) 0
    → i < get_or (cells b) (a + entries_at) 0 - get_or (cells b) (a + reads_at) 0 → o ≡ get_or (cells b) (a + 9 + (r + i) * 2) 0 → o < 128
there {b} {ps} {a} {r} {i} y q e low f =
    let z : a + 9 + (r + i) * 2 ≡ a + entry_at (get_or (cells b) (a + reads_at) 0 + i) = omega (arith, e) in
    omega (arith, f ∙ ap (λ (x : ℕ). get_or (cells b) x 0) z, write-there y q i low)

pub offset_bounds-places-o : goal.offset_bounds-places-o
offset_bounds-places-o c =
    omega (arith, there c.requires.lying c.requires.reaching c.get-reads.ensures (omega (arith, c.loop-i-test.true, c.loop-i.invariant.within)) c.get-o.ensures)

pub bounds-places-o : goal.bounds-places-o
bounds-places-o c =
    there c.requires.lying c.requires.reaching c.get-reads.ensures (omega (arith, c.loop-i-test.true, c.loop-i.invariant.within)) c.get-o.ensures

pub loop-i-preserved : goal.loop-i-preserved
loop-i-preserved c =
    let s = c.args in
    let b = s.records.now in
    let cs = cells b in
    let k = c.loop-i in
    let i = k.i - 1 in
    let reads = get_or cs (s.at + reads_at) 0 in
    let low : i < get_or cs (s.at + entries_at) 0 - reads = omega (arith, c.loop-i-test.true, k.invariant.within) in
    let cell : s.at + 9 + (c.get-reads.result + i) * 2 ≡ s.at + entry_at (reads + i) = omega (arith, c.get-reads.ensures) in
    let object : c.get-o.result ≡ (entry_from cs s.at (reads + i)).object = c.get-o.ensures ∙ ap (λ (x : ℕ). get_or cs x 0) cell in
    let down : k.i ≡ suc i = omega (arith, c.loop-i-test.true) in
    let before = subst (Laying b s.at s.places.now k.places) down k.invariant in
    subst (λ (o : ℕ). Laying b s.at s.places.now (set k.places o (s.at + 9 + (c.get-reads.result + i) * 2 + 1)) i) (sym object)
    (laying_next c.requires.lying c.requires.reaching low before cell)
