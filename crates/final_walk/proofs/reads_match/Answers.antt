-- What is read of this turn's entry is its object and its value, and the value that stands in the object's place is the table's.
use Rattle.std.proofs.Common.{◌≡◌, ℕ, ◌+◌, ◌*◌, ◌<◌, ◌≤◌, ◌∙◌, sym, ap, subst, arith, length, List, get_or, w64, to_z, of_z}
use Rattle.cells.specs.Cells.{cells}
use Rattle.layout.specs.Offsets.{reads_at, entry_at}
use Rattle.final_walk.specs.Places.{table_in, Reaching}
use Rattle.final_walk.specs.Recorded.{entry_from, reads_from, Lying, read-there, reads_all, reads-differ}
use Rattle.final_walk.proofs.reads_match.Goals as goal

-- o, the object read of entry i, has a place, and that lies in the area
there : {b ps : List ℕ} {a i o : ℕ} → Lying b a → Reaching b ps (reads_from (cells b) a) → i < get_or (cells b) (a + reads_at) 0
    → o ≡ get_or (cells b) (a + 9 + i * 2) 0 → (o < 128) × (get_or ps o 0 * 8 + 8 ≤ length b)
there {b} {ps} {a} {i} y r low e =
    let z : a + 9 + i * 2 ≡ a + entry_at i = omega arith in
    subst (λ (o : ℕ). (o < 128) × (get_or ps o 0 * 8 + 8 ≤ length b)) (sym (e ∙ ap (λ (x : ℕ). get_or (cells b) x 0) z)) (read-there y r i low)

pub offset_bounds-places-o : goal.offset_bounds-places-o
offset_bounds-places-o c =
    omega (arith, (there c.requires.lying c.requires.reaching (omega (arith, c.loop-i-test.true, c.get-count.ensures)) c.get-o.ensures).0)

pub bounds-places-o : goal.bounds-places-o
bounds-places-o c =
    (there c.requires.lying c.requires.reaching (omega (arith, c.loop-i-test.true, c.get-count.ensures)) c.get-o.ensures).0

pub get_signed-requires : goal.get_signed-requires
get_signed-requires c =
    (there c.requires.lying c.requires.reaching (omega (arith, c.loop-i-test.true, c.get-count.ensures)) c.get-o.ensures).1

pub returns-then-get_signed-read : goal.returns-then-get_signed-read
returns-then-get_signed-read c =
    let s = c.args in
    let cs = cells s.records.now in
    let i = c.loop-i.i in
    let low : i < get_or cs (s.at + reads_at) 0 = omega (arith, c.loop-i-test.true, c.get-count.ensures) in
    let e : s.at + 9 + i * 2 ≡ s.at + entry_at i = omega arith in
    let object : c.get-o.result ≡ (entry_from cs s.at i).object = c.get-o.ensures ∙ ap (λ (x : ℕ). get_or cs x 0) e in
    let read : c.get_signed-read.result ≡ (entry_from cs s.at i).value =
    c.get_signed-read.ensures ∙ ap (λ (x : ℕ). to_z w64 (get_or cs (x + 1) 0)) e in
    let here : c.get_signed.result ≡ (table_in cs s.places.now).look (entry_from cs s.at i).object =
    c.get_signed.ensures ∙ ap (λ (o : ℕ). to_z w64 (get_or cs (get_or s.places.now o 0) 0)) object in
    sym (reads-differ c.requires.lying c.requires.reaching i low (λ e. c.if-get_signed-read.true (ap (of_z w64) (here ∙ e ∙ sym read))))

pub returns : goal.returns
returns c =
    sym (reads_all c.requires.lying c.requires.reaching (λ x h. c.loop-i.invariant x (omega (arith, c.get-count.ensures))))
