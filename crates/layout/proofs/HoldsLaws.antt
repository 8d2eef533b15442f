-- What follows from `specs/Holds`. Assumes nothing.
use Rattle.std.specs.Prelude.{◌≡◌, true, List, ℕ, ◌^◌, length}
use Rattle.std.proofs.Math.Path.{sym}
use Rattle.std.proofs.Common.{ap, ◌∙◌, arith}
use Rattle.std.proofs.lemmas.List.{length-map}
use Rattle.cells.specs.Cells.{cells, Below}
use Rattle.cells.specs.CellLaws.{cells-uncells}
use Rattle.model.specs.declared.Limits.{Limits}
use Rattle.model.specs.Replica.{Replica}
pub use Rattle.model.specs.Replica.{with_timestamp, with_objects, with_lasts, with_pending, with_readers, with_bounds}
use Rattle.layout.specs.Layout.{record_cells, body_of, record_of, bodies_of, Areas, parse, print, lengths, laid}
use Rattle.layout.specs.Offsets.{Sane, record_length, bodies_length}
use Rattle.layout.proofs.LawfulLaws.{all-below}
use Rattle.layout.proofs.PrintableLaws.{record_fits, lawful_record-cells, lawful_record, lawful_bodies, few_pending}
use Rattle.layout.proofs.RoundTrips.{print-parse, parse-fits}
use Rattle.layout.specs.Fields.{sizes}
use Rattle.layout.specs.Holds.{Holds, HoldsBodies}

-- ---- from areas that pass the layout's check, and back

module _ (l : Limits) (s : Sane l) (a : Areas) (x : Below 256 a.0) (n : lengths l a ≡ true) (o : laid l a ≡ true) where
  pub laid-holds : Holds l a.0 (parse l a)
  unfolding print
  laid-holds =
      record { same = sym (ap (λ (z : Areas). z.0) (print-parse l s a x n o)); fits = parse-fits l s a x n o }

  pub laid-bodies : HoldsBodies l a.1 (parse l a)
  unfolding print
  laid-bodies =
      record { same = sym (ap (λ (z : Areas). z.1) (print-parse l s a x n o)); fits = parse-fits l s a x n o }

module _ (l : Limits) (b c : List ℕ) (u : Replica) where
  pub holds-print : Holds l b u → HoldsBodies l c u → (b, c) ≡ print l u
  unfolding print
  holds-print h k = let p = h.same in let q = k.same in λ i. (p i, q i)

pub bodies-long : (l : Limits) (s : Sane l) (b : List ℕ) (u : Replica) → HoldsBodies l b u → length b ≡ bodies_length l
bodies-long l s b u h =
    ap length h.same ∙ (lawful_bodies l s (length u.pending) (few_pending l u h.fits)).len (bodies_of u) (length-map u.pending body_of, h.fits.bodies)

-- the length and the cells of the record area
module _ (l : Limits) (s : Sane l) (b : List ℕ) (u : Replica) (h : Holds l b u) where
  pub holds-long : length b ≡ record_length l
  holds-long =
      ap length h.same ∙ (lawful_record l s).len (record_of u) (record_fits l u h.fits) ∙ (sizes l).2

  pub holds-cells : cells b ≡ (record_cells l).enc (record_of u)
  holds-cells =
      ap cells h.same
      ∙ cells-uncells ((record_cells l).enc (record_of u)) (all-below (2 ^ 64) ((record_cells l).enc (record_of u)) (omega arith) ((lawful_record-cells l s).small (record_of u) (record_fits l u h.fits)))
