-- What a dry run shows of a final delivery (S-4 of document 02). Assumes nothing.
-- The replica and the serial table both show theirs by it, so the theorem that they agree cannot catch a mistake in it; specs/PreviewExamples.antt computes it.
use Rattle.std.specs.Prelude.{List, [], ◌∷◌, ℕ, zero, suc, ℤ, pos}
use Rattle.model.specs.Interface.{Committed, Version, Preview}
use Rattle.model.specs.Calls.{preview_places}

-- k places: the value of each object, and 0 past the last
unfoldable pub placed : ℕ → List Version → List ℤ
placed zero vs = []
placed (suc k) [] = pos 0 ∷ placed k []
placed (suc k) (v ∷ vs) = v.value ∷ placed k vs

-- "outcome, kept or run again, stamp, and the value each object would hold (128 places, 0 past the last object)": neither the number stored nor the
-- operations carried out
abbrev pub preview_of : Committed → List Version → Preview
preview_of r vs =
    record { outcome = r.outcome; validated = r.validated; timestamp = r.timestamp; values = placed preview_places vs }
