-- The boxes that are kept, from piece to piece.
use Rattle.std.proofs.Common.{◌≡◌, List, ◌∷◌, true, false, refl}
use Rattle.sat_model.specs.Cover.{is_kept}
use Rattle.sat_model.specs.Fold.{ShownStep}
use Rattle.paving_log.specs.CoverBoxes.{kept_parts}

pub kept_here : (piece : ShownStep) (more : List ShownStep) → is_kept piece ≡ true
    → kept_parts (piece ∷ more) ≡ piece.part ∷ kept_parts more
kept_here piece more e = rw e refl

pub kept_later : (piece : ShownStep) (more : List ShownStep) → is_kept piece ≡ false
    → kept_parts (piece ∷ more) ≡ kept_parts more
kept_later piece more e = rw e refl
