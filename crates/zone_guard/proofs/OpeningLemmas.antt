-- Which kind of line begins with a word.
use Rattle.std.proofs.Common.{◌≡◌, ℕ, List, [], ◌∷◌}
use Rattle.std.specs.Prelude.{codes}
use Rattle.zone_guard.specs.Lines.{ZoneValue}
use Rattle.zone_guard.specs.Names.{CornersFit, corner_words}
use Rattle.zone_guard.specs.Watched.{Kind, Corners, Sides, Pieces, Along, KindFits, kind_word, kind_words}

-- no corners are those of a zone, where none are read
pub no_corners : (line : List (List ℕ))
    → ((c : ZoneValue) → CornersFit c → line ≡ corner_words c → ⊥) → (first : List ℕ) (k : Kind)
    → first ≡ codes "zone" → KindFits k → first ≡ kind_word k → line ≡ kind_words k → ⊥
no_corners line none first (Corners lo hi) zone fits is spelled =
    none (record { name = []; lo = lo; hi = hi }) (record { lo_within = fits.lo_within; hi_within = fits.hi_within; x_ordered = fits.x_ordered; y_ordered = fits.y_ordered; z_ordered = fits.z_ordered }) spelled
no_corners line none first (Sides count) zone fits is spelled = absurd cc
no_corners line none first (Pieces count each) zone fits is spelled = absurd cc
no_corners line none first (Along a) zone fits is spelled = absurd cc

-- what stands behind the first of two words
pub second_word : (a b : List ℕ) (xs ys : List (List ℕ)) → a ∷ xs ≡ b ∷ ys → xs ≡ ys
second_word a b xs ys e = cc
