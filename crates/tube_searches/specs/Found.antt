-- Where a moving receiver is found by an accepted log.
use Rattle.std.specs.Prelude.{◌≡◌, ℕ, zero, suc, ℤ, List, [], ◌∷◌, map, Option, None, Some}
use Rattle.epoch_selection.specs.Searches.{Search}
use Rattle.paving_log.specs.CoverBoxes.{cover_of}
use Rattle.moving_tube.specs.Roots.{Before}
use Rattle.moving_tube.specs.Tracks.{AreFound, ComesFrom, GoesOn, Left, Stay, Visit}
use Rattle.rinex_obs.specs.declared.obs.ObsEpoch.{ObsEpoch}
use Rattle.grid_model.specs.Boxes.{GridBox}
use Rattle.sat_model.specs.Logs.{Body, Block}
use Rattle.grid_model.specs.declared.boxes.Pos.{Pos}
use Rattle.sat_rows.specs.Fitting.{FitsEpoch}
use Rattle.sat_rows.specs.Meanings.{Meaning}

-- the searches with their blocks
abbrev pub visits_of : List Search → List Block → List Visit
visits_of [] blocks = []
visits_of (search ∷ rest) [] = []
visits_of (search ∷ rest) (block ∷ more) =
    (record { tag = search.epoch.tag; root = search.root; block = block }) ∷ visits_of rest more

-- the receiver is lost in an epoch that is paved and keeps no box
abbrev pub IsLost : Option Body → Type 0
IsLost None = ⊥
IsLost (Some body) = cover_of (Some body) ≡ []

-- A piece of the track begins with its first epoch, to which a receiver comes from what an earlier
-- log leaves, and from anywhere where none leaves anything; and it begins behind each epoch in which
-- the receiver is lost, to which one comes from anywhere.
abbrev pub BeginsPiece : Option Before → Option Left → List Block → ℕ → Type 0
BeginsPiece before left blocks zero = ComesFrom before left
BeginsPiece before left [] (suc k) = ⊥
BeginsPiece before left (block ∷ more) (suc zero) = IsLost block.body
BeginsPiece before left (block ∷ more) (suc (suc k)) = BeginsPiece before left more (suc k)

-- One stay for each of the first selected epochs, as many as there are stays: each in the search
-- box, and within reach of the one before, the first of where the receiver comes from.
abbrev pub IsPath : ℕ → GridBox → Option Left → List ObsEpoch → List Stay → Type 0
IsPath speed search left epochs path = GoesOn speed search left (map (λ epoch. epoch.tag) epochs) path

abbrev pub StayFits : Option Body → (Pos → ℤ → Type 0) → Stay → Type 0
StayFits None FitsAt stay = Unit {0}
StayFits (Some body) FitsAt stay = FitsAt stay.at stay.offset

-- each stay fits in its epoch where the block is paved
abbrev pub PathFits : Meaning → ℕ → List Search → List Block → List Stay → Type 0
PathFits m q [] blocks path = Unit {0}
PathFits m q (search ∷ rest) [] path = Unit {0}
PathFits m q (search ∷ rest) (block ∷ more) [] = Unit {0}
PathFits m q (search ∷ rest) (block ∷ more) (stay ∷ path) =
    StayFits block.body (FitsEpoch m q search.root search.epoch) stay × PathFits m q rest more path

-- each of its positions lies in an in or edge box of its epoch whose clock span has its offset, and
-- in a block of few satellites in the root
abbrev pub IsFoundIn : List Search → List Block → List Stay → Type 0
IsFoundIn searches blocks path = AreFound (visits_of searches blocks) path
