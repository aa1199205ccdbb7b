-- One more renewal behind the last step of an epoch whose bounds are asked for: over the hull of
-- the boxes that are kept, since bounds are shown over that hull, and rows are the narrower the
-- smaller their box is.
use Rattle.std.specs.Prelude.{◌≡◌, ℕ, ◌<◌, true, List, [], ◌∷◌, length, Option, None, Some}
use Rattle.bound_directions.specs.declared.directions.Directions.{Directions}
use Rattle.grid_model.specs.Boxes.{GridBox}
use Rattle.grid_model.specs.Lengths.{longest_length}
use Rattle.paving.specs.Renewing.{Maker, GivesFrom}
use Rattle.sat_model.specs.Events.{Event, Renewed, RowsOver, steps_in}
use Rattle.sat_model.specs.Fold.{pieces}
use Rattle.sat_model.specs.KeptHulls.{kept_hull}
use Rattle.sat_model.specs.ShownBounds.{rows_behind}

-- the hull is shorter than the box of the rows in use
abbrev pub IsShorter : (used hull : GridBox) → Type 0
IsShorter used hull = longest_length hull < longest_length used

-- So many rows are renewed over the hull, where there is one, the maker is active and the hull is
-- shorter than the box of the rows in use, and else none.
abbrev pub RenewsOver : Maker → GridBox → Option GridBox → ℕ → Option RowsOver → Type 0
RenewsOver maker used hull n None =
    (part : GridBox) → maker.active ≡ true → hull ≡ Some part → IsShorter used part → ⊥
RenewsOver maker used hull n (Some new) =
    (maker.active ≡ true) × (hull ≡ Some new.part) × IsShorter used new.part
    × (length new.rows ≡ n) × GivesFrom maker 0 new.part new.rows

-- the same where bounds are asked for, and else none are renewed
abbrev pub RenewsIf : Option Directions → Maker → GridBox → Option GridBox → ℕ → Option RowsOver
    → Type 0
RenewsIf None maker used hull n last = last ≡ None
RenewsIf (Some directions) maker used hull n last = RenewsOver maker used hull n last

-- by the first rows, over the root, and these events behind it
abbrev pub RenewsLast : Option Directions → Maker → RowsOver → List Event → Option RowsOver
    → Type 0
RenewsLast directions maker first events last =
    RenewsIf directions maker (rows_behind first events).part
    (kept_hull (pieces first.part (steps_in events))) (length first.rows) last

-- the event, where there is one
abbrev pub last_events : Option RowsOver → List Event
last_events None = []
last_events (Some new) = Renewed new ∷ []
