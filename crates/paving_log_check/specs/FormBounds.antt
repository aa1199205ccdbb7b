-- The forms over a hull of the rows by which bounds are shown there. No public clause cites it.
use Rattle.std.specs.Prelude.{◌≡◌, List, map}
use Rattle.grid_model.specs.Boxes.{GridBox}
use Rattle.sat_model.specs.Events.{Event, RowsOver}
use Rattle.sat_model.specs.Pairs.{FormValue, form_of}
use Rattle.sat_model.specs.ShownBounds.{AreOver}

pub record AreFormsOver (first : RowsOver) (events : List Event) (hull : GridBox)
    (forms : List FormValue) : Type 0 where
  pub over : RowsOver
  pub are_over : AreOver hull first events over
  pub formed : forms ≡ map (form_of hull) over.rows
