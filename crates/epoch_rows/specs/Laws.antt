-- The law of who forms rows anew: each is one of the satellite in its place.
use Rattle.std.specs.Prelude.{◌≡◌, ℕ, List, map, Some, slice_get, option_map}
use Rattle.std.proofs.lemmas.Option.{slice_get-map}
use Rattle.std.proofs.Common.{◌∙◌, sym, ap}
use Rattle.gnss_model.specs.declared.delays.Delays.{Delays}
use Rattle.gnss_model.specs.declared.satellites.Sat.{Sat}
use Rattle.grid_model.specs.Boxes.{GridBox}
use Rattle.sat_model.specs.declared.rows.Row.{Row}
use Rattle.sat_rows.specs.declared.bases.Base.{Base}
use Rattle.epoch_rows.specs.Renewed.{IsGrownFrom}

pub sat_in_place : (delays : Delays) (root : GridBox) (bases : List Base) (i : ℕ) (part : GridBox)
    (row : Row) → IsGrownFrom delays root bases i part row
    → slice_get (map (λ base. base.sat) bases) i ≡ Some row.sat
sat_in_place delays root bases i part row g =
    slice_get-map (λ (base : Base). base.sat) bases i
    ∙ ap (option_map (λ (base : Base). base.sat)) g.is_base
    ∙ ap (λ (sat : Sat). Some sat) (sym (g.grown.sat ∙ g.sat))
