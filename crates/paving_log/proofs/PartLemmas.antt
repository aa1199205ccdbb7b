-- What stands behind a root, of its two parts.
use Rattle.std.proofs.Common.{◌≡◌, ℕ, List, [], ◌∷◌, ◌++◌, map, refl, ap, ◌∙◌, append_assoc}
use Rattle.std.specs.List.{flat_map}
use Rattle.log_lines.specs.declared.line.Form.{Form}
use Rattle.log_lines.specs.declared.line.Form.TheVariants as form
use Rattle.log_lines.specs.declared.line.Corners.{Corners}
use Rattle.log_lines.specs.declared.line.LogLine.{LogLine}
use Rattle.log_lines.specs.declared.line.LogLine.TheVariants as line
use Rattle.log_lines.specs.Text.{event_lines, bound_lines, closing_lines, ClosingFits}
use Rattle.paving_log.specs.Taking.{stepped_lines, AllStepsFit, bounds_lines, AllBoundsFit}
use Rattle.sat_model.specs.Bounds.{BoundValue}
use Rattle.sat_model.specs.Events.{Event}
use Rattle.sat_model.specs.declared.rows.SatEntry.{SatEntry}

pub parts_joined : (f : Form) (events : List Event) (done : ℕ) (bounds : List BoundValue)
    → stepped_lines f events done ++ bounds_lines f bounds ≡ closing_lines f events done bounds
parts_joined (form.Log may) events done bounds = append_assoc (flat_map event_lines events) (line.Done done ∷ []) (flat_map bound_lines bounds)
parts_joined form.Rows events done bounds = refl

-- behind the satellite lines and the root
pub body_joined : (f : Form) (sats : List SatEntry) (c : Corners) (events : List Event) (done : ℕ) (bounds : List BoundValue)
    → (map line.Sat sats ++ line.Root c ∷ stepped_lines f events done) ++ bounds_lines f bounds
    ≡ map line.Sat sats ++ line.Root c ∷ closing_lines f events done bounds
body_joined f sats c events done bounds =
    append_assoc (map line.Sat sats) (line.Root c ∷ stepped_lines f events done) (bounds_lines f bounds)
    ∙ ap (λ (ls : List LogLine). map line.Sat sats ++ line.Root c ∷ ls) (parts_joined f events done bounds)

pub parts_fit : (f : Form) (n : ℕ) (events : List Event) (done : ℕ) (bounds : List BoundValue)
    → AllStepsFit f n events done → AllBoundsFit f bounds → ClosingFits f n events done bounds
parts_fit (form.Log may) n events done bounds steps fit = (steps.0, steps.1, fit)
parts_fit form.Rows n events done bounds steps fit = (steps.0, steps.1, fit)
