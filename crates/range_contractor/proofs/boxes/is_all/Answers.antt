use Rattle.std.proofs.Common.{sym, ◌∙◌, ap, option_map, Some}
use Rattle.grid_model.specs.Boxes.{grid_box}
use Rattle.range_contractor.proofs.BoxLemmas.{same_coordinates}
use Rattle.range_contractor.proofs.boxes.is_all.Goals as goal

pub returns-in-Some : goal.returns-in-Some
returns-in-Some c = λ yes.
    ap (λ o. option_map grid_box o) c.in-Some.is ∙ ap Some (same_coordinates c.in-Some.left c.args.part.now (sym c.eq.ensures ∙ yes))
