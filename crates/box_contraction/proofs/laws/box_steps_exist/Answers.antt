use Rattle.grid_model.specs.Boxes.{grid_box}
use Rattle.box_contraction.proofs.BoxLemmas.{grid_part, box_steps_exist}
use Rattle.box_contraction.proofs.laws.box_steps_exist.Goals as goal

pub returns : goal.returns
returns c = λ grain test rules splits id part one most few. box_steps_exist grain test rules splits (record { id = id; part = grid_box part }) one most few (grid_part part)
