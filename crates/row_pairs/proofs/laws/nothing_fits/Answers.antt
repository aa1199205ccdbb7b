use Rattle.grid_model.specs.Boxes.{grid_box}
use Rattle.sat_model.proofs.BoxTestLemmas as test_lemmas
use Rattle.row_pairs.proofs.laws.nothing_fits.Goals as goal

pub returns : goal.returns
returns c test = test_lemmas.nothing_fits test (grid_box c.args._part.now)
