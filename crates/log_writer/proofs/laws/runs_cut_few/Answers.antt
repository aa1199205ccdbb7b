use Rattle.grid_model.specs.Boxes.{grid_box}
use Rattle.log_writer.proofs.GridSizes.{box3_fits}
use Rattle.log_writer.proofs.RunSizes.{run_at_most}
use Rattle.log_writer.proofs.laws.runs_cut_few.Goals as goal

pub returns : goal.returns
returns g c test rules events run = run_at_most (g.M.Renewals.maker c.args._maker.now) test rules (grid_box c.args._root.now) events run (box3_fits c.args._root.now)
