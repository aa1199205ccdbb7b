use Rattle.std.specs.Prelude.{pos}
use Rattle.grid_model.specs.Boxes.{grid_box}
use Rattle.grid_model.specs.Lengths.{spare_of}
use Rattle.gnss_model.specs.Delays.{err_spare_of}
use Rattle.epoch_rows.proofs.LineLemmas.{grow_done}
use Rattle.epoch_rows.proofs.lines.grown_lines.Goals as goal

pub returns : goal.returns
returns c = grow_done (pos (spare_of (grid_box c.args.root.now))) (pos (err_spare_of (grid_box c.args.root.now) c.args.delays)) c.args.lines.now c.loop-line.line-index c.loop-line.sats.items c.loop-line-test.false c.loop-line.invariant.grown
