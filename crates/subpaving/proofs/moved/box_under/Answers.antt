use Rattle.std.proofs.Common.{rules}
use Rattle.grid_model.specs.Boxes.{grid_box}
use Rattle.subpaving.proofs.MovedLemmas.{all_under}
use Rattle.subpaving.proofs.moved.box_under.Goals as goal

pub returns : goal.returns
returns c = all_under c.args.half.now (grid_box c.args.part.now) (grid_box c.under_on-left.result) (grid_box c.under_on-left-2.result) _
    (search rules) (search rules) (search rules)
