use Rattle.std.proofs.Common.{rules}
use Rattle.std.specs.Prelude.{pos, negsuc}
use Rattle.grid_model.specs.Boxes.{grid_box}
use Rattle.subpaving.proofs.MovedLemmas.{by_factor}
use Rattle.subpaving.proofs.moved.under_on.Goals as goal

pub returns-then-d-eq1 : goal.returns-then-d-eq1
returns-then-d-eq1 c = by_factor c.args.axis (grid_box c.args.part.now) _ c.args.d (pos 1) c.args.most
    (search rules) (search rules)

pub returns-then-d-eqminus1 : goal.returns-then-d-eqminus1
returns-then-d-eqminus1 c = by_factor c.args.axis (grid_box c.args.part.now) _ c.args.d (negsuc 0) c.args.most
    (search rules) (c.from_on.ensures c.args.most (search rules))
