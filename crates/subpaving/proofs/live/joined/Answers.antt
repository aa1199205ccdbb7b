use Rattle.grid_model.specs.Boxes.{grid_box}
use Rattle.grid_model.proofs.BoxLemmas.{lies_trans}
use Rattle.subpaving.proofs.live.joined.Goals as goal

pub returns-in-Some-clause-wider : goal.returns-in-Some-clause-wider
returns-in-Some-clause-wider c = λ other h.
    lies_trans (grid_box other) (grid_box c.in-Some.bound) (grid_box c.hull.result) (h.1 c.in-Some.bound c.in-Some.is) c.hull.ensures.first
