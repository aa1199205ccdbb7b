use Rattle.grid_model.specs.Boxes.{grid_box}
use Rattle.tube_searches.proofs.RootLemmas.{before_root}
use Rattle.moving_tube.proofs.RootLemmas.{same_time}
use Rattle.tube_searches.proofs.tube.Tube.root_for.Goals as goal

pub returns-in_ok-part-in-Some-clause-root : goal.returns-in_ok-part-in-Some-clause-root
returns-in_ok-part-in-Some-clause-root c = λ inside.
    let self = c.args.self.now in
    before_root self.speed (grid_box self.searches.root) c.args.tag c.in_ok-part-in-Some.part c.root_behind.result
    self.before c.in-Some.before c.in-Some.is c.in_ok-part-in-Some.was
    (rw (same_time c.in-Some.before.tag c.in-Some.before.time, same_time c.args.tag c.requires) at c.root_behind.ensures.root) inside
