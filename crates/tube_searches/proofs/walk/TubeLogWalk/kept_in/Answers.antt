use Rattle.std.proofs.Common.{ap}
use Rattle.std.specs.Prelude.{is_some}
use Rattle.grid_model.specs.Boxes.{grid_box}
use Rattle.moving_tube.specs.Roots.{kept_of}
use Rattle.moving_tube.proofs.KeptLemmas.{kept_lies}
use Rattle.paving_log.specs.Values.{body_option, block_of}
use Rattle.tube_searches.proofs.WalkLemmas.{hull_kept, keeps_inside}
use Rattle.tube_searches.proofs.walk.TubeLogWalk.kept_in.Goals as goal

pub returns-in-Some-clause-suits : goal.returns-in-Some-clause-suits
returns-in-Some-clause-suits c =
    let block = block_of c.args.epoch.now in
    let root = grid_box c.args.root.now in
    let search = grid_box c.args.self.now.searches.root in
    keeps_inside search (kept_of root block) c.cover_hull.result
    (hull_kept root block c.cover_hull.result (ap (λ o. is_some (body_option o)) c.in-Some.is) c.cover_hull.ensures)
    (kept_lies root search c.requires.root block c.requires.folds c.requires.over)
