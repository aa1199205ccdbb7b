use Rattle.std.proofs.Common.{Option, sym, ap, subst, ◌∙◌}
use Rattle.grid_model.specs.Boxes.{GridBox, grid_box}
use Rattle.moving_tube.specs.Endings.{IsInsideOf}
use Rattle.moving_tube.specs.Hulls.{HullLies}
use Rattle.moving_tube.specs.Roots.{Before}
use Rattle.subpaving.specs.LiveValues.{box_option}
use Rattle.tube_searches.specs.Tubes.{tube_value, with_kept, tube_searches}
use Rattle.tube_searches.proofs.WalkLemmas.{handed_inside, same_option}
use Rattle.tube_searches.proofs.walk.TubeWalk.go_on.Goals as goal

pub returns-clause-searches : goal.returns-clause-searches
returns-clause-searches c = λ blocks.
    let old = tube_value c.args.self.now in
    let epoch = c.args.epoch.now in
    ap (λ (before : Option Before). tube_searches (record old { before = before }) blocks) c.handed_on-self.ensures
    ∙ ap (λ (kept : Option GridBox). tube_searches (with_kept old epoch.tag kept) blocks) (same_option c.args.kept)

pub returns-clause-ready : goal.returns-clause-ready
returns-clause-ready c = λ lies.
    let self = c.args.self.now in
    let search = grid_box self.searches.root in
    subst (λ (before : Option Before). IsInsideOf search before) (sym c.handed_on-self.ensures)
    (handed_inside search self.restart c.args.epoch.now.tag (box_option c.args.kept)
    (subst (λ (kept : Option GridBox). HullLies kept search) (sym (same_option c.args.kept)) lies))
