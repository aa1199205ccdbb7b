use Rattle.std.proofs.Common.{Option, ap, subst, sym, ◌∙◌}
use Rattle.grid_model.specs.Boxes.{GridBox, grid_box}
use Rattle.moving_tube.specs.Hulls.{HullLies}
use Rattle.tube_searches.proofs.WalkLemmas.{same_option}
use Rattle.epoch_rows.proofs.told.walk_behind.Goals as goal

pub returns-in-Some-clause-searches : goal.returns-in-Some-clause-searches
returns-in-Some-clause-searches g c = rw c.in-Some.is (λ blocks.
    let last = c.in-Some.last in
    let part = sym (same_option c.part_of.result) ∙ c.part_of.ensures in
    c.go_on.ensures.searches blocks ∙ ap (λ (o : Option GridBox). g.W.Walk.behind c.args.walk last.epoch.now.tag o blocks) part)

pub returns-in-Some-clause-ready : goal.returns-in-Some-clause-ready
returns-in-Some-clause-ready g c = rw c.in-Some.is (λ goes kept.
    let last = c.in-Some.last in
    let part = sym (same_option c.part_of.result) ∙ c.part_of.ensures in
    let lies = subst (λ (o : Option GridBox). HullLies o (grid_box last.root)) (sym part) kept in
    c.go_on.ensures.ready (goes _ lies))
