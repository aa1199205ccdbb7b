use Rattle.std.proofs.Common.{refl, sym, ◌∙◌}
use Rattle.std.proofs.lemmas.Bool.{false≢true}
use Rattle.grid_model.specs.Boxes.{grid_box}
use Rattle.zone_guard.specs.GroupAnswers.{LiesInOne}
use Rattle.zone_guard.specs.Planes.{plane_values}
use Rattle.zone_guard.specs.WatchValues.{group_pieces}
use Rattle.zone_guard.proofs.EachLemmas.{each_next, each_not, each_held}
use Rattle.zone_guard.proofs.groups.lie_in_one.Goals as goal

pub loop-part-preserved : goal.loop-part-preserved
loop-part-preserved c = each_next grid_box (LiesInOne (plane_values c.args.bounds.now) (group_pieces c.args.group.now)) c.args.boxes.now c.loop-part.part-index c.part-item.result c.loop-part-test.true c.part-item.is
    (c.lies_in_one.ensures.0 c.if-not-lies_in_one.false) c.loop-part.invariant

pub returns-then-not-lies_in_one : goal.returns-then-not-lies_in_one
returns-then-not-lies_in_one c = (
  λ h. absurd cc,
  λ all. absurd (each_not grid_box (LiesInOne (plane_values c.args.bounds.now) (group_pieces c.args.group.now)) c.args.boxes.now c.loop-part.part-index c.part-item.result c.loop-part-test.true c.part-item.is
      (λ so. false≢true (sym c.if-not-lies_in_one.true ∙ c.lies_in_one.ensures.1 so)) c.loop-part.invariant all),
)

pub returns : goal.returns
returns c = (
  λ h. each_held grid_box (LiesInOne (plane_values c.args.bounds.now) (group_pieces c.args.group.now)) c.args.boxes.now c.loop-part.part-index c.loop-part-test.false c.loop-part.invariant,
  λ all. refl,
)
