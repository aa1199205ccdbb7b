use Rattle.std.proofs.Common.{refl, sym, ◌∙◌}
use Rattle.std.proofs.lemmas.Bool.{false≢true}
use Rattle.grid_model.specs.Boxes.{grid_box}
use Rattle.zone_guard.specs.Planes.{plane_values}
use Rattle.zone_guard.specs.PrismAnswers.{IsEnclosed}
use Rattle.zone_guard.proofs.EachLemmas.{each_next, each_not, each_held}
use Rattle.zone_guard.proofs.prisms.are_enclosed.Goals as goal

pub loop-part-preserved : goal.loop-part-preserved
loop-part-preserved c = each_next grid_box (IsEnclosed (plane_values c.args.bounds.now) (plane_values c.args.sides.now)) c.args.boxes.now c.loop-part.part-index c.part-item.result c.loop-part-test.true c.part-item.is
    (c.is_enclosed.ensures.0 c.if-not-is_enclosed.false) c.loop-part.invariant

pub returns-then-not-is_enclosed : goal.returns-then-not-is_enclosed
returns-then-not-is_enclosed c = (
  λ h. absurd cc,
  λ all. absurd (each_not grid_box (IsEnclosed (plane_values c.args.bounds.now) (plane_values c.args.sides.now)) c.args.boxes.now c.loop-part.part-index c.part-item.result c.loop-part-test.true c.part-item.is
      (λ so. false≢true (sym c.if-not-is_enclosed.true ∙ c.is_enclosed.ensures.1 so)) c.loop-part.invariant all),
)

pub returns : goal.returns
returns c = (
  λ h. each_held grid_box (IsEnclosed (plane_values c.args.bounds.now) (plane_values c.args.sides.now)) c.args.boxes.now c.loop-part.part-index c.loop-part-test.false c.loop-part.invariant,
  λ all. refl,
)
