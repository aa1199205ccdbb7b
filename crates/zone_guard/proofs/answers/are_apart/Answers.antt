use Rattle.std.proofs.Common.{refl, sym, ◌∙◌}
use Rattle.std.proofs.lemmas.Bool.{false≢true}
use Rattle.grid_model.specs.Boxes.{grid_box}
use Rattle.zone_guard.specs.Answers.{IsOutOf}
use Rattle.zone_guard.specs.Planes.{plane_values}
use Rattle.zone_guard.proofs.EachLemmas.{each_next, each_not, each_held}
use Rattle.zone_guard.proofs.answers.are_apart.Goals as goal

pub loop-part-preserved : goal.loop-part-preserved
loop-part-preserved c = each_next grid_box (IsOutOf (plane_values c.args.bounds.now) (grid_box c.args.zone.now)) c.args.boxes.now c.loop-part.part-index c.part-item.result c.loop-part-test.true c.part-item.is
    (c.is_out_of.ensures.0 c.if-not-is_out_of.false) c.loop-part.invariant

pub returns-then-not-is_out_of : goal.returns-then-not-is_out_of
returns-then-not-is_out_of c = (
  λ h. absurd cc,
  λ all. absurd (each_not grid_box (IsOutOf (plane_values c.args.bounds.now) (grid_box c.args.zone.now)) c.args.boxes.now c.loop-part.part-index c.part-item.result c.loop-part-test.true c.part-item.is
      (λ so. false≢true (sym c.if-not-is_out_of.true ∙ c.is_out_of.ensures.1 so)) c.loop-part.invariant all),
)

pub returns : goal.returns
returns c = (
  λ h. each_held grid_box (IsOutOf (plane_values c.args.bounds.now) (grid_box c.args.zone.now)) c.args.boxes.now c.loop-part.part-index c.loop-part-test.false c.loop-part.invariant,
  λ all. refl,
)
