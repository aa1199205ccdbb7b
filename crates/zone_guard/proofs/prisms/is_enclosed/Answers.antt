use Rattle.std.proofs.Common.{refl, subst, sym, ◌∙◌}
use Rattle.std.proofs.lemmas.Bool.{false≢true}
use Rattle.grid_model.specs.Boxes.{grid_box}
use Rattle.zone_guard.specs.Beyond.{IsBeyond, opposite}
use Rattle.zone_guard.specs.Planes.{PlaneValue, plane_value, plane_values}
use Rattle.zone_guard.proofs.EachLemmas.{each_next, each_not, each_held}
use Rattle.zone_guard.proofs.prisms.is_enclosed.Goals as goal

pub loop-side-preserved : goal.loop-side-preserved
loop-side-preserved c = each_next plane_value (λ s. IsBeyond (plane_values c.args.bounds.now) (grid_box c.args.part.now) (opposite s)) c.args.sides.now c.loop-side.side-index c.side-item.result c.loop-side-test.true c.side-item.is
    (subst (λ (s : PlaneValue). IsBeyond (plane_values c.args.bounds.now) (grid_box c.args.part.now) s) c.opposite.ensures (c.is_beyond.ensures.0 c.if-not-is_beyond.false)) c.loop-side.invariant

pub returns-then-not-is_beyond : goal.returns-then-not-is_beyond
returns-then-not-is_beyond c = (
  λ h. absurd cc,
  λ all. absurd (each_not plane_value (λ s. IsBeyond (plane_values c.args.bounds.now) (grid_box c.args.part.now) (opposite s)) c.args.sides.now c.loop-side.side-index c.side-item.result c.loop-side-test.true c.side-item.is
      (λ so. false≢true (sym c.if-not-is_beyond.true ∙ c.is_beyond.ensures.1 (subst (λ (s : PlaneValue). IsBeyond (plane_values c.args.bounds.now) (grid_box c.args.part.now) s) (sym c.opposite.ensures) so))) c.loop-side.invariant all),
)

pub returns : goal.returns
returns c = (
  λ h. each_held plane_value (λ s. IsBeyond (plane_values c.args.bounds.now) (grid_box c.args.part.now) (opposite s)) c.args.sides.now c.loop-side.side-index c.loop-side-test.false c.loop-side.invariant,
  λ all. refl,
)
