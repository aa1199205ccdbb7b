use Rattle.std.proofs.Common.{refl, sym, ◌∙◌}
use Rattle.std.proofs.lemmas.Bool.{false≢true}
use Rattle.grid_model.specs.Boxes.{grid_box}
use Rattle.zone_guard.specs.Beyond.{IsBeyond}
use Rattle.zone_guard.specs.Planes.{plane_value, plane_values}
use Rattle.zone_guard.proofs.EachLemmas.{one_next, one_here, one_none}
use Rattle.zone_guard.proofs.prisms.is_shut_out.Goals as goal

pub loop-side-preserved : goal.loop-side-preserved
loop-side-preserved c = one_next plane_value (IsBeyond (plane_values c.args.bounds.now) (grid_box c.args.part.now)) c.args.sides.now c.loop-side.side-index c.side-item.result c.loop-side-test.true c.side-item.is
    (λ so. false≢true (sym c.if-is_beyond.false ∙ c.is_beyond.ensures.1 so)) c.loop-side.invariant

pub returns-then-is_beyond : goal.returns-then-is_beyond
returns-then-is_beyond c = (
  λ h. one_here plane_value (IsBeyond (plane_values c.args.bounds.now) (grid_box c.args.part.now)) c.args.sides.now c.loop-side.side-index c.side-item.result c.loop-side-test.true c.side-item.is
      (c.is_beyond.ensures.0 c.if-is_beyond.true) c.loop-side.invariant,
  λ all. refl,
)

pub returns : goal.returns
returns c = (
  λ h. absurd cc,
  λ all. absurd (one_none plane_value (IsBeyond (plane_values c.args.bounds.now) (grid_box c.args.part.now)) c.args.sides.now c.loop-side.side-index c.loop-side-test.false c.loop-side.invariant all),
)
