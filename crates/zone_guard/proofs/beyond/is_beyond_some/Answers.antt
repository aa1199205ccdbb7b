use Rattle.std.proofs.Common.{refl, sym, ◌∙◌}
use Rattle.std.proofs.lemmas.Bool.{false≢true}
use Rattle.grid_model.specs.Boxes.{grid_box}
use Rattle.zone_guard.specs.Beyond.{IsBeyondWith}
use Rattle.zone_guard.specs.Planes.{plane_value}
use Rattle.zone_guard.proofs.EachLemmas.{one_next, one_here, one_none}
use Rattle.zone_guard.proofs.beyond.is_beyond_some.Goals as goal

pub loop-bound-preserved : goal.loop-bound-preserved
loop-bound-preserved c = one_next plane_value (IsBeyondWith (grid_box c.args.part.now) (plane_value c.args.side.now)) c.args.bounds.now c.loop-bound.bound-index c.bound-item.result c.loop-bound-test.true c.bound-item.is
    (λ so. false≢true (sym c.if-is_beyond_with.false ∙ c.is_beyond_with.ensures.1 so)) c.loop-bound.invariant

pub returns-then-is_beyond_with : goal.returns-then-is_beyond_with
returns-then-is_beyond_with c = (
  λ h. one_here plane_value (IsBeyondWith (grid_box c.args.part.now) (plane_value c.args.side.now)) c.args.bounds.now c.loop-bound.bound-index c.bound-item.result c.loop-bound-test.true c.bound-item.is
      (c.is_beyond_with.ensures.0 c.if-is_beyond_with.true) c.loop-bound.invariant,
  λ all. refl,
)

pub returns : goal.returns
returns c = (
  λ h. absurd cc,
  λ all. absurd (one_none plane_value (IsBeyondWith (grid_box c.args.part.now) (plane_value c.args.side.now)) c.args.bounds.now c.loop-bound.bound-index c.loop-bound-test.false c.loop-bound.invariant all),
)
