use Rattle.std.proofs.Common.{arith, ap, ◌∙◌}
use Rattle.grid_model.specs.Roots.{root}
use Rattle.sat_model.specs.ClockSpans.{near_of, far_of}
use Rattle.grid_model.proofs.RootLemmas.{root_from}
use Rattle.sat_model.proofs.ClockLemmas.{near_le_far}
use Rattle.relaxed_meet.proofs.SquareLemmas.{root_small}
use Rattle.relaxed_meet.proofs.distance.near_far.Goals as goal

pub returns-clause-near : goal.returns-clause-near
unfolding near_of
returns-clause-near c = root_from _ _ c.root_u128-near.ensures ∙ ap root c.near_square.ensures.value

pub returns-clause-far : goal.returns-clause-far
unfolding far_of
returns-clause-far c = root_from _ _ c.root_beside-far.ensures ∙ ap root c.far_square.ensures.value

pub returns-clause-order : goal.returns-clause-order
returns-clause-order c = omega (arith, near_le_far c.args.row.now c.args.part.now, returns-clause-near c, returns-clause-far c)

pub returns-clause-bounds : goal.returns-clause-bounds
returns-clause-bounds c = (
  root_small _ _ c.root_u128-near.ensures c.near_square.ensures.bound,
  root_small _ _ c.root_beside-far.ensures c.far_square.ensures.bound,
)
