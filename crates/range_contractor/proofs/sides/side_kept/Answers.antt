use Rattle.std.proofs.Common.{ℕ, arith, None, Some, Option}
use Rattle.std.specs.Prelude.{ℤ, IfSome}
use Rattle.std.proofs.lemmas.Int.{ints}
use Rattle.grid_model.specs.Boxes.{Side, span_side}
use Rattle.grid_model.specs.Sizes.{IsBoxSize}
use Rattle.grid_model.specs.declared.spans.Span.{Span}
use Rattle.range_contractor.specs.Sides.{IsKept}
use Rattle.range_contractor.proofs.sides.side_kept.Goals as goal

sized : (r : Option Span) (g : ℤ) (place side : Side) (a b c d : ℕ) → IsBoxSize side.lo
    → IsBoxSize side.hi
    → IfSome r (λ k. IsKept g place side a b c d (span_side k))
    → IfSome r (λ k. IsBoxSize k.lo × IsBoxSize k.hi)
sized None g place side a b c d p q h = tt
sized (Some k) g place side a b c d p q h = (
  record { low = omega (arith, ints, p.low, h.from); high = omega (arith, ints, q.high, h.to, h.ordered) },
  record { low = omega (arith, ints, p.low, h.from, h.ordered); high = omega (arith, ints, q.high, h.to) },
)

pub returns-clause-some : goal.returns-clause-some
returns-clause-some g c = rw (c.area_sum-others.ensures.low, c.area_sum-others.ensures.high) at c.side_between.ensures.some

pub returns-clause-none : goal.returns-clause-none
returns-clause-none g c = rw (c.area_sum-others.ensures.low, c.area_sum-others.ensures.high) at c.side_between.ensures.none

pub returns-clause-sizes : goal.returns-clause-sizes
returns-clause-sizes g c = sized c.side_between.result _ _ _ _ _ _ _ c.requires.lo_size c.requires.hi_size c.side_between.ensures.some
