use Rattle.std.proofs.Common.{◌+◌, ◌*◌, lit≤}
use Rattle.std.specs.Prelude.{pos}
use Rattle.grid_model.specs.Angles.{unit}
use Rattle.grid_model.proofs.EndsLemmas.{product_ends}
use Rattle.grid_model.proofs.SpreadLemmas.{products_fit}
use Rattle.fix_interval.proofs.ProductEnds.{over_one}
use Rattle.fix_interval.proofs.products.product.Goals as goal

pub times_over-requires-clause-sizes : goal.times_over-requires-clause-sizes
times_over-requires-clause-sizes c = products_fit _ _ _ _ _ _ _ _ _ (lit≤ tt) c.requires.a_size c.requires.b_size

pub returns-clause-ends : goal.returns-clause-ends
returns-clause-ends c k j s =
    product_ends s.m s.v s.n s.w k j _ _ _ _ (pos unit) _ _ s.left s.right (record { lt = tt }) (over_one (s.m * s.n) k s.amount) (over_one (s.m * s.w + s.n * s.v) j s.width) c.times_over.result.ordered c.times_over.ensures.tight
